-- What the rules alone don't say: precedence, white space in square brackets, where `end`, a colon, `break`,
-- `return`, `parfor` and `spmd` may stand, which parts follow one another, which names have dots, and which
-- names of functions are taken.
use Rattle.std.specs.Prelude.{◌≡◌, ℕ, suc, ◌≤◌, Bool, true, false, not, ◌&&◌, ◌||◌, is_some, List}
use Rattle.pl_syntax.specs.declared.expr.Bin.{Bin}
use Rattle.pl_grammar.specs.declared.terminal.Keyword.{Keyword}
use Rattle.pl_grammar.specs.declared.terminal.Keyword.TheVariants as k
use Rattle.pl_grammar.specs.Words.{Mark, Sign, additive, tilde, SepKind, comma, semicolon, line, additive_of, level, is_power, tests, loops, direct, plain, leaves, use_of, is_link, follows, same, dots, whole, stem, is_state}
use Rattle.pl_grammar.specs.Derivations.{Head, alone, dotted, Signs, no_signs, more_signs, Comma, written, space, Ex, number, chars, bare, call, state, paren, rows, rows_to, func, last, under, transposed, Op, joined, signed, from, stepped, Callee, head, braced, Args, no_args, listed, Elements, one, also, Item, value, colon, Rows, no_rows, broken, filled, Tgt, entire, indexed, in_braces, Output, to, skip, Outputs, only, beside, Goal, shown, into, spread, Lead, test, each, Inner, each_in, bound, workers, Heading, upto, shut, no_value, Part, headed, unheaded, Smt, simple, delete, leave, compound, Block, empty, blank, statement, Opened, first, next, Param, taken, ignored, Params, lone, further, Listing, no_params, params, Outs, no_outs, single, several, Title, title, Fun, fun, Top, script, define, spaced, Prog, whole_of, unended}
use Rattle.pl_grammar.specs.Trees.{head_text, mark, tgt_mark}

-- ---- names

-- up to a second dot
abbrev pub IsStem : Head → Type 0
IsStem (alone n) = Unit {0}
IsStem (dotted h m n) = (is_state n.text ≡ false) × (dots (head_text (dotted h m n)) ≡ stem) × IsStem h

-- a name, or one of the names with dots
abbrev pub IsHead : Head → Type 0
IsHead (alone n) = Unit {0}
IsHead (dotted h m n) = (is_state n.text ≡ false) × (dots (head_text (dotted h m n)) ≡ whole) × IsStem h

-- a name without dots, or a call of one: what may stand before `.State`
abbrev pub has_state : Ex → Bool
has_state (bare (head (alone n))) = true
has_state (call (head (alone n)) m a z) = true
has_state e = false

-- ---- precedence

-- how tightly an operator holds its last operand, and how tightly that has to bind
abbrev pub strength : Op → ℕ
strength (joined a o m us) = level o
strength (signed m s) = 9
strength (from a m) = 6
strength (stepped a m b n) = 6

abbrev pub wants : Op → ℕ
wants (joined a o m us) = suc (level o)
wants (signed m s) = 9
wants (from a m) = 7
wants (stepped a m b n) = 7

abbrev pub tightness : Ex → ℕ
tightness (under p e) = strength p
tightness (transposed e m) = 10
tightness e = 11

-- ---- white space

-- a sign at the front has no white space behind it
abbrev pub signs_stick : Sign → Bool → Bool
signs_stick (additive s) gap = not gap
signs_stick tilde gap = true

abbrev mutual
  pub sticks : Ex → Bool
  sticks (under p e) = op_sticks p (mark e).gap
  sticks (state e d m) = sticks e
  sticks (transposed e m) = sticks e
  sticks e = true

  pub op_sticks : Op → Bool → Bool
  op_sticks (joined a o m us) gap = sticks a
  op_sticks (signed m s) gap = signs_stick s gap
  op_sticks (from a m) gap = sticks a
  op_sticks (stepped a m b n) gap = sticks a

-- in a row, `+` or `-` between operands that has white space before it has some behind it
abbrev pub IsEven : Bool → Bin → Mark → Bool → Type 0
IsEven row o m gap = (row && (is_some (additive_of o) && m.gap)) ≡ true → gap ≡ true

-- in a row, the parenthesis of a list stands directly behind its name
abbrev pub IsTight : Bool → Mark → Type 0
IsTight row m = (row && m.gap) ≡ false

-- white space alone separates an element from the one before: it has some before it, and no sign that could
-- stand between the two
abbrev pub Leads : Item → Type 0
Leads (value e) = ((mark e).gap ≡ true) × (sticks e ≡ true)
Leads (colon m) = ⊥

abbrev pub IsApart : Bool → Comma → Item → Type 0
IsApart row (written m) i = Unit {0}
IsApart row space i = (row ≡ true) × Leads i

-- ---- expressions: directly in the row of a square bracket or not, inside an index or not

abbrev pub signs_fit : Bin → Signs → Bool
signs_fit o no_signs = true
signs_fit o (more_signs us m s) = is_power o

abbrev pub IsRowBreak : SepKind → Type 0
IsRowBreak comma = ⊥
IsRowBreak semicolon = Unit {0}
IsRowBreak line = Unit {0}

-- white space around an operator, its last operand given
abbrev pub IsSpaced : Bool → Op → Ex → Type 0
IsSpaced row (joined a o m no_signs) e = IsEven row o m (mark e).gap
IsSpaced row (joined a o m (more_signs us n s)) e = Unit {0}
IsSpaced row (signed m s) e = Unit {0}
IsSpaced row (from a m) e = Unit {0}
IsSpaced row (stepped a m b n) e = Unit {0}

abbrev mutual
  pub SoundEx : Bool → Bool → Ex → Type 0
  SoundEx row index (number m z) = Unit {0}
  SoundEx row index (chars m cs) = Unit {0}
  SoundEx row index (bare c) = SoundCallee c
  SoundEx row index (call c m a z) = SoundCallee c × IsTight row m × SoundArgs a
  SoundEx row index (state e d m) = (has_state e ≡ true) × SoundEx row index e
  SoundEx row index (paren m e z) = SoundEx false index e
  SoundEx row index (rows m rs z) = SoundRows index rs
  SoundEx row index (rows_to m rs es t z) = SoundRows index rs × SoundElements true index es
  SoundEx row index (func m n) = Unit {0}
  SoundEx row index (last m) = index ≡ true
  SoundEx row index (under p e) = SoundOp row index p × (wants p ≤ tightness e) × IsSpaced row p e × SoundEx row index e
  SoundEx row index (transposed e m) = (10 ≤ tightness e) × SoundEx row index e

  pub SoundOp : Bool → Bool → Op → Type 0
  SoundOp row index (joined a o m us) = (level o ≤ tightness a) × (signs_fit o us ≡ true) × SoundEx row index a
  SoundOp row index (signed m s) = Unit {0}
  SoundOp row index (from a m) = (7 ≤ tightness a) × SoundEx row index a
  SoundOp row index (stepped a m b n) = (7 ≤ tightness a) × (7 ≤ tightness b) × SoundEx row index a × SoundEx row index b

  pub SoundCallee : Callee → Type 0
  SoundCallee (head h) = IsHead h
  SoundCallee (braced n m e z) = SoundEx false true e

  pub SoundArgs : Args → Type 0
  SoundArgs no_args = Unit {0}
  SoundArgs (listed es) = SoundElements false true es

  pub SoundElements : Bool → Bool → Elements → Type 0
  SoundElements row index (one i) = SoundItem row index i
  SoundElements row index (also es c i) = SoundElements row index es × IsApart row c i × SoundItem row index i

  pub SoundItem : Bool → Bool → Item → Type 0
  SoundItem row index (value e) = SoundEx row index e
  SoundItem row index (colon m) = row ≡ false

  pub SoundRows : Bool → Rows → Type 0
  SoundRows index no_rows = Unit {0}
  SoundRows index (broken rs s) = SoundRows index rs × IsRowBreak s.kind
  SoundRows index (filled rs es t s) = SoundRows index rs × SoundElements true index es × IsRowBreak s.kind

-- ---- simple statements

abbrev pub SoundTgt : Bool → Tgt → Type 0
SoundTgt row (entire n) = Unit {0}
SoundTgt row (indexed n m a z) = IsTight row m × SoundArgs a
SoundTgt row (in_braces n m e z) = SoundEx false true e

abbrev pub SoundOutput : Output → Type 0
SoundOutput (to t) = SoundTgt true t
SoundOutput (skip m) = Unit {0}

abbrev pub output_mark : Output → Mark
output_mark (to t) = tgt_mark t
output_mark (skip m) = m

abbrev pub IsOutputApart : Comma → Output → Type 0
IsOutputApart (written m) o = Unit {0}
IsOutputApart space o = (output_mark o).gap ≡ true

abbrev pub SoundOutputs : Outputs → Type 0
SoundOutputs (only o) = SoundOutput o
SoundOutputs (beside os c o) = SoundOutputs os × IsOutputApart c o × SoundOutput o

abbrev pub SoundGoal : Goal → Type 0
SoundGoal shown = Unit {0}
SoundGoal (into t q) = SoundTgt false t
SoundGoal (spread m os z q) = SoundOutputs os

-- exactly `[` and `]`
abbrev pub is_nothing : Ex → Bool
is_nothing (rows m no_rows z) = true
is_nothing e = false

-- what reads as a deletion is no assignment
abbrev pub deletes : Goal → Ex → Bool
deletes (into (indexed n m a z) q) e = is_nothing e
deletes g e = false

-- ---- compound statements

-- where statements stand: in a loop, in an spmd, where they may stand at all
pub record Scene : Type 0 where
  pub loop : Bool
  pub spmd : Bool
  pub holds : Bool

abbrev pub outermost : Scene
outermost = record { loop = false; spmd = false; holds = true }

abbrev pub inside : Keyword → Scene → Scene
inside k.For c = record { loop = true; spmd = c.spmd; holds = true }
inside k.Parfor c = record { loop = true; spmd = c.spmd; holds = true }
inside k.While c = record { loop = true; spmd = c.spmd; holds = true }
inside k.Spmd c = record { loop = false; spmd = true; holds = true }
inside k.Switch c = record { loop = c.loop; spmd = c.spmd; holds = false }
inside word c = record { loop = c.loop; spmd = c.spmd; holds = true }

-- `break` and `continue` in a loop; no `return`, `spmd` or `parfor` in an `spmd`
abbrev pub may : Scene → Keyword → Bool
may c k.Break = c.loop
may c k.Continue = c.loop
may c k.Return = not c.spmd
may c k.Spmd = not c.spmd
may c k.Parfor = not c.spmd
may c word = true

abbrev pub SoundLead : Lead → Type 0
SoundLead (test word m) = use_of word ≡ tests
SoundLead (each word m n q) = use_of word ≡ loops

abbrev pub SoundInner : Inner → Type 0
SoundInner (each_in word m o n q) = use_of word ≡ loops
SoundInner (bound m o n q e c) = SoundEx false false e
SoundInner (workers m o) = Unit {0}

abbrev pub SoundHeading : Heading → Type 0
SoundHeading (upto l e) = SoundLead l × SoundEx false false e
SoundHeading (shut i e z) = SoundInner i × SoundEx false false e
SoundHeading (no_value word m) = use_of word ≡ plain

abbrev pub SoundPart : Part → Type 0
SoundPart (headed h s) = SoundHeading h
SoundPart (unheaded word m) = use_of word ≡ direct

-- the keyword that a part begins with
abbrev pub lead_word : Lead → Keyword
lead_word (test word m) = word
lead_word (each word m n q) = word

abbrev pub inner_word : Inner → Keyword
inner_word (each_in word m o n q) = word
inner_word (bound m o n q e c) = k.Parfor
inner_word (workers m o) = k.Spmd

abbrev pub heading_word : Heading → Keyword
heading_word (upto l e) = lead_word l
heading_word (shut i e z) = inner_word i
heading_word (no_value word m) = word

abbrev pub part_word : Part → Keyword
part_word (headed h s) = heading_word h
part_word (unheaded word m) = word

abbrev pub opened_word : Opened → Keyword
opened_word (first p) = part_word p
opened_word (next o b p) = part_word p

abbrev mutual
  pub SoundSmt : Scene → Smt → Type 0
  SoundSmt c (simple g e) = SoundGoal g × SoundEx false false e × (deletes g e ≡ false)
  SoundSmt c (delete n m a z q o y) = SoundArgs a
  SoundSmt c (leave word m) = (use_of word ≡ leaves) × (may c word ≡ true)
  SoundSmt c (compound o b m) = SoundOpened c o × SoundBlock (inside (opened_word o) c) b

  pub SoundBlock : Scene → Block → Type 0
  SoundBlock c empty = Unit {0}
  SoundBlock c (blank b s) = SoundBlock c b
  SoundBlock c (statement b s e) = SoundBlock c b × (c.holds ≡ true) × SoundSmt c s

  pub SoundOpened : Scene → Opened → Type 0
  SoundOpened c (first p) = (is_link (part_word p) ≡ false) × (may c (part_word p) ≡ true) × SoundPart p
  SoundOpened c (next o b p) = SoundOpened c o × SoundBlock (inside (opened_word o) c) b × (follows (opened_word o) (part_word p) ≡ true) × SoundPart p

-- ---- functions and programs

abbrev pub IsNamed : Param → Type 0
IsNamed (taken n) = Unit {0}
IsNamed (ignored m) = ⊥

abbrev pub AreNamed : Params → Type 0
AreNamed (lone p) = IsNamed p
AreNamed (further ps c p) = AreNamed ps × IsNamed p

abbrev pub ListsNames : Listing → Type 0
ListsNames no_params = Unit {0}
ListsNames (params ps) = AreNamed ps

abbrev pub SoundOuts : Outs → Type 0
SoundOuts no_outs = Unit {0}
SoundOuts (single n q) = Unit {0}
SoundOuts (several m l z q) = ListsNames l

abbrev pub title_name : Title → List ℕ
title_name (title m o n g) = n.text

abbrev pub fun_name : Fun → List ℕ
fun_name (fun t s b m) = title_name t

-- a function of this name stands there
abbrev pub has_function : List ℕ → Top → Bool
has_function text (script b) = false
has_function text (define t f) = has_function text t || same (fun_name f) text
has_function text (spaced t s) = has_function text t

abbrev pub SoundTitle : Title → Type 0
SoundTitle (title m o n g) = SoundOuts o

abbrev pub SoundFun : Fun → Type 0
SoundFun (fun t s b m) = SoundTitle t × SoundBlock outermost b

abbrev pub IsBehind : Top → Type 0
IsBehind (script b) = ⊥
IsBehind (define t f) = Unit {0}
IsBehind (spaced t s) = Unit {0}

-- names may stand twice, or not
abbrev pub SoundTop : Bool → Top → Type 0
SoundTop twice (script b) = SoundBlock outermost b
SoundTop twice (define t f) = SoundTop twice t × ((not twice && has_function (fun_name f) t) ≡ false) × SoundFun f
SoundTop twice (spaced t s) = SoundTop twice t × IsBehind t

abbrev pub SoundProg : Bool → Prog → Type 0
SoundProg twice (whole_of t) = SoundTop twice t
SoundProg twice (unended b s) = SoundBlock outermost b × SoundSmt outermost s
