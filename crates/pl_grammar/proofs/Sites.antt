-- What holds of each state that the machine reaches: what has been read is sound, and there is room for it.
use Rattle.std.proofs.Common.{◌≡◌, ℕ, suc, ◌+◌, ◌≤◌, Bool, true, false, not, ◌&&◌, List, Ok, Err}
use Rattle.pl_grammar.specs.declared.terminal.Keyword.{Keyword}
use Rattle.pl_grammar.specs.Words.{Mark, Named, loops, use_of, is_link, follows}
use Rattle.pl_grammar.specs.Derivations.{alone, no_signs, more_signs, Comma, written, space, Ex, bare, call, Op, joined, signed, from, stepped, Callee, head, dotted, braced, Output, to, entire, Block, Top}
use Rattle.pl_grammar.specs.Trees.{head_mark, mark, callee_mark}
use Rattle.pl_grammar.specs.Nesting.{weight, height, op_height, callee_height, elements_height, rows_height, output_height, outputs_height, goal_height, inner_height, heading_height, smt_height, block_height, opened_height, top_height}
use Rattle.pl_grammar.specs.Sound.{IsStem, has_state, strength, tightness, signs_stick, sticks, IsEven, IsTight, SoundEx, SoundOp, SoundCallee, SoundElements, SoundRows, SoundOutput, IsOutputApart, SoundOutputs, SoundGoal, inside, may, SoundLead, SoundInner, SoundHeading, lead_word, inner_word, heading_word, opened_word, SoundSmt, SoundBlock, SoundOpened, AreNamed, ListsNames, SoundOuts, title_name, has_function, SoundTitle, IsBehind, SoundTop}
use Rattle.pl_grammar.specs.Programs.{Rules}
use Rattle.pl_grammar.specs.Machine.{Pending, fresh, behind, Outgoing, fresh_outs, behind_outs, Waiting, fresh_params, behind_params, Site, main, body, within, Spot, here, linked, Stack, goal_of, lead_of, inner_of, outputs_of, op_of, paren_of, args_of, brace_of, row_of, Titling, begun_title, worded, outs_of, out_of, outs_shut, naming, entitled, params_of, param_of, titled, State, start, finished, operand, after, coloned, torn, at_sign, stemmed, dot, output, output_read, outputs_shut, loop, loop_in, index, index_in, ready, titling, between, site_nests, spot_site, outgoing_run, nests, in_row, in_index, scene}
use Rattle.pl_grammar.specs.Steps.{Step, reduce}
use Rattle.pl_grammar.proofs.Basics.{Accepts}

-- ---- white space before what stands on frames

-- what begins with this gap, and with a sign that sticks or none, may stand on the frames
abbrev pub Placed : Bool → Bool → Stack → Type 0
Placed gap sticky (goal_of g site b) = Unit {0}
Placed gap sticky (lead_of l spot) = Unit {0}
Placed gap sticky (inner_of i spot) = Unit {0}
Placed gap sticky (outputs_of m p site b) = Unit {0}
Placed gap sticky (op_of (joined a o m no_signs) S) = IsEven (in_row S) o m gap
Placed gap sticky (op_of (joined a o m (more_signs us n s)) S) = Unit {0}
Placed gap sticky (op_of (signed m s) S) = Placed m.gap (signs_stick s gap) S
Placed gap sticky (op_of (from a m) S) = Unit {0}
Placed gap sticky (op_of (stepped a m b n) S) = Unit {0}
Placed gap sticky (paren_of m S) = Unit {0}
Placed gap sticky (args_of c m p S) = Unit {0}
Placed gap sticky (brace_of n m S) = Unit {0}
Placed gap sticky (row_of m rs fresh S) = Unit {0}
Placed gap sticky (row_of m rs (behind es (written c)) S) = Unit {0}
Placed gap sticky (row_of m rs (behind es space) S) = (gap ≡ true) × (sticky ≡ true)

-- anything may
abbrev pub Free : Stack → Type 0
Free S = (gap sticky : Bool) → Placed gap sticky S

abbrev pub Led : Op → Stack → Type 0
Led (joined a o m us) S = Placed (mark a).gap (sticks a) S
Led (signed m s) S = Unit {0}
Led (from a m) S = Placed (mark a).gap (sticks a) S
Led (stepped a m b n) S = Placed (mark a).gap (sticks a) S

-- ---- elements and outputs before the next one

abbrev pub IsWritten : Comma → Type 0
IsWritten (written m) = Unit {0}
IsWritten space = ⊥

abbrev pub PendingArgs : Pending → Type 0
PendingArgs fresh = Unit {0}
PendingArgs (behind es c) = SoundElements false true es × IsWritten c

abbrev pub PendingRow : Bool → Pending → Type 0
PendingRow i fresh = Unit {0}
PendingRow i (behind es c) = SoundElements true i es

abbrev pub pending_height : Pending → ℕ
pending_height fresh = 0
pending_height (behind es c) = elements_height es

abbrev pub OutsSound : Outgoing → Type 0
OutsSound fresh_outs = Unit {0}
OutsSound (behind_outs os c) = SoundOutputs os

abbrev pub outs_height : Outgoing → ℕ
outs_height fresh_outs = 0
outs_height (behind_outs os c) = outputs_height os

abbrev pub IsNextOut : Outgoing → Output → Type 0
IsNextOut fresh_outs o = Unit {0}
IsNextOut (behind_outs os c) o = IsOutputApart c o

abbrev pub WaitingNames : Waiting → Type 0
WaitingNames fresh_params = Unit {0}
WaitingNames (behind_params ps c) = AreNamed ps

-- ---- what a list or braces stand behind

abbrev pub AloneBehind : Callee → Outgoing → Type 0
AloneBehind (head (alone n)) p = IsNextOut p (to (entire n))
AloneBehind (head (dotted h m n)) p = ⊥
AloneBehind (braced n m e z) p = ⊥

abbrev pub ListOn : Callee → Mark → Stack → Type 0
ListOn c m (goal_of g site b) = IsTight false m
ListOn c m (lead_of l spot) = IsTight false m
ListOn c m (inner_of i spot) = IsTight false m
ListOn c m (outputs_of o p site b) = (m.gap ≡ false) × AloneBehind c p
ListOn c m (op_of p S) = Accepts (op_of p S) 11 × IsTight (in_row S) m × Placed (callee_mark c).gap true (op_of p S)
ListOn c m (paren_of o S) = IsTight false m
ListOn c m (args_of d o p S) = IsTight false m
ListOn c m (brace_of n o S) = IsTight false m
ListOn c m (row_of o rs p S) = IsTight true m × Placed (callee_mark c).gap true (row_of o rs p S)

abbrev pub BraceOn : Named → Stack → Type 0
BraceOn n (goal_of g site b) = Unit {0}
BraceOn n (lead_of l spot) = Unit {0}
BraceOn n (inner_of i spot) = Unit {0}
BraceOn n (outputs_of o p site b) = IsNextOut p (to (entire n))
BraceOn n (op_of p S) = Accepts (op_of p S) 11 × Placed n.mark.gap true (op_of p S)
BraceOn n (paren_of o S) = Unit {0}
BraceOn n (args_of d o p S) = Unit {0}
BraceOn n (brace_of x o S) = Unit {0}
BraceOn n (row_of o rs p S) = Placed n.mark.gap true (row_of o rs p S)

module _ (r : Rules) where
  -- ---- the places of statements

  abbrev pub Unique : List ℕ → Top → Type 0
  Unique text t = (not r.twice && has_function text t) ≡ false

  abbrev pub TopGood : Top → Type 0
  TopGood t = SoundTop r.twice t × (top_height t ≤ r.limit)

  abbrev pub SiteGood : Site → Type 0
  SiteGood main = Unit {0}
  SiteGood (body t l s) = TopGood t × SoundTitle l × Unique (title_name l) t
  SiteGood (within o site b) = (SiteGood site × SoundBlock (scene site) b × (block_height b + site_nests site ≤ r.limit)) × ((scene site).holds ≡ true) × SoundOpened (scene site) o × (opened_height o + suc (site_nests site) ≤ r.limit)

  abbrev pub BlockGood : Site → Block → Type 0
  BlockGood site b = SiteGood site × SoundBlock (scene site) b × (block_height b + site_nests site ≤ r.limit)

  abbrev pub SpotGood : Spot → Type 0
  SpotGood (here site b) = BlockGood site b × ((scene site).holds ≡ true)
  SpotGood (linked o b site before) = BlockGood site before × ((scene site).holds ≡ true) × SoundOpened (scene site) o × (opened_height o + suc (site_nests site) ≤ r.limit) × SoundBlock (inside (opened_word o) (scene site)) b × (block_height b + suc (site_nests site) ≤ r.limit)

  -- a part with this keyword may stand there
  abbrev pub Fits : Spot → Keyword → Type 0
  Fits (here site b) word = (is_link word ≡ false) × (may (scene site) word ≡ true)
  Fits (linked o b site before) word = follows (opened_word o) word ≡ true

  abbrev pub spot_room : Spot → ℕ
  spot_room spot = suc (site_nests (spot_site spot))

  abbrev pub OutsGood : Outgoing → Site → Block → Type 0
  OutsGood p site b = BlockGood site b × ((scene site).holds ≡ true) × OutsSound p × (outs_height p + suc (suc (site_nests site)) ≤ r.limit) × (outgoing_run p + suc (suc (site_nests site)) ≤ r.limit)

  -- ---- frames

  abbrev pub StackGood : Stack → Type 0
  StackGood (goal_of g site b) = BlockGood site b × ((scene site).holds ≡ true) × SoundGoal g × (goal_height g + suc (site_nests site) ≤ r.limit)
  StackGood (lead_of l spot) = SpotGood spot × Fits spot (lead_word l) × SoundLead l × (spot_room spot ≤ r.limit)
  StackGood (inner_of i spot) = SpotGood spot × Fits spot (inner_word i) × SoundInner i × (inner_height i + spot_room spot ≤ r.limit)
  StackGood (outputs_of m p site b) = OutsGood p site b
  StackGood (op_of p S) = StackGood S × SoundOp (in_row S) (in_index S) p × Accepts S (strength p) × (op_height p + nests S ≤ r.limit) × (weight p + nests S ≤ r.limit) × Led p S
  StackGood (paren_of m S) = StackGood S × Accepts S 11 × (suc (nests S) ≤ r.limit) × Placed m.gap true S
  StackGood (args_of c m p S) = StackGood S × SoundCallee c × PendingArgs p × (pending_height p + suc (nests S) ≤ r.limit) × (callee_height c + nests S ≤ r.limit) × ListOn c m S
  StackGood (brace_of n m S) = StackGood S × (suc (nests S) ≤ r.limit) × BraceOn n S
  StackGood (row_of m rs p S) = StackGood S × Accepts S 11 × SoundRows (in_index S) rs × PendingRow (in_index S) p × (rows_height rs + suc (nests S) ≤ r.limit) × (pending_height p + suc (nests S) ≤ r.limit) × Placed m.gap true S

  -- an operand that the frames take
  abbrev pub Fitting : Ex → Stack → Type 0
  Fitting e S = StackGood S × SoundEx (in_row S) (in_index S) e × Accepts S (tightness e) × (height e + nests S ≤ r.limit) × Placed (mark e).gap (sticks e) S

  abbrev pub AfterGood : Ex → Stack → Type 0
  AfterGood e S = Fitting e S × (10 ≤ tightness e)

  abbrev pub IsList : Stack → Type 0
  IsList (args_of c m p S) = Unit {0}
  IsList S = ⊥

  -- a dot may stand behind it
  abbrev pub DotOn : Ex → Bool → Bool → Type 0
  DotOn (bare (head h)) row i = IsStem h
  DotOn (call c m a z) row i = (has_state (call c m a z) ≡ true) × SoundEx row i (call c m a z)
  DotOn e row i = ⊥

  abbrev pub TitlingGood : Top → Titling → Type 0
  TitlingGood t (begun_title m) = Unit {0}
  TitlingGood t (worded m n) = Unit {0}
  TitlingGood t (outs_of m o p) = WaitingNames p
  TitlingGood t (out_of m o ps) = AreNamed ps
  TitlingGood t (outs_shut m o l z) = ListsNames l
  TitlingGood t (naming m o) = SoundOuts o
  TitlingGood t (entitled m o n) = SoundOuts o × Unique n.text t
  TitlingGood t (params_of m o n z p) = SoundOuts o × Unique n.text t
  TitlingGood t (param_of m o n z ps) = SoundOuts o × Unique n.text t
  TitlingGood t (titled l) = SoundTitle l × Unique (title_name l) t

  -- ---- states

  abbrev pub Good : State → Type 0
  Good (start site b) = BlockGood site b
  Good (finished s site b) = BlockGood site b × ((scene site).holds ≡ true) × SoundSmt (scene site) s × (Rattle.pl_grammar.specs.Nesting.smt_height s + site_nests site ≤ r.limit)
  Good (operand S) = StackGood S × Free S × Accepts S 11
  Good (after e S) = AfterGood e S
  Good (coloned m S) = StackGood S × IsList S
  Good (torn e a m S) = AfterGood e S × (in_row S ≡ true) × (m.gap ≡ true) × (suc (nests (reduce 0 e S).stack) ≤ r.limit)
  Good (at_sign m S) = StackGood S × Accepts S 11 × Placed m.gap true S × (nests S ≤ r.limit)
  Good (stemmed h S) = StackGood S × Accepts S 11 × Placed (head_mark h).gap true S × (nests S ≤ r.limit) × IsStem h
  Good (dot e m S) = StackGood S × Accepts S 11 × Placed (mark e).gap true S × (height e + nests S ≤ r.limit) × DotOn e (in_row S) (in_index S)
  Good (output m p site b) = OutsGood p site b × ((o : Output) → IsNextOut p o)
  Good (output_read m p o site b) = OutsGood p site b × IsNextOut p o × SoundOutput o × (outgoing_run p + output_height o + suc (suc (site_nests site)) ≤ r.limit)
  Good (outputs_shut m os z site b) = BlockGood site b × ((scene site).holds ≡ true) × SoundOutputs os × (outputs_height os + suc (suc (site_nests site)) ≤ r.limit)
  Good (loop word m spot) = SpotGood spot × Fits spot word × (use_of word ≡ loops) × (spot_room spot ≤ r.limit)
  Good (loop_in word m o spot) = SpotGood spot × Fits spot word × (use_of word ≡ loops) × (spot_room spot ≤ r.limit)
  Good (index word m n spot) = SpotGood spot × Fits spot word × (use_of word ≡ loops) × (spot_room spot ≤ r.limit)
  Good (index_in word m o n spot) = SpotGood spot × Fits spot word × (use_of word ≡ loops) × (spot_room spot ≤ r.limit)
  Good (ready h spot) = SpotGood spot × Fits spot (heading_word h) × SoundHeading h × (heading_height h + spot_room spot ≤ r.limit)
  Good (titling t l) = TopGood t × TitlingGood t l
  Good (between t) = TopGood t × IsBehind t

  -- the step is refused, or leads to such a state
  abbrev pub Fine : Step → Type 0
  Fine (Ok st) = Good st
  Fine (Err f) = Unit {0}
