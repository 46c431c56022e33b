-- What the laws about the machine share: tests, room, and what may follow an operand.
use Rattle.std.proofs.Common.{◌≡◌, ℕ, suc, ◌+◌, ◌≤◌, Bool, true, false, not, ◌&&◌, Option, Some, None, List, [], ◌∷◌, length, Ok, refl, arith}
use Rattle.std.specs.Prelude.{nat_le, is_some}
use Rattle.std.specs.Prelude.{max}
use Rattle.std.proofs.Math.Nat.{le-max_left, le-max_right}
use Rattle.std.proofs.lemmas.Bool.{le-leb}
use Rattle.pl_syntax.specs.declared.expr.Bin.{Bin}
use Rattle.pl_syntax.specs.declared.expr.Bin.TheVariants as bin
use Rattle.pl_grammar.specs.declared.terminal.Terminal.{Terminal}
use Rattle.pl_grammar.specs.declared.terminal.Word.{Word}
use Rattle.pl_grammar.specs.declared.terminal.Word.TheVariants as w
use Rattle.pl_grammar.specs.Words.{Mark, term, mark_of, Additive, additive_of, level}
use Rattle.pl_grammar.specs.Derivations.{Ex, under, Op, joined, signed, from, stepped, shown, into, spread}
use Rattle.pl_grammar.specs.Sound.{strength, wants}
use Rattle.pl_grammar.specs.Programs.{Rules}
use Rattle.pl_grammar.specs.Machine.{Stack, goal_of, lead_of, inner_of, outputs_of, op_of, paren_of, args_of, brace_of, row_of, State, after, torn, nests, in_row}
use Rattle.pl_grammar.specs.Steps.{refused, roomy, room, reduce, onward, run, assign}

-- ---- tests

pub has_room : (r : Rules) (n : ℕ) → n ≤ r.limit → room r n ≡ true
has_room r n h = le-leb n r.limit h

pub left_room : (a b n l : ℕ) → max a b + n ≤ l → a + n ≤ l
left_room a b n l h = omega (arith, h, le-max_left a b)

pub right_room : (a b n l : ℕ) → max a b + n ≤ l → b + n ≤ l
right_room a b n l h = omega (arith, h, le-max_right a b)

pub at_least : (l k : ℕ) → l ≤ k → nat_le l k ≡ true
at_least l k h = le-leb l k h

pub from_zero : (k : ℕ) → nat_le 0 k ≡ true
from_zero k = le-leb 0 k (omega arith)

pub level_most : (o : Bin) → level o ≤ 10
level_most bin.OrElse = omega arith
level_most bin.AndAlso = omega arith
level_most bin.Or = omega arith
level_most bin.And = omega arith
level_most bin.Lt = omega arith
level_most bin.Le = omega arith
level_most bin.Gt = omega arith
level_most bin.Ge = omega arith
level_most bin.Eq = omega arith
level_most bin.Ne = omega arith
level_most bin.Add = omega arith
level_most bin.Sub = omega arith
level_most bin.Mul = omega arith
level_most bin.Div = omega arith
level_most bin.DotMul = omega arith
level_most bin.DotDiv = omega arith
level_most bin.Pow = omega arith
level_most bin.DotPow = omega arith

-- no operator of two operands binds as a sign does
pub level_jumps : (o : Bin) → 9 ≤ level o → 10 ≤ level o
level_jumps bin.Pow h = omega arith
level_jumps bin.DotPow h = omega arith
level_jumps bin.OrElse h = omega (arith, h)
level_jumps bin.AndAlso h = omega (arith, h)
level_jumps bin.Or h = omega (arith, h)
level_jumps bin.And h = omega (arith, h)
level_jumps bin.Lt h = omega (arith, h)
level_jumps bin.Le h = omega (arith, h)
level_jumps bin.Gt h = omega (arith, h)
level_jumps bin.Ge h = omega (arith, h)
level_jumps bin.Eq h = omega (arith, h)
level_jumps bin.Ne h = omega (arith, h)
level_jumps bin.Add h = omega (arith, h)
level_jumps bin.Sub h = omega (arith, h)
level_jumps bin.Mul h = omega (arith, h)
level_jumps bin.Div h = omega (arith, h)
level_jumps bin.DotMul h = omega (arith, h)
level_jumps bin.DotDiv h = omega (arith, h)

pub strength_most : (p : Op) → strength p ≤ 10
strength_most (joined a o m us) = level_most o
strength_most (signed m s) = omega arith
strength_most (from a m) = omega arith
strength_most (stepped a m b n) = omega arith

pub strength_wants : (p : Op) → strength p ≤ wants p
strength_wants (joined a o m us) = omega arith
strength_wants (signed m s) = omega arith
strength_wants (from a m) = omega arith
strength_wants (stepped a m b n) = omega arith

-- ---- frames that take an operand of this tightness

abbrev pub Accepts : Stack → ℕ → Type 0
Accepts (goal_of g site b) k = Unit {0}
Accepts (lead_of l spot) k = Unit {0}
Accepts (inner_of i spot) k = Unit {0}
Accepts (outputs_of m p site b) k = ⊥
Accepts (op_of p S) k = wants p ≤ k
Accepts (paren_of m S) k = Unit {0}
Accepts (args_of c m p S) k = Unit {0}
Accepts (brace_of n m S) k = Unit {0}
Accepts (row_of m rs p S) k = Unit {0}

pub accepts_more : (S : Stack) (k l : ℕ) → Accepts S k → k ≤ l → Accepts S l
accepts_more (goal_of g site b) k l h e = tt
accepts_more (lead_of h' spot) k l h e = tt
accepts_more (inner_of i spot) k l h e = tt
accepts_more (outputs_of m p site b) k l h e = h
accepts_more (op_of p S) k l h e = omega (arith, h, e)
accepts_more (paren_of m S) k l h e = tt
accepts_more (args_of c m p S) k l h e = tt
accepts_more (brace_of n m S) k l h e = tt
accepts_more (row_of m rs p S) k l h e = tt

-- ---- terminals that may follow an operand of this tightness

abbrev pub sticks_next : List Terminal → Bool
sticks_next [] = false
sticks_next (t ∷ ts) = not t.gap

-- in a row, a sign that begins the next element
abbrev pub parts : Bool → Bin → Bool → List Terminal → Bool
parts row o gap ts = (row && gap) && (is_some (additive_of o) && sticks_next ts)

abbrev pub StopsAt : ℕ → Bool → Word → Bool → List Terminal → Type 0
StopsAt k row (w.Binary o) gap ts = parts row o gap ts ≡ false → level o ≤ k
StopsAt k row w.Quote gap ts = 10 ≤ k
StopsAt k row w.Colon gap ts = 7 ≤ k
StopsAt k row w.Open gap ts = (row && gap) ≡ false → 11 ≤ k
StopsAt k row w.OpenBrace gap ts = 11 ≤ k
StopsAt k row w.Dot gap ts = 11 ≤ k
StopsAt k row word gap ts = Unit {0}

abbrev pub Stops : ℕ → Bool → List Terminal → Type 0
Stops k row [] = Unit {0}
Stops k row (t ∷ ts) = StopsAt k row t.word t.gap ts

stops_word : (k l : ℕ) (row : Bool) (word : Word) (gap : Bool) (ts : List Terminal) → k ≤ l → StopsAt k row word gap ts → StopsAt l row word gap ts
stops_word k l row (w.Binary o) gap ts e h = λ p. omega (arith, e, h p)
stops_word k l row w.Quote gap ts e h = omega (arith, e, h)
stops_word k l row w.Colon gap ts e h = omega (arith, e, h)
stops_word k l row w.Open gap ts e h = λ p. omega (arith, e, h p)
stops_word k l row w.OpenBrace gap ts e h = omega (arith, e, h)
stops_word k l row w.Dot gap ts e h = omega (arith, e, h)
stops_word k l row (w.Name n) gap ts e h = tt
stops_word k l row word gap ts e h = tt

pub stops_more : (k l : ℕ) (row : Bool) (ts : List Terminal) → k ≤ l → Stops k row ts → Stops l row ts
stops_more k l row [] e h = tt
stops_more k l row (t ∷ ts) e h = stops_word k l row t.word t.gap ts e h

-- ---- an operator takes its last operand before the next terminal or with it

assign-under : (q : Mark) (p : Op) (e : Ex) (S : Stack) → assign q (under p e) S ≡ refused
assign-under q p e (goal_of shown site b) = refl
assign-under q p e (goal_of (into t c) site b) = refl
assign-under q p e (goal_of (spread m os z c) site b) = refl
assign-under q p e (lead_of l spot) = refl
assign-under q p e (inner_of i spot) = refl
assign-under q p e (outputs_of m o site b) = refl
assign-under q p e (op_of o S) = refl
assign-under q p e (paren_of m S) = refl
assign-under q p e (args_of c m o S) = refl
assign-under q p e (brace_of n m S) = refl
assign-under q p e (row_of m rs o S) = refl

pub tear_on : (r : Rules) (p : Op) (e : Ex) (S : Stack) (a : Additive) (m : Mark) (ts : List Terminal)
    → (sticks_next ts ≡ false → 7 ≤ strength p) → run r (torn e a m (op_of p S)) ts ≡ run r (torn (under p e) a m S) ts
tear_on r p e S a m [] h = refl
tear_on r p e S a m (t ∷ ts) h = by_gap t.gap refl
  where
    by_gap : (g : Bool) → t.gap ≡ g → run r (torn e a m (op_of p S)) (t ∷ ts) ≡ run r (torn (under p e) a m S) (t ∷ ts)
    by_gap true g = let f : 7 ≤ strength p = h (rw g refl) in rw (g, at_least 7 (strength p) f) refl
    by_gap false g = rw (g, from_zero (strength p)) refl

and_false : (x : Bool) → (x && false) ≡ false
and_false true = refl
and_false false = refl

-- a sum or a difference
pub additive_level : (o : Bin) (d : Additive) → additive_of o ≡ Some d → level o ≡ 7
additive_level bin.Add d h = refl
additive_level bin.Sub d h = refl
additive_level bin.OrElse d h = cc
additive_level bin.AndAlso d h = cc
additive_level bin.Or d h = cc
additive_level bin.And d h = cc
additive_level bin.Lt d h = cc
additive_level bin.Le d h = cc
additive_level bin.Gt d h = cc
additive_level bin.Ge d h = cc
additive_level bin.Eq d h = cc
additive_level bin.Ne d h = cc
additive_level bin.Mul d h = cc
additive_level bin.Div d h = cc
additive_level bin.DotMul d h = cc
additive_level bin.DotDiv d h = cc
additive_level bin.Pow d h = cc
additive_level bin.DotPow d h = cc

-- the same answer of two states is the same answer where there is room for both or for none
pub roomed : (r : Rules) (v : Bool) (st other : State) (ts : List Terminal) (n : ℕ) → run r st ts ≡ run r other ts
    → onward (roomy v (Ok st)) (λ next. run r next ts) n ≡ onward (roomy v (Ok other)) (λ next. run r next ts) n
roomed r true st other ts n h = h
roomed r false st other ts n h = refl

absorb_sign : (r : Rules) (p : Op) (e : Ex) (S : Stack) (o : Bin) (ad : Option Additive) (m : Mark) (ts : List Terminal)
    → additive_of o ≡ ad → (parts (in_row S) o m.gap ts ≡ false → level o ≤ strength p)
    → run r (after e (op_of p S)) (term (w.Binary o) m ∷ ts) ≡ run r (after (under p e) S) (term (w.Binary o) m ∷ ts)
absorb_sign r p e S o None m ts a h = let f : level o ≤ strength p = h (rw a (and_false (in_row S && m.gap))) in rw (a, at_least (level o) (strength p) f) refl
absorb_sign r p e S o (Some d) m ts a h = by_row (in_row S && m.gap) refl
  where
    by_row : (v : Bool) → (in_row S && m.gap) ≡ v → run r (after e (op_of p S)) (term (w.Binary o) m ∷ ts) ≡ run r (after (under p e) S) (term (w.Binary o) m ∷ ts)
    by_row true g =
        let f : sticks_next ts ≡ false → 7 ≤ strength p = λ q. let l : level o ≤ strength p = h (rw (g, a, q) refl) in omega (arith, l, additive_level o d a) in
        rw (a, g, from_zero (strength p)) (roomed r (room r (suc (nests (reduce 0 (under p e) S).stack))) (torn e d m (op_of p S)) (torn (under p e) d m S) ts (suc (length ts)) (tear_on r p e S d m ts f))
    by_row false g = let l : level o ≤ strength p = h (rw g refl) in rw (a, g, at_least (level o) (strength p) l) refl

-- the next terminal finds the operator with its operand, or puts them together
absorb_word : (r : Rules) (p : Op) (e : Ex) (S : Stack) (word : Word) (m : Mark) (ts : List Terminal)
    → StopsAt (strength p) (in_row S) word m.gap ts → run r (after e (op_of p S)) (term word m ∷ ts) ≡ run r (after (under p e) S) (term word m ∷ ts)
absorb_word r p e S (w.Binary o) m ts h = absorb_sign r p e S o (additive_of o) m ts refl h
absorb_word r p e S w.Quote m ts h = rw (at_least 10 (strength p) h) refl
absorb_word r p e S w.Colon m ts h = rw (at_least 7 (strength p) h) refl
absorb_word r p e S w.Open m ts h = by_row (in_row S && m.gap) refl
  where
    by_row : (v : Bool) → (in_row S && m.gap) ≡ v → run r (after e (op_of p S)) (term w.Open m ∷ ts) ≡ run r (after (under p e) S) (term w.Open m ∷ ts)
    by_row true g = rw (g, from_zero (strength p)) refl
    by_row false g = absurd (let f : 11 ≤ strength p = h g in omega (arith, f, strength_most p))
absorb_word r p e S w.OpenBrace m ts h = absurd (omega (arith, h, strength_most p))
absorb_word r p e S w.Dot m ts h = absurd (omega (arith, h, strength_most p))
absorb_word r p e S w.Equal m ts h = rw (assign-under m p e S) refl
absorb_word r p e S w.Comma m ts h = rw (from_zero (strength p)) refl
absorb_word r p e S w.Semicolon m ts h = rw (from_zero (strength p)) refl
absorb_word r p e S w.LineEnd m ts h = rw (from_zero (strength p)) refl
absorb_word r p e S w.Close m ts h = rw (from_zero (strength p)) refl
absorb_word r p e S w.CloseSquare m ts h = rw (from_zero (strength p)) refl
absorb_word r p e S w.CloseBrace m ts h = rw (from_zero (strength p)) refl
absorb_word r p e S (w.Name n) m ts h = rw (from_zero (strength p)) refl
absorb_word r p e S (w.Chars cs) m ts h = rw (from_zero (strength p)) refl
absorb_word r p e S (w.Number z) m ts h = rw (from_zero (strength p)) refl
absorb_word r p e S w.Not m ts h = rw (from_zero (strength p)) refl
absorb_word r p e S w.OpenSquare m ts h = rw (from_zero (strength p)) refl
absorb_word r p e S w.At m ts h = rw (from_zero (strength p)) refl
absorb_word r p e S (w.Key word) m ts h = rw (from_zero (strength p)) refl

pub absorb : (r : Rules) (p : Op) (e : Ex) (S : Stack) (ts : List Terminal) → Stops (strength p) (in_row S) ts → run r (after e (op_of p S)) ts ≡ run r (after (under p e) S) ts
absorb r p e S [] h = rw (from_zero (strength p)) refl
absorb r p e S (t ∷ ts) h = absorb_word r p e S t.word (mark_of t) ts h
