-- The machine reads the terminals of a sound expression, and has it as the operand then. By induction on the
-- derivation, for all frames below that take it and all terminals that may follow it.
use Rattle.std.proofs.Common.{◌≡◌, ◌∙◌, ℕ, suc, ◌+◌, ◌≤◌, Bool, true, false, not, ◌&&◌, if◌then◌else◌, Option, Some, None, List, [], ◌∷◌, length, Ok, refl, ap, arith}
use Rattle.std.specs.Prelude.{nat_le, is_some, codes, max}
use Rattle.pl_syntax.specs.declared.expr.Bin.{Bin}
use Rattle.pl_syntax.specs.declared.expr.Bin.TheVariants as bin
use Rattle.pl_grammar.specs.declared.terminal.Terminal.{Terminal}
use Rattle.pl_grammar.specs.declared.terminal.Word.{Word}
use Rattle.pl_grammar.specs.declared.terminal.Word.TheVariants as w
use Rattle.pl_grammar.specs.Words.{Mark, term, Named, named, Additive, plus, minus, Sign, additive, tilde, bin_of, sign_word, additive_of, level, is_power, SepKind, comma, semicolon, line, Sep, is_state}
use Rattle.pl_grammar.specs.Derivations.{Head, alone, dotted, Signs, no_signs, more_signs, written, space, Trail, no_trail, trail, Ex, number, chars, bare, call, state, paren, rows, rows_to, func, last, under, transposed, Op, joined, signed, from, stepped, Callee, head, braced, Args, no_args, listed, Elements, one, also, Item, value, colon, Rows, no_rows, broken, filled}
use Rattle.pl_grammar.specs.Spelling.{sep, head_words, signs, trail_words, ex, op, callee, args, elements, item, row_words}
use Rattle.pl_grammar.specs.Trees.{mark}
use Rattle.pl_grammar.specs.Nesting.{count, weight, height, op_height, callee_height, args_height, elements_height, item_height, rows_height}
use Rattle.pl_grammar.specs.Sound.{IsStem, IsHead, has_state, strength, wants, tightness, sticks, signs_fit, IsRowBreak, IsSpaced, SoundEx, SoundOp, SoundCallee, SoundArgs, SoundElements, SoundItem, SoundRows}
use Rattle.pl_grammar.specs.Programs.{Rules}
use Rattle.pl_grammar.specs.Machine.{Pending, fresh, behind, put, Stack, goal_of, lead_of, inner_of, outputs_of, op_of, paren_of, args_of, brace_of, row_of, State, operand, after, coloned, torn, dot, nests, in_row, in_index}
use Rattle.pl_grammar.specs.Steps.{Step, Held, roomy, room, reduce, onward, run, called, embraced, raise, begins_element}
use Rattle.pl_grammar.specs.Steps as steps
use Rattle.pl_grammar.proofs.Basics.{has_room, left_room, right_room, level_jumps, strength_wants, Accepts, accepts_more, sticks_next, StopsAt, Stops, stops_more, additive_level, roomed, absorb}
use Rattle.pl_grammar.proofs.Fore.{Fore, plainly, by_sign, gap_next, gap_fore, fore_ex}

-- ---- operators on top that don't take the operand

-- the operator on top holds less strongly
abbrev pub Weak : Stack → ℕ → Type 0
Weak (goal_of g site b) l = Unit {0}
Weak (lead_of h spot) l = Unit {0}
Weak (inner_of i spot) l = Unit {0}
Weak (outputs_of m p site b) l = Unit {0}
Weak (op_of p S) l = suc (strength p) ≤ l
Weak (paren_of m S) l = Unit {0}
Weak (args_of c m p S) l = Unit {0}
Weak (brace_of n m S) l = Unit {0}
Weak (row_of m rs p S) l = Unit {0}

abbrev held : Ex → Stack → Held
held e S = record { operand = e; stack = S }

pub too_weak : (l s : ℕ) → suc s ≤ l → nat_le l s ≡ false
too_weak l s h = Rattle.std.proofs.lemmas.Bool.lt-leb l s h

pub stays : (l : ℕ) (e : Ex) (S : Stack) → Weak S l → reduce l e S ≡ held e S
stays l e (goal_of g site b) h = refl
stays l e (lead_of i spot) h = refl
stays l e (inner_of i spot) h = refl
stays l e (outputs_of m p site b) h = refl
stays l e (op_of p S) h = rw (too_weak l (strength p) h) refl
stays l e (paren_of m S) h = refl
stays l e (args_of c m p S) h = refl
stays l e (brace_of n m S) h = refl
stays l e (row_of m rs p S) h = refl

weak_op : (p : Op) (l : ℕ) → wants p ≤ l → (9 ≤ l → 10 ≤ l) → suc (strength p) ≤ l
weak_op (joined a o m us) l h j = omega (arith, h)
weak_op (signed m s) l h j = j h
weak_op (from a m) l h j = omega (arith, h)
weak_op (stepped a m b n) l h j = omega (arith, h)

-- what takes an operand of tightness l holds less strongly than l
pub weak : (S : Stack) (l : ℕ) → Accepts S l → (9 ≤ l → 10 ≤ l) → Weak S l
weak (goal_of g site b) l h j = tt
weak (lead_of i spot) l h j = tt
weak (inner_of i spot) l h j = tt
weak (outputs_of m p site b) l h j = tt
weak (op_of p S) l h j = weak_op p l h j
weak (paren_of m S) l h j = tt
weak (args_of c m p S) l h j = tt
weak (brace_of n m S) l h j = tt
weak (row_of m rs p S) l h j = tt

-- what takes a range holds less strongly than a sum
pub weak_range : (S : Stack) → Accepts S 6 → Weak S 7
weak_range (goal_of g site b) h = tt
weak_range (lead_of i spot) h = tt
weak_range (inner_of i spot) h = tt
weak_range (outputs_of m p site b) h = tt
weak_range (op_of (joined a o m us) S) h = omega (arith, h)
weak_range (op_of (signed m s) S) h = absurd (omega (arith, h))
weak_range (op_of (from a m) S) h = absurd (omega (arith, h))
weak_range (op_of (stepped a m b n) S) h = absurd (omega (arith, h))
weak_range (paren_of m S) h = tt
weak_range (args_of c m p S) h = tt
weak_range (brace_of n m S) h = tt
weak_range (row_of m rs p S) h = tt

pub pick : {A : Type 0} (P : A → Type 0) (v : Bool) (x y : A) → P x → P y → P (if v then x else y)
pick P true x y h j = h
pick P false x y h j = j

pub reduced_nests : (l : ℕ) (e : Ex) (S : Stack) → nests (reduce l e S).stack ≤ nests S
reduced_nests l e (goal_of g site b) = omega arith
reduced_nests l e (lead_of i spot) = omega arith
reduced_nests l e (inner_of i spot) = omega arith
reduced_nests l e (outputs_of m p site b) = omega arith
reduced_nests l e (op_of p S) = pick (λ h. nests h.stack ≤ weight p + nests S) (nat_le l (strength p)) (reduce l (under p e) S) (held e (op_of p S)) (omega (arith, reduced_nests l (under p e) S)) (omega arith)
reduced_nests l e (paren_of m S) = omega arith
reduced_nests l e (args_of c m p S) = omega arith
reduced_nests l e (brace_of n m S) = omega arith
reduced_nests l e (row_of m rs p S) = omega arith

-- ---- single steps

module _ (r : Rules) where
  -- a list that closes is an expression where the frames take one
  pub plain_call : (c : Callee) (m : Mark) (a : Args) (z : Mark) (S : Stack) → Accepts S 11 → called c m a z S ≡ Ok (after (call c m a z) S)
  plain_call (head (alone n)) m a z (goal_of g site b) h = refl
  plain_call (head (alone n)) m a z (lead_of l spot) h = refl
  plain_call (head (alone n)) m a z (inner_of i spot) h = refl
  plain_call (head (alone n)) m a z (outputs_of o p site b) h = absurd h
  plain_call (head (alone n)) m a z (op_of p S) h = refl
  plain_call (head (alone n)) m a z (paren_of o S) h = refl
  plain_call (head (alone n)) m a z (args_of c o p S) h = refl
  plain_call (head (alone n)) m a z (brace_of o p S) h = refl
  plain_call (head (alone n)) m a z (row_of o rs p S) h = refl
  plain_call (head (dotted d i n)) m a z S h = refl
  plain_call (braced n i e y) m a z S h = refl

  pub plain_brace : (n : Named) (m : Mark) (e : Ex) (z : Mark) (S : Stack) → Accepts S 11 → embraced n m e z S ≡ Ok (after (bare (braced n m e z)) S)
  plain_brace n m e z (goal_of g site b) h = refl
  plain_brace n m e z (lead_of l spot) h = refl
  plain_brace n m e z (inner_of i spot) h = refl
  plain_brace n m e z (outputs_of o p site b) h = absurd h
  plain_brace n m e z (op_of p S) h = refl
  plain_brace n m e z (paren_of o S) h = refl
  plain_brace n m e z (args_of c o p S) h = refl
  plain_brace n m e z (brace_of o p S) h = refl
  plain_brace n m e z (row_of o rs p S) h = refl

  -- a sign that is no power's
  plain_sign : (s : Sign) (m : Mark) (S : Stack) → Accepts S 9 → steps.sign r s m S ≡ raise r s m S
  plain_sign s m (goal_of g site b) h = refl
  plain_sign s m (lead_of l spot) h = refl
  plain_sign s m (inner_of i spot) h = refl
  plain_sign s m (outputs_of o p site b) h = absurd h
  plain_sign s m (op_of (joined a o n us) S) h = by_level o h
    where
      by_level : (x : Bin) → suc (level x) ≤ 9 → steps.sign r s m (op_of (joined a x n us) S) ≡ raise r s m (op_of (joined a x n us) S)
      by_level bin.Pow l = absurd (omega (arith, l))
      by_level bin.DotPow l = absurd (omega (arith, l))
      by_level bin.OrElse l = refl
      by_level bin.AndAlso l = refl
      by_level bin.Or l = refl
      by_level bin.And l = refl
      by_level bin.Lt l = refl
      by_level bin.Le l = refl
      by_level bin.Gt l = refl
      by_level bin.Ge l = refl
      by_level bin.Eq l = refl
      by_level bin.Ne l = refl
      by_level bin.Add l = refl
      by_level bin.Sub l = refl
      by_level bin.Mul l = refl
      by_level bin.Div l = refl
      by_level bin.DotMul l = refl
      by_level bin.DotDiv l = refl
  plain_sign s m (op_of (signed n t) S) h = refl
  plain_sign s m (op_of (from a n) S) h = refl
  plain_sign s m (op_of (stepped a n b o) S) h = refl
  plain_sign s m (paren_of o S) h = refl
  plain_sign s m (args_of c o p S) h = refl
  plain_sign s m (brace_of o p S) h = refl
  plain_sign s m (row_of o rs p S) h = refl

  additive_bin : (a : Additive) → additive_of (bin_of a) ≡ Some a
  additive_bin plus = refl
  additive_bin minus = refl

  -- a sign in front of an operand
  pub read_sign : (s : Sign) (m : Mark) (S : Stack) (ts : List Terminal) → Accepts S 9 → suc (nests S) ≤ r.limit
      → run r (operand S) (term (sign_word s) m ∷ ts) ≡ run r (operand (op_of (signed m s) S)) ts
  read_sign (additive a) m S ts h l = rw (additive_bin a, plain_sign (additive a) m S h, has_room r (suc (nests S)) l) refl
  read_sign tilde m S ts h l = rw (plain_sign tilde m S h, has_room r (suc (nests S)) l) refl

  -- the signs of a power's right operand
  read_signs : (a : Ex) (o : Bin) (m : Mark) (us : Signs) (S : Stack) (ts : List Terminal) → signs_fit o us ≡ true → suc (count us) + nests S ≤ r.limit
      → run r (operand (op_of (joined a o m no_signs) S)) (signs us ts) ≡ run r (operand (op_of (joined a o m us) S)) ts
  read_signs a o m no_signs S ts f l = refl
  read_signs a o m (more_signs us n s) S ts f l = read_signs a o m us S (term (sign_word s) n ∷ ts) (fits us f) (omega (arith, l)) ∙ further s
    where
      fits : (vs : Signs) → is_power o ≡ true → signs_fit o vs ≡ true
      fits no_signs g = refl
      fits (more_signs vs i t) g = g

      further : (t : Sign) → run r (operand (op_of (joined a o m us) S)) (term (sign_word t) n ∷ ts) ≡ run r (operand (op_of (joined a o m (more_signs us n t)) S)) ts
      further (additive d) = rw (additive_bin d, f, has_room r (suc (suc (count us) + nests S)) (omega (arith, l))) refl
      further tilde = rw (f, has_room r (suc (suc (count us) + nests S)) (omega (arith, l))) refl

  -- white space made sure that a sum goes on, and it does
  mend : (a : Ex) (d : Additive) (m : Mark) (S : Stack) (ts : List Terminal) → gap_next ts ≡ true → Weak S 7 → suc (height a + nests S) ≤ r.limit
      → run r (torn a d m S) ts ≡ run r (operand (op_of (joined a (bin_of d) m no_signs) S)) ts
  mend a d m S [] g v l = cc
  mend a d m S (t ∷ ts) g v l = rw (g, stays 7 a S v, has_room r (suc (height a + nests S)) l) (settled (steps.read_operand r t.word (record { gap = true; place = t.place }) (op_of (joined a (bin_of d) m no_signs) S)))
    where
      settled : (s : Step) → onward (roomy true s) (λ next. run r next ts) (suc (length ts)) ≡ onward s (λ next. run r next ts) (suc (length ts))
      settled s = refl

  pub bin_additive : (o : Bin) (d : Additive) → additive_of o ≡ Some d → bin_of d ≡ o
  bin_additive bin.Add plus h = refl
  bin_additive bin.Add minus h = cc
  bin_additive bin.Sub plus h = cc
  bin_additive bin.Sub minus h = refl
  bin_additive bin.OrElse d h = cc
  bin_additive bin.AndAlso d h = cc
  bin_additive bin.Or d h = cc
  bin_additive bin.And d h = cc
  bin_additive bin.Lt d h = cc
  bin_additive bin.Le d h = cc
  bin_additive bin.Gt d h = cc
  bin_additive bin.Ge d h = cc
  bin_additive bin.Eq d h = cc
  bin_additive bin.Ne d h = cc
  bin_additive bin.Mul d h = cc
  bin_additive bin.Div d h = cc
  bin_additive bin.DotMul d h = cc
  bin_additive bin.DotDiv d h = cc
  bin_additive bin.Pow d h = cc
  bin_additive bin.DotPow d h = cc

  -- what has to stand behind an operator: in a row, white space where there is some before a `+` or `-`
  abbrev pub GoesOn : Bool → Op → List Terminal → Type 0
  GoesOn row (joined a o m no_signs) ts = (row && (is_some (additive_of o) && m.gap)) ≡ true → gap_next ts ≡ true
  GoesOn row (joined a o m (more_signs us n s)) ts = Unit {0}
  GoesOn row (signed m s) ts = Unit {0}
  GoesOn row (from a m) ts = Unit {0}
  GoesOn row (stepped a m b n) ts = Unit {0}

  -- an operator of two operands
  join_on : (a : Ex) (o : Bin) (ad : Option Additive) (m : Mark) (S : Stack) (ts : List Terminal) → additive_of o ≡ ad → Accepts S (level o) → suc (height a + nests S) ≤ r.limit
      → ((in_row S && (is_some ad && m.gap)) ≡ true → gap_next ts ≡ true)
      → run r (after a S) (term (w.Binary o) m ∷ ts) ≡ run r (operand (op_of (joined a o m no_signs) S)) ts
  join_on a o None m S ts e h l g = rw (e, stays (level o) a S (weak S (level o) h (level_jumps o)), has_room r (suc (height a + nests S)) l) refl
  join_on a o (Some d) m S ts e h l g = by_row (in_row S && m.gap) refl
    where
      seven : level o ≡ 7
      seven = additive_level o d e

      weak_seven : Accepts S (level o) → Weak S 7
      weak_seven q = weak S 7 (rw seven at q) (λ z. absurd (omega (arith, z)))

      by_row : (v : Bool) → (in_row S && m.gap) ≡ v → run r (after a S) (term (w.Binary o) m ∷ ts) ≡ run r (operand (op_of (joined a o m no_signs) S)) ts
      by_row false f = rw (e, f, stays (level o) a S (weak S (level o) h (level_jumps o)), has_room r (suc (height a + nests S)) l) refl
      by_row true f =
          let room_there : suc (nests (reduce 0 a S).stack) ≤ r.limit = omega (arith, l, reduced_nests 0 a S) in
          let on : run r (torn a d m S) ts ≡ run r (operand (op_of (joined a (bin_of d) m no_signs) S)) ts = mend a d m S ts (g f) (weak_seven h) l in
          rw (e, f, has_room r (suc (nests (reduce 0 a S).stack)) room_there) (on ∙ ap (λ x. run r (operand (op_of (joined a x m no_signs) S)) ts) (bin_additive o d e))

  -- the elements of a list and of a row, with the separators between
  after_comma : (e : Ex) (c : Callee) (m : Mark) (p : Pending) (S : Stack) (n : Mark) (ts : List Terminal)
      → run r (after e (args_of c m p S)) (term w.Comma n ∷ ts) ≡ run r (operand (args_of c m (behind (put p (value e)) (written n)) S)) ts
  after_comma e c m p S n ts = refl

  row_comma : (e : Ex) (m : Mark) (rs : Rows) (p : Pending) (S : Stack) (n : Mark) (ts : List Terminal)
      → run r (after e (row_of m rs p S)) (term w.Comma n ∷ ts) ≡ run r (operand (row_of m rs (behind (put p (value e)) (written n)) S)) ts
  row_comma e m rs p S n ts = refl

  abbrev spaced_row : Mark → Rows → Pending → Ex → Stack → Stack
  spaced_row m rs p e S = row_of m rs (behind (put p (value e)) space) S

  -- a sign that sticks to what comes begins the next element
  split : (e : Ex) (m : Mark) (rs : Rows) (p : Pending) (S : Stack) (a : Additive) (n : Mark) (ts : List Terminal) → sticks_next ts ≡ true
      → run r (torn e a n (row_of m rs p S)) ts ≡ run r (operand (op_of (signed n (additive a)) (spaced_row m rs p e S))) ts
  split e m rs p S a n [] g = cc
  split e m rs p S a n (t ∷ ts) g = by_gap t.gap refl
    where
      by_gap : (v : Bool) → t.gap ≡ v → run r (torn e a n (row_of m rs p S)) (t ∷ ts) ≡ run r (operand (op_of (signed n (additive a)) (spaced_row m rs p e S))) (t ∷ ts)
      by_gap true f = let bad : not t.gap ≡ true = g in let worse : not true ≡ true = rw f at bad in cc
      by_gap false f = rw f refl

  -- white space alone separates what begins an element
  row_space : (e : Ex) (m : Mark) (rs : Rows) (p : Pending) (S : Stack) (n : Mark) (sticky : Bool) (ts : List Terminal)
      → Fore (row_of m rs p S) n sticky ts → n.gap ≡ true → sticky ≡ true
      → run r (after e (row_of m rs p S)) ts ≡ run r (operand (spaced_row m rs p e S)) ts
  row_space e m rs p S n sticky ts (plainly word rest q b) g t = rw (q, b, g) refl
  row_space e m rs p S n sticky ts (by_sign a rest q f) g t =
      let x : Mark = record { gap = true; place = n.place } in
      rw (q, additive_bin a, g) (roomed r (room r (suc (suc (nests S)))) (torn e a x (row_of m rs p S)) (operand (op_of (signed x (additive a)) (spaced_row m rs p e S))) rest (suc (length rest)) (split e m rs p S a x rest (f t)))

  -- what begins an element behind white space may stand behind every other
  space_stops : (k : ℕ) (S : Stack) (n : Mark) (sticky : Bool) (ts : List Terminal) → Fore S n sticky ts → n.gap ≡ true → sticky ≡ true → Stops k true ts
  space_stops k S n sticky ts (plainly word rest q b) g t = rw q (by_word word b)
    where
      by_word : (x : Word) → begins_element x S ≡ true → StopsAt k true x n.gap rest
      by_word (w.Name y) b = tt
      by_word (w.Chars y) b = tt
      by_word (w.Number y) b = tt
      by_word (w.Binary y) b = cc
      by_word w.Quote b = cc
      by_word w.Colon b = cc
      by_word w.Open b = λ z. let bad : true ≡ false = rw g at z in cc
      by_word w.OpenBrace b = cc
      by_word w.Dot b = cc
      by_word x b = tt
  space_stops k S n sticky ts (by_sign a rest q f) g t = rw q (λ z. let bad : true ≡ false = rw (g, additive_bin a, f t) at z in cc)

  -- ---- names

  read_stem : (h : Head) (m : Mark) (S : Stack) (ts : List Terminal) → IsStem h
      → run r (operand S) (head_words h (term w.Dot m ∷ ts)) ≡ run r (dot (bare (head h)) m S) ts
  read_stem (alone n) m S ts i = refl
  read_stem (dotted h d n) m S ts i = read_stem h d S (named n ∷ term w.Dot m ∷ ts) i.2 ∙ further
    where
      further : run r (dot (bare (head h)) d S) (named n ∷ term w.Dot m ∷ ts) ≡ run r (dot (bare (head (dotted h d n))) m S) ts
      further = rw (i.0, i.1) refl

  read_head : (h : Head) (S : Stack) (ts : List Terminal) → IsHead h → run r (operand S) (head_words h ts) ≡ run r (after (bare (head h)) S) ts
  read_head (alone n) S ts i = refl
  read_head (dotted h d n) S ts i = read_stem h d S (named n ∷ ts) i.2 ∙ further
    where
      further : run r (dot (bare (head h)) d S) (named n ∷ ts) ≡ run r (after (bare (head (dotted h d n))) S) ts
      further = rw (i.0, i.1) refl

  -- what stands behind a range's operand
  range_on : (a : Ex) (m : Mark) (S : Stack) (ts : List Terminal) → Accepts S 6 → suc (height a + nests S) ≤ r.limit
      → run r (after a S) (term w.Colon m ∷ ts) ≡ run r (operand (op_of (from a m) S)) ts
  range_on a m S ts h l = rw (stays 7 a S (weak_range S h)) (first_colon S h l)
    where
      first_colon : (T : Stack) → Accepts T 6 → suc (height a + nests T) ≤ r.limit → onward (steps.range r m a T) (λ next. run r next ts) (suc (length ts)) ≡ run r (operand (op_of (from a m) T)) ts
      first_colon (goal_of g site b) f v = rw (has_room r (suc (height a + nests (goal_of g site b))) v) refl
      first_colon (lead_of i spot) f v = rw (has_room r (suc (height a + nests (lead_of i spot))) v) refl
      first_colon (inner_of i spot) f v = rw (has_room r (suc (height a + nests (inner_of i spot))) v) refl
      first_colon (outputs_of o p site b) f v = absurd f
      first_colon (op_of (joined x o n us) T) f v = rw (has_room r (suc (height a + nests (op_of (joined x o n us) T))) v) refl
      first_colon (op_of (signed n s) T) f v = absurd (omega (arith, f))
      first_colon (op_of (from x n) T) f v = absurd (omega (arith, f))
      first_colon (op_of (stepped x n y o) T) f v = absurd (omega (arith, f))
      first_colon (paren_of n T) f v = rw (has_room r (suc (height a + nests (paren_of n T))) v) refl
      first_colon (args_of c n p T) f v = rw (has_room r (suc (height a + nests (args_of c n p T))) v) refl
      first_colon (brace_of n o T) f v = rw (has_room r (suc (height a + nests (brace_of n o T))) v) refl
      first_colon (row_of n rs p T) f v = rw (has_room r (suc (height a + nests (row_of n rs p T))) v) refl

  -- ---- elements and rows

  abbrev pub Follows : Bool → List Terminal → Type 0
  Follows row ts = (k : ℕ) → Stops k row ts

  -- an element that has been read, and what stood before it
  abbrev pub item_state : Item → Stack → State
  item_state (value e) S = after e S
  item_state (colon m) S = coloned m S

  abbrev pub last_item : Elements → Item
  last_item (one i) = i
  last_item (also es c i) = i

  abbrev pub before : Elements → Pending
  before (one i) = fresh
  before (also es c i) = behind es c

  list_comma : (es : Elements) (c : Callee) (m : Mark) (S : Stack) (n : Mark) (ts : List Terminal)
      → run r (item_state (last_item es) (args_of c m (before es) S)) (term w.Comma n ∷ ts) ≡ run r (operand (args_of c m (behind es (written n)) S)) ts
  list_comma (one (value e)) c m S n ts = refl
  list_comma (one (colon i)) c m S n ts = refl
  list_comma (also es d (value e)) c m S n ts = refl
  list_comma (also es d (colon i)) c m S n ts = refl

  list_close : (es : Elements) (c : Callee) (m : Mark) (S : Stack) (z : Mark) (ts : List Terminal)
      → run r (item_state (last_item es) (args_of c m (before es) S)) (term w.Close z ∷ ts) ≡ onward (called c m (listed es) z S) (λ next. run r next ts) (suc (length ts))
  list_close (one (value e)) c m S z ts = refl
  list_close (one (colon i)) c m S z ts = refl
  list_close (also es d (value e)) c m S z ts = refl
  list_close (also es d (colon i)) c m S z ts = refl

  row_on : (es : Elements) (index : Bool) (m : Mark) (rs : Rows) (S : Stack) (n : Mark) (ts : List Terminal) → SoundElements true index es
      → run r (item_state (last_item es) (row_of m rs (before es) S)) (term w.Comma n ∷ ts) ≡ run r (operand (row_of m rs (behind es (written n)) S)) ts
  row_on (one (value e)) index m rs S n ts h = refl
  row_on (one (colon i)) index m rs S n ts h = cc
  row_on (also es d (value e)) index m rs S n ts h = refl
  row_on (also es d (colon i)) index m rs S n ts h = let bad : true ≡ false = h.2 in cc

  -- white space behind the last element
  row_apart : (es : Elements) (index : Bool) (m : Mark) (rs : Rows) (S : Stack) (n : Mark) (sticky : Bool) (ts : List Terminal) → SoundElements true index es
      → Fore (row_of m rs (before es) S) n sticky ts → n.gap ≡ true → sticky ≡ true
      → run r (item_state (last_item es) (row_of m rs (before es) S)) ts ≡ run r (operand (row_of m rs (behind es space) S)) ts
  row_apart (one (value e)) index m rs S n sticky ts h f g t = row_space e m rs fresh S n sticky ts f g t
  row_apart (one (colon i)) index m rs S n sticky ts h f g t = cc
  row_apart (also es d (value e)) index m rs S n sticky ts h f g t = row_space e m rs (behind es d) S n sticky ts f g t
  row_apart (also es d (colon i)) index m rs S n sticky ts h f g t = let bad : true ≡ false = h.2 in cc

  -- a break behind the last element, perhaps with a comma before it
  row_end : (es : Elements) (index : Bool) (m : Mark) (rs : Rows) (S : Stack) (x : SepKind) (n : Mark) (ts : List Terminal) → SoundElements true index es → IsRowBreak x
      → run r (item_state (last_item es) (row_of m rs (before es) S)) (sep (record { kind = x; mark = n }) ts) ≡ run r (operand (row_of m (filled rs es no_trail (record { kind = x; mark = n })) fresh S)) ts
  row_end es index m rs S comma n ts h b = absurd b
  row_end (one (value e)) index m rs S semicolon n ts h b = refl
  row_end (one (colon i)) index m rs S semicolon n ts h b = cc
  row_end (also es d (value e)) index m rs S semicolon n ts h b = refl
  row_end (also es d (colon i)) index m rs S semicolon n ts h b = let bad : true ≡ false = h.2 in cc
  row_end (one (value e)) index m rs S line n ts h b = refl
  row_end (one (colon i)) index m rs S line n ts h b = cc
  row_end (also es d (value e)) index m rs S line n ts h b = refl
  row_end (also es d (colon i)) index m rs S line n ts h b = let bad : true ≡ false = h.2 in cc

  row_close : (es : Elements) (index : Bool) (m : Mark) (rs : Rows) (S : Stack) (z : Mark) (ts : List Terminal) → SoundElements true index es
      → run r (item_state (last_item es) (row_of m rs (before es) S)) (term w.CloseSquare z ∷ ts) ≡ run r (after (rows_to m rs es no_trail z) S) ts
  row_close (one (value e)) index m rs S z ts h = refl
  row_close (one (colon i)) index m rs S z ts h = cc
  row_close (also es d (value e)) index m rs S z ts h = refl
  row_close (also es d (colon i)) index m rs S z ts h = let bad : true ≡ false = h.2 in cc

  break_fresh : (m : Mark) (rs : Rows) (S : Stack) (x : SepKind) (n : Mark) (ts : List Terminal) → IsRowBreak x
      → run r (operand (row_of m rs fresh S)) (sep (record { kind = x; mark = n }) ts) ≡ run r (operand (row_of m (broken rs (record { kind = x; mark = n })) fresh S)) ts
  break_fresh m rs S comma n ts b = absurd b
  break_fresh m rs S semicolon n ts b = refl
  break_fresh m rs S line n ts b = refl

  break_trail : (m : Mark) (rs : Rows) (es : Elements) (c : Mark) (S : Stack) (x : SepKind) (n : Mark) (ts : List Terminal) → IsRowBreak x
      → run r (operand (row_of m rs (behind es (written c)) S)) (sep (record { kind = x; mark = n }) ts) ≡ run r (operand (row_of m (filled rs es (trail c) (record { kind = x; mark = n })) fresh S)) ts
  break_trail m rs es c S comma n ts b = absurd b
  break_trail m rs es c S semicolon n ts b = refl
  break_trail m rs es c S line n ts b = refl

  breaks_follow : (x : SepKind) (n : Mark) (ts : List Terminal) → Follows true (sep (record { kind = x; mark = n }) ts)
  breaks_follow comma n ts k = tt
  breaks_follow semicolon n ts k = tt
  breaks_follow line n ts k = tt

  trail_follows : (u : Trail) (x : SepKind) (n : Mark) (ts : List Terminal) → Follows true (trail_words u (sep (record { kind = x; mark = n }) ts))
  trail_follows no_trail x n ts = breaks_follow x n ts
  trail_follows (trail c) x n ts = λ k. tt

  close_follows : (u : Trail) (z : Mark) (ts : List Terminal) → Follows true (trail_words u (term w.CloseSquare z ∷ ts))
  close_follows no_trail z ts = λ k. tt
  close_follows (trail c) z ts = λ k. tt

  row_filled : (es : Elements) (index : Bool) (m : Mark) (rs : Rows) (S : Stack) (u : Trail) (s : Sep) (ts : List Terminal) → SoundElements true index es → IsRowBreak s.kind
      → run r (item_state (last_item es) (row_of m rs (before es) S)) (trail_words u (sep s ts)) ≡ run r (operand (row_of m (filled rs es u s) fresh S)) ts
  row_filled es index m rs S no_trail s ts h b = row_end es index m rs S s.kind s.mark ts h b
  row_filled es index m rs S (trail c) s ts h b = row_on es index m rs S c (sep s ts) h ∙ break_trail m rs es c S s.kind s.mark ts b

  row_shut : (es : Elements) (index : Bool) (m : Mark) (rs : Rows) (S : Stack) (u : Trail) (z : Mark) (ts : List Terminal) → SoundElements true index es
      → run r (item_state (last_item es) (row_of m rs (before es) S)) (trail_words u (term w.CloseSquare z ∷ ts)) ≡ run r (after (rows_to m rs es u z) S) ts
  row_shut es index m rs S no_trail z ts h = row_close es index m rs S z ts h
  row_shut es index m rs S (trail c) z ts h = row_on es index m rs S c (term w.CloseSquare z ∷ ts) h

  -- ---- single facts about an expression

  state_is_state : is_state (codes "State") ≡ true
  unfolding is_state
  state_is_state = refl

  state_tight : (e : Ex) → has_state e ≡ true → 11 ≤ tightness e
  state_tight (under p e) h = cc
  state_tight (transposed e m) h = cc
  state_tight (number m z) h = omega arith
  state_tight e h = omega arith

  state_on : (e : Ex) (d m : Mark) (S : Stack) (ts : List Terminal) → has_state e ≡ true
      → run r (after e S) (term w.Dot d ∷ term (w.Name (codes "State")) m ∷ ts) ≡ run r (after (state e d m) S) ts
  state_on e d m S ts h = rw (h, state_is_state, h) refl

  goes_on : (row : Bool) (p : Op) (e : Ex) (S : Stack) (ts : List Terminal) → Fore S (mark e) (sticks e) (ex e ts) → IsSpaced row p e → GoesOn row p (ex e ts)
  goes_on row (joined a o m no_signs) e S ts f h = λ q. gap_fore S (mark e) (sticks e) (ex e ts) f ∙ h q
  goes_on row (joined a o m (more_signs us n s)) e S ts f h = tt
  goes_on row (signed m s) e S ts f h = tt
  goes_on row (from a m) e S ts f h = tt
  goes_on row (stepped a m b n) e S ts f h = tt

  pub power_not_additive : (o : Bin) → is_power o ≡ true → additive_of o ≡ None
  power_not_additive bin.Pow h = refl
  power_not_additive bin.DotPow h = refl
  power_not_additive bin.OrElse h = refl
  power_not_additive bin.AndAlso h = refl
  power_not_additive bin.Or h = refl
  power_not_additive bin.And h = refl
  power_not_additive bin.Lt h = refl
  power_not_additive bin.Le h = refl
  power_not_additive bin.Gt h = refl
  power_not_additive bin.Ge h = refl
  power_not_additive bin.Eq h = refl
  power_not_additive bin.Ne h = refl
  power_not_additive bin.Add h = cc
  power_not_additive bin.Sub h = cc
  power_not_additive bin.Mul h = refl
  power_not_additive bin.Div h = refl
  power_not_additive bin.DotMul h = refl
  power_not_additive bin.DotDiv h = refl

  both_false : (x : Bool) → (x && false) ≡ false
  both_false true = refl
  both_false false = refl

  -- the white space that a sum asks for stands before the signs of its right operand, of which it has none
  sum_goes_on : (row : Bool) (a : Ex) (o : Bin) (m : Mark) (us : Signs) (ts : List Terminal) → signs_fit o us ≡ true → GoesOn row (joined a o m us) ts
      → (row && (is_some (additive_of o) && m.gap)) ≡ true → gap_next (signs us ts) ≡ true
  sum_goes_on row a o m no_signs ts f g q = g q
  sum_goes_on row a o m (more_signs us n s) ts f g q = let bad : (row && false) ≡ true = rw (power_not_additive o f) at q in let worse : false ≡ true = rw (both_false row) at bad in cc

  -- ---- expressions

  mutual
    pub read_ex : (e : Ex) (S : Stack) (ts : List Terminal) → SoundEx (in_row S) (in_index S) e → Accepts S (tightness e) → height e + nests S ≤ r.limit → Stops (tightness e) (in_row S) ts
        → run r (operand S) (ex e ts) ≡ run r (after e S) ts
    read_ex (number m z) S ts h a l t = refl
    read_ex (chars m cs) S ts h a l t = refl
    read_ex (bare c) S ts h a l t = read_callee c S ts h a l
    read_ex (call c m g z) S ts h a l t =
        let opened : run r (after (bare c) S) (term w.Open m ∷ args g (term w.Close z ∷ ts)) ≡ run r (operand (args_of c m fresh S)) (args g (term w.Close z ∷ ts)) =
        rw (h.1, has_room r (suc (nests S)) (omega (arith, right_room (callee_height c) (suc (args_height g)) (nests S) r.limit l))) refl in
        read_callee c S (term w.Open m ∷ args g (term w.Close z ∷ ts)) h.0 a (left_room (callee_height c) (suc (args_height g)) (nests S) r.limit l)
        ∙ opened
        ∙ read_args g c m S z ts h.2 (omega (arith, right_room (callee_height c) (suc (args_height g)) (nests S) r.limit l))
        ∙ ap (λ s. onward s (λ next. run r next ts) (suc (length ts))) (plain_call c m g z S a)
    read_ex (state e d m) S ts h a l t = read_ex e S (term w.Dot d ∷ term (w.Name (codes "State")) m ∷ ts) h.1 (accepts_more S 11 (tightness e) a (state_tight e h.0)) l (state_tight e h.0) ∙ state_on e d m S ts h.0
    read_ex (paren m e z) S ts h a l t =
        let opened : run r (operand S) (term w.Open m ∷ ex e (term w.Close z ∷ ts)) ≡ run r (operand (paren_of m S)) (ex e (term w.Close z ∷ ts)) = rw (has_room r (suc (nests S)) (omega (arith, l))) refl in
        opened ∙ read_ex e (paren_of m S) (term w.Close z ∷ ts) h tt (omega (arith, l)) tt
    read_ex (rows m rs z) S ts h a l t =
        let opened : run r (operand S) (term w.OpenSquare m ∷ row_words rs (term w.CloseSquare z ∷ ts)) ≡ run r (operand (row_of m no_rows fresh S)) (row_words rs (term w.CloseSquare z ∷ ts)) = rw (has_room r (suc (nests S)) (omega (arith, l))) refl in
        opened ∙ read_rows rs m S (term w.CloseSquare z ∷ ts) h (omega (arith, l))
    read_ex (rows_to m rs es u z) S ts h a l t =
        let X : List Terminal = trail_words u (term w.CloseSquare z ∷ ts) in
        let v : max (rows_height rs) (elements_height es) + suc (nests S) ≤ r.limit = omega (arith, l) in
        let opened : run r (operand S) (term w.OpenSquare m ∷ row_words rs (elements es X)) ≡ run r (operand (row_of m no_rows fresh S)) (row_words rs (elements es X)) = rw (has_room r (suc (nests S)) (omega (arith, l))) refl in
        opened
        ∙ read_rows rs m S (elements es X) h.0 (left_room (rows_height rs) (elements_height es) (suc (nests S)) r.limit v)
        ∙ read_row es m rs S X h.1 (right_room (rows_height rs) (elements_height es) (suc (nests S)) r.limit v) (close_follows u z ts)
        ∙ row_shut es (in_index S) m rs S u z ts h.1
    read_ex (func m n) S ts h a l t = refl
    read_ex (last m) S ts h a l t = rw h refl
    read_ex (under p e) S ts h a l t =
        let f : Fore S (mark e) (sticks e) (ex e ts) = fore_ex e S (in_row S) ts h.3 in
        let v : (weight p + height e) + nests S ≤ r.limit = right_room (op_height p) (weight p + height e) (nests S) r.limit l in
        read_op p S (ex e ts) h.0 a (left_room (op_height p) (weight p + height e) (nests S) r.limit l) (omega (arith, v)) (goes_on (in_row S) p e S ts f h.2)
        ∙ read_ex e (op_of p S) ts h.3 h.1 (omega (arith, v)) (stops_more (strength p) (tightness e) (in_row S) ts (omega (arith, strength_wants p, h.1)) t)
        ∙ absorb r p e S ts t
    read_ex (transposed e m) S ts h a l t =
        let turned : run r (after e S) (term w.Quote m ∷ ts) ≡ run r (after (transposed e m) S) ts = rw (stays 10 e S (weak S 10 a (λ z. omega arith)), has_room r (suc (height e + nests S)) (omega (arith, l))) refl in
        read_ex e S (term w.Quote m ∷ ts) h.1 (accepts_more S 10 (tightness e) a h.0) (omega (arith, l)) h.0 ∙ turned

    pub read_op : (p : Op) (S : Stack) (ts : List Terminal) → SoundOp (in_row S) (in_index S) p → Accepts S (strength p) → op_height p + nests S ≤ r.limit → weight p + nests S ≤ r.limit → GoesOn (in_row S) p ts
        → run r (operand S) (op p ts) ≡ run r (operand (op_of p S)) ts
    read_op (joined a o m us) S ts h c l v g =
        read_ex a S (term (w.Binary o) m ∷ signs us ts) h.2 (accepts_more S (level o) (tightness a) c h.0) (omega (arith, l)) (λ q. h.0)
        ∙ join_on a o (additive_of o) m S (signs us ts) refl c (omega (arith, l)) (sum_goes_on (in_row S) a o m us ts h.1 g)
        ∙ read_signs a o m us S ts h.1 v
    read_op (signed m s) S ts h a l v g = read_sign s m S ts a (omega (arith, l))
    read_op (from a m) S ts h c l v g = read_ex a S (term w.Colon m ∷ ts) h.1 (accepts_more S 6 (tightness a) c (omega (arith, h.0))) (omega (arith, l)) h.0 ∙ range_on a m S ts c (omega (arith, l))
    read_op (stepped a m b n) S ts h c l v g =
        let x : suc (height a) + nests S ≤ r.limit = omega (arith, left_room (height a) (height b) (suc (nests S)) r.limit (omega (arith, l))) in
        let y : height b + suc (nests S) ≤ r.limit = right_room (height a) (height b) (suc (nests S)) r.limit (omega (arith, l)) in
        read_ex a S (term w.Colon m ∷ ex b (term w.Colon n ∷ ts)) h.2 (accepts_more S 6 (tightness a) c (omega (arith, h.0))) (omega (arith, x)) h.0
        ∙ range_on a m S (ex b (term w.Colon n ∷ ts)) c (omega (arith, x))
        ∙ read_ex b (op_of (from a m) S) (term w.Colon n ∷ ts) h.3 h.1 (omega (arith, y)) h.1

    pub read_callee : (c : Callee) (S : Stack) (ts : List Terminal) → SoundCallee c → Accepts S 11 → callee_height c + nests S ≤ r.limit
        → run r (operand S) (callee c ts) ≡ run r (after (bare c) S) ts
    read_callee (head h) S ts i a l = read_head h S ts i
    read_callee (braced n m e z) S ts i a l =
        let opened : run r (after (bare (head (alone n))) S) (term w.OpenBrace m ∷ ex e (term w.CloseBrace z ∷ ts)) ≡ run r (operand (brace_of n m S)) (ex e (term w.CloseBrace z ∷ ts)) = rw (has_room r (suc (nests S)) (omega (arith, l))) refl in
        opened ∙ read_ex e (brace_of n m S) (term w.CloseBrace z ∷ ts) i tt (omega (arith, l)) tt ∙ ap (λ s. onward s (λ next. run r next ts) (suc (length ts))) (plain_brace n m e z S a)

    pub read_args : (g : Args) (c : Callee) (m : Mark) (S : Stack) (z : Mark) (ts : List Terminal) → SoundArgs g → args_height g + suc (nests S) ≤ r.limit
        → run r (operand (args_of c m fresh S)) (args g (term w.Close z ∷ ts)) ≡ onward (called c m g z S) (λ next. run r next ts) (suc (length ts))
    read_args no_args c m S z ts h l = refl
    read_args (listed es) c m S z ts h l = read_list es c m S (term w.Close z ∷ ts) h l (λ k. tt) ∙ list_close es c m S z ts

    pub read_list : (es : Elements) (c : Callee) (m : Mark) (S : Stack) (ts : List Terminal) → SoundElements false true es → elements_height es + suc (nests S) ≤ r.limit → Follows false ts
        → run r (operand (args_of c m fresh S)) (elements es ts) ≡ run r (item_state (last_item es) (args_of c m (before es) S)) ts
    read_list (one i) c m S ts h l f = read_list_item i c m fresh S ts h l f
    read_list (also es (written n) i) c m S ts h l f =
        read_list es c m S (term w.Comma n ∷ item i ts) h.0 (left_room (elements_height es) (item_height i) (suc (nests S)) r.limit l) (λ k. tt)
        ∙ list_comma es c m S n (item i ts)
        ∙ read_list_item i c m (behind es (written n)) S ts h.2 (right_room (elements_height es) (item_height i) (suc (nests S)) r.limit l) f
    read_list (also es space i) c m S ts h l f = let bad : false ≡ true = h.1.0 in cc

    pub read_list_item : (i : Item) (c : Callee) (m : Mark) (p : Pending) (S : Stack) (ts : List Terminal) → SoundItem false true i → item_height i + suc (nests S) ≤ r.limit → Follows false ts
        → run r (operand (args_of c m p S)) (item i ts) ≡ run r (item_state i (args_of c m p S)) ts
    read_list_item (value e) c m p S ts h l f = read_ex e (args_of c m p S) ts h tt l (f (tightness e))
    read_list_item (colon n) c m p S ts h l f = refl

    pub read_row : (es : Elements) (m : Mark) (rs : Rows) (S : Stack) (ts : List Terminal) → SoundElements true (in_index S) es → elements_height es + suc (nests S) ≤ r.limit → Follows true ts
        → run r (operand (row_of m rs fresh S)) (elements es ts) ≡ run r (item_state (last_item es) (row_of m rs (before es) S)) ts
    read_row (one i) m rs S ts h l f = read_row_item i m rs fresh S ts h l f
    read_row (also es (written n) i) m rs S ts h l f =
        read_row es m rs S (term w.Comma n ∷ item i ts) h.0 (left_room (elements_height es) (item_height i) (suc (nests S)) r.limit l) (λ k. tt)
        ∙ row_on es (in_index S) m rs S n (item i ts) h.0
        ∙ read_row_item i m rs (behind es (written n)) S ts h.2 (right_room (elements_height es) (item_height i) (suc (nests S)) r.limit l) f
    read_row (also es space (value e)) m rs S ts h l f =
        let b : Fore (row_of m rs (before es) S) (mark e) (sticks e) (ex e ts) = fore_ex e (row_of m rs (before es) S) true ts h.2 in
        read_row es m rs S (ex e ts) h.0 (left_room (elements_height es) (height e) (suc (nests S)) r.limit l) (λ k. space_stops k (row_of m rs (before es) S) (mark e) (sticks e) (ex e ts) b h.1.1.0 h.1.1.1)
        ∙ row_apart es (in_index S) m rs S (mark e) (sticks e) (ex e ts) h.0 b h.1.1.0 h.1.1.1
        ∙ read_row_item (value e) m rs (behind es space) S ts h.2 (right_room (elements_height es) (height e) (suc (nests S)) r.limit l) f
    read_row (also es space (colon n)) m rs S ts h l f = absurd h.1.1

    pub read_row_item : (i : Item) (m : Mark) (rs : Rows) (p : Pending) (S : Stack) (ts : List Terminal) → SoundItem true (in_index S) i → item_height i + suc (nests S) ≤ r.limit → Follows true ts
        → run r (operand (row_of m rs p S)) (item i ts) ≡ run r (item_state i (row_of m rs p S)) ts
    read_row_item (value e) m rs p S ts h l f = read_ex e (row_of m rs p S) ts h tt l (f (tightness e))
    read_row_item (colon n) m rs p S ts h l f = cc

    pub read_rows : (rs : Rows) (m : Mark) (S : Stack) (ts : List Terminal) → SoundRows (in_index S) rs → rows_height rs + suc (nests S) ≤ r.limit
        → run r (operand (row_of m no_rows fresh S)) (row_words rs ts) ≡ run r (operand (row_of m rs fresh S)) ts
    read_rows no_rows m S ts h l = refl
    read_rows (broken rs s) m S ts h l = read_rows rs m S (sep s ts) h.0 l ∙ break_fresh m rs S s.kind s.mark ts h.1
    read_rows (filled rs es u s) m S ts h l =
        read_rows rs m S (elements es (trail_words u (sep s ts))) h.0 (left_room (rows_height rs) (elements_height es) (suc (nests S)) r.limit l)
        ∙ read_row es m rs S (trail_words u (sep s ts)) h.1 (right_room (rows_height rs) (elements_height es) (suc (nests S)) r.limit l) (trail_follows u s.kind s.mark ts)
        ∙ row_filled es (in_index S) m rs S u s ts h.1 h.2
