-- A terminal where an operand has to come leads to a good state.
use Rattle.std.proofs.Common.{◌≡◌, ℕ, suc, ◌+◌, Bool, true, false, not, ◌&&◌, if◌then◌else◌, Option, Some, None, Ok, Err, refl, sym, subst, arith, ◌≤◌}
use Rattle.std.specs.Prelude.{nat_le, nat_eq, leb, max}
use Rattle.std.proofs.Math.Nat.{le-max_left, le-max_right, max-eq_left, max-eq_right}
use Rattle.std.proofs.lemmas.Bool.{leb-true, leb-false}
use Rattle.pl_syntax.specs.declared.expr.Bin.{Bin}
use Rattle.pl_grammar.specs.declared.terminal.Word.{Word}
use Rattle.pl_grammar.specs.declared.terminal.Word.TheVariants as w
use Rattle.pl_grammar.specs.Words.{Mark, Named, Additive, Sign, additive, tilde, additive_of, level, is_power, semicolon, line, Sep}
use Rattle.pl_grammar.specs.Derivations.{alone, dotted, no_signs, more_signs, Comma, written, space, Ex, number, chars, bare, call, state, paren, rows, rows_to, func, last, under, transposed, Op, joined, signed, from, stepped, Callee, head, braced, Args, no_args, Elements, one, also, Item, value, colon, Rows, no_rows, broken, filled, Tgt, entire, indexed, in_braces, Output, to, skip, Outputs, only, beside, shown, into, spread, Block}
use Rattle.pl_grammar.specs.Trees.{mark, callee_mark, tgt_mark}
use Rattle.pl_grammar.specs.Nesting.{weight, height, op_height, callee_height, args_height, elements_height, item_height, rows_height, tgt_height, output_height, skips, across, run_of, outputs_height}
use Rattle.pl_grammar.specs.Sound.{strength, wants, tightness, signs_stick, sticks, IsTight, IsRowBreak, IsSpaced, SoundEx, SoundCallee, SoundArgs, SoundElements, SoundItem, SoundTgt, SoundOutput, output_mark, SoundOutputs}
use Rattle.pl_grammar.specs.Programs.{Rules}
use Rattle.pl_grammar.specs.Machine.{Pending, fresh, behind, Outgoing, fresh_outs, behind_outs, Site, Stack, goal_of, lead_of, inner_of, outputs_of, op_of, paren_of, args_of, brace_of, row_of, State, operand, after, output, outputs_shut, site_nests, outgoing_run, nests, in_row, in_index}
use Rattle.pl_grammar.specs.Steps
use Rattle.pl_grammar.specs.Steps.{Step, Held, roomy, room, refused, reduce, run, step, onward, Answer, callee_tgt, tgt_of, set_out, set_tgt, pass, element_outputs, item_outputs, behind_all, row_outputs, pending_outputs, Outlist, as_outputs, called, embraced, read_operand, go_on, read_after, settle, ended}
use Rattle.pl_grammar.proofs.Basics.{level_most, level_jumps, Accepts}
use Rattle.pl_grammar.proofs.Reading.{Weak, plain_call, plain_brace}
use Rattle.pl_grammar.proofs.Sites.{Placed, Free, Led, PendingRow, pending_height, OutsSound, outs_height, IsNextOut, ListOn, BraceOn, OutsGood, StackGood, Fitting, Good, Fine}

-- ---- room

pub max_room : (a b n l : ℕ) → a + n ≤ l → b + n ≤ l → max a b + n ≤ l
max_room a b n l h j = by_order (leb b a) refl
  where
    by_order : (v : Bool) → leb b a ≡ v → max a b + n ≤ l
    by_order true g = let e : max a b ≡ a = max-eq_left (leb-true b a g) in omega (arith, e, h)
    by_order false g = let f : a ≤ b = omega (arith, leb-false b a g) in let e : max a b ≡ b = max-eq_right f in omega (arith, e, j)

pub decide : {A : Type 0} (P : A → Type 0) (v : Bool) (x y : A) → (v ≡ true → P x) → (v ≡ false → P y) → P (if v then x else y)
decide P true x y h j = h refl
decide P false x y h j = j refl

pub both_true : (a b : Bool) → (a && b) ≡ true → (a ≡ true) × (b ≡ true)
both_true true b h = (refl, h)
both_true false b h = cc

module _ (r : Rules) where
  pub there_is : (n : ℕ) → room r n ≡ true → n ≤ r.limit
  there_is n h = leb-true n r.limit h

  pub fine_roomy : (n : ℕ) (s : Step) → (n ≤ r.limit → Fine r s) → Fine r (roomy (room r n) s)
  fine_roomy n s h = by_room (room r n) refl
    where
      failed : (x : Step) → Fine r (roomy false x)
      failed (Ok st) = tt
      failed (Err f) = tt

      by_room : (v : Bool) → room r n ≡ v → Fine r (roomy v s)
      by_room true g = h (there_is n g)
      by_room false g = failed s

  pub stack_room : (S : Stack) → StackGood r S → nests S ≤ r.limit
  stack_room (goal_of g site b) h = omega (arith, h.3)
  stack_room (lead_of l spot) h = h.3
  stack_room (inner_of i spot) h = omega (arith, h.3)
  stack_room (outputs_of m p site b) h = omega (arith, h.4)
  stack_room (op_of p S) h = h.4
  stack_room (paren_of m S) h = h.2
  stack_room (args_of c m p S) h = omega (arith, h.3)
  stack_room (brace_of n m S) h = h.1
  stack_room (row_of m rs p S) h = omega (arith, h.4)

  -- ---- operators that take their operand

  pub accepts_at : (S : Stack) (k l : ℕ) → Accepts S k → Weak S l → Accepts S l
  accepts_at (goal_of g site b) k l h v = tt
  accepts_at (lead_of i spot) k l h v = tt
  accepts_at (inner_of i spot) k l h v = tt
  accepts_at (outputs_of m p site b) k l h v = h
  accepts_at (op_of (joined a o m us) S) k l h v = v
  accepts_at (op_of (signed m s) S) k l h v = omega (arith, v)
  accepts_at (op_of (from a m) S) k l h v = v
  accepts_at (op_of (stepped a m b n) S) k l h v = v
  accepts_at (paren_of m S) k l h v = tt
  accepts_at (args_of c m p S) k l h v = tt
  accepts_at (brace_of n m S) k l h v = tt
  accepts_at (row_of m rs p S) k l h v = tt

  wants_most : (p : Op) → wants p ≤ 11
  wants_most (joined a o m us) = omega (arith, level_most o)
  wants_most (signed m s) = omega arith
  wants_most (from a m) = omega arith
  wants_most (stepped a m b n) = omega arith

  pub accepts_all : (S : Stack) (k : ℕ) → Accepts S k → Accepts S 11
  accepts_all (goal_of g site b) k h = tt
  accepts_all (lead_of i spot) k h = tt
  accepts_all (inner_of i spot) k h = tt
  accepts_all (outputs_of m p site b) k h = h
  accepts_all (op_of p S) k h = wants_most p
  accepts_all (paren_of m S) k h = tt
  accepts_all (args_of c m p S) k h = tt
  accepts_all (brace_of n m S) k h = tt
  accepts_all (row_of m rs p S) k h = tt

  placed_under : (p : Op) (e : Ex) (S : Stack) → Led p S → Placed (mark e).gap (sticks e) (op_of p S) → Placed (mark (under p e)).gap (sticks (under p e)) S
  placed_under (joined a o m us) e S h j = h
  placed_under (signed m s) e S h j = j
  placed_under (from a m) e S h j = h
  placed_under (stepped a m b n) e S h j = h

  spaced_under : (p : Op) (e : Ex) (S : Stack) → Placed (mark e).gap (sticks e) (op_of p S) → IsSpaced (in_row S) p e
  spaced_under (joined a o m no_signs) e S h = h
  spaced_under (joined a o m (more_signs us n s)) e S h = tt
  spaced_under (signed m s) e S h = tt
  spaced_under (from a m) e S h = tt
  spaced_under (stepped a m b n) e S h = tt

  pub under_fits : (p : Op) (e : Ex) (S : Stack) → Fitting r e (op_of p S) → Fitting r (under p e) S
  under_fits p e S h = (h.0.0, (h.0.1, h.2, spaced_under p e S h.4, h.1), h.0.2, max_room (op_height p) (weight p + height e) (nests S) r.limit h.0.3 (omega (arith, h.3)), placed_under p e S h.0.5 h.4)

  -- what is left when the operators on top have taken the operand
  abbrev pub Left : ℕ → Bool → Held → Type 0
  Left l row h = Fitting r h.operand h.stack × (l ≤ tightness h.operand) × Weak h.stack l × (in_row h.stack ≡ row)

  pub reduce_good : (l : ℕ) (e : Ex) (S : Stack) → Fitting r e S → l ≤ tightness e → Left l (in_row S) (reduce l e S)
  reduce_good l e (goal_of g site b) h t = (h, t, tt, refl)
  reduce_good l e (lead_of i spot) h t = (h, t, tt, refl)
  reduce_good l e (inner_of i spot) h t = (h, t, tt, refl)
  reduce_good l e (outputs_of m p site b) h t = (h, t, tt, refl)
  reduce_good l e (op_of p S) h t =
      decide (λ x. Left l (in_row S) x) (nat_le l (strength p)) (reduce l (under p e) S) (record { operand = e; stack = op_of p S })
      (λ g. reduce_good l (under p e) S (under_fits p e S h) (leb-true l (strength p) g))
      (λ g. (h, t, leb-false l (strength p) g, refl))
  reduce_good l e (paren_of m S) h t = (h, t, tt, refl)
  reduce_good l e (args_of c m p S) h t = (h, t, tt, refl)
  reduce_good l e (brace_of n m S) h t = (h, t, tt, refl)
  reduce_good l e (row_of m rs p S) h t = (h, t, tt, refl)

  -- ---- what a word asks of the white space before it

  abbrev pub Enters : Word → Mark → Stack → Type 0
  Enters (w.Binary o) m S = (sticky : Bool) → Placed m.gap sticky S
  Enters word m S = Placed m.gap true S

  pub enters_free : (word : Word) (m : Mark) (S : Stack) → Free S → Enters word m S
  enters_free (w.Binary o) m S f = λ sticky. f m.gap sticky
  enters_free (w.Name n) m S f = f m.gap true
  enters_free word m S f = f m.gap true

  -- ---- lists and braces that close

  tight_row : (m : Mark) → m.gap ≡ false → IsTight true m
  tight_row m h = h

  next_list : (p : Outgoing) (n : Named) (m : Mark) (a : Args) (z : Mark) → IsNextOut p (to (entire n)) → IsNextOut p (to (indexed n m a z))
  next_list fresh_outs n m a z h = tt
  next_list (behind_outs os (written c)) n m a z h = tt
  next_list (behind_outs os space) n m a z h = h

  next_braces : (p : Outgoing) (n : Named) (m : Mark) (e : Ex) (z : Mark) → IsNextOut p (to (entire n)) → IsNextOut p (to (in_braces n m e z))
  next_braces fresh_outs n m e z h = tt
  next_braces (behind_outs os (written c)) n m e z h = tt
  next_braces (behind_outs os space) n m e z h = h

  call_after : (c : Callee) (m : Mark) (a : Args) (z : Mark) (S : Stack) → StackGood r S → SoundCallee c → SoundArgs a → callee_height c + nests S ≤ r.limit → args_height a + suc (nests S) ≤ r.limit
      → Accepts S 11 → IsTight (in_row S) m → Placed (callee_mark c).gap true S → Fine r (called c m a z S)
  call_after c m a z S g s i l v x t p = subst (λ y. Fine r y) (sym (plain_call r c m a z S x)) ((g, (s, t, i), x, max_room (callee_height c) (suc (args_height a)) (nests S) r.limit l (omega (arith, v)), p), omega arith)

  pub called_good : (c : Callee) (m : Mark) (a : Args) (z : Mark) (S : Stack) → StackGood r S → SoundCallee c → SoundArgs a → callee_height c + nests S ≤ r.limit → args_height a + suc (nests S) ≤ r.limit → ListOn c m S → Fine r (called c m a z S)
  called_good c m a z (goal_of x site b) g s i l v o = call_after c m a z (goal_of x site b) g s i l v tt o tt
  called_good c m a z (lead_of x spot) g s i l v o = call_after c m a z (lead_of x spot) g s i l v tt o tt
  called_good c m a z (inner_of x spot) g s i l v o = call_after c m a z (inner_of x spot) g s i l v tt o tt
  called_good (head (alone n)) m a z (outputs_of x p site b) g s i l v o = (g, next_list p n m a z o.1, (tight_row m o.0, i), omega (arith, v))
  called_good (head (dotted h d n)) m a z (outputs_of x p site b) g s i l v o = absurd o.1
  called_good (braced n j e y) m a z (outputs_of x p site b) g s i l v o = absurd o.1
  called_good c m a z (op_of p S) g s i l v o = call_after c m a z (op_of p S) g s i l v o.0 o.1 o.2
  called_good c m a z (paren_of x S) g s i l v o = call_after c m a z (paren_of x S) g s i l v tt o tt
  called_good c m a z (args_of d x p S) g s i l v o = call_after c m a z (args_of d x p S) g s i l v tt o tt
  called_good c m a z (brace_of x y S) g s i l v o = call_after c m a z (brace_of x y S) g s i l v tt o tt
  called_good c m a z (row_of x rs p S) g s i l v o = call_after c m a z (row_of x rs p S) g s i l v tt o.0 o.1

  brace_after : (n : Named) (m : Mark) (e : Ex) (z : Mark) (S : Stack) → StackGood r S → SoundEx false true e → suc (height e) + nests S ≤ r.limit → Accepts S 11 → Placed n.mark.gap true S → Fine r (embraced n m e z S)
  brace_after n m e z S g s l x p = subst (λ y. Fine r y) (sym (plain_brace r n m e z S x)) ((g, s, x, l, p), omega arith)

  pub embraced_good : (n : Named) (m : Mark) (e : Ex) (z : Mark) (S : Stack) → StackGood r S → SoundEx false true e → suc (height e) + nests S ≤ r.limit → BraceOn n S → Fine r (embraced n m e z S)
  embraced_good n m e z (goal_of x site b) g s l o = brace_after n m e z (goal_of x site b) g s l tt tt
  embraced_good n m e z (lead_of x spot) g s l o = brace_after n m e z (lead_of x spot) g s l tt tt
  embraced_good n m e z (inner_of x spot) g s l o = brace_after n m e z (inner_of x spot) g s l tt tt
  embraced_good n m e z (outputs_of x p site b) g s l o = (g, next_braces p n m e z o, s, omega (arith, l))
  embraced_good n m e z (op_of p S) g s l o = brace_after n m e z (op_of p S) g s l o.0 o.1
  embraced_good n m e z (paren_of x S) g s l o = brace_after n m e z (paren_of x S) g s l tt tt
  embraced_good n m e z (args_of d x p S) g s l o = brace_after n m e z (args_of d x p S) g s l tt tt
  embraced_good n m e z (brace_of x y S) g s l o = brace_after n m e z (brace_of x y S) g s l tt tt
  embraced_good n m e z (row_of x rs p S) g s l o = brace_after n m e z (row_of x rs p S) g s l tt o

  -- ---- signs

  raise_good : (x : Sign) (m : Mark) (S : Stack) → StackGood r S → Accepts S 9 → ((gap : Bool) → Placed m.gap (signs_stick x gap) S) → Fine r (Steps.raise r x m S)
  raise_good x m S g a t = fine_roomy (suc (nests S)) (Ok (operand (op_of (signed m x) S))) (λ l. ((g, tt, a, omega (arith, l), omega (arith, l), tt), (λ gap sticky. t gap), omega arith))

  not_power : (o : Bin) → is_power o ≡ false → suc (level o) ≤ 9
  not_power o h = by_level (level o) h (level_jumps o) (level_most o)
    where
      by_level : (n : ℕ) → nat_eq n 10 ≡ false → (9 ≤ n → 10 ≤ n) → n ≤ 10 → suc n ≤ 9
      by_level n f j k = by_nine (leb 9 n) refl
        where
          ten : (x : ℕ) → x ≡ 10 → nat_eq x 10 ≡ false → ⊥
          ten x e f = let bad : nat_eq 10 10 ≡ false = rw e at f in cc

          by_nine : (v : Bool) → leb 9 n ≡ v → suc n ≤ 9
          by_nine true g = absurd (let h : 10 ≤ n = j (leb-true 9 n g) in ten n (omega (arith, h, k)) f)
          by_nine false g = omega (arith, leb-false 9 n g)

  sign_good : (x : Sign) (m : Mark) (S : Stack) → StackGood r S → Accepts S 11 → ((gap : Bool) → Placed m.gap (signs_stick x gap) S) → Fine r (Steps.sign r x m S)
  sign_good x m (op_of (joined a o n us) S) g c t =
      decide (λ y. Fine r y) (is_power o) (roomy (room r (suc (nests (op_of (joined a o n us) S)))) (Ok (operand (op_of (joined a o n (more_signs us m x)) S)))) (Steps.raise r x m (op_of (joined a o n us) S))
      (λ e. fine_roomy (suc (nests (op_of (joined a o n us) S))) (Ok (operand (op_of (joined a o n (more_signs us m x)) S)))
      (λ l. ((g.0, (g.1.0, e, g.1.2), g.2, g.3, omega (arith, l), g.5), (λ gap sticky. tt), omega (arith, level_most o))))
      (λ e. raise_good x m (op_of (joined a o n us) S) g (not_power o e) t)
  sign_good x m (op_of (signed n y) S) g c t = raise_good x m (op_of (signed n y) S) g (omega arith) t
  sign_good x m (op_of (from a n) S) g c t = raise_good x m (op_of (from a n) S) g (omega arith) t
  sign_good x m (op_of (stepped a n b o) S) g c t = raise_good x m (op_of (stepped a n b o) S) g (omega arith) t
  sign_good x m (lead_of l spot) g c t = raise_good x m (lead_of l spot) g c t
  sign_good x m (inner_of i spot) g c t = raise_good x m (inner_of i spot) g c t
  sign_good x m (paren_of o S) g c t = raise_good x m (paren_of o S) g c t
  sign_good x m (args_of f o q S) g c t = raise_good x m (args_of f o q S) g c t
  sign_good x m (brace_of o q S) g c t = raise_good x m (brace_of o q S) g c t
  sign_good x m (row_of o rs q S) g c t = raise_good x m (row_of o rs q S) g c t
  sign_good x m (outputs_of o q site b) g c t = absurd c
  sign_good x m (goal_of h site b) g c t = raise_good x m (goal_of h site b) g tt t

  additive_good : (ad : Option Additive) (m : Mark) (S : Stack) → StackGood r S → Accepts S 11 → ((sticky : Bool) → Placed m.gap sticky S) → Fine r (Steps.sign_of r ad m S)
  additive_good None m S g c t = tt
  additive_good (Some a) m S g c t = sign_good (additive a) m S g c (λ gap. t (not gap))

  -- ---- outputs that frames stand for

  -- outputs that a row's elements are
  abbrev pub OutputsOk : ℕ → Outgoing → Outputs → ℕ → Type 0
  OutputsOk n p os h = SoundOutputs os × (run_of os ≡ 0) × (outputs_height os ≤ max (outs_height p) (outgoing_run p + h))

  set_sound : (p : Outgoing) (gap : Bool) (o : Output) (os : Outputs) → set_out p gap o ≡ Some os → (output_mark o).gap ≡ gap → OutsSound p → SoundOutput o → SoundOutputs os
  set_sound fresh_outs gap o os h e s t = let f : only o ≡ os = cc in subst (λ x. SoundOutputs x) f t
  set_sound (behind_outs x (written c)) gap o os h e s t = let f : beside x (written c) o ≡ os = cc in subst (λ y. SoundOutputs y) f (s, tt, t)
  set_sound (behind_outs x space) true o os h e s t = let f : beside x space o ≡ os = cc in subst (λ y. SoundOutputs y) f (s, e, t)
  set_sound (behind_outs x space) false o os h e s t = cc

  set_height : (p : Outgoing) (gap : Bool) (o : Output) (os : Outputs) → set_out p gap o ≡ Some os → outputs_height os ≤ max (outs_height p) (outgoing_run p + output_height o)
  set_height fresh_outs gap o os h = let f : only o ≡ os = cc in subst (λ x. outputs_height x ≤ max 0 (0 + output_height o)) f (omega (arith, le-max_right 0 (0 + output_height o)))
  set_height (behind_outs x (written c)) gap o os h = let f : beside x (written c) o ≡ os = cc in subst (λ y. outputs_height y ≤ max (outputs_height x) (0 + output_height o)) f (omega arith)
  set_height (behind_outs x space) true o os h = let f : beside x space o ≡ os = cc in subst (λ y. outputs_height y ≤ max (outputs_height x) (run_of x + output_height o)) f (omega arith)
  set_height (behind_outs x space) false o os h = cc

  set_run : (p : Outgoing) (gap : Bool) (o : Output) (os : Outputs) → set_out p gap o ≡ Some os → run_of os ≡ skips o (outgoing_run p)
  set_run fresh_outs gap o os h = let f : only o ≡ os = cc in subst (λ x. run_of x ≡ skips o 0) f refl
  set_run (behind_outs x (written c)) gap o os h = let f : beside x (written c) o ≡ os = cc in subst (λ y. run_of y ≡ skips o 0) f refl
  set_run (behind_outs x space) true o os h = let f : beside x space o ≡ os = cc in subst (λ y. run_of y ≡ skips o (run_of x)) f refl
  set_run (behind_outs x space) false o os h = cc

  -- a target that an element is
  pub tgt_sound : (row : Bool) (e : Ex) (t : Tgt) → tgt_of e ≡ Some t → SoundEx row false e → SoundTgt row t × (tgt_height t ≤ height e)
  tgt_sound row (bare (head (alone n))) t h s = let f : entire n ≡ t = cc in subst (λ x. SoundTgt row x × (tgt_height x ≤ 0)) f (tt, omega arith)
  tgt_sound row (bare (head (dotted i m n))) t h s = cc
  tgt_sound row (bare (braced n m e z)) t h s = let f : in_braces n m e z ≡ t = cc in subst (λ x. SoundTgt row x × (tgt_height x ≤ suc (height e))) f (s, omega arith)
  tgt_sound row (call (head (alone n)) m a z) t h s = let f : indexed n m a z ≡ t = cc in subst (λ x. SoundTgt row x × (tgt_height x ≤ max 0 (suc (args_height a)))) f ((s.1, s.2), le-max_right 0 (suc (args_height a)))
  tgt_sound row (call (head (dotted i j n)) m a z) t h s = cc
  tgt_sound row (call (braced n i e j) m a z) t h s = cc
  tgt_sound row (number m z) t h s = cc
  tgt_sound row e t h s = cc

  out_of_tgt : (p : Outgoing) (x : Option Tgt) (e : Ex) (os : Outputs) → tgt_of e ≡ x → set_tgt p x ≡ Some os → OutsSound p → SoundEx true false e → OutputsOk 0 p os (height e)
  out_of_tgt p None e os g h s d = cc
  out_of_tgt p (Some t) e os g h s d =
      let f : SoundTgt true t × (tgt_height t ≤ height e) = tgt_sound true e t g d in
      let hh : outputs_height os ≤ max (outs_height p) (outgoing_run p + tgt_height t) = set_height p (tgt_mark t).gap (to t) os h in
      (set_sound p (tgt_mark t).gap (to t) os h refl s f.0, set_run p (tgt_mark t).gap (to t) os h, omega (arith, hh, max_mono (outs_height p) (outgoing_run p + tgt_height t) (outgoing_run p + height e) (omega (arith, f.1))))
    where
      max_mono : (a b c : ℕ) → b ≤ c → max a b ≤ max a c
      max_mono a b c h = let x : max a b + 0 ≤ max a c = max_room a b 0 (max a c) (omega (arith, le-max_left a c)) (omega (arith, le-max_right a c, h)) in omega (arith, x)

  element_sound : (e : Ex) (p : Outgoing) (os : Outputs) → element_outputs p e ≡ Some os → OutsSound p → SoundEx true false e → OutputsOk 0 p os (height e)
  element_sound (under (signed m tilde) e) p os h s d = passed (λ q f t. element_sound e q os f t d.3) (set_out p m.gap (skip m)) refl h
    where
      passed : ((q : Outgoing) → element_outputs q e ≡ Some os → OutsSound q → OutputsOk 0 q os (height e)) → (x : Option Outputs) → set_out p m.gap (skip m) ≡ x → pass x (λ q. element_outputs q e) ≡ Some os → OutputsOk 0 p os (max 1 (1 + height e))
      passed ih None g f = cc
      passed ih (Some xs) g f =
          let i : OutputsOk 0 (behind_outs xs space) os (height e) = ih (behind_outs xs space) f (set_sound p m.gap (skip m) xs g refl s tt) in
          let M : ℕ = max (outs_height p) (outgoing_run p + max 1 (1 + height e)) in
          let x : outgoing_run p + max 1 (1 + height e) ≤ M = le-max_right (outs_height p) (outgoing_run p + max 1 (1 + height e)) in
          let y : 1 + height e ≤ max 1 (1 + height e) = le-max_right 1 (1 + height e) in
          let u : max (outs_height p) (outgoing_run p + 1) + 0 ≤ M = max_room (outs_height p) (outgoing_run p + 1) 0 M (omega (arith, le-max_left (outs_height p) (outgoing_run p + max 1 (1 + height e)))) (omega (arith, x, y)) in
          let v : outputs_height xs ≤ max (outs_height p) (outgoing_run p + 1) = set_height p m.gap (skip m) xs g in
          let z : max (outputs_height xs) (run_of xs + height e) + 0 ≤ M = max_room (outputs_height xs) (run_of xs + height e) 0 M (omega (arith, u, v)) (omega (arith, set_run p m.gap (skip m) xs g, x, y)) in
          (i.0, i.1, omega (arith, i.2, z))
  element_sound (under (signed m (additive a)) e) p os h s d = cc
  element_sound (under (joined a o m us) e) p os h s d = cc
  element_sound (under (from a m) e) p os h s d = cc
  element_sound (under (stepped a m b n) e) p os h s d = cc
  element_sound (bare c) p os h s d = out_of_tgt p (tgt_of (bare c)) (bare c) os refl h s d
  element_sound (call c m a z) p os h s d = out_of_tgt p (tgt_of (call c m a z)) (call c m a z) os refl h s d
  element_sound (number m z) p os h s d = cc
  element_sound (chars m z) p os h s d = cc
  element_sound (state e d' m) p os h s d = cc
  element_sound (paren m e z) p os h s d = cc
  element_sound (rows m rs z) p os h s d = cc
  element_sound (rows_to m rs es t z) p os h s d = cc
  element_sound (func m n) p os h s d = cc
  element_sound (last m) p os h s d = cc
  element_sound (transposed e m) p os h s d = cc

  flat : (c : Comma) (n : ℕ) → n ≡ 0 → across c n ≡ 0
  flat (written m) n h = refl
  flat space n h = h

  -- the outputs of a row's elements
  abbrev pub RowOk : Outputs → ℕ → Type 0
  RowOk os n = SoundOutputs os × (run_of os ≡ 0) × (outputs_height os ≤ n)

  item_row : (i : Item) (p : Outgoing) (os : Outputs) (n : ℕ) → item_outputs p i ≡ Some os → OutsSound p → outgoing_run p ≡ 0 → SoundItem true false i → outs_height p ≤ n → item_height i ≤ n → RowOk os n
  item_row (colon m) p os n h s z d x y = cc
  item_row (value e) p os n h s z d x y =
      let o : OutputsOk 0 p os (height e) = element_sound e p os h s d in
      let v : max (outs_height p) (outgoing_run p + height e) + 0 ≤ n = max_room (outs_height p) (outgoing_run p + height e) 0 n (omega (arith, x)) (omega (arith, y, z)) in
      (o.0, o.1, omega (arith, o.2, v))

  pub row_sound : (es : Elements) (os : Outputs) → row_outputs es ≡ Some os → SoundElements true false es → RowOk os (elements_height es)
  row_sound (one i) os h d = item_row i fresh_outs os (item_height i) h tt refl d (omega arith) (omega arith)
  row_sound (also es c i) os h d = beyond (λ xs g. row_sound es xs g d.0) (row_outputs es) refl h
    where
      beyond : ((xs : Outputs) → row_outputs es ≡ Some xs → RowOk xs (elements_height es)) → (x : Option Outputs) → row_outputs es ≡ x → behind_all x c (λ p. item_outputs p i) ≡ Some os → RowOk os (max (elements_height es) (item_height i))
      beyond ih None g f = cc
      beyond ih (Some xs) g f =
          let k : RowOk xs (elements_height es) = ih xs g in
          item_row i (behind_outs xs c) os (max (elements_height es) (item_height i)) f k.0 (flat c (run_of xs) k.1) d.2 (omega (arith, k.2, le-max_left (elements_height es) (item_height i))) (omega (arith, le-max_right (elements_height es) (item_height i)))

  -- the outputs that frames stand for
  abbrev OutlistOk : Outlist → ℕ → Type 0
  OutlistOk l n = OutsGood r l.outputs l.site l.block × (n ≡ outgoing_run l.outputs + suc (suc (site_nests l.site)))

  as_outputs_good : (S : Stack) (l : Outlist) → as_outputs S ≡ Some l → StackGood r S → OutlistOk l (nests S)
  as_outputs_good (row_of m no_rows p (goal_of shown site b)) l h g = by_pending (pending_outputs p) p refl h g.3 g.5
    where
      made : (q : Outgoing) → Steps.outlist m site b (Some q) ≡ Some l → OutsSound q → outgoing_run q ≡ 0 → outs_height q + suc (suc (site_nests site)) ≤ r.limit → OutlistOk l (suc (suc (site_nests site)))
      made q f s z v =
          let e : record { mark = m; outputs = q; site = site; block = b } ≡ l = cc in
          subst (λ x. OutlistOk x (suc (suc (site_nests site)))) e ((g.0.0, g.0.1, s, v, omega (arith, z, g.4)), omega (arith, z))

      by_row : (es : Elements) (c : Comma) (y : Option Outputs) → row_outputs es ≡ y → Steps.outlist m site b (pending_outputs (behind es c)) ≡ Some l → SoundElements true false es → elements_height es + suc (suc (site_nests site)) ≤ r.limit → OutlistOk l (suc (suc (site_nests site)))
      by_row es c None e f s v = let bad : Steps.outlist m site b None ≡ Some l = rw e at f in cc
      by_row es c (Some os) e f s v =
          let k : RowOk os (elements_height es) = row_sound es os e s in
          let f' : Steps.outlist m site b (Some (behind_outs os c)) ≡ Some l = rw e at f in
          made (behind_outs os c) f' k.0 (flat c (run_of os) k.1) (omega (arith, v, k.2))

      by_pending : (x : Option Outgoing) (q : Pending) → pending_outputs q ≡ x → Steps.outlist m site b (pending_outputs q) ≡ Some l → PendingRow false q → pending_height q + suc (suc (site_nests site)) ≤ r.limit → OutlistOk l (suc (suc (site_nests site)))
      by_pending x fresh e f s v = made fresh_outs f tt refl v
      by_pending x (behind es c) e f s v = by_row es c (row_outputs es) refl f s v
  as_outputs_good (op_of (signed m tilde) S) l h g = by_below (λ x e. as_outputs_good S x e g.0) (as_outputs S) refl h
    where
      by_set : (x : Outlist) (y : Option Outputs) → OutlistOk x (nests S) → set_out x.outputs m.gap (skip m) ≡ y → Steps.skip_in m x y ≡ Some l → OutlistOk l (1 + nests S)
      by_set x None i e f = cc
      by_set x (Some os) i e f =
          let e' : record { mark = x.mark; outputs = behind_outs os space; site = x.site; block = x.block } ≡ l = cc in
          let n : ℕ = suc (suc (site_nests x.site)) in
          let sn : run_of os ≡ suc (outgoing_run x.outputs) = set_run x.outputs m.gap (skip m) os e in
          let v : max (outs_height x.outputs) (outgoing_run x.outputs + 1) + n ≤ r.limit = max_room (outs_height x.outputs) (outgoing_run x.outputs + 1) n r.limit i.0.3 (omega (arith, i.1, g.4)) in
          subst (λ y. OutlistOk y (1 + nests S)) e' ((i.0.0, i.0.1, set_sound x.outputs m.gap (skip m) os e refl i.0.2 tt, omega (arith, set_height x.outputs m.gap (skip m) os e, v), omega (arith, sn, i.1, g.4)), omega (arith, sn, i.1))

      by_below : ((x : Outlist) → as_outputs S ≡ Some x → OutlistOk x (nests S)) → (x : Option Outlist) → as_outputs S ≡ x → Steps.skip_onto m x ≡ Some l → OutlistOk l (1 + nests S)
      by_below ih None e f = cc
      by_below ih (Some x) e f = by_set x (set_out x.outputs m.gap (skip m)) (ih x e) refl f
  as_outputs_good (row_of m (broken rs s) p S) l h g = cc
  as_outputs_good (row_of m (filled rs es t s) p S) l h g = cc
  as_outputs_good (row_of m no_rows p (goal_of (into t q) site b)) l h g = cc
  as_outputs_good (row_of m no_rows p (goal_of (spread n os z q) site b)) l h g = cc
  as_outputs_good (row_of m no_rows p (lead_of i spot)) l h g = cc
  as_outputs_good (row_of m no_rows p (inner_of i spot)) l h g = cc
  as_outputs_good (row_of m no_rows p (outputs_of n o site b)) l h g = cc
  as_outputs_good (row_of m no_rows p (op_of o S)) l h g = cc
  as_outputs_good (row_of m no_rows p (paren_of n S)) l h g = cc
  as_outputs_good (row_of m no_rows p (args_of c n o S)) l h g = cc
  as_outputs_good (row_of m no_rows p (brace_of n o S)) l h g = cc
  as_outputs_good (row_of m no_rows p (row_of n rs o S)) l h g = cc
  as_outputs_good (op_of (signed m (additive a)) S) l h g = cc
  as_outputs_good (op_of (joined a o m us) S) l h g = cc
  as_outputs_good (op_of (from a m) S) l h g = cc
  as_outputs_good (op_of (stepped a m b n) S) l h g = cc
  as_outputs_good (goal_of x site b) l h g = cc
  as_outputs_good (lead_of i spot) l h g = cc
  as_outputs_good (inner_of i spot) l h g = cc
  as_outputs_good (outputs_of n o site b) l h g = cc
  as_outputs_good (paren_of n S) l h g = cc
  as_outputs_good (args_of c n o S) l h g = cc
  as_outputs_good (brace_of n o S) l h g = cc

  then_good : (S : Stack) (x : Option Outlist) (go : Mark → Outputs → Site → Block → State) → as_outputs S ≡ x → StackGood r S
      → ((m : Mark) (os : Outputs) (c : Comma) (site : Site) (b : Block) → OutsGood r (behind_outs os c) site b → Good r (go m os site b)) → Fine r (Steps.outputs_then x go)
  then_good S None go h g f = tt
  then_good S (Some l) go h g f = by_outs l.outputs refl
    where
      by_outs : (o : Outgoing) → l.outputs ≡ o → Fine r (Steps.outputs_then (Some (record { mark = l.mark; outputs = o; site = l.site; block = l.block })) go)
      by_outs fresh_outs e = tt
      by_outs (behind_outs os c) e = let k : OutsGood r l.outputs l.site l.block = (as_outputs_good S l h g).0 in f l.mark os c l.site l.block (subst (λ y. OutsGood r y l.site l.block) e k)

  comma_empty_good : (c : Mark) (S : Stack) → StackGood r S → Fine r (Steps.comma_empty c S)
  comma_empty_good c (op_of p S) g = then_good (op_of p S) (as_outputs (op_of p S)) (λ m os site b. output m (behind_outs os (written c)) site b) refl g (λ m os x site b o. ((o.0, o.1, o.2, o.3, omega (arith, o.3)), (λ y. tt)))
  comma_empty_good c (goal_of g site b) h = tt
  comma_empty_good c (lead_of l spot) h = tt
  comma_empty_good c (inner_of i spot) h = tt
  comma_empty_good c (outputs_of o q site b) h = tt
  comma_empty_good c (paren_of o S) h = tt
  comma_empty_good c (args_of f o q S) h = tt
  comma_empty_good c (brace_of o q S) h = tt
  comma_empty_good c (row_of o rs q S) h = tt

  square_row_good : (m : Mark) (rs : Rows) (p : Pending) (S : Stack) (z : Mark) → StackGood r (row_of m rs p S) → Fine r (Steps.square_row m rs p S z)
  square_row_good m rs fresh S z g = ((g.0, g.2, g.1, omega (arith, g.4), g.6), omega arith)
  square_row_good m rs (behind es (written c)) S z g = ((g.0, (g.2, g.3), g.1, omega (arith, max_room (rows_height rs) (elements_height es) (suc (nests S)) r.limit g.4 g.5), g.6), omega arith)
  square_row_good m rs (behind es space) S z g = tt

  square_empty_good : (z : Mark) (S : Stack) → StackGood r S → Fine r (Steps.square_empty z S)
  square_empty_good z (row_of m rs p S) g = square_row_good m rs p S z g
  square_empty_good z (op_of p S) g = then_good (op_of p S) (as_outputs (op_of p S)) (λ m os site b. outputs_shut m os z site b) refl g (λ m os x site b o. (o.0, o.1, o.2, o.3))
  square_empty_good z (goal_of g site b) h = tt
  square_empty_good z (lead_of l spot) h = tt
  square_empty_good z (inner_of i spot) h = tt
  square_empty_good z (outputs_of o q site b) h = tt
  square_empty_good z (paren_of o S) h = tt
  square_empty_good z (args_of f o q S) h = tt
  square_empty_good z (brace_of o q S) h = tt

  close_empty_good : (z : Mark) (S : Stack) → StackGood r S → Fine r (Steps.close_empty z S)
  close_empty_good z (args_of c m fresh S) g = called_good c m no_args z S g.0 g.1 tt g.4 g.3 g.5
  close_empty_good z (args_of c m (behind es x) S) g = tt
  close_empty_good z (goal_of g site b) h = tt
  close_empty_good z (lead_of l spot) h = tt
  close_empty_good z (inner_of i spot) h = tt
  close_empty_good z (outputs_of o q site b) h = tt
  close_empty_good z (op_of p S) h = tt
  close_empty_good z (paren_of o S) h = tt
  close_empty_good z (brace_of o q S) h = tt
  close_empty_good z (row_of o rs q S) h = tt

  break_row_good : (m : Mark) (rs : Rows) (p : Pending) (S : Stack) (s : Sep) → IsRowBreak s.kind → StackGood r (row_of m rs p S) → Fine r (Steps.break_row m rs p S s)
  break_row_good m rs fresh S s k g = ((g.0, g.1, (g.2, k), tt, g.4, omega (arith, g.4), g.6), (λ gap sticky. tt), tt)
  break_row_good m rs (behind es (written c)) S s k g = ((g.0, g.1, (g.2, g.3, k), tt, max_room (rows_height rs) (elements_height es) (suc (nests S)) r.limit g.4 g.5, omega (arith, g.4), g.6), (λ gap sticky. tt), tt)
  break_row_good m rs (behind es space) S s k g = tt

  break_empty_good : (s : Sep) (S : Stack) → IsRowBreak s.kind → StackGood r S → Fine r (Steps.break_empty s S)
  break_empty_good s (row_of m rs p S) k g = break_row_good m rs p S s k g
  break_empty_good s (goal_of g site b) k h = tt
  break_empty_good s (lead_of l spot) k h = tt
  break_empty_good s (inner_of i spot) k h = tt
  break_empty_good s (outputs_of o q site b) k h = tt
  break_empty_good s (op_of p S) k h = tt
  break_empty_good s (paren_of o S) k h = tt
  break_empty_good s (args_of f o q S) k h = tt
  break_empty_good s (brace_of o q S) k h = tt

  colon_arg_good : (m : Mark) (S : Stack) → StackGood r S → Fine r (Steps.colon_arg m S)
  colon_arg_good m (args_of f o q S) g = (g, tt)
  colon_arg_good m (goal_of g site b) h = tt
  colon_arg_good m (lead_of l spot) h = tt
  colon_arg_good m (inner_of i spot) h = tt
  colon_arg_good m (outputs_of o q site b) h = tt
  colon_arg_good m (op_of p S) h = tt
  colon_arg_good m (paren_of o S) h = tt
  colon_arg_good m (brace_of o q S) h = tt
  colon_arg_good m (row_of o rs q S) h = tt

  -- ---- a word where an operand has to come

  pub operand_good : (word : Word) (m : Mark) (S : Stack) → StackGood r S → Accepts S 11 → Enters word m S → Fine r (read_operand r word m S)
  operand_good (w.Name n) m S g a e = ((g, tt, a, omega (arith, stack_room S g), e), omega arith)
  operand_good (w.Chars cs) m S g a e = ((g, tt, a, omega (arith, stack_room S g), e), omega arith)
  operand_good (w.Number z) m S g a e = ((g, tt, a, omega (arith, stack_room S g), e), omega arith)
  operand_good (w.Binary o) m S g a e = additive_good (additive_of o) m S g a e
  operand_good w.Not m S g a e = sign_good tilde m S g a (λ gap. e)
  operand_good w.Quote m S g a e = tt
  operand_good w.Equal m S g a e = tt
  operand_good w.Colon m S g a e = colon_arg_good m S g
  operand_good w.Comma m S g a e = comma_empty_good m S g
  operand_good w.Semicolon m S g a e = break_empty_good (record { kind = semicolon; mark = m }) S tt g
  operand_good w.LineEnd m S g a e = break_empty_good (record { kind = line; mark = m }) S tt g
  operand_good w.Open m S g a e = fine_roomy (suc (nests S)) (Ok (operand (paren_of m S))) (λ l. ((g, a, l, e), (λ gap sticky. tt), tt))
  operand_good w.Close m S g a e = close_empty_good m S g
  operand_good w.OpenSquare m S g a e = fine_roomy (suc (nests S)) (Ok (operand (row_of m no_rows fresh S))) (λ l. ((g, a, tt, tt, omega (arith, l), omega (arith, l), e), (λ gap sticky. tt), tt))
  operand_good w.CloseSquare m S g a e = square_empty_good m S g
  operand_good w.OpenBrace m S g a e = tt
  operand_good w.CloseBrace m S g a e = tt
  operand_good w.At m S g a e = (g, a, e, stack_room S g)
  operand_good w.Dot m S g a e = tt
  operand_good (w.Key word) m S g a e =
      decide (λ x. Fine r x) (Steps.end_word word && in_index S) (Ok (after (last m) S)) refused
      (λ h. let i : in_index S ≡ true = (both_true (Steps.end_word word) (in_index S) h).1 in ((g, i, a, omega (arith, stack_room S g), e), omega arith)) (λ h. tt)
