-- A terminal where an operand has come leads to a good state.
use Rattle.std.proofs.Common.{◌≡◌, ℕ, suc, ◌+◌, Bool, true, false, ◌&&◌, if◌then◌else◌, Option, Some, None, Ok, refl, arith, ◌≤◌}
use Rattle.std.specs.Prelude.{max, is_some}
use Rattle.std.proofs.Math.Nat.{le-max_right}
use Rattle.pl_syntax.specs.declared.expr.Bin.{Bin}
use Rattle.pl_syntax.specs.declared.expr.Bin.TheVariants as bin
use Rattle.pl_grammar.specs.declared.terminal.Word.{Word}
use Rattle.pl_grammar.specs.declared.terminal.Word.TheVariants as w
use Rattle.pl_grammar.specs.declared.terminal.Keyword.{Keyword}
use Rattle.pl_grammar.specs.declared.terminal.Keyword.TheVariants as k
use Rattle.pl_grammar.specs.Words.{Mark, term, mark_of, Named, named, Additive, bin_of, Sign, additive, tilde, sign_word, additive_of, level, is_power, SepKind, comma, semicolon, line, Sep, sep_word, Use, tests, loops, direct, plain, leaves, ends, defines, unused, use_of, is_link, follows, Dots, whole, stem, neither, dots, is_state}
use Rattle.pl_grammar.specs.Derivations.{alone, dotted, no_signs, written, space, no_trail, trail, Ex, number, bare, call, rows, rows_to, transposed, joined, signed, from, stepped, Callee, head, braced, listed, Elements, Item, value, Rows, no_rows, broken, filled, Tgt, entire, indexed, in_braces, Outputs, Goal, shown, into, spread, each_in, bound, workers, upto, Part, headed, Block, empty}
use Rattle.pl_grammar.specs.Trees.{mark, callee_mark}
use Rattle.pl_grammar.specs.Nesting.{height, args_height, elements_height, item_height, rows_height, tgt_height, outputs_height, goal_height, inner_height, part_height, smt_height, block_height, opened_height}
use Rattle.pl_grammar.specs.Sound.{has_state, tightness, sticks, IsTight, IsRowBreak, SoundEx, SoundElements, SoundItem, SoundTgt, SoundGoal, Scene, SoundPart, part_word, SoundSmt}
use Rattle.pl_grammar.specs.Programs.{Rules}
use Rattle.pl_grammar.specs.Machine.{Pending, fresh, behind, put, Site, Spot, here, linked, Stack, goal_of, lead_of, inner_of, outputs_of, op_of, paren_of, args_of, brace_of, row_of, operand, after, torn, dot, site_nests, scene, enter, nests, in_row, in_index}
use Rattle.pl_grammar.specs.Steps
use Rattle.pl_grammar.specs.Steps.{Step, Held, roomy, room, refused, reduce, run, step, onward, Answer, callee_tgt, tgt_of, set_out, set_tgt, pass, element_outputs, item_outputs, behind_all, row_outputs, pending_outputs, Outlist, as_outputs, called, embraced, read_operand, go_on, read_after, settle, ended}
use Rattle.pl_grammar.proofs.Basics.{level_most, Accepts}
use Rattle.pl_grammar.proofs.Reading.{Weak}
use Rattle.pl_grammar.proofs.Operands.{max_room, decide, both_true, fine_roomy, accepts_at, Left, reduce_good, Enters, called_good, embraced_good, tgt_sound, RowOk, row_sound, operand_good}
use Rattle.pl_grammar.proofs.Sites.{Placed, PendingArgs, PendingRow, pending_height, ListOn, BraceOn, BlockGood, SpotGood, Fits, spot_room, StackGood, Fitting, AfterGood, Good, Fine}

level_gap : (o : Bin) → suc (level o) ≤ 7 → suc (level o) ≤ 6
level_gap bin.OrElse h = omega (arith, h)
level_gap bin.AndAlso h = omega (arith, h)
level_gap bin.Or h = omega (arith, h)
level_gap bin.And h = omega (arith, h)
level_gap bin.Lt h = omega (arith, h)
level_gap bin.Le h = omega (arith, h)
level_gap bin.Gt h = omega (arith, h)
level_gap bin.Ge h = omega (arith, h)
level_gap bin.Eq h = omega (arith, h)
level_gap bin.Ne h = omega (arith, h)
level_gap bin.Add h = omega (arith, h)
level_gap bin.Sub h = omega (arith, h)
level_gap bin.Mul h = omega (arith, h)
level_gap bin.Div h = omega (arith, h)
level_gap bin.DotMul h = omega (arith, h)
level_gap bin.DotDiv h = omega (arith, h)
level_gap bin.Pow h = omega (arith, h)
level_gap bin.DotPow h = omega (arith, h)

and_false : (x : Bool) → (x && false) ≡ false
and_false true = refl
and_false false = refl

pub put_args : (p : Pending) (i : Item) → PendingArgs p → SoundItem false true i → SoundElements false true (put p i)
put_args fresh i h d = d
put_args (behind es (written c)) i h d = (h.0, tt, d)
put_args (behind es space) i h d = absurd h.1

put_row : (p : Pending) (e : Ex) (x : Bool) (m : Mark) (rs : Rows) (S : Stack) → PendingRow x p → SoundEx true x e → Placed (mark e).gap (sticks e) (row_of m rs p S) → SoundElements true x (put p (value e))
put_row fresh e x m rs S h d q = d
put_row (behind es (written c)) e x m rs S h d q = (h, tt, d)
put_row (behind es space) e x m rs S h d q = (h, (refl, (q.0, q.1)), d)

pub put_height : (p : Pending) (i : Item) (n l : ℕ) → pending_height p + n ≤ l → item_height i + n ≤ l → elements_height (put p i) + n ≤ l
put_height fresh i n l h j = j
put_height (behind es c) i n l h j = max_room (elements_height es) (item_height i) n l h j

list_on : (c : Callee) (m : Mark) (S : Stack) → Accepts S 11 → IsTight (in_row S) m → Placed (callee_mark c).gap true S → ListOn c m S
list_on c m (goal_of g site b) a t p = t
list_on c m (lead_of l spot) a t p = t
list_on c m (inner_of i spot) a t p = t
list_on c m (outputs_of o q site b) a t p = absurd a
list_on c m (op_of q S) a t p = (a, t, p)
list_on c m (paren_of o S) a t p = t
list_on c m (args_of d o q S) a t p = t
list_on c m (brace_of n o S) a t p = t
list_on c m (row_of o rs q S) a t p = (t, p)

brace_on : (n : Named) (S : Stack) → Accepts S 11 → Placed n.mark.gap true S → BraceOn n S
brace_on n (goal_of g site b) a p = tt
brace_on n (lead_of l spot) a p = tt
brace_on n (inner_of i spot) a p = tt
brace_on n (outputs_of o q site b) a p = absurd a
brace_on n (op_of q S) a p = (a, p)
brace_on n (paren_of o S) a p = tt
brace_on n (args_of d o q S) a p = tt
brace_on n (brace_of x o S) a p = tt
brace_on n (row_of o rs q S) a p = p

module _ (r : Rules) where
  -- ---- operators

  join_good : (e : Ex) (S : Stack) (o : Bin) (m : Mark) → Fitting r e S → level o ≤ tightness e → Weak S (level o) → (in_row S && (is_some (additive_of o) && m.gap)) ≡ false → Fine r (Steps.join r e S o m)
  join_good e S o m h t v n = fine_roomy r (suc (height e + nests S)) (Ok (operand (op_of (joined e o m no_signs) S)))
      (λ l. ((h.0, (t, refl, h.1), accepts_at r S (tightness e) (level o) h.2 v, omega (arith, l), omega (arith, l), h.4), (λ gap sticky q. let bad : false ≡ true = rw n at q in cc), omega (arith, level_most o)))

  operator_good : (o : Bin) (ad : Option Additive) (m : Mark) (e : Ex) (S : Stack) → additive_of o ≡ ad → AfterGood r e S → Fine r (Steps.operator r o ad m e S)
  operator_good o None m e S a h =
      let R : Left r (level o) (in_row S) (reduce (level o) e S) = reduce_good r (level o) e S h.0 (omega (arith, h.1, level_most o)) in
      join_good (reduce (level o) e S).operand (reduce (level o) e S).stack o m R.0 R.1 R.2 (rw a (and_false (in_row (reduce (level o) e S).stack)))
  operator_good o (Some d) m e S a h =
      decide (λ x. Fine r x) (in_row S && m.gap) (Steps.tear r e d m S (reduce 0 e S).stack) (Steps.join r (reduce (level o) e S).operand (reduce (level o) e S).stack o m)
      (λ q. let b : (in_row S ≡ true) × (m.gap ≡ true) = both_true (in_row S) m.gap q in fine_roomy r (suc (nests (reduce 0 e S).stack)) (Ok (torn e d m S)) (λ l. (h, b.0, b.1, l)))
      (λ q. let R : Left r (level o) (in_row S) (reduce (level o) e S) = reduce_good r (level o) e S h.0 (omega (arith, h.1, level_most o)) in
      join_good (reduce (level o) e S).operand (reduce (level o) e S).stack o m R.0 R.1 R.2 (rw (a, R.3) q))

  transpose_good : (m : Mark) (e : Ex) (S : Stack) → Fitting r e S → 10 ≤ tightness e → Weak S 10 → Fine r (Steps.transpose r m e S)
  transpose_good m e S h t v = fine_roomy r (suc (height e + nests S)) (Ok (after (transposed e m) S)) (λ l. ((h.0, (t, h.1), accepts_at r S (tightness e) 10 h.2 v, omega (arith, l), h.4), omega arith))

  from_good : (m : Mark) (e : Ex) (S : Stack) → Fitting r e S → 7 ≤ tightness e → Accepts S 6 → Fine r (roomy (room r (suc (height e + nests S))) (Ok (operand (op_of (from e m) S))))
  from_good m e S h t a = fine_roomy r (suc (height e + nests S)) (Ok (operand (op_of (from e m) S))) (λ l. ((h.0, (t, h.1), a, omega (arith, l), omega (arith, l), h.4), (λ gap sticky. tt), omega arith))

  range_good : (m : Mark) (e : Ex) (S : Stack) → Fitting r e S → 7 ≤ tightness e → Weak S 7 → Fine r (Steps.range r m e S)
  range_good m e (op_of (from a n) S) h t v =
      let g : StackGood r (op_of (from a n) S) = h.0 in
      let x : max (height a) (height e) + suc (nests S) ≤ r.limit = max_room (height a) (height e) (suc (nests S)) r.limit (omega (arith, g.3)) (omega (arith, h.3)) in
      ((g.0, (g.1.0, t, g.1.1, h.1), g.2, omega (arith, x), omega (arith, g.4), g.5), (λ gap sticky. tt), omega arith)
  range_good m e (op_of (stepped a n b o) S) h t v = tt
  range_good m e (op_of (joined a o n us) S) h t v = from_good m e (op_of (joined a o n us) S) h t (level_gap o v)
  range_good m e (op_of (signed n s) S) h t v = absurd (omega (arith, v))
  range_good m e (goal_of g site b) h t v = from_good m e (goal_of g site b) h t tt
  range_good m e (lead_of l spot) h t v = from_good m e (lead_of l spot) h t tt
  range_good m e (inner_of i spot) h t v = from_good m e (inner_of i spot) h t tt
  range_good m e (outputs_of o q site b) h t v = absurd h.2
  range_good m e (paren_of o S) h t v = from_good m e (paren_of o S) h t tt
  range_good m e (args_of f o q S) h t v = from_good m e (args_of f o q S) h t tt
  range_good m e (brace_of o q S) h t v = from_good m e (brace_of o q S) h t tt
  range_good m e (row_of o rs q S) h t v = from_good m e (row_of o rs q S) h t tt

  -- ---- assignments and statements that are done

  spread_good : (m z q : Mark) (es : Elements) (x : Option Outputs) (site : Site) (b : Block) → row_outputs es ≡ x → Fitting r (rows_to m no_rows es no_trail z) (goal_of shown site b) → Fine r (Steps.spread_to m z q x site b)
  spread_good m z q es None site b e h = tt
  spread_good m z q es (Some os) site b e h =
      let k : RowOk r os (elements_height es) = row_sound r es os e h.1.1 in
      ((h.0.0, h.0.1, k.0, omega (arith, k.2, h.3, le-max_right 0 (elements_height es))), (λ gap sticky. tt), tt)

  assign_to_good : (q : Mark) (x : Option Tgt) (e : Ex) (site : Site) (b : Block) → tgt_of e ≡ x → Fitting r e (goal_of shown site b) → Fine r (Steps.assign_to q x e site b)
  assign_to_good q (Some t) e site b g h = let f : SoundTgt false t × (tgt_height t ≤ height e) = tgt_sound r false e t g h.1 in ((h.0.0, h.0.1, f.0, omega (arith, f.1, h.3)), (λ gap sticky. tt), tt)
  assign_to_good q None (rows_to m no_rows es no_trail z) site b g h = spread_good m z q es (row_outputs es) site b refl h
  assign_to_good q None (rows_to m no_rows es (trail c) z) site b g h = tt
  assign_to_good q None (rows_to m (broken rs s) es t z) site b g h = tt
  assign_to_good q None (rows_to m (filled rs x u s) es t z) site b g h = tt
  assign_to_good q None (number m z) site b g h = tt
  assign_to_good q None e site b g h = tt

  assign_good : (q : Mark) (e : Ex) (S : Stack) → Fitting r e S → Fine r (Steps.assign q e S)
  assign_good q e (goal_of shown site b) h = assign_to_good q (tgt_of e) e site b refl h
  assign_good q e (goal_of (into t z) site b) h = tt
  assign_good q e (goal_of (spread m os z y) site b) h = tt
  assign_good q e (lead_of l spot) h = tt
  assign_good q e (inner_of i spot) h = tt
  assign_good q e (outputs_of o y site b) h = tt
  assign_good q e (op_of p S) h = tt
  assign_good q e (paren_of o S) h = tt
  assign_good q e (args_of f o y S) h = tt
  assign_good q e (brace_of o y S) h = tt
  assign_good q e (row_of o rs y S) h = tt

  pub settle_good : (c : Scene) (g : Goal) (e : Ex) → SoundGoal g → SoundEx false false e → SoundSmt c (settle g e)
  settle_good c shown e h d = (h, d, refl)
  settle_good c (spread m os z q) e h d = (h, d, refl)
  settle_good c (into (entire n) q) e h d = (h, d, refl)
  settle_good c (into (in_braces n m x z) q) e h d = (h, d, refl)
  settle_good c (into (indexed n m a z) q) (rows o no_rows y) h d = h.1
  settle_good c (into (indexed n m a z) q) e h d = (h, d, refl)

  pub settle_height : (g : Goal) (e : Ex) (n l : ℕ) → goal_height g + suc n ≤ l → height e + suc n ≤ l → smt_height (settle g e) + n ≤ l
  settle_height shown e n l h j = let x : max 0 (height e) + suc n ≤ l = max_room 0 (height e) (suc n) l h j in omega (arith, x)
  settle_height (spread m os z q) e n l h j = let x : max (suc (outputs_height os)) (height e) + suc n ≤ l = max_room (suc (outputs_height os)) (height e) (suc n) l h j in omega (arith, x)
  settle_height (into (entire k') q) e n l h j = let x : max 0 (height e) + suc n ≤ l = max_room 0 (height e) (suc n) l h j in omega (arith, x)
  settle_height (into (in_braces k' m y z) q) e n l h j = let x : max (suc (height y)) (height e) + suc n ≤ l = max_room (suc (height y)) (height e) (suc n) l h j in omega (arith, x)
  settle_height (into (indexed k' m a z) q) (rows o no_rows y) n l h j = omega (arith, h)
  settle_height (into (indexed k' m a z) q) e n l h j = let x : max (suc (args_height a)) (height e) + suc n ≤ l = max_room (suc (args_height a)) (height e) (suc n) l h j in omega (arith, x)

  -- a part that begins a block
  pub enter_good : (p : Part) (spot : Spot) → SpotGood r spot → Fits r spot (part_word p) → SoundPart p → part_height p + spot_room r spot ≤ r.limit → BlockGood r (enter p spot) empty
  enter_good p (here site b) h f d l = ((h.0, h.1, (f.0, f.1, d), l), tt, omega (arith, l))
  enter_good p (linked o b site before) h f d l =
      let x : max (opened_height o) (block_height b) + suc (site_nests site) ≤ r.limit = max_room (opened_height o) (block_height b) (suc (site_nests site)) r.limit h.3 h.5 in
      ((h.0, h.1, (h.2, h.4, f, d), max_room (max (opened_height o) (block_height b)) (part_height p) (suc (site_nests site)) r.limit x l), tt, omega (arith, l))

  end_simple_good : (s : Sep) (e : Ex) (S : Stack) → Fitting r e S → Fine r (Steps.end_simple s e S)
  end_simple_good s e (goal_of g site b) h =
      let k : StackGood r (goal_of g site b) = h.0 in
      (k.0.0, (k.0.1, k.1, settle_good (scene site) g e k.2 h.1), max_room (block_height b) (smt_height (settle g e)) (site_nests site) r.limit k.0.2 (settle_height g e (site_nests site) r.limit k.3 h.3))
  end_simple_good s e (lead_of l spot) h = let k : StackGood r (lead_of l spot) = h.0 in enter_good (headed (upto l e) s) spot k.0 k.1 (k.2, h.1) h.3
  end_simple_good s e (inner_of i spot) h = tt
  end_simple_good s e (outputs_of o q site b) h = tt
  end_simple_good s e (op_of p S) h = tt
  end_simple_good s e (paren_of o S) h = tt
  end_simple_good s e (args_of f o q S) h = tt
  end_simple_good s e (brace_of o q S) h = tt
  end_simple_good s e (row_of o rs q S) h = tt

  end_row_good : (s : Sep) (e : Ex) (S : Stack) → IsRowBreak s.kind → Fitting r e S → Fine r (Steps.end_row s e S)
  end_row_good s e (row_of m rs p S) k h =
      let g : StackGood r (row_of m rs p S) = h.0 in
      let v : elements_height (put p (value e)) + suc (nests S) ≤ r.limit = put_height p (value e) (suc (nests S)) r.limit g.5 h.3 in
      ((g.0, g.1, (g.2, put_row p e (in_index S) m rs S g.3 h.1 h.4, k), tt, max_room (rows_height rs) (elements_height (put p (value e))) (suc (nests S)) r.limit g.4 v, omega (arith, g.4), g.6), (λ gap sticky. tt), tt)
  end_row_good s e (goal_of g site b) k h = end_simple_good s e (goal_of g site b) h
  end_row_good s e (lead_of l spot) k h = end_simple_good s e (lead_of l spot) h
  end_row_good s e (inner_of i spot) k h = end_simple_good s e (inner_of i spot) h
  end_row_good s e (outputs_of o q site b) k h = end_simple_good s e (outputs_of o q site b) h
  end_row_good s e (op_of p S) k h = end_simple_good s e (op_of p S) h
  end_row_good s e (paren_of o S) k h = end_simple_good s e (paren_of o S) h
  end_row_good s e (args_of f o q S) k h = end_simple_good s e (args_of f o q S) h
  end_row_good s e (brace_of o q S) k h = end_simple_good s e (brace_of o q S) h

  bound_good : (v : Bool) (word : Keyword) (m o : Mark) (n : Named) (q : Mark) (e : Ex) (c : Mark) (spot : Spot) → Steps.is_parfor word ≡ v → Fitting r e (inner_of (each_in word m o n q) spot) → Fine r (Steps.bound_of v m o n q e c spot)
  bound_good false word m o n q e c spot i h = tt
  bound_good true k.Parfor m o n q e c spot i h = ((h.0.0, h.0.1, h.1, h.3), (λ gap sticky. tt), tt)
  bound_good true word m o n q e c spot i h = cc

  end_comma_good : (c : Mark) (e : Ex) (S : Stack) → Fitting r e S → Fine r (Steps.end_comma c e S)
  end_comma_good c e (args_of f m p S) h = let g : StackGood r (args_of f m p S) = h.0 in ((g.0, g.1, (put_args p (value e) g.2 h.1, tt), put_height p (value e) (suc (nests S)) r.limit g.3 h.3, g.4, g.5), (λ gap sticky. tt), tt)
  end_comma_good c e (row_of m rs p S) h = let g : StackGood r (row_of m rs p S) = h.0 in ((g.0, g.1, g.2, put_row p e (in_index S) m rs S g.3 h.1 h.4, g.4, put_height p (value e) (suc (nests S)) r.limit g.5 h.3, g.6), (λ gap sticky. tt), tt)
  end_comma_good c e (inner_of (each_in word m o n q) spot) h = bound_good (Steps.is_parfor word) word m o n q e c spot refl h
  end_comma_good c e (inner_of (bound m o n q x d) spot) h = tt
  end_comma_good c e (inner_of (workers m o) spot) h = tt
  end_comma_good c e (goal_of g site b) h = end_simple_good (record { kind = comma; mark = c }) e (goal_of g site b) h
  end_comma_good c e (lead_of l spot) h = end_simple_good (record { kind = comma; mark = c }) e (lead_of l spot) h
  end_comma_good c e (outputs_of o q site b) h = end_simple_good (record { kind = comma; mark = c }) e (outputs_of o q site b) h
  end_comma_good c e (op_of p S) h = end_simple_good (record { kind = comma; mark = c }) e (op_of p S) h
  end_comma_good c e (paren_of o S) h = end_simple_good (record { kind = comma; mark = c }) e (paren_of o S) h
  end_comma_good c e (brace_of o q S) h = end_simple_good (record { kind = comma; mark = c }) e (brace_of o q S) h

  close_good : (z : Mark) (e : Ex) (S : Stack) → Fitting r e S → Fine r (Steps.close z e S)
  close_good z e (paren_of m S) h = let g : StackGood r (paren_of m S) = h.0 in ((g.0, h.1, g.1, omega (arith, h.3), g.3), omega arith)
  close_good z e (args_of c m p S) h = let g : StackGood r (args_of c m p S) = h.0 in called_good r c m (listed (put p (value e))) z S g.0 g.1 (put_args p (value e) g.2 h.1) g.4 (put_height p (value e) (suc (nests S)) r.limit g.3 h.3) g.5
  close_good z e (inner_of i spot) h = let g : StackGood r (inner_of i spot) = h.0 in (g.0, g.1, (g.2, h.1), max_room (inner_height i) (height e) (spot_room r spot) r.limit g.3 h.3)
  close_good z e (goal_of g site b) h = tt
  close_good z e (lead_of l spot) h = tt
  close_good z e (outputs_of o q site b) h = tt
  close_good z e (op_of p S) h = tt
  close_good z e (brace_of o q S) h = tt
  close_good z e (row_of o rs q S) h = tt

  close_square_good : (z : Mark) (e : Ex) (S : Stack) → Fitting r e S → Fine r (Steps.close_square z e S)
  close_square_good z e (row_of m rs p S) h =
      let g : StackGood r (row_of m rs p S) = h.0 in
      let v : max (rows_height rs) (elements_height (put p (value e))) + suc (nests S) ≤ r.limit = max_room (rows_height rs) (elements_height (put p (value e))) (suc (nests S)) r.limit g.4 (put_height p (value e) (suc (nests S)) r.limit g.5 h.3) in
      ((g.0, (g.2, put_row p e (in_index S) m rs S g.3 h.1 h.4), g.1, omega (arith, v), g.6), omega arith)
  close_square_good z e (goal_of g site b) h = tt
  close_square_good z e (lead_of l spot) h = tt
  close_square_good z e (inner_of i spot) h = tt
  close_square_good z e (outputs_of o q site b) h = tt
  close_square_good z e (op_of p S) h = tt
  close_square_good z e (paren_of o S) h = tt
  close_square_good z e (args_of f o q S) h = tt
  close_square_good z e (brace_of o q S) h = tt

  close_brace_good : (z : Mark) (e : Ex) (S : Stack) → Fitting r e S → Fine r (Steps.close_brace z e S)
  close_brace_good z e (brace_of n m S) h = let g : StackGood r (brace_of n m S) = h.0 in embraced_good r n m e z S g.0 h.1 (omega (arith, h.3)) g.2
  close_brace_good z e (goal_of g site b) h = tt
  close_brace_good z e (lead_of l spot) h = tt
  close_brace_good z e (inner_of i spot) h = tt
  close_brace_good z e (outputs_of o q site b) h = tt
  close_brace_good z e (op_of p S) h = tt
  close_brace_good z e (paren_of o S) h = tt
  close_brace_good z e (args_of f o q S) h = tt
  close_brace_good z e (row_of o rs q S) h = tt

  list_good : (m : Mark) (e : Ex) (S : Stack) → Fitting r e S → IsTight (in_row S) m → Fine r (Steps.list_of r m e S)
  list_good m (bare c) S h t = fine_roomy r (suc (nests S)) (Ok (operand (args_of c m fresh S))) (λ l. ((h.0, h.1, tt, omega (arith, l), h.3, list_on c m S h.2 t h.4), (λ gap sticky. tt), tt))
  list_good m e S h t = tt

  brace_good : (m : Mark) (e : Ex) (S : Stack) → Fitting r e S → Fine r (Steps.brace r m e S)
  brace_good m (bare (head (alone n))) S h = fine_roomy r (suc (nests S)) (Ok (operand (brace_of n m S))) (λ l. ((h.0, l, brace_on n S h.2 h.4), (λ gap sticky. tt), tt))
  brace_good m (bare (head (dotted x y z))) S h = tt
  brace_good m (bare (braced x y z u)) S h = tt
  brace_good m e S h = tt

  dot_good : (v : Bool) (m : Mark) (e : Ex) (S : Stack) → has_state e ≡ v → Fitting r e S → Fine r (if v then Ok (dot e m S) else refused)
  dot_good false m e S g h = tt
  dot_good true m (bare (head (alone n))) S g h = (h.0, h.2, h.4, h.3, tt)
  dot_good true m (call (head (alone n)) i a z) S g h = (h.0, h.2, h.4, h.3, (refl, h.1))
  dot_good true m (bare (head (dotted x y z))) S g h = cc
  dot_good true m (bare (braced x y z u)) S g h = cc
  dot_good true m (call (head (dotted x y z)) i a u) S g h = cc
  dot_good true m (call (braced x y z u) i a t) S g h = cc
  dot_good true m (number i z) S g h = cc
  dot_good true m e S g h = cc

  go_on_good : (word : Word) (m : Mark) (e : Ex) (S : Stack) → AfterGood r e S → (Steps.begins_element word S ≡ true → IsTight (in_row S) m) → Fine r (go_on r word m e S)
  go_on_good (w.Binary o) m e S h t = operator_good o (additive_of o) m e S refl h
  go_on_good w.Quote m e S h t = let R : Left r 10 (in_row S) (reduce 10 e S) = reduce_good r 10 e S h.0 h.1 in transpose_good m (reduce 10 e S).operand (reduce 10 e S).stack R.0 R.1 R.2
  go_on_good w.Colon m e S h t = let R : Left r 7 (in_row S) (reduce 7 e S) = reduce_good r 7 e S h.0 (omega (arith, h.1)) in range_good m (reduce 7 e S).operand (reduce 7 e S).stack R.0 R.1 R.2
  go_on_good w.Equal m e S h t = assign_good m e S h.0
  go_on_good w.Comma m e S h t = let R : Left r 0 (in_row S) (reduce 0 e S) = reduce_good r 0 e S h.0 (omega arith) in end_comma_good m (reduce 0 e S).operand (reduce 0 e S).stack R.0
  go_on_good w.Semicolon m e S h t = let R : Left r 0 (in_row S) (reduce 0 e S) = reduce_good r 0 e S h.0 (omega arith) in end_row_good (record { kind = semicolon; mark = m }) (reduce 0 e S).operand (reduce 0 e S).stack tt R.0
  go_on_good w.LineEnd m e S h t = let R : Left r 0 (in_row S) (reduce 0 e S) = reduce_good r 0 e S h.0 (omega arith) in end_row_good (record { kind = line; mark = m }) (reduce 0 e S).operand (reduce 0 e S).stack tt R.0
  go_on_good w.Open m e S h t = list_good m e S h.0 (t refl)
  go_on_good w.Close m e S h t = let R : Left r 0 (in_row S) (reduce 0 e S) = reduce_good r 0 e S h.0 (omega arith) in close_good m (reduce 0 e S).operand (reduce 0 e S).stack R.0
  go_on_good w.CloseSquare m e S h t = let R : Left r 0 (in_row S) (reduce 0 e S) = reduce_good r 0 e S h.0 (omega arith) in close_square_good m (reduce 0 e S).operand (reduce 0 e S).stack R.0
  go_on_good w.OpenBrace m e S h t = brace_good m e S h.0
  go_on_good w.CloseBrace m e S h t = let R : Left r 0 (in_row S) (reduce 0 e S) = reduce_good r 0 e S h.0 (omega arith) in close_brace_good m (reduce 0 e S).operand (reduce 0 e S).stack R.0
  go_on_good w.Dot m e S h t = dot_good (has_state e) m e S refl h.0
  go_on_good word m e S h t = tt

  -- the next element begins
  apart_good : (e : Ex) (S : Stack) (go : Stack → Step) → Fitting r e S → ((m : Mark) (rs : Rows) (es : Elements) (T : Stack) → StackGood r (row_of m rs (behind es space) T) → (nests S ≡ suc (nests T)) → Fine r (go (row_of m rs (behind es space) T))) → Fine r (Steps.apart e S go)
  apart_good e (row_of m rs p S) go h f =
      let g : StackGood r (row_of m rs p S) = h.0 in
      f m rs (put p (value e)) S (g.0, g.1, g.2, put_row p e (in_index S) m rs S g.3 h.1 h.4, g.4, put_height p (value e) (suc (nests S)) r.limit g.5 h.3, g.6) refl
  apart_good e (goal_of g site b) go h f = tt
  apart_good e (lead_of l spot) go h f = tt
  apart_good e (inner_of i spot) go h f = tt
  apart_good e (outputs_of o q site b) go h f = tt
  apart_good e (op_of p S) go h f = tt
  apart_good e (paren_of o S) go h f = tt
  apart_good e (args_of d o q S) go h f = tt
  apart_good e (brace_of o q S) go h f = tt

  enters_row : (word : Word) (x : Mark) (m : Mark) (rs : Rows) (es : Elements) (T : Stack) (S : Stack) → Steps.begins_element word S ≡ true → x.gap ≡ true → Enters r word x (row_of m rs (behind es space) T)
  enters_row (w.Binary o) x m rs es T S b g = cc
  enters_row (w.Name n) x m rs es T S b g = (g, refl)
  enters_row word x m rs es T S b g = (g, refl)

  pub after_good : (word : Word) (m : Mark) (e : Ex) (S : Stack) → AfterGood r e S → Fine r (read_after r word m e S)
  after_good word m e S h =
      let R : Left r 0 (in_row S) (reduce 0 e S) = reduce_good r 0 e S h.0 (omega arith) in
      decide (λ x. Fine r x) (Steps.begins_element word S && (in_row S && m.gap)) (Steps.apart (reduce 0 e S).operand (reduce 0 e S).stack (λ row. read_operand r word m row)) (go_on r word m e S)
      (λ q. let b : (Steps.begins_element word S ≡ true) × ((in_row S && m.gap) ≡ true) = both_true (Steps.begins_element word S) (in_row S && m.gap) q in
      apart_good (reduce 0 e S).operand (reduce 0 e S).stack (λ row. read_operand r word m row) R.0
      (λ o rs es T g n. operand_good r word m (row_of o rs (behind es space) T) g tt (enters_row word m o rs es T S b.0 (both_true (in_row S) m.gap b.1).1)))
      (λ q. go_on_good word m e S h (λ b. let x : (true && (in_row S && m.gap)) ≡ false = rw b at q in x))

  enters_sum : (word : Word) (m : Mark) (e : Ex) (o : Bin) (n : Mark) (S : Stack) → m.gap ≡ true → Enters r word m (op_of (joined e o n no_signs) S)
  enters_sum (w.Binary x) m e o n S g = λ sticky q. g
  enters_sum (w.Name x) m e o n S g = λ q. g
  enters_sum word m e o n S g = λ q. g

  enters_sign : (word : Word) (x : Mark) (n : Mark) (a : Additive) (m : Mark) (rs : Rows) (es : Elements) (T : Stack) → x.gap ≡ false → n.gap ≡ true → Enters r word x (op_of (signed n (additive a)) (row_of m rs (behind es space) T))
  enters_sign (w.Binary y) x n a m rs es T g h = λ sticky. (h, rw g refl)
  enters_sign (w.Name y) x n a m rs es T g h = (h, rw g refl)
  enters_sign word x n a m rs es T g h = (h, rw g refl)

  seven : (a : Additive) → level (bin_of a) ≡ 7
  seven Rattle.pl_grammar.specs.Words.plus = refl
  seven Rattle.pl_grammar.specs.Words.minus = refl

  pub untear_good : (e : Ex) (a : Additive) (n : Mark) (S : Stack) (word : Word) (m : Mark) → Good r (torn e a n S) → Fine r (Steps.untear r e a n S word m)
  untear_good e a n S word m h =
      let R : Left r 7 (in_row S) (reduce 7 e S) = reduce_good r 7 e S h.0.0 (omega (arith, h.0.1)) in
      let Q : Left r 0 (in_row S) (reduce 0 e S) = reduce_good r 0 e S h.0.0 (omega arith) in
      let x : Ex = (reduce 7 e S).operand in
      let T : Stack = (reduce 7 e S).stack in
      decide (λ y. Fine r y) m.gap (roomy (room r (suc (height x + nests T))) (read_operand r word m (op_of (joined x (bin_of a) n no_signs) T))) (Steps.apart (reduce 0 e S).operand (reduce 0 e S).stack (λ row. read_operand r word m (op_of (signed n (additive a)) row)))
      (λ g. fine_roomy r (suc (height x + nests T)) (read_operand r word m (op_of (joined x (bin_of a) n no_signs) T))
      (λ l. operand_good r word m (op_of (joined x (bin_of a) n no_signs) T)
      (R.0.0, (omega (arith, R.1, seven a), refl, R.0.1), accepts_at r T (tightness x) (level (bin_of a)) R.0.2 (rw (seven a) R.2), omega (arith, l), omega (arith, l), R.0.4) (omega (arith, seven a)) (enters_sum word m x (bin_of a) n T g)))
      (λ g. apart_good (reduce 0 e S).operand (reduce 0 e S).stack (λ row. read_operand r word m (op_of (signed n (additive a)) row)) Q.0
      (λ o rs es U u v. operand_good r word m (op_of (signed n (additive a)) (row_of o rs (behind es space) U)) (u, tt, tt, omega (arith, h.3, v), omega (arith, h.3, v), tt) (omega arith) (enters_sign word m n a o rs es U g h.2)))
