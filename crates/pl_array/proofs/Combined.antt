-- The parts of the answer for two operands that fit.
use Rattle.std.proofs.Common.{◌≡◌, ◌*◌, ℤ, int_lt, Bool, true, false, not, ◌&&◌, ◌||◌, List, [], ◌∷◌, map, length, Ok, arith, refl, ap, ◌∙◌}
use Rattle.std.specs.List.{All, range_with_len, list_any}
use Rattle.std.specs.Ordering.{int_eq}
use Rattle.std.proofs.lemmas.Int.{ints}
use Rattle.std.proofs.lemmas.List.FromFn.{length-map-range_with_len}
use Rattle.std.proofs.lemmas.List.Elements.{All-map, All-same}
use Rattle.pl_base.specs.Numbers.{clamp}
use Rattle.pl_array.specs.declared.class.Class.TheVariants.{Logical}
use Rattle.pl_array.specs.declared.class.Shape.{Shape}
use Rattle.pl_array.specs.declared.ops.Op1.{Op1}
use Rattle.pl_array.specs.declared.ops.Op1.TheVariants.{Not}
use Rattle.pl_base.specs.declared.mode.Mode.TheVariants.{Saturate}
use Rattle.pl_array.specs.declared.ops.Op2.{Op2}
use Rattle.pl_array.specs.declared.ops.Op2.TheVariants.{Pow, Lt, Le, Gt, Ge, Eq, Ne, And, Or, Xor}
use Rattle.pl_array.specs.Arrays.{Array, IsCell}
use Rattle.pl_array.specs.Cellwise.{operand, truth, is_true, number, negative_power, some_cell, each_cell, class_by, number1, class_by1, mapped1, map1_of}

pub none : {X : Type 0} (xs : List X) → false ≡ list_any (λ x. false) xs
none [] = refl
none (x ∷ xs) = none xs

pub no_negative : (op : Op2) (a b : Array) (s : Shape) → (op ≡ Pow → ⊥) → false ≡ some_cell (negative_power op) a b s
no_negative Pow a b s h = absurd (h refl)
no_negative op a b s h = none (range_with_len 0 (s.rows * s.cols))

truth_is_cell : (b : Bool) → IsCell Logical (clamp (truth b))
truth_is_cell true = (omega (arith, ints), omega (arith, ints))
truth_is_cell false = (omega (arith, ints), omega (arith, ints))

number_is_cell : (op : Op2) (x y : ℤ) → IsCell (class_by op) (number op x y)
number_is_cell Lt x y = truth_is_cell (int_lt x y)
number_is_cell Le x y = truth_is_cell (not (int_lt y x))
number_is_cell Gt x y = truth_is_cell (int_lt y x)
number_is_cell Ge x y = truth_is_cell (not (int_lt x y))
number_is_cell Eq x y = truth_is_cell (int_eq x y)
number_is_cell Ne x y = truth_is_cell (not (int_eq x y))
number_is_cell And x y = truth_is_cell (is_true x && is_true y)
number_is_cell Or x y = truth_is_cell (is_true x || is_true y)
number_is_cell Xor x y = truth_is_cell (not (is_true x) && is_true y || is_true x && not (is_true y))
number_is_cell op x y = tt

pub cells_count : (f : ℤ → ℤ → ℤ) (a b : Array) (s : Shape) (xs : List ℤ) → xs ≡ each_cell f a b s → length xs ≡ s.rows * s.cols
cells_count f a b s xs e = ap length e ∙ length-map-range_with_len (λ k. f (operand a s.rows k) (operand b s.rows k)) 0 (s.rows * s.cols)

pub cells_class : (op : Op2) (a b : Array) (s : Shape) (xs : List ℤ) → xs ≡ each_cell (number op) a b s → All (IsCell (class_by op)) xs
cells_class op a b s xs e =
    All-same (IsCell (class_by op)) xs (each_cell (number op) a b s) e
    (All-map (IsCell (class_by op)) (λ k. number op (operand a s.rows k) (operand b s.rows k)) (range_with_len 0 (s.rows * s.cols)) (λ k d h. number_is_cell op _ _))

pub saturated1 : (op : Op1) (a : Array) → Ok (mapped1 op a) ≡ map1_of Saturate op a
saturated1 op a = rw (← none a.cells) refl

number1_is_cell : (op : Op1) (x : ℤ) → IsCell (class_by1 op) (number1 op x)
number1_is_cell Not x = truth_is_cell (not (is_true x))
number1_is_cell op x = tt

pub cells_class1 : (op : Op1) (ys xs : List ℤ) → xs ≡ map (number1 op) ys → All (IsCell (class_by1 op)) xs
cells_class1 op ys xs e = All-same (IsCell (class_by1 op)) xs (map (number1 op) ys) e (All-map (IsCell (class_by1 op)) (number1 op) ys (λ k d h. number1_is_cell op _))
