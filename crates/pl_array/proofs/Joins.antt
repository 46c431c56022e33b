-- Joined arrays have as many cells as their shape wants, of the later class.
use Rattle.std.proofs.Common.{◌≡◌, ℕ, ◌+◌, ◌-◌, ◌*◌, ◌/◌, ◌%◌, ◌<◌, ◌≤◌, ◌==◌, ◌⊎◌, inl, inr, ℤ, pos, ltb, Bool, true, false, cond, ◌&&◌, List, ◌++◌, length, get_or, Some, None, arith, refl, ap, sym, ◌∙◌, length-append, zero-le}
use Rattle.std.specs.List.{All, list_any}
use Rattle.std.proofs.lemmas.Bool.{eqb-true, ltb-true, ltb-false}
use Rattle.std.proofs.lemmas.List.Elements.{All-append}
use Rattle.std.proofs.lemmas.Nat.{div_below, mod_below, mul-add-lt}
use Rattle.pl_array.specs.declared.class.Class.{Class}
use Rattle.pl_array.specs.declared.class.Class.TheVariants.{Logical, Int, Char}
use Rattle.pl_array.specs.declared.class.Shape.{Shape}
use Rattle.pl_array.specs.Arrays.{Array, IsCell, IsValid, class_number, cell_at}
use Rattle.pl_array.specs.Cellwise.{shape_of}
use Rattle.pl_array.specs.Joining.{Joins, by_places, greater_class, is_no_char, is_nil, across, down, below_at}
use Rattle.pl_array.proofs.Layouts.{some_rows}
use Rattle.pl_array.proofs.Kept.{none_holds, lifted, by_places_all}

-- which of the three shapes it is
picked : (p q r : Bool) (x y z s : Shape) → cond p (Some x) (cond q (Some y) (cond r (Some z) None)) ≡ Some s → ((p ≡ true) × (x ≡ s)) ⊎ (((q ≡ true) × (y ≡ s)) ⊎ ((r ≡ true) × (z ≡ s)))
picked true q r x y z s e = inl (refl, cc)
picked false true r x y z s e = inr (inl (refl, cc))
picked false false true x y z s e = inr (inr (refl, cc))
picked false false false x y z s e = absurd (cc)

both_true : (a b : Bool) → (a && b) ≡ true → (a ≡ true) × (b ≡ true)
both_true true b e = (refl, e)
both_true false b e = absurd (cc)

nil_extents : (s : Shape) → is_nil s ≡ true → (s.rows ≡ 0) × (s.cols ≡ 0)
nil_extents s e =
    let both = both_true (s.rows == 0) (s.cols == 0) e in
    (eqb-true s.rows 0 both.0, eqb-true s.cols 0 both.1)

pub across_count : (a b : Array) (s : Shape) → IsValid a → IsValid b → across (shape_of a) (shape_of b) ≡ Some s → length (a.cells ++ b.cells) ≡ s.rows * s.cols
across_count a b s va vb e =
    length-append a.cells b.cells ∙ go (picked (is_nil (shape_of a)) (is_nil (shape_of b)) (a.rows == b.rows) (shape_of b) (shape_of a) (record { rows = a.rows; cols = a.cols + b.cols }) s e)
  where
    la : length a.cells ≡ a.rows * a.cols
    la = va.count

    lb : length b.cells ≡ b.rows * b.cols
    lb = vb.count

    go : ((is_nil (shape_of a) ≡ true) × (shape_of b ≡ s)) ⊎ (((is_nil (shape_of b) ≡ true) × (shape_of a ≡ s)) ⊎ (((a.rows == b.rows) ≡ true) × (◌≡◌ {A = Shape} (record { rows = a.rows; cols = a.cols + b.cols }) s))) → length a.cells + length b.cells ≡ s.rows * s.cols
    go (inl h) =
        let nil : a.rows ≡ 0 = (nil_extents (shape_of a) h.0).0 in
        let none : length a.cells ≡ 0 = la ∙ rw nil (omega arith) in
        omega (arith, none, lb) ∙ ap (λ (x : Shape). x.rows * x.cols) h.1
    go (inr (inl h)) =
        let nil : b.rows ≡ 0 = (nil_extents (shape_of b) h.0).0 in
        let none : length b.cells ≡ 0 = lb ∙ rw nil (omega arith) in
        omega (arith, none, la) ∙ ap (λ (x : Shape). x.rows * x.cols) h.1
    go (inr (inr h)) =
        let same : a.rows ≡ b.rows = eqb-true a.rows b.rows h.0 in
        let lb' : length b.cells ≡ a.rows * b.cols = lb ∙ ap (λ (n : ℕ). n * b.cols) (sym same) in
        let sum : length a.cells + length b.cells ≡ a.rows * (a.cols + b.cols) = omega (arith, la, lb') in
        sum ∙ ap (λ (x : Shape). x.rows * x.cols) h.1

greater_left : (a b : Class) → class_number a ≤ class_number (greater_class a b)
greater_left Logical b = zero-le
greater_left Int Logical = omega arith
greater_left Int Int = omega arith
greater_left Int Char = omega arith
greater_left Char Logical = omega arith
greater_left Char Int = omega arith
greater_left Char Char = omega arith

greater_right : (a b : Class) → class_number b ≤ class_number (greater_class a b)
greater_right a Logical = zero-le
greater_right Logical Int = omega arith
greater_right Int Int = omega arith
greater_right Char Int = omega arith
greater_right Logical Char = omega arith
greater_right Int Char = omega arith
greater_right Char Char = omega arith

lifted_all : (k class : Class) (xs : List ℤ) → class_number class ≤ class_number k → false ≡ list_any (is_no_char k) xs → All (IsCell class) xs → All (IsCell k) xs
lifted_all k class xs le e h = λ i d l. lifted k class (get_or xs i d) le (none_holds (is_no_char k) xs (sym e) i d l) (h i d l)

left_cells : (a b : Array) (k : Class) → Joins a b k → All (IsCell k) a.cells
left_cells a b k j = lifted_all k a.class a.cells (rw j.later (greater_left a.class b.class)) j.left_chars j.left.of_class

right_cells : (a b : Array) (k : Class) → Joins a b k → All (IsCell k) b.cells
right_cells a b k j = lifted_all k b.class b.cells (rw j.later (greater_right a.class b.class)) j.right_chars j.right.of_class

pub across_class : (a b : Array) (k : Class) → Joins a b k → All (IsCell k) (a.cells ++ b.cells)
across_class a b k j = All-append (IsCell k) a.cells b.cells (left_cells a b k j) (right_cells a b k j)

in_place : (P : ℤ → Type 0) (a : Array) (r c : ℕ) → All P a.cells → IsValid a → r < a.rows → c < a.cols → P (cell_at a r c)
in_place P a r c all valid row col = all (c * a.rows + r) (pos 0) (omega (arith, valid.count, mul-add-lt c a.rows r a.cols col row))

module _ (P : ℤ → Type 0) (a b : Array) (s : Shape) (va : IsValid a) (vb : IsValid b) (all_a : All P a.cells) (all_b : All P b.cells) (e : down (shape_of a) (shape_of b) ≡ Some s) where
  upper : (r c : ℕ) → r < s.rows → c < s.cols → r < a.rows → P (cell_at a r c)
  upper r c row col above = elim (picked (is_nil (shape_of a)) (is_nil (shape_of b)) (a.cols == b.cols) (shape_of b) (shape_of a) (record { rows = a.rows + b.rows; cols = a.cols }) s e) [
    | inl h ↦ let nil = (nil_extents (shape_of a) h.0).0 in absurd (omega (arith, nil))
    | inr t ↦ elim t [
      | inl h ↦ let cols = ap (λ (x : Shape). x.cols) h.1 in in_place P a r c all_a va above (omega (arith, cols))
      | inr h ↦ let cols = ap (λ (x : Shape). x.cols) h.1 in in_place P a r c all_a va above (omega (arith, cols))
    ]
  ]

  lower : (r c : ℕ) → r < s.rows → c < s.cols → a.rows ≤ r → P (cell_at b (r - a.rows) c)
  lower r c row col below = elim (picked (is_nil (shape_of a)) (is_nil (shape_of b)) (a.cols == b.cols) (shape_of b) (shape_of a) (record { rows = a.rows + b.rows; cols = a.cols }) s e) [
    | inl h ↦
        let rows = ap (λ (x : Shape). x.rows) h.1 in
        let cols = ap (λ (x : Shape). x.cols) h.1 in
        in_place P b (r - a.rows) c all_b vb (omega (arith, rows, (nil_extents (shape_of a) h.0).0)) (omega (arith, cols))
    | inr t ↦ elim t [
      | inl h ↦ let rows = ap (λ (x : Shape). x.rows) h.1 in absurd (omega (arith, rows))
      | inr h ↦
          let rows = ap (λ (x : Shape). x.rows) h.1 in
          let cols = ap (λ (x : Shape). x.cols) h.1 in
          in_place P b (r - a.rows) c all_b vb (omega (arith, rows)) (omega (arith, cols, eqb-true a.cols b.cols h.0))
    ]
  ]

  by_row : (r c : ℕ) (t : Bool) → ltb r a.rows ≡ t → r < s.rows → c < s.cols → P (cond t (cell_at a r c) (cell_at b (r - a.rows) c))
  by_row r c true above row col = upper r c row col (ltb-true r a.rows above)
  by_row r c false below row col = lower r c row col (ltb-false r a.rows below)

  down_cells : All P (by_places (s.rows * s.cols) (below_at a b s.rows))
  down_cells = by_places_all P (s.rows * s.cols) (below_at a b s.rows) (λ k h.
      let some = some_rows s.rows s.cols k h in
      by_row (k % s.rows) (k / s.rows) (ltb (k % s.rows) a.rows) refl (mod_below k s.rows some) (div_below k s.rows s.cols some (omega arith)))

pub down_class : (a b : Array) (k : Class) (s : Shape) → Joins a b k → down (shape_of a) (shape_of b) ≡ Some s → All (IsCell k) (by_places (s.rows * s.cols) (below_at a b s.rows))
down_class a b k s j e = down_cells (IsCell k) a b s j.left j.right (left_cells a b k j) (right_cells a b k j) e
