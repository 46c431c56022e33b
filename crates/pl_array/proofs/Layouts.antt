-- Operands of the result's shape and single cells: their cells stand as the definition of a pass reads them.
use Rattle.std.proofs.Common.{◌≡◌, ℕ, zero, suc, ◌*◌, ◌/◌, ◌%◌, ◌<◌, ℤ, pos, Bool, ◌||◌, List, [], ◌∷◌, map, length, get_or, arith, refl, ap, ap₂, sym, ◌∙◌}
use Rattle.std.specs.List.{range_with_len, zip, list_any}
use Rattle.std.proofs.lemmas.List.{length-map, get_or-map}
use Rattle.std.proofs.lemmas.List.FromFn.{fill_by_all}
use Rattle.std.proofs.lemmas.Slice.Zip.{get_or-zip, length-zip}
use Rattle.std.proofs.lemmas.Nat.{div-add-mod', div_below, mod_below}
use Rattle.std.proofs.lemmas.Bool.Decides.{nat_tests}
use Rattle.pl_array.specs.Arrays.{Array, IsValid}
use Rattle.pl_array.specs.Cellwise.{spread, operand}

-- both extents of an operand are those of the result
pub record IsWhole (a : Array) (rows cols : ℕ) : Type 0 where
  pub valid : IsValid a
  pub row : a.rows ≡ rows
  pub col : a.cols ≡ cols

-- an operand has one cell
pub record IsOne (a : Array) : Type 0 where
  pub valid : IsValid a
  pub one : length a.cells ≡ 1

spread_within : (n i : ℕ) → i < n → spread n i ≡ i
spread_within n i h = grind (arith, nat_tests)

pub some_rows : (rows cols k : ℕ) → k < rows * cols → 0 < rows
some_rows zero cols k h = absurd (omega arith)
some_rows (suc rows) cols k h = omega arith

whole_cell : (a : Array) (rows cols k : ℕ) → IsWhole a rows cols → k < rows * cols → operand a rows k ≡ get_or a.cells k (pos 0)
whole_cell a rows cols k whole h =
    let is_row : a.rows ≡ rows = whole.row in
    let row_in : k % rows < a.rows = omega (arith, mod_below k rows (some_rows rows cols k h)) in
    let col_in : k / rows < a.cols = omega (arith, whole.col, div_below k rows cols (some_rows rows cols k h) (omega arith)) in
    let row : spread a.rows (k % rows) ≡ k % rows = spread_within a.rows (k % rows) row_in in
    let col : spread a.cols (k / rows) ≡ k / rows = spread_within a.cols (k / rows) col_in in
    ap (λ (i : ℕ). get_or a.cells i (pos 0)) (rw (row, col, is_row) (div-add-mod' k rows))

whole_length : (a : Array) (rows cols : ℕ) → IsWhole a rows cols → length a.cells ≡ rows * cols
whole_length a rows cols whole = whole.valid.count ∙ ap₂ (λ (m n : ℕ). m * n) whole.row whole.col

pub one_extent : (m n : ℕ) → m * n ≡ 1 → m ≡ 1
one_extent zero n h = absurd (omega arith)
one_extent (suc zero) n h = refl
one_extent (suc (suc m)) zero h = absurd (omega arith)
one_extent (suc (suc m)) (suc n) h = absurd (omega arith)

one_cell : (a : Array) (rows k : ℕ) → IsOne a → operand a rows k ≡ get_or a.cells 0 (pos 0)
one_cell a rows k single =
    let count : length a.cells ≡ a.rows * a.cols = single.valid.count in
    let row : a.rows ≡ 1 = one_extent a.rows a.cols (sym count ∙ single.one) in
    let col : a.cols ≡ 1 = one_extent a.cols a.rows (omega (arith, single.one)) in
    rw (row, col) refl

module _ {X : Type 0} (f : ℤ → ℤ → X) where
  pub pairs_are : (a b : Array) (rows cols : ℕ) → IsWhole a rows cols → IsWhole b rows cols → map (λ p. f p.0 p.1) (zip a.cells b.cells) ≡ map (λ k. f (operand a rows k) (operand b rows k)) (range_with_len 0 (rows * cols))
  pairs_are a b rows cols wa wb =
      let la = whole_length a rows cols wa in
      let lb = whole_length b rows cols wb in
      let pairs = zip a.cells b.cells in
      let lp : length (zip a.cells b.cells) ≡ rows * cols = length-zip a.cells b.cells ∙ omega (arith, la, lb) in
      fill_by_all (λ k. f (operand a rows k) (operand b rows k)) (map (λ (p : ℤ × ℤ). f p.0 p.1) (zip a.cells b.cells)) (rows * cols) (f (pos 0) (pos 0)) (length-map pairs (λ (p : ℤ × ℤ). f p.0 p.1) ∙ lp)
      (λ k h.
      get_or-map (λ (p : ℤ × ℤ). f p.0 p.1) (zip a.cells b.cells) k (pos 0, pos 0) (f (pos 0) (pos 0)) (omega (arith, lp))
      ∙ ap (λ (p : ℤ × ℤ). f p.0 p.1) (get_or-zip a.cells b.cells k (pos 0, pos 0) (omega (arith, la)) (omega (arith, lb)))
      ∙ ap₂ f (sym (whole_cell a rows cols k wa h)) (sym (whole_cell b rows cols k wb h)))

  pub right_is : (a b : Array) (rows cols : ℕ) → IsWhole a rows cols → IsOne b → map (λ x. f x (get_or b.cells 0 (pos 0))) a.cells ≡ map (λ k. f (operand a rows k) (operand b rows k)) (range_with_len 0 (rows * cols))
  right_is a b rows cols wa ob =
      let la = whole_length a rows cols wa in
      let y = get_or b.cells 0 (pos 0) in
      fill_by_all (λ k. f (operand a rows k) (operand b rows k)) (map (λ x. f x y) a.cells) (rows * cols) (f (pos 0) y) (length-map a.cells (λ x. f x y) ∙ la)
      (λ k h.
      get_or-map (λ x. f x y) a.cells k (pos 0) (f (pos 0) y) (omega (arith, la))
      ∙ ap₂ f (sym (whole_cell a rows cols k wa h)) (sym (one_cell b rows k ob)))

  pub left_is : (a b : Array) (rows cols : ℕ) → IsOne a → IsWhole b rows cols → map (λ y. f (get_or a.cells 0 (pos 0)) y) b.cells ≡ map (λ k. f (operand a rows k) (operand b rows k)) (range_with_len 0 (rows * cols))
  left_is a b rows cols oa wb =
      let lb = whole_length b rows cols wb in
      let x = get_or a.cells 0 (pos 0) in
      fill_by_all (λ k. f (operand a rows k) (operand b rows k)) (map (λ y. f x y) b.cells) (rows * cols) (f x (pos 0)) (length-map b.cells (λ y. f x y) ∙ lb)
      (λ k h.
      get_or-map (λ y. f x y) b.cells k (pos 0) (f x (pos 0)) (omega (arith, lb))
      ∙ ap₂ f (sym (one_cell a rows k oa)) (sym (whole_cell b rows cols k wb h)))

list_any-map : {X Y : Type 0} (test : Y → Bool) (f : X → Y) (xs : List X) → list_any test (map f xs) ≡ list_any (λ x. test (f x)) xs
list_any-map test f [] = refl
list_any-map test f (x ∷ xs) = ap (λ (b : Bool). test (f x) || b) (list_any-map test f xs)

module _ (t : ℤ → ℤ → Bool) where
  pub some_pair_is : (a b : Array) (rows cols : ℕ) → IsWhole a rows cols → IsWhole b rows cols → list_any (λ p. t p.0 p.1) (zip a.cells b.cells) ≡ list_any (λ k. t (operand a rows k) (operand b rows k)) (range_with_len 0 (rows * cols))
  some_pair_is a b rows cols wa wb =
      sym (list_any-map (λ (x : Bool). x) (λ (p : ℤ × ℤ). t p.0 p.1) (zip a.cells b.cells))
      ∙ ap (list_any (λ (x : Bool). x)) (pairs_are t a b rows cols wa wb)
      ∙ list_any-map (λ (x : Bool). x) (λ k. t (operand a rows k) (operand b rows k)) (range_with_len 0 (rows * cols))

  pub some_right_is : (a b : Array) (rows cols : ℕ) → IsWhole a rows cols → IsOne b → list_any (λ x. t x (get_or b.cells 0 (pos 0))) a.cells ≡ list_any (λ k. t (operand a rows k) (operand b rows k)) (range_with_len 0 (rows * cols))
  some_right_is a b rows cols wa ob =
      sym (list_any-map (λ (x : Bool). x) (λ x. t x (get_or b.cells 0 (pos 0))) a.cells)
      ∙ ap (list_any (λ (x : Bool). x)) (right_is t a b rows cols wa ob)
      ∙ list_any-map (λ (x : Bool). x) (λ k. t (operand a rows k) (operand b rows k)) (range_with_len 0 (rows * cols))

  pub some_left_is : (a b : Array) (rows cols : ℕ) → IsOne a → IsWhole b rows cols → list_any (λ y. t (get_or a.cells 0 (pos 0)) y) b.cells ≡ list_any (λ k. t (operand a rows k) (operand b rows k)) (range_with_len 0 (rows * cols))
  some_left_is a b rows cols oa wb =
      sym (list_any-map (λ (x : Bool). x) (λ y. t (get_or a.cells 0 (pos 0)) y) b.cells)
      ∙ ap (list_any (λ (x : Bool). x)) (left_is t a b rows cols oa wb)
      ∙ list_any-map (λ (x : Bool). x) (λ k. t (operand a rows k) (operand b rows k)) (range_with_len 0 (rows * cols))
