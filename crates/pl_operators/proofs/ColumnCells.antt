-- A column has as many cells as there are rows, all of the array's class.
use Rattle.std.proofs.Common.{◌≡◌, ℕ, ◌+◌, ◌*◌, ◌<◌, ℤ, pos, List, map, length, arith, sym, ◌∙◌, subst}
use Rattle.std.specs.List.{All, range_with_len}
use Rattle.std.proofs.lemmas.Nat.{mul-add-lt}
use Rattle.std.proofs.lemmas.List.FromFn.{length-map-range_with_len, get_or-map-range_with_len}
use Rattle.std.proofs.lemmas.List.Elements.{All-from_get_or}
use Rattle.pl_array.specs.Arrays.{Array, IsCell, IsValid, cell_at}
use Rattle.pl_operators.specs.Columns.{column_of}

pub column_count : (cells : List ℤ) (f : ℕ → ℤ) (rows : ℕ) → cells ≡ map f (range_with_len 0 rows) → length cells ≡ rows * 1
column_count cells f rows are = subst (λ (xs : List ℤ). length xs ≡ rows * 1) (sym are) (length-map-range_with_len f 0 rows ∙ omega arith)

inside : (a : Array) (r j : ℕ) → IsValid a → r < a.rows → j < a.cols → IsCell a.class (cell_at a r j)
inside a r j valid row col = valid.of_class (j * a.rows + r) (pos 0) (omega (arith, valid.count, mul-add-lt j a.rows r a.cols col row))

pub column_class : (a : Array) (j : ℕ) → IsValid a → j < a.cols → All (IsCell a.class) (column_of a j).cells
column_class a j valid col =
    All-from_get_or (IsCell a.class) (column_of a j).cells (pos 0) (λ k within.
    let row : k < a.rows = omega (arith, length-map-range_with_len (λ r. cell_at a r j) 0 a.rows) in
    subst (IsCell a.class) (sym (get_or-map-range_with_len (λ r. cell_at a r j) 0 a.rows k k (pos 0) row (omega arith))) (inside a k j valid row col))

pub cell_class : (a : Array) (j : ℕ) → IsValid a → a.rows ≡ 1 → j < a.cols → IsCell a.class (cell_at a 0 j)
cell_class a j valid row col = inside a 0 j valid (omega (arith, row)) col
