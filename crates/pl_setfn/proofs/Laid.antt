-- Cells that are read elsewhere are of the class, and as many as the shape wants.
use Rattle.std.proofs.Common.{◌≡◌, ℕ, zero, suc, ◌+◌, ◌*◌, ◌/◌, ◌%◌, ℤ, pos, List, [], ◌∷◌, length, get_or, arith, ap, ◌∙◌}
use Rattle.std.specs.List.{All, range_with_len}
use Rattle.std.proofs.lemmas.List.FromFn.{length-map-range_with_len}
use Rattle.std.proofs.lemmas.List.Elements.{All-map, All-same, All-head, All-tail}
use Rattle.pl_array.specs.Arrays.{Array, IsCell, IsValid, cell_at}
use Rattle.pl_array.specs.declared.class.Shape.{Shape}
use Rattle.pl_array.specs.declared.class.Class.{Class}
use Rattle.pl_array.specs.declared.class.Class.TheVariants.{Logical, Int, Char}
use Rattle.pl_array.specs.Joining.{by_places}
use Rattle.pl_setfn.specs.Layout.{laid_out}

zero_is_cell : (class : Class) → IsCell class (pos 0)
zero_is_cell Logical = (omega arith, omega arith)
zero_is_cell Int = tt
zero_is_cell Char = (omega arith, omega arith)

-- behind the cells stands 0
pub any_cell : (class : Class) (xs : List ℤ) (k : ℕ) → All (IsCell class) xs → IsCell class (get_or xs k (pos 0))
any_cell class [] k h = zero_is_cell class
any_cell class (x ∷ xs) zero h = All-head (IsCell class) x xs h
any_cell class (x ∷ xs) (suc k) h = any_cell class xs k (All-tail (IsCell class) x xs h)

pub laid_count : (n : ℕ) (cell : ℕ → ℤ) (xs : List ℤ) → xs ≡ by_places n cell → length xs ≡ n
laid_count n cell xs e = ap length e ∙ length-map-range_with_len cell 0 n

-- each cell of the list is one of an array of the class
pub read_class : (class : Class) (cells : List ℤ) (n : ℕ) (place : ℕ → ℕ) (xs : List ℤ) → All (IsCell class) cells → xs ≡ by_places n (λ k. get_or cells (place k) (pos 0)) → All (IsCell class) xs
read_class class cells n place xs all e =
    All-same (IsCell class) xs (by_places n (λ k. get_or cells (place k) (pos 0))) e
    (All-map (IsCell class) (λ k. get_or cells (place k) (pos 0)) (range_with_len 0 n) (λ k d h. any_cell class cells _ all))

-- cells for this shape and class
pub record Fills (class : Class) (s : Shape) (xs : List ℤ) : Type 0 where
  pub count : length xs ≡ s.rows * s.cols
  pub of_class : All (IsCell class) xs

-- each cell is read at some row and column of a
pub laid_fills : (a : Array) (s : Shape) (row col : ℕ → ℕ → ℕ) (xs : List ℤ) → IsValid a → xs ≡ (laid_out a s (λ i j. cell_at a (row i j) (col i j))).cells → Fills a.class s xs
laid_fills a s row col xs valid e =
    let place : ℕ → ℕ = λ k. col (k % s.rows) (k / s.rows) * a.rows + row (k % s.rows) (k / s.rows) in
    record {
      count = laid_count (s.rows * s.cols) (λ k. cell_at a (row (k % s.rows) (k / s.rows)) (col (k % s.rows) (k / s.rows))) xs e;
      of_class = read_class a.class a.cells (s.rows * s.cols) place xs valid.of_class e;
    }
