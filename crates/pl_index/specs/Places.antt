-- The places that a position names, which count from 0, and the cells at places.
use Rattle.std.specs.Prelude.{◌≡◌, ℕ, ◌+◌, ◌-◌, ◌*◌, ◌/◌, ◌%◌, ◌≤◌, ◌==◌, ℤ, pos, unsigned_abs, int_lt, Bool, true, false, not, ◌&&◌, List, map, length, slice_index_or, if◌then◌else◌, min, max}
use Rattle.std.specs.List.{range_with_len, list_any, filter, fold}
use Rattle.pl_array.specs.declared.class.Class.{Class}
use Rattle.pl_array.specs.declared.class.Class.TheVariants.{Logical}
use Rattle.pl_array.specs.declared.class.Shape.{Shape}
use Rattle.pl_array.specs.Arrays.{Array, most}
use Rattle.pl_array.specs.Cellwise.{is_true}
use Rattle.pl_index.specs.declared.index.Pos.{Pos}
use Rattle.pl_index.specs.declared.index.Pos.TheVariants.{All, At}

-- a logical index is a mask
abbrev pub is_mask : Class → Bool
is_mask Logical = true
is_mask class = false

-- a position with a number below 1
abbrev pub is_bad : Pos → Bool
is_bad All = false
is_bad (At x) = not (is_mask x.class) && list_any (λ z. int_lt z (pos 1)) x.cells

-- the place of a number, which counts from 1; all that are past every limit are the same one
abbrev pub place_of : ℤ → ℕ
place_of z = min (unsigned_abs z - 1) most

-- the places of a mask's true cells
abbrev pub true_places : List ℤ → List ℕ
true_places cells = filter (λ k. is_true (slice_index_or cells k (pos 0))) (range_with_len 0 (length cells))

-- the places that an array names
abbrev pub index_places : Array → List ℕ
index_places x = if is_mask x.class then true_places x.cells else map place_of x.cells

-- the places that a position names, where so many are there
abbrev pub places_of : Pos → ℕ → List ℕ
places_of All extent = range_with_len 0 extent
places_of (At x) extent = index_places x

-- the greatest subscript: one more than the greatest place, and 0 for no place
abbrev pub reach : List ℕ → ℕ
reach places = fold (λ top k. max top (k + 1)) 0 places

-- where the columns meet the rows: the places by columns, in an array with so many rows
abbrev pub crossing : ℕ → List ℕ → List ℕ → List ℕ
crossing height rows cols =
    map (λ k. slice_index_or cols (k / length rows) 0 * height + slice_index_or rows (k % length rows) 0) (range_with_len 0 (length rows * length cols))

-- the cells at these places
abbrev pub picked : List ℤ → List ℕ → List ℤ
picked cells places = map (λ k. slice_index_or cells k (pos 0)) places

-- the places that aren't among these
abbrev pub left_over : ℕ → List ℕ → List ℕ
left_over extent places = filter (λ k. not (list_any (λ place. place == k) places)) (range_with_len 0 extent)

-- a position that is no mask names as many places as it has cells
abbrev pub Lists : Pos → ℕ → Type 0
Lists All count = Unit {0}
Lists (At x) count = is_mask x.class ≡ false → count ≡ x.rows * x.cols

-- rows and columns that an array of this shape has
pub record Inside (s : Shape) (rows cols : List ℕ) : Type 0 where
  pub row_reach : reach rows ≤ s.rows
  pub col_reach : reach cols ≤ s.cols
  pub limit : s.rows * s.cols ≤ most
  pub row_limit : s.rows ≤ most

-- a shape with so many cells, within the limits
pub record Holds (s : Shape) (count : ℕ) : Type 0 where
  pub exact : s.rows * s.cols ≡ count
  pub limit : count ≤ most
  pub row_limit : s.rows ≤ most
  pub col_limit : s.cols ≤ most
