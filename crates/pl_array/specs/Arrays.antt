-- The array model: what an array is, and when it is valid.
use Rattle.std.specs.Prelude.{◌≡◌, ℕ, ◌+◌, ◌-◌, ◌*◌, ◌≤◌, ◌==◌, ℤ, pos, ◌≤ℤ◌, List, [], ◌∷◌, ◌++◌, length, slice_index_or, slice_set, replicate, Option, Some, None, if◌then◌else◌}
use Rattle.std.specs.List.{All}
use Rattle.pl_array.specs.declared.class.Class.{Class}
use Rattle.pl_array.specs.declared.class.Class.TheVariants.{Logical, Int, Char}

-- an array: its cells stand by columns, the first column first
pub record Array : Type 0 where
  pub class : Class
  pub rows : ℕ
  pub cols : ℕ
  pub cells : List ℤ

-- the place of a class among the classes, the least first
abbrev pub class_number : Class → ℕ
class_number Logical = 0
class_number Int = 1
class_number Char = 2

-- the numbers that a cell of this class may be
abbrev pub IsCell : Class → ℤ → Type 0
IsCell Logical z = (pos 0 ≤ℤ z) × (z ≤ℤ pos 1)
IsCell Int z = Unit {0}
IsCell Char z = (pos 0 ≤ℤ z) × (z ≤ℤ pos 255)

-- the most cells, rows and columns that an array has
abbrev pub most : ℕ
most = 1000000

-- cells enough for its shape, all of its class, within the limits, which hold for rows and columns also where there are no cells
pub record IsValid (a : Array) : Type 0 where
  pub count : length a.cells ≡ a.rows * a.cols
  pub limit : a.rows * a.cols ≤ most
  pub row_limit : a.rows ≤ most
  pub col_limit : a.cols ≤ most
  pub of_class : All (IsCell a.class) a.cells

-- the cell in row r and column c, which count from 0
abbrev pub cell_at : Array → ℕ → ℕ → ℤ
cell_at a r c = slice_index_or a.cells (c * a.rows + r) (pos 0)

-- the number of a 1x1 array
abbrev pub single_of : Array → Option ℤ
single_of a = if a.rows * a.cols == 1 then Some (cell_at a 0 0) else None

-- the array with other cells
abbrev pub with_cells : Array → List ℤ → Array
with_cells a cells = record { class = a.class; rows = a.rows; cols = a.cols; cells = cells }

-- as many cells as wanted, where the list is shorter: zeros behind its own
abbrev pub filled : List ℤ → ℕ → List ℤ
filled cells count = cells ++ replicate (count - length cells) (pos 0)

-- the cells after these numbers were written to these places, one after another
abbrev pub written : List ℤ → List ℕ → List ℤ → List ℤ
written cells [] values = cells
written cells (place ∷ places) [] = cells
written cells (place ∷ places) (v ∷ values) = written (slice_set cells place v) places values

-- the array that takes this shape, its cells kept in their order and zeros behind them, and then is written
abbrev pub put_of : Array → ℕ → ℕ → List ℕ → List ℤ → Array
put_of a rows cols places values = record { class = a.class; rows = rows; cols = cols; cells = written (filled a.cells (rows * cols)) places values }
