-- The lines of an array along a dimension: its columns, or its rows, each by its cells in order.
use Rattle.std.specs.Prelude.{ℕ, ◌==◌, ℤ, pos, not, ◌&&◌, List, map, Option, Some, None, if◌then◌else◌}
use Rattle.std.specs.List.{range_with_len}
use Rattle.std.specs.Ordering.{int_eq}
use Rattle.pl_array.specs.declared.class.Class.{Class}
use Rattle.pl_array.specs.declared.class.Shape.{Shape}
use Rattle.pl_array.specs.Arrays.{Array, cell_at}
use Rattle.pl_array.specs.Cellwise.{shape_of}
use Rattle.pl_lines.specs.declared.dim.Dim.{Dim}
use Rattle.pl_lines.specs.declared.dim.Dim.TheVariants.{Down, Across}

-- the dimension with this number
abbrev pub dim_of : ℤ → Option Dim
dim_of z = if int_eq z (pos 1) then Some Down else (if int_eq z (pos 2) then Some Across else None)

-- the first dimension that isn't 1, and down for 1x1
abbrev pub default_dim : Shape → Dim
default_dim s = if s.rows == 1 && not (s.cols == 1) then Across else Down

-- how many cells each line has
abbrev pub extent : Dim → Shape → ℕ
extent Down s = s.rows
extent Across s = s.cols

-- how many lines there are
abbrev pub line_count : Dim → Shape → ℕ
line_count Down s = s.cols
line_count Across s = s.rows

-- the shape with as many lines, each of so many cells
abbrev pub with_extent : Dim → Shape → ℕ → Shape
with_extent Down s n = record { rows = n; cols = s.cols }
with_extent Across s n = record { rows = s.rows; cols = n }

-- cell k of line i
abbrev pub cell_along : Dim → Array → ℕ → ℕ → ℤ
cell_along Down a i k = cell_at a k i
cell_along Across a i k = cell_at a i k

-- line i
abbrev pub line : Dim → Array → ℕ → List ℤ
line d a i = map (cell_along d a i) (range_with_len 0 (extent d (shape_of a)))

-- all lines, in order
abbrev pub lines : Dim → Array → List (List ℤ)
lines d a = map (line d a) (range_with_len 0 (line_count d (shape_of a)))

-- the array of one cell for each line
abbrev pub one_a_line : Class → Dim → Shape → List ℤ → Array
one_a_line class d s cells = record { class = class; rows = (with_extent d s 1).rows; cols = (with_extent d s 1).cols; cells = cells }
