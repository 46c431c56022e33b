-- The places of true cells, and how many there are.
use Rattle.std.specs.Prelude.{ℕ, ◌+◌, ◌==◌, ℤ, pos, List, [], ◌∷◌, map, length, slice_index_or, if◌then◌else◌, count_by}
use Rattle.std.specs.List.{range_with_len, filter}
use Rattle.pl_array.specs.declared.class.Class.{Class}
use Rattle.pl_array.specs.declared.class.Class.TheVariants.{Int}
use Rattle.pl_array.specs.declared.class.Shape.{Shape}
use Rattle.pl_array.specs.Arrays.{Array}
use Rattle.pl_array.specs.Cellwise.{is_true, shape_of}

-- so many cells in a line: a row where this is one row, else a column
abbrev pub line_like : Shape → ℕ → Shape
line_like s n = if s.rows == 1 then record { rows = 1; cols = n } else record { rows = n; cols = 1 }

-- these cells in a line
abbrev pub lined_up : Class → Shape → List ℤ → Array
lined_up class s cells = record { class = class; rows = (line_like s (length cells)).rows; cols = (line_like s (length cells)).cols; cells = cells }

-- the places of the true cells, which count from 1
abbrev pub true_places : List ℤ → List ℤ
true_places cells = map (λ k. pos (k + 1)) (filter (λ k. is_true (slice_index_or cells k (pos 0))) (range_with_len 0 (length cells)))

-- what `find` answers
abbrev pub find_of : Array → Array
find_of a = lined_up Int (shape_of a) (true_places a.cells)

-- what `nnz` answers
abbrev pub nnz_of : Array → Array
nnz_of a = record { class = Int; rows = 1; cols = 1; cells = pos (count_by is_true a.cells) ∷ [] }
