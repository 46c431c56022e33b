-- What the functions along lines answer: sums and products, and the least and the greatest of each line.
use Rattle.std.specs.Prelude.{ℕ, ◌+◌, ◌-◌, ℤ, pos, unsigned_abs, int_lt, Bool, not, ◌==◌, List, [], ◌∷◌, map, slice_index_or, Option, Some, None, Result, Ok, Err, if◌then◌else◌}
use Rattle.std.specs.List.{list_any, position_or_len}
use Rattle.pl_base.specs.declared.mode.Mode.{Mode}
use Rattle.pl_base.specs.declared.errors.ErrKind.{ErrKind}
use Rattle.pl_base.specs.declared.errors.ErrKind.TheVariants.{ArgRange}
use Rattle.pl_array.specs.declared.class.Class.TheVariants.{Int}
use Rattle.pl_array.specs.declared.ops.Op2.{Op2}
use Rattle.pl_array.specs.declared.ops.Op2.TheVariants.{Add, Mul}
use Rattle.pl_array.specs.Arrays.{Array}
use Rattle.pl_array.specs.Cellwise.{shape_of, number, overflows}
use Rattle.pl_array.specs.Joining.{is_nil}
use Rattle.pl_lines.specs.declared.dim.Dim.{Dim}
use Rattle.pl_lines.specs.Lines.{dim_of, default_dim, extent, lines, one_a_line}
use Rattle.pl_lines.specs.Folding.{fold_lines_of}
use Rattle.pl_builtin.specs.declared.totals.Total.{Total}
use Rattle.pl_builtin.specs.declared.totals.Total.TheVariants.{Sum, Product}
use Rattle.pl_builtin.specs.declared.extremes.Extreme.{Extreme}
use Rattle.pl_builtin.specs.declared.extremes.Extreme.TheVariants.{Least, Greatest}
use Rattle.pl_builtin.specs.Arguments.{bind, one_number}
use Rattle.pl_builtin.specs.Asking.{single}

-- the dimension that an argument names
abbrev pub dim_for : Option Dim → Result Dim ErrKind
dim_for None = Err ArgRange
dim_for (Some d) = Ok d

-- the argument stands for one number, which is 1 or 2
abbrev pub dimension : Array → Result Dim ErrKind
dimension a = bind (one_number a) (λ z. dim_for (dim_of z))

-- the operator of a total
abbrev pub operator : Total → Op2
operator Sum = Add
operator Product = Mul

-- where it begins
abbrev pub start : Total → ℕ
start Sum = 0
start Product = 1

-- one more cell, unless the mode refuses it
abbrev pub step : Mode → Op2 → ℤ → ℤ → Option ℤ
step mode op so_far x = if overflows mode op so_far x then None else Some (number op so_far x)

-- the left fold of each line along a dimension
abbrev pub total_along : Mode → Total → Dim → Array → Result Array ErrKind
total_along mode total d a = fold_lines_of Int (step mode (operator total)) (pos (start total)) d a

-- along the default dimension; of 0x0 where it begins
abbrev pub total_of : Mode → Total → Array → Result Array ErrKind
total_of mode total a = if is_nil (shape_of a) then Ok (single (start total)) else total_along mode total (default_dim (shape_of a)) a

-- along the dimension that an argument names
abbrev pub total_by : Mode → Total → Array → Array → Result Array ErrKind
total_by mode total a b = bind (dimension b) (λ d. total_along mode total d a)

-- y is wanted rather than x
abbrev pub is_better : Extreme → ℤ → ℤ → Bool
is_better Least y x = int_lt y x
is_better Greatest y x = int_lt x y

-- the first place of the cell than which no other is better
abbrev pub first_best : Extreme → List ℤ → ℕ
first_best which cells = position_or_len (λ x. not (list_any (λ y. is_better which y x) cells)) cells

-- the cell there
abbrev pub best : Extreme → List ℤ → ℤ
best which cells = slice_index_or cells (first_best which cells) (pos 0)

-- its place, from 1
abbrev pub best_place : Extreme → List ℤ → ℤ
best_place which cells = pos (first_best which cells + 1)

-- the cell at a place that counts from 1
abbrev pub cell_of : List ℤ → ℤ → ℤ
cell_of cells place = slice_index_or cells (unsigned_abs place - 1) (pos 0)

-- a value for each line along the default dimension; 0x0 gives 0x0, and other lines without cells are refused
abbrev pub each_line : (List ℤ → ℤ) → Array → Result Array ErrKind
each_line value a =
    if is_nil (shape_of a) then Ok (record { class = Int; rows = 0; cols = 0; cells = [] }) else
    (if extent (default_dim (shape_of a)) (shape_of a) == 0 then Err ArgRange else
    Ok (one_a_line Int (default_dim (shape_of a)) (shape_of a) (map value (lines (default_dim (shape_of a)) a))))

-- the least or the greatest of each line
abbrev pub extreme_of : Extreme → Array → Result Array ErrKind
extreme_of which a = each_line (best which) a

-- its first place in each line
abbrev pub place_of : Extreme → Array → Result Array ErrKind
place_of which a = each_line (best_place which) a

-- both
abbrev pub both_of : Extreme → Array → Result (List Array) ErrKind
both_of which a = bind (extreme_of which a) (λ cells. bind (place_of which a) (λ places. Ok (cells ∷ places ∷ [])))
