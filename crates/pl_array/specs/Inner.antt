-- The array that a kept one stands for.
use Rattle.std.specs.Prelude.{ℤ, List, [], ◌∷◌}
use Rattle.std.specs.Arc.{arc_value}
use Rattle.pl_array.specs.Arrays.{Array}
use Rattle.pl_array.specs.declared.held.Cells.{Cells}
use Rattle.pl_array.specs.declared.held.Cells.TheVariants.{One, Own, Shared}
use Rattle.pl_array.specs.declared.arr.Arr.TheInside.{Inside}

-- the cells, in whichever form they are kept
abbrev pub cells_of : Cells → List ℤ
cells_of (One v) = v ∷ []
cells_of (Own v) = v.items
cells_of (Shared s) = (arc_value s).items

-- the array
abbrev pub array_of : Inside → Array
array_of a = record { class = a.class; rows = a.rows; cols = a.cols; cells = cells_of a.cells }
