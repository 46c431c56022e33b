-- What the functions that ask about arrays answer.
use Rattle.std.specs.Prelude.{ℕ, ℤ, pos, ◌==◌, Bool, ◌&&◌, ◌||◌, List, [], ◌∷◌, map, length, codes, max, Result, Ok, Err, if◌then◌else◌}
use Rattle.std.specs.Ordering.{int_eq}
use Rattle.std.specs.Cmp.Lexicographic.{pointwise}
use Rattle.pl_base.specs.declared.errors.ErrKind.{ErrKind}
use Rattle.pl_base.specs.declared.errors.ErrKind.TheVariants.{ArgRange}
use Rattle.pl_array.specs.declared.class.Class.{Class}
use Rattle.pl_array.specs.declared.class.Class.TheVariants.{Logical, Int, Char}
use Rattle.pl_array.specs.Arrays.{Array}
use Rattle.pl_array.specs.Cellwise.{truth}
use Rattle.pl_builtin.specs.Arguments.{bind, one_number}

-- one number
abbrev pub single : ℕ → Array
single n = record { class = Int; rows = 1; cols = 1; cells = pos n ∷ [] }

-- one truth value
abbrev pub answer : Bool → Array
answer b = record { class = Logical; rows = 1; cols = 1; cells = truth b ∷ [] }

-- 0 where there are no cells, else the greater extent
abbrev pub length_of : Array → ℕ
length_of a = if length a.cells == 0 then 0 else max a.rows a.cols

-- both extents as a row
abbrev pub size_of : Array → Array
size_of a = record { class = Int; rows = 1; cols = 2; cells = pos a.rows ∷ pos a.cols ∷ [] }

-- the extent of a dimension, which is 1 or 2
abbrev pub extent_along : Array → ℤ → Result Array ErrKind
extent_along a d =
    if int_eq d (pos 1) then Ok (single a.rows) else
    (if int_eq d (pos 2) then Ok (single a.cols) else Err ArgRange)

-- the extent of the dimension that an argument names
abbrev pub size_along : Array → Array → Result Array ErrKind
size_along a d = bind (one_number d) (extent_along a)

-- equal shapes and numbers
abbrev pub are_equal : Array → Array → Bool
are_equal a b = a.rows == b.rows && a.cols == b.cols && pointwise int_eq a.cells b.cells

-- one row or one column
abbrev pub is_vector : Array → Bool
is_vector a = a.rows == 1 || a.cols == 1

-- one cell
abbrev pub is_single : Array → Bool
is_single a = a.rows == 1 && a.cols == 1

-- the name of a class
abbrev pub class_name : Class → List ℕ
class_name Logical = codes "logical"
class_name Int = codes "int64"
class_name Char = codes "char"

-- a row of the bytes of a text
abbrev pub text_row : List ℕ → Array
text_row text = record { class = Char; rows = 1; cols = length text; cells = map pos text }
