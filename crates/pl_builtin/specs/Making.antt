-- What the functions that make arrays answer.
use Rattle.std.specs.Prelude.{◌*◌, ◌/◌, ◌%◌, ℤ, pos, ◌==◌, replicate, Result, Ok, Err, if◌then◌else◌}
use Rattle.pl_base.specs.declared.errors.ErrKind.{ErrKind}
use Rattle.pl_base.specs.declared.errors.ErrKind.TheVariants.{SizeLimit}
use Rattle.pl_array.specs.declared.class.Class.{Class}
use Rattle.pl_array.specs.declared.class.Class.TheVariants.{Int, Logical}
use Rattle.pl_array.specs.declared.class.Shape.{Shape}
use Rattle.pl_array.specs.Arrays.{Array}
use Rattle.pl_array.specs.Cellwise.{truth}
use Rattle.pl_array.specs.Joining.{by_places, is_within}
use Rattle.pl_builtin.specs.declared.making.Fill.{Fill}
use Rattle.pl_builtin.specs.declared.making.Fill.TheVariants.{Zeros, Ones, True, False, Eye}
use Rattle.pl_builtin.specs.Arguments.{bind, extent, one_number}

-- the same number in each cell
abbrev pub uniform : Class → ℤ → Shape → Array
uniform class z s = record { class = class; rows = s.rows; cols = s.cols; cells = replicate (s.rows * s.cols) z }

-- 1 where the row is the column, else 0
abbrev pub identity : Shape → Array
identity s = record { class = Int; rows = s.rows; cols = s.cols; cells = by_places (s.rows * s.cols) (λ k. truth (k % s.rows == k / s.rows)) }

-- what an array of this shape is filled with
abbrev pub filled : Fill → Shape → Array
filled Zeros s = uniform Int (pos 0) s
filled Ones s = uniform Int (pos 1) s
filled True s = uniform Logical (pos 1) s
filled False s = uniform Logical (pos 0) s
filled Eye s = identity s

-- an array of a shape, within the limits
abbrev pub made : Fill → Shape → Result Array ErrKind
made fill s = if is_within s then Ok (filled fill s) else Err SizeLimit

-- the shape that two numbers ask for
abbrev pub shape_for : ℤ → ℤ → Shape
shape_for rows cols = record { rows = extent rows; cols = extent cols }

-- with one argument, as many rows as columns
abbrev pub square_of : Fill → Array → Result Array ErrKind
square_of fill a = bind (one_number a) (λ n. made fill (shape_for n n))

-- with two arguments, the rows and the columns
abbrev pub block_of : Fill → Array → Array → Result Array ErrKind
block_of fill a b = bind (one_number a) (λ rows. bind (one_number b) (λ cols. made fill (shape_for rows cols)))
