-- What the operators make of values, and the truth of a value where the language asks for one.
use Rattle.std.specs.Prelude.{◌*◌, ◌==◌, ℤ, pos, Bool, false, not, ◌&&◌, ◌||◌, [], ◌∷◌, length, Option, Some, None, Result, Ok, Err, if◌then◌else◌}
use Rattle.std.specs.List.{list_any}
use Rattle.std.specs.Ordering.{int_eq}
use Rattle.std.specs.Cmp.Lexicographic.{pointwise}
use Rattle.pl_base.specs.declared.mode.Mode.{Mode}
use Rattle.pl_base.specs.declared.errors.ErrKind.{ErrKind}
use Rattle.pl_base.specs.declared.errors.ErrKind.TheVariants.{MatrixOp, NotScalar}
use Rattle.pl_array.specs.declared.class.Class.TheVariants.{Logical, Int}
use Rattle.pl_array.specs.declared.ops.Op1.TheVariants as op1
use Rattle.pl_array.specs.declared.ops.Op2.{Op2}
use Rattle.pl_array.specs.declared.ops.Op2.TheVariants as op2
use Rattle.pl_array.specs.Arrays.{Array, single_of}
use Rattle.pl_array.specs.Cellwise.{is_true, truth, map1_of, map2_of}
use Rattle.pl_array.specs.Joining.{transposed}
use Rattle.pl_text.specs.Displayed.{is_char}
use Rattle.pl_syntax.specs.declared.expr.Un.{Un}
use Rattle.pl_syntax.specs.declared.expr.Un.TheVariants.{Plus, Minus, Not, Transpose}
use Rattle.pl_syntax.specs.declared.expr.Bin.{Bin}
use Rattle.pl_syntax.specs.declared.expr.Bin.TheVariants.{Add, Sub, Mul, Div, Pow, DotMul, DotDiv, DotPow, Lt, Le, Gt, Ge, Eq, Ne, And, Or, AndAlso, OrElse}
use Rattle.pl_values.specs.declared.value.Value.{Value}
use Rattle.pl_values.specs.declared.value.Value.TheVariants as value
use Rattle.pl_operators.specs.Operands.{and_then, valued, array_in}

-- the same numbers as int64
abbrev pub as_int : Array → Array
as_int a = record { class = Int; rows = a.rows; cols = a.cols; cells = a.cells }

-- an operator of one operand on an array
abbrev pub unary_array : Mode → Un → Array → Result Array ErrKind
unary_array mode Plus a = Ok (as_int a)
unary_array mode Minus a = map1_of mode op1.Neg a
unary_array mode Not a = map1_of mode op1.Not a
unary_array mode Transpose a = Ok (transposed a)

-- an operator of one operand
abbrev pub unary_of : Mode → Un → Value → Result Value ErrKind
unary_of mode op v = valued (and_then (array_in v) (unary_array mode op))

-- the elementwise operator of each operator of two operands
abbrev pub elementwise : Bin → Op2
elementwise Add = op2.Add
elementwise Sub = op2.Sub
elementwise Mul = op2.Mul
elementwise Div = op2.Div
elementwise Pow = op2.Pow
elementwise DotMul = op2.Mul
elementwise DotDiv = op2.Div
elementwise DotPow = op2.Pow
elementwise Lt = op2.Lt
elementwise Le = op2.Le
elementwise Gt = op2.Gt
elementwise Ge = op2.Ge
elementwise Eq = op2.Eq
elementwise Ne = op2.Ne
elementwise And = op2.And
elementwise Or = op2.Or
elementwise AndAlso = op2.And
elementwise OrElse = op2.Or

-- a 1x1 array
abbrev pub is_one : Array → Bool
is_one a = a.rows * a.cols == 1

-- `*` wants a 1x1 operand, `/` a 1x1 right one, `^` two; what is more is a matrix operation
abbrev pub is_matrix_op : Bin → Array → Array → Bool
is_matrix_op Mul a b = not (is_one a || is_one b)
is_matrix_op Div a b = not (is_one b)
is_matrix_op Pow a b = not (is_one a && is_one b)
is_matrix_op op a b = false

-- an operator on two arrays
abbrev pub binary_arrays : Mode → Bin → Array → Array → Result Array ErrKind
binary_arrays mode op a b = if is_matrix_op op a b then Err MatrixOp else map2_of mode (elementwise op) a b

-- an operator of two operands, which are tested from the left
abbrev pub binary_of : Mode → Bin → Value → Value → Result Value ErrKind
binary_of mode op x y = valued (and_then (array_in x) (λ a. and_then (array_in y) (binary_arrays mode op a)))

-- a truth value
abbrev pub logical_value : Bool → Value
logical_value b = value.Array (record { class = Logical; rows = 1; cols = 1; cells = truth b ∷ [] })

-- a 1x1 array is true where it isn't 0
abbrev pub switch_by : Option ℤ → Result Bool ErrKind
switch_by None = Err NotScalar
switch_by (Some z) = Ok (is_true z)

-- an operand of `&&` and of its like for or
abbrev pub switch_of : Value → Result Bool ErrKind
switch_of v = and_then (array_in v) (λ a. switch_by (single_of a))

-- an array is true where it has cells and none is 0
abbrev pub holds : Array → Bool
holds a = not (length a.cells == 0) && not (list_any (λ z. int_eq z (pos 0)) a.cells)

-- a condition
abbrev pub condition_of : Value → Result Bool ErrKind
condition_of v = and_then (array_in v) (λ a. Ok (holds a))

-- the same characters in the same shape
abbrev pub same_text : Array → Array → Bool
same_text a b = is_char a.class && is_char b.class && a.rows == b.rows && a.cols == b.cols && pointwise int_eq a.cells b.cells

-- the same 1x1 number
abbrev pub same_single : Option ℤ → Option ℤ → Bool
same_single (Some x) (Some y) = int_eq x y
same_single (Some x) None = false
same_single None y = false

-- whether a case fits the value of its switch
abbrev pub case_fits : Value → Value → Result Bool ErrKind
case_fits x y = and_then (array_in x) (λ a. and_then (array_in y) (λ b. Ok (same_text a b || same_single (single_of a) (single_of b))))
