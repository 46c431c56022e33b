-- What a call of a function answers: one table for each number of arguments.
use Rattle.std.specs.Prelude.{ℕ, ℤ, ◌==◌, ◌&&◌, List, [], ◌∷◌, length, codes, Result, Ok, Err, if◌then◌else◌, nat_le}
use Rattle.pl_base.specs.Numbers.{greatest, least}
use Rattle.pl_base.specs.declared.mode.Mode.{Mode}
use Rattle.pl_base.specs.declared.errors.ErrKind.{ErrKind}
use Rattle.pl_base.specs.declared.errors.ErrKind.TheVariants.{ArgCount, ArgClass}
use Rattle.pl_array.specs.declared.class.Class.{Class}
use Rattle.pl_array.specs.declared.ops.Op1.{Op1}
use Rattle.pl_array.specs.declared.ops.Op2.{Op2}
use Rattle.pl_array.specs.Arrays.{Array}
use Rattle.pl_array.specs.Cellwise.{map1_of, map2_of}
use Rattle.pl_array.specs.Joining.{convert_of}
use Rattle.pl_builtin.specs.declared.name.Builtin.{Builtin}
use Rattle.pl_builtin.specs.declared.name.Builtin.TheVariants.{Abs, Sign, Mod, Rem, Xor, Min, Max, Sum, Prod, Idivide, BitAnd, BitOr, BitXor, BitShift, Numel, Length, IsEmpty, Size, IsEqual, Zeros, Ones, True, False, Eye, ToInt, ToLogical, ToChar, IntMax, IntMin, ClassOf, IsChar, IsLogical, IsNumeric, IsScalar, IsVector, StrCmp}
use Rattle.pl_builtin.specs.declared.making.Fill.{Fill}
use Rattle.pl_builtin.specs.declared.rules.Rounding.{Rounding}
use Rattle.pl_builtin.specs.declared.rules.Bits.{Bits}
use Rattle.pl_builtin.specs.declared.rules.Rule.{Rule}
use Rattle.pl_builtin.specs.declared.totals.Total.{Total}
use Rattle.pl_builtin.specs.declared.extremes.Extreme.{Extreme}
use Rattle.pl_builtin.specs.Arguments.{bind, is_of, is_text}
use Rattle.pl_builtin.specs.Along.{total_of, total_by, extreme_of, both_of}
use Rattle.pl_builtin.specs.Asking.{single, answer, length_of, size_of, size_along, are_equal, is_vector, is_single, class_name, text_row}
use Rattle.pl_builtin.specs.Making.{made, square_of, block_of}
use Rattle.pl_builtin.specs.Pairs.{pairs_of, bits_of}

-- one end of the numbers, of the class that the argument names
abbrev pub end_of : ℤ → Array → Result Array ErrKind
end_of z a = if is_text (codes "int64") a then Ok (record { class = Class.Int; rows = 1; cols = 1; cells = z ∷ [] }) else Err ArgClass

-- how a quotient is made whole, by the argument that names it
abbrev pub rounding_of : Array → Result Rounding ErrKind
rounding_of a =
    if is_text (codes "fix") a then Ok Rounding.Fix else
    (if is_text (codes "floor") a then Ok Rounding.Floor else
    (if is_text (codes "ceil") a then Ok Rounding.Ceil else
    (if is_text (codes "round") a then Ok Rounding.Round else Err ArgClass)))

-- without an argument
abbrev pub with_none : Builtin → Result Array ErrKind
with_none Zeros = made Fill.Zeros (record { rows = 1; cols = 1 })
with_none Ones = made Fill.Ones (record { rows = 1; cols = 1 })
with_none True = made Fill.True (record { rows = 1; cols = 1 })
with_none False = made Fill.False (record { rows = 1; cols = 1 })
with_none Eye = made Fill.Eye (record { rows = 1; cols = 1 })
with_none f = Err ArgCount

-- with one argument
abbrev pub with_one : Mode → Builtin → Array → Result Array ErrKind
with_one mode Abs a = map1_of mode Op1.Abs a
with_one mode Sign a = map1_of mode Op1.Sign a
with_one mode Min a = extreme_of Extreme.Least a
with_one mode Max a = extreme_of Extreme.Greatest a
with_one mode Sum a = total_of mode Total.Sum a
with_one mode Prod a = total_of mode Total.Product a
with_one mode Numel a = Ok (single (length a.cells))
with_one mode Length a = Ok (single (length_of a))
with_one mode IsEmpty a = Ok (single (if length a.cells == 0 then 1 else 0))
with_one mode Size a = Ok (size_of a)
with_one mode Zeros a = square_of Fill.Zeros a
with_one mode Ones a = square_of Fill.Ones a
with_one mode True a = square_of Fill.True a
with_one mode False a = square_of Fill.False a
with_one mode Eye a = square_of Fill.Eye a
with_one mode ToInt a = convert_of a Class.Int
with_one mode ToLogical a = convert_of a Class.Logical
with_one mode ToChar a = convert_of a Class.Char
with_one mode IntMax a = end_of greatest a
with_one mode IntMin a = end_of least a
with_one mode ClassOf a = Ok (text_row (class_name a.class))
with_one mode IsChar a = Ok (answer (is_of Class.Char a))
with_one mode IsLogical a = Ok (answer (is_of Class.Logical a))
with_one mode IsNumeric a = Ok (answer (is_of Class.Int a))
with_one mode IsScalar a = Ok (answer (is_single a))
with_one mode IsVector a = Ok (answer (is_vector a))
with_one mode f a = Err ArgCount

-- with two arguments
abbrev pub with_two : Mode → Builtin → Array → Array → Result Array ErrKind
with_two mode Mod a b = map2_of mode Op2.Mod a b
with_two mode Rem a b = map2_of mode Op2.Rem a b
with_two mode Xor a b = map2_of mode Op2.Xor a b
with_two mode Min a b = map2_of mode Op2.Min a b
with_two mode Max a b = map2_of mode Op2.Max a b
with_two mode Sum a b = total_by mode Total.Sum a b
with_two mode Prod a b = total_by mode Total.Product a b
with_two mode Idivide a b = pairs_of mode (Rule.Divide Rounding.Fix) a b
with_two mode BitAnd a b = bits_of mode Bits.And a b
with_two mode BitOr a b = bits_of mode Bits.Or a b
with_two mode BitXor a b = bits_of mode Bits.Xor a b
with_two mode BitShift a b = bits_of mode Bits.Shift a b
with_two mode Size a b = size_along a b
with_two mode IsEqual a b = Ok (answer (are_equal a b))
with_two mode Zeros a b = block_of Fill.Zeros a b
with_two mode Ones a b = block_of Fill.Ones a b
with_two mode True a b = block_of Fill.True a b
with_two mode False a b = block_of Fill.False a b
with_two mode Eye a b = block_of Fill.Eye a b
with_two mode StrCmp a b = Ok (answer (is_of Class.Char a && is_of Class.Char b && are_equal a b))
with_two mode f a b = Err ArgCount

-- with three arguments
abbrev pub with_three : Mode → Builtin → Array → Array → Array → Result Array ErrKind
with_three mode Idivide a b c = bind (rounding_of c) (λ rounding. pairs_of mode (Rule.Divide rounding) a b)
with_three mode f a b c = Err ArgCount

-- the one output, or the first
abbrev pub first_output : Mode → Builtin → List Array → Result Array ErrKind
first_output mode f [] = with_none f
first_output mode f (a ∷ []) = with_one mode f a
first_output mode f (a ∷ b ∷ []) = with_two mode f a b
first_output mode f (a ∷ b ∷ c ∷ []) = with_three mode f a b c
first_output mode f args = Err ArgCount

-- one answer
abbrev pub one_answer : Mode → Builtin → List Array → Result (List Array) ErrKind
one_answer mode f args = bind (first_output mode f args) (λ o. Ok (o ∷ []))

-- two answers, of the functions that have them
abbrev pub two_answers : Builtin → List Array → Result (List Array) ErrKind
two_answers Min (a ∷ []) = both_of Extreme.Least a
two_answers Max (a ∷ []) = both_of Extreme.Greatest a
two_answers Size (a ∷ []) = Ok (single a.rows ∷ single a.cols ∷ [])
two_answers f args = Err ArgCount

-- the answers to a call that asks for so many outputs; none asked for is one that may be given
abbrev pub call_of : Mode → Builtin → List Array → ℕ → Result (List Array) ErrKind
call_of mode f args nout =
    if nat_le nout 1 then one_answer mode f args else
    (if nout == 2 then two_answers f args else Err ArgCount)
