-- The signs of operators, as they stand in a text.
use Rattle.std.specs.Prelude.{ℕ, List, codes}
use Rattle.pl_syntax.specs.declared.expr.Un.{Un}
use Rattle.pl_syntax.specs.declared.expr.Un.TheVariants as un
use Rattle.pl_syntax.specs.declared.expr.Bin.{Bin}
use Rattle.pl_syntax.specs.declared.expr.Bin.TheVariants as bin

-- of one operand: the sign of a transposition stands behind it, the others in front
abbrev pub unary_sign : Un → List ℕ
unary_sign un.Plus = codes "+"
unary_sign un.Minus = codes "-"
unary_sign un.Not = codes "~"
unary_sign un.Transpose = codes "'"

-- of two operands
abbrev pub binary_sign : Bin → List ℕ
binary_sign bin.Add = codes "+"
binary_sign bin.Sub = codes "-"
binary_sign bin.Mul = codes "*"
binary_sign bin.Div = codes "/"
binary_sign bin.Pow = codes "^"
binary_sign bin.DotMul = codes ".*"
binary_sign bin.DotDiv = codes "./"
binary_sign bin.DotPow = codes ".^"
binary_sign bin.Lt = codes "<"
binary_sign bin.Le = codes "<="
binary_sign bin.Gt = codes ">"
binary_sign bin.Ge = codes ">="
binary_sign bin.Eq = codes "=="
binary_sign bin.Ne = codes "~="
binary_sign bin.And = codes "&"
binary_sign bin.Or = codes "|"
binary_sign bin.AndAlso = codes "&&"
binary_sign bin.OrElse = codes "||"
