-- The names of the functions.
use Rattle.std.specs.Prelude.{ℕ, Bool, List, [], ◌∷◌, Option, codes, nat_eq}
use Rattle.std.specs.List.{find}
use Rattle.std.specs.Cmp.Lexicographic.{pointwise}
use Rattle.pl_builtin.specs.declared.name.Builtin.{Builtin}
use Rattle.pl_builtin.specs.declared.name.Builtin.TheVariants.{Abs, Sign, Mod, Rem, Xor, Min, Max, Sum, Prod, Idivide, BitAnd, BitOr, BitXor, BitShift, Numel, Length, IsEmpty, Size, IsEqual, Zeros, Ones, True, False, Eye, ToInt, ToLogical, ToChar, IntMax, IntMin, ClassOf, IsChar, IsLogical, IsNumeric, IsScalar, IsVector, StrCmp}

-- the name of a function in a script
abbrev pub name_of : Builtin → List ℕ
name_of Abs = codes "abs"
name_of Sign = codes "sign"
name_of Mod = codes "mod"
name_of Rem = codes "rem"
name_of Xor = codes "xor"
name_of Min = codes "min"
name_of Max = codes "max"
name_of Sum = codes "sum"
name_of Prod = codes "prod"
name_of Idivide = codes "idivide"
name_of BitAnd = codes "bitand"
name_of BitOr = codes "bitor"
name_of BitXor = codes "bitxor"
name_of BitShift = codes "bitshift"
name_of Numel = codes "numel"
name_of Length = codes "length"
name_of IsEmpty = codes "isempty"
name_of Size = codes "size"
name_of IsEqual = codes "isequal"
name_of Zeros = codes "zeros"
name_of Ones = codes "ones"
name_of True = codes "true"
name_of False = codes "false"
name_of Eye = codes "eye"
name_of ToInt = codes "int64"
name_of ToLogical = codes "logical"
name_of ToChar = codes "char"
name_of IntMax = codes "intmax"
name_of IntMin = codes "intmin"
name_of ClassOf = codes "class"
name_of IsChar = codes "ischar"
name_of IsLogical = codes "islogical"
name_of IsNumeric = codes "isnumeric"
name_of IsScalar = codes "isscalar"
name_of IsVector = codes "isvector"
name_of StrCmp = codes "strcmp"

-- all functions
abbrev pub functions : List Builtin
functions = Abs ∷ Sign ∷ Mod ∷ Rem ∷ Xor ∷ Min ∷ Max ∷ Sum ∷ Prod ∷ Idivide ∷ BitAnd ∷ BitOr ∷ BitXor ∷ BitShift ∷ Numel ∷ Length ∷ IsEmpty ∷ Size ∷ IsEqual ∷ Zeros ∷ Ones ∷ True ∷ False ∷ Eye ∷ ToInt ∷ ToLogical ∷ ToChar ∷ IntMax ∷ IntMin ∷ ClassOf ∷ IsChar ∷ IsLogical ∷ IsNumeric ∷ IsScalar ∷ IsVector ∷ StrCmp ∷ []

-- the two names are one
abbrev pub same : List ℕ → List ℕ → Bool
same a b = pointwise nat_eq a b

-- the function of this name
abbrev pub named : List ℕ → Option Builtin
named name = find (λ f. same (name_of f) name) functions
