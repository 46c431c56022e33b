-- The arguments: a number, a dimension, an extent, a stated text.
use Rattle.std.specs.Prelude.{ℕ, ℤ, pos, negsuc, ◌==◌, Bool, ◌&&◌, List, map, Option, Some, None, Result, Ok, Err}
use Rattle.std.specs.Ordering.{int_eq}
use Rattle.std.specs.Cmp.Lexicographic.{pointwise}
use Rattle.pl_base.specs.declared.errors.ErrKind.{ErrKind}
use Rattle.pl_base.specs.declared.errors.ErrKind.TheVariants.{NotScalar}
use Rattle.pl_array.specs.declared.class.Class.{Class}
use Rattle.pl_array.specs.declared.class.Class.TheVariants.{Char}
use Rattle.pl_array.specs.Arrays.{Array, class_number, single_of}

-- a number that stands alone
abbrev pub number_of : Option ℤ → Result ℤ ErrKind
number_of None = Err NotScalar
number_of (Some z) = Ok z

-- the next step, where there is no refusal
abbrev pub bind : {X Y : Type 0} → Result X ErrKind → (X → Result Y ErrKind) → Result Y ErrKind
bind (Err kind) next = Err kind
bind (Ok x) next = next x

-- the number of an argument that stands for one
abbrev pub one_number : Array → Result ℤ ErrKind
one_number a = number_of (single_of a)

-- how many rows or columns a number asks for: none where it is below 0
abbrev pub extent : ℤ → ℕ
extent (pos n) = n
extent (negsuc n) = 0

-- an array of this class
abbrev pub is_of : Class → Array → Bool
is_of class a = class_number a.class == class_number class

-- a char row with the bytes of a text
abbrev pub is_text : List ℕ → Array → Bool
is_text text a = is_of Char a && a.rows == 1 && pointwise int_eq (map pos text) a.cells
