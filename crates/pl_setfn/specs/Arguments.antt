-- How many arguments a function takes, and arguments that stand for a number, a dimension or a stated text.
use Rattle.std.specs.Prelude.{◌==◌, ℤ, pos, Bool, ◌&&◌, List, [], ◌∷◌, map, codes, Option, Some, None, Result, Ok, Err}
use Rattle.std.specs.Ordering.{int_eq}
use Rattle.std.specs.Cmp.Lexicographic.{pointwise}
use Rattle.pl_base.specs.declared.errors.ErrKind.{ErrKind}
use Rattle.pl_base.specs.declared.errors.ErrKind.TheVariants.{ArgCount, ArgRange, NotScalar}
use Rattle.pl_array.specs.Arrays.{Array, class_number, single_of}
use Rattle.pl_lines.specs.declared.dim.Dim.{Dim}
use Rattle.pl_lines.specs.Lines.{dim_of}

-- one argument
abbrev pub with_one : {X : Type 0} → (Array → Result X ErrKind) → List Array → Result X ErrKind
with_one f (a ∷ []) = f a
with_one f args = Err ArgCount

-- one argument, or two
abbrev pub with_one_or_two : {X : Type 0} → (Array → Result X ErrKind) → (Array → Array → Result X ErrKind) → List Array → Result X ErrKind
with_one_or_two f g (a ∷ []) = f a
with_one_or_two f g (a ∷ b ∷ []) = g a b
with_one_or_two f g args = Err ArgCount

-- three arguments
abbrev pub with_three : {X : Type 0} → (Array → Array → Array → Result X ErrKind) → List Array → Result X ErrKind
with_three f (a ∷ b ∷ c ∷ []) = f a b c
with_three f args = Err ArgCount

-- the value, if there is one
abbrev pub given : {X Y : Type 0} → ErrKind → Option X → (X → Result Y ErrKind) → Result Y ErrKind
given kind None f = Err kind
given kind (Some x) f = f x

-- an argument that stands for one number
abbrev pub with_number : {X : Type 0} → Array → (ℤ → Result X ErrKind) → Result X ErrKind
with_number a f = given NotScalar (single_of a) f

-- the dimension that an argument stands for
abbrev pub dim_asked : Array → Result Dim ErrKind
dim_asked a = with_number a (λ z. given ArgRange (dim_of z) (λ d. Ok d))

-- with an answer, unless it is a refusal
abbrev pub unless_err : {X Y : Type 0} → Result X ErrKind → (X → Result Y ErrKind) → Result Y ErrKind
unless_err (Ok x) f = f x
unless_err (Err kind) f = Err kind

-- the array is this text: one row of chars
abbrev pub is_text : List ℤ → Array → Bool
is_text text a = class_number a.class == 2 && a.rows == 1 && pointwise int_eq a.cells text

-- the text that asks for a falling order
abbrev pub descend : List ℤ
descend = map pos (codes "descend")
