-- Operands: which values are arrays, and how refusals are passed on.
use Rattle.std.specs.Prelude.{List, [], ◌∷◌, Result, Ok, Err}
use Rattle.pl_base.specs.declared.errors.ErrKind.{ErrKind}
use Rattle.pl_base.specs.declared.errors.ErrKind.TheVariants.{BadKind}
use Rattle.pl_array.specs.Arrays.{Array}
use Rattle.pl_values.specs.declared.value.Value.{Value, out-Value}
use Rattle.pl_values.specs.declared.value.Value.TheOpen.{Value-F}
use Rattle.pl_values.specs.declared.value.Value.TheVariants as value

-- what f makes of an answer; a refusal stays
abbrev pub and_then : {A B : Type 0} → Result A ErrKind → (A → Result B ErrKind) → Result B ErrKind
and_then (Ok x) f = f x
and_then (Err kind) f = Err kind

-- an array as a value
abbrev pub valued : Result Array ErrKind → Result Value ErrKind
valued (Ok a) = Ok (value.Array a)
valued (Err kind) = Err kind

-- the array of a layer of a value
abbrev pub array_at : Value-F Value → Result Array ErrKind
array_at (Value-F.Array a) = Ok a
array_at layer = Err BadKind

-- the array of a value; any other kind of value is refused
abbrev pub array_in : Value → Result Array ErrKind
array_in v = array_at (out-Value v)

-- the arrays of values, tested from the left
abbrev pub arrays_in : List Value → Result (List Array) ErrKind
arrays_in [] = Ok []
arrays_in (v ∷ vs) = and_then (array_in v) (λ a. and_then (arrays_in vs) (λ more. Ok (a ∷ more)))
