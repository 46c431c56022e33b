-- A workspace is the list of its slots, each empty or with a value.
use Rattle.std.specs.Prelude.{ℕ, List, slice_get, Option, Some, None}
use Rattle.pl_values.specs.declared.value.Value.{Value}

abbrev pub joined : {A : Type 0} → Option (Option A) → Option A
joined None = None
joined (Some x) = x

-- the value of a slot; none also where there is no such slot
abbrev pub value_at : List (Option Value) → ℕ → Option Value
value_at slots slot = joined (slice_get slots slot)
