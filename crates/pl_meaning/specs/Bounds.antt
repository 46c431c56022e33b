-- The index of a loop over workers: from which value on, and how many.
use Rattle.std.specs.Prelude.{ℕ, ℤ, Option, Some, None, Result, Ok, Err, nat_lt, if◌then◌else◌}
use Rattle.pl_base.specs.declared.errors.ErrKind.{ErrKind}
use Rattle.pl_base.specs.declared.errors.ErrKind.TheVariants.{RangeArg, SizeLimit}
use Rattle.pl_array.specs.Arrays.{most, single_of}
use Rattle.pl_values.specs.declared.value.Value.{Value}
use Rattle.pl_operators.specs.Operands.{and_then, array_in}
use Rattle.pl_operators.specs.Ranging.{steps_up}
use Rattle.pl_meaning.specs.declared.event.Bounds.{Bounds}

-- from the first to the last, each one more than the one before; there are no more than an array has cells
abbrev pub counted : ℤ → ℕ → Result Bounds ErrKind
counted first count = if nat_lt most count then Err SizeLimit else Ok (record { first = first; count = count })

-- between 1x1 ends
abbrev pub bounded : Option ℤ → Option ℤ → Result Bounds ErrKind
bounded (Some first) (Some last) = counted first (steps_up first 1 last)
bounded (Some first) None = Err RangeArg
bounded None last = Err RangeArg

-- between two values: that both are arrays is tested first
abbrev pub bounds_of : Value → Value → Result Bounds ErrKind
bounds_of x y = and_then (array_in x) (λ a. and_then (array_in y) (λ b. bounded (single_of a) (single_of b)))
