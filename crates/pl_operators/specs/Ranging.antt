-- Ranges: `first:last` and `first:step:last`.
use Rattle.std.specs.Prelude.{ℕ, zero, suc, ◌+◌, ◌/◌, ℤ, pos, negsuc, ◌+ℤ◌, ◌-ℤ◌, ◌*ℤ◌, unsigned_abs, int_lt, List, map, Option, Some, None, Result, Ok, Err, nat_lt, if◌then◌else◌}
use Rattle.std.specs.List.{range_with_len}
use Rattle.pl_base.specs.declared.errors.ErrKind.{ErrKind}
use Rattle.pl_base.specs.declared.errors.ErrKind.TheVariants.{RangeArg, SizeLimit}
use Rattle.pl_array.specs.declared.class.Class.TheVariants.{Int}
use Rattle.pl_array.specs.Arrays.{Array, most, single_of}
use Rattle.pl_values.specs.declared.value.Value.{Value}
use Rattle.pl_operators.specs.Operands.{and_then, valued, array_in}

-- how many numbers there are from low up to high in steps of this size
abbrev pub steps_up : ℤ → ℕ → ℤ → ℕ
steps_up low size high = if int_lt high low then 0 else unsigned_abs (high -ℤ low) / size + 1

-- how many numbers there are from first on in steps that don't pass last; none by a step of 0
abbrev pub range_count : ℤ → ℤ → ℤ → ℕ
range_count first (pos zero) last = 0
range_count first (pos (suc s)) last = steps_up first (suc s) last
range_count first (negsuc s) last = steps_up last (suc s) first

-- number k of a range is first + k * step
abbrev pub range_cells : ℤ → ℤ → ℕ → List ℤ
range_cells first step count = map (λ k. first +ℤ step *ℤ pos k) (range_with_len 0 count)

-- a row of so many of these numbers
abbrev pub range_row : ℤ → ℤ → ℕ → Result Array ErrKind
range_row first step count = if nat_lt most count then Err SizeLimit else Ok (record { class = Int; rows = 1; cols = count; cells = range_cells first step count })

-- the row of a range between 1x1 operands
abbrev pub range_by : Option ℤ → Option ℤ → Option ℤ → Result Array ErrKind
range_by (Some first) (Some step) (Some last) = range_row first step (range_count first step last)
range_by (Some first) (Some step) None = Err RangeArg
range_by (Some first) None last = Err RangeArg
range_by None step last = Err RangeArg

-- the step, 1 where none is written
abbrev pub step_in : Option Value → Result (Option ℤ) ErrKind
step_in None = Ok (Some (pos 1))
step_in (Some v) = and_then (array_in v) (λ a. Ok (single_of a))

-- a range: first, step, last
abbrev pub range_of : Value → Option Value → Value → Result Value ErrKind
range_of first step last = valued (and_then (array_in first) (λ a. and_then (step_in step) (λ s. and_then (array_in last) (λ b. range_by (single_of a) s (single_of b)))))
