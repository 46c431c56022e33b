-- The arrays so far, and then those of the values to come, are all.
use Rattle.std.proofs.Common.{◌≡◌, map, length}
use Rattle.pl_operators.specs.Operands.{arrays_in}
use Rattle.pl_operators.proofs.Fronts.{before}
use Rattle.pl_operators.proofs.bracketing.arrays_of.Given as goal

abbrev pub invariant-loop-row : goal.invariant-loop-row
invariant-loop-row l = before (map (λ a. a.now) l.arrays.items) (arrays_in l.row) ≡ arrays_in l.initial.row

abbrev pub decreases-loop-row : goal.decreases-loop-row
decreases-loop-row l = length l.row
