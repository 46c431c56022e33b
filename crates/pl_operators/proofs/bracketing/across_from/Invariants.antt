-- What is joined so far, joined to those to come, is the whole.
use Rattle.std.proofs.Common.{◌≡◌, map, length}
use Rattle.pl_array.specs.Joining.{concat_h_of}
use Rattle.pl_operators.specs.Bracketing.{joined_to}
use Rattle.pl_operators.proofs.bracketing.across_from.Given as goal

abbrev pub invariant-loop-row : goal.invariant-loop-row
invariant-loop-row l = joined_to concat_h_of l.joint (map (λ a. a.now) l.row) ≡ joined_to concat_h_of l.initial.joint (map (λ a. a.now) l.initial.row)

abbrev pub decreases-loop-row : goal.decreases-loop-row
decreases-loop-row l = length l.row
