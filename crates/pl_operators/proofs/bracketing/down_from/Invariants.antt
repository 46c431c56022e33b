-- What is joined so far, joined to those to come, is the whole.
use Rattle.std.proofs.Common.{◌≡◌, length}
use Rattle.pl_array.specs.Joining.{concat_v_of}
use Rattle.pl_operators.specs.Bracketing.{joined_to}
use Rattle.pl_operators.proofs.bracketing.down_from.Given as goal

abbrev pub invariant-loop-lines : goal.invariant-loop-lines
invariant-loop-lines l = joined_to concat_v_of l.joint l.lines ≡ joined_to concat_v_of l.initial.joint l.initial.lines

abbrev pub decreases-loop-lines : goal.decreases-loop-lines
decreases-loop-lines l = length l.lines
