use Rattle.std.proofs.Common.{◌≡◌, length}
use Rattle.pl_frames.specs.Reduce.{reduce_on}
use Rattle.pl_frames.proofs.reducing.reduce.Given as goal

-- the operators that are left come to what all come to
abbrev pub invariant-loop-op : goal.invariant-loop-op
invariant-loop-op l = reduce_on l.least l.operand l.frames l.bottom ≡ reduce_on l.least l.initial.operand l.initial.frames l.bottom

abbrev pub decreases-loop-op : goal.decreases-loop-op
decreases-loop-op l = length l.frames
