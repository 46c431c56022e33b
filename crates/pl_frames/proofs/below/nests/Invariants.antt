use Rattle.std.proofs.Common.{◌≡◌, take, reverse}
use Rattle.pl_frames.specs.Below.{nests}
use Rattle.pl_frames.proofs.below.nests.Given as goal

-- so deep are the frames so far
abbrev pub invariant-loop-frame : goal.invariant-loop-frame
invariant-loop-frame l = l.deep ≡ nests (reverse (take l.frame-index l.frame-items)) l.stack.bottom
