use Rattle.std.proofs.Common.{◌≡◌, take, reverse}
use Rattle.pl_frames.specs.Below.{nests, base_nests}
use Rattle.pl_frames.proofs.below.base_nests.Given as goal

-- so deep are the frames so far, and what the operators on top of them are a part of
abbrev pub invariant-loop-frame : goal.invariant-loop-frame
invariant-loop-frame l = record {
  deep : l.deep ≡ nests (reverse (take l.frame-index l.frame-items)) l.stack.bottom;
  below : l.below ≡ base_nests (reverse (take l.frame-index l.frame-items)) l.stack.bottom;
}
