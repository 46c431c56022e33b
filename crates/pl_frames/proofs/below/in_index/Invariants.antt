use Rattle.std.proofs.Common.{◌≡◌, take, reverse}
use Rattle.pl_frames.specs.Below.{in_index}
use Rattle.pl_frames.proofs.below.in_index.Given as goal

-- what the frames so far say
abbrev pub invariant-loop-frame : goal.invariant-loop-frame
invariant-loop-frame l = l.index ≡ in_index (reverse (take l.frame-index l.frame-items))
