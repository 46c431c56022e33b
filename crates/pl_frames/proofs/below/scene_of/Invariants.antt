use Rattle.std.proofs.Common.{◌≡◌, take, reverse}
use Rattle.pl_frames.specs.Below.{scene}
use Rattle.pl_frames.proofs.below.scene_of.Given as goal

-- what the levels so far make of the scene
abbrev pub invariant-loop-level : goal.invariant-loop-level
invariant-loop-level l = l.scene ≡ scene (reverse (take l.level-index l.level-items))
