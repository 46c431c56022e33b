use Rattle.std.proofs.Common.{length}
use Rattle.pl_frames.proofs.outlist.+as_outputs.Given as goal

abbrev pub decreases-as_outputs : goal.decreases-as_outputs
decreases-as_outputs l = length l.frames
