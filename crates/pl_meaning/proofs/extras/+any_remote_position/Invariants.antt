-- Each call has fewer positions.
use Rattle.std.proofs.Common.{length}
use Rattle.pl_meaning.proofs.extras.+any_remote_position.Given as goal

abbrev pub decreases-any_remote_position : goal.decreases-any_remote_position
decreases-any_remote_position l = length l.list.now
