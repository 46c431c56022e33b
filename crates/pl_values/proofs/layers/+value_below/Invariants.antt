-- Each call has fewer layers.
use Rattle.std.proofs.Common.{length}
use Rattle.pl_values.proofs.layers.+value_below.Given as goal

abbrev pub decreases-value_below : goal.decreases-value_below
decreases-value_below l = length l.below.now
