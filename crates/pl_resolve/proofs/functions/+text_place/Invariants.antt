-- Each call has fewer texts.
use Rattle.std.proofs.Common.{length}
use Rattle.pl_resolve.proofs.functions.+text_place.Given as goal

abbrev pub decreases-text_place : goal.decreases-text_place
decreases-text_place l = length l.texts.now
