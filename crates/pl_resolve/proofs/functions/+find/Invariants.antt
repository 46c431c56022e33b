-- Each call has fewer names.
use Rattle.std.proofs.Common.{length}
use Rattle.pl_resolve.proofs.functions.+find.Given as goal

abbrev pub decreases-find : goal.decreases-find
decreases-find l = length l.table.now
