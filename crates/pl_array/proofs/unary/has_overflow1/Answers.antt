-- Only the strict mode overflows.
use Rattle.pl_array.proofs.Combined.{none}
use Rattle.pl_array.proofs.unary.has_overflow1.Goals as goal

pub returns-in-Saturate : goal.returns-in-Saturate
returns-in-Saturate c = rw c.in-Saturate.is (none c.args.xs.now)
