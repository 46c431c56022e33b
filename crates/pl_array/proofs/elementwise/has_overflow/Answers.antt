-- Only the strict mode overflows.
use Rattle.std.proofs.Common.{◌*◌}
use Rattle.std.specs.List.{range_with_len}
use Rattle.pl_array.proofs.Combined.{none}
use Rattle.pl_array.proofs.elementwise.has_overflow.Goals as goal

pub returns-in-Saturate : goal.returns-in-Saturate
returns-in-Saturate c = rw c.in-Saturate.is (none (range_with_len 0 (c.args.s.rows * c.args.s.cols)))
