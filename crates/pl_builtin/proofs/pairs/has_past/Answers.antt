-- Only the strict mode overflows.
use Rattle.std.proofs.Common.{◌*◌}
use Rattle.std.specs.List.{range_with_len}
use Rattle.pl_builtin.proofs.Cells.{none}
use Rattle.pl_builtin.proofs.pairs.has_past.Goals as goal

pub returns-in-Saturate : goal.returns-in-Saturate
returns-in-Saturate c = rw c.in-Saturate.is (none (range_with_len 0 (c.args.s.rows * c.args.s.cols)))
