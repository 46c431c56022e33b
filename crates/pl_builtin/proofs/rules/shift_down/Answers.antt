-- A count of 64 and more shifts everything out.
use Rattle.std.proofs.Common.{arith}
use Rattle.pl_builtin.proofs.Sizes.{nothing_left}
use Rattle.pl_builtin.proofs.rules.shift_down.Goals as goal

pub returns-else-count-lt64 : goal.returns-else-count-lt64
returns-else-count-lt64 c = nothing_left c.args.m c.args.count (omega arith) c.if-count-lt64.false
