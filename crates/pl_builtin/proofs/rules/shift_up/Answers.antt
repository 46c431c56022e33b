-- A count of 64 and more shifts every one past the 64 bits.
use Rattle.pl_builtin.proofs.Sizes.{past_all}
use Rattle.pl_builtin.proofs.rules.shift_up.Goals as goal

pub returns-else-m-eq0 : goal.returns-else-m-eq0
returns-else-m-eq0 c = past_all c.args.m c.args.count c.if-m-eq0.false c.if-count-lt64.false
