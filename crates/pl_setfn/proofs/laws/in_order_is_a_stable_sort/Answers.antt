-- Each entry is put where it belongs.
use Rattle.pl_setfn.specs.Sorting.{entries}
use Rattle.pl_setfn.proofs.Ordered.{in_order_permutes, in_order_ascends}
use Rattle.pl_setfn.proofs.laws.in_order_is_a_stable_sort.Goals as goal

pub returns-clause-permutes : goal.returns-clause-permutes
returns-clause-permutes c = in_order_permutes (entries c.args.way c.args.line.now)

pub returns-clause-ascends : goal.returns-clause-ascends
returns-clause-ascends c = in_order_ascends (entries c.args.way c.args.line.now)
