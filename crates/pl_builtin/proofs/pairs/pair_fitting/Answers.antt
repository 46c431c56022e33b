-- The cells are as many as the shape wants.
use Rattle.pl_builtin.specs.Rules.{number}
use Rattle.pl_builtin.proofs.Cells.{cells_count}
use Rattle.pl_builtin.proofs.pairs.pair_fitting.Goals as goal

pub new-requires-clause-count : goal.new-requires-clause-count
new-requires-clause-count c = cells_count (number c.args.rule) c.args.a.now c.args.b.now c.args.s c.in_ok-cells.cells.items c.in_ok-cells.ensures
