-- One cell for each line.
use Rattle.pl_builtin.proofs.Lines.{one_a_cell}
use Rattle.pl_builtin.proofs.extremes.values.Goals as goal

pub new-requires-clause-count : goal.new-requires-clause-count
new-requires-clause-count g c =
    one_a_cell (g.R.LineRule.value c.args.rule.now) c.args.a.now c.default_dim.result c.shape-s.result c.with_extent.result c.shape-s.ensures.shape c.default_dim.ensures c.with_extent.ensures c.in_ok-cells.cells.items c.in_ok-cells.ensures
