-- What was added, with the nodes of what is to come, is what is wanted.
use Rattle.std.proofs.Common.{◌≡◌, ◌++◌, map, drop}
use Rattle.pl_unbuilt.specs.Nodes.{joined, of_expr, of_exprs}
use Rattle.pl_unbuilt.proofs.nodes.+walking.Given as goal

abbrev pub invariant-add_exprs-loop-e : goal.invariant-add_exprs-loop-e
invariant-add_exprs-loop-e l = l.out.items ++ joined (map of_expr (drop l.e-index l.e-items)) ≡ l.fn.out.items ++ of_exprs l.list

abbrev pub invariant-add_expr-loop-row : goal.invariant-add_expr-loop-row
invariant-add_expr-loop-row l = l.out.items ++ joined (map of_exprs (drop l.row-index l.row-items)) ≡ l.fn.out.items ++ joined (map of_exprs l.row-items)
