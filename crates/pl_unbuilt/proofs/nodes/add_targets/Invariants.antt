-- What was added, with the nodes of what is to come, is what is wanted.
use Rattle.std.proofs.Common.{◌≡◌, ◌++◌, map, drop}
use Rattle.pl_unbuilt.specs.Nodes.{joined, of_output, of_targets}
use Rattle.pl_unbuilt.proofs.nodes.add_targets.Given as goal

abbrev pub invariant-loop-target : goal.invariant-loop-target
invariant-loop-target l = l.out.items ++ joined (map of_output (drop l.target-index l.target-items)) ≡ l.fn.out.items ++ of_targets l.list
