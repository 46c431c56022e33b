-- What was added, with the nodes of the functions to come, is what is wanted.
use Rattle.std.proofs.Common.{◌≡◌, ◌+◌, ◌++◌, drop}
use Rattle.pl_unbuilt.specs.Nodes.{of_functions}
use Rattle.pl_unbuilt.proofs.nodes.add_functions.Given as goal

abbrev pub invariant-loop-i : goal.invariant-loop-i
invariant-loop-i l = l.out.items ++ of_functions l.program (l.i + 1) (drop l.i l.function-items) ≡ l.fn.out.items ++ of_functions l.program 1 l.program.program.functions
