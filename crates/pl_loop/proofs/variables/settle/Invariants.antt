-- What all variables come to is what the others come to, behind those that are done.
use Rattle.std.proofs.Common.{◌≡◌}
use Rattle.std.specs.Vec.Iter.{into_iter_items}
use Rattle.pl_loop.specs.Coming.{outputs_by, outputs_before, no_writes}
use Rattle.pl_loop.proofs.variables.settle.Given as goal

abbrev pub invariant-loop-variable : goal.invariant-loop-variable
invariant-loop-variable l = outputs_by no_writes l.fn.variables.items ≡ outputs_before l.outputs (outputs_by no_writes (into_iter_items l.variable-iterator))
