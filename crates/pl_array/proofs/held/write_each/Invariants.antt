-- The writes so far, followed by those to come, are all the writes.
use Rattle.std.proofs.Common.{◌≡◌, drop}
use Rattle.pl_array.specs.Arrays.{written}
use Rattle.pl_array.proofs.held.write_each.Given as goal

abbrev pub invariant-loop-k : goal.invariant-loop-k
invariant-loop-k l = written l.cells (drop l.k l.places) (drop l.k l.values) ≡ written l.initial.cells l.places l.values
