-- The first such name is still to come.
use Rattle.std.proofs.Common.{◌≡◌, ◌+◌, drop}
use Rattle.pl_unbuilt.specs.Unbuilt.{name_among}
use Rattle.pl_unbuilt.proofs.names.first_in_functions.Given as goal

abbrev pub invariant-loop-i : goal.invariant-loop-i
invariant-loop-i l = name_among l.resolved (l.i + 1) (drop l.i l.functions) ≡ name_among l.resolved 1 l.functions
