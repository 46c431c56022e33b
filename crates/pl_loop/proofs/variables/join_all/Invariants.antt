-- The variables that are done are behind the iteration.
use Rattle.std.proofs.Common.{◌≡◌, map}
use Rattle.pl_loop.specs.Coming.{joined}
use Rattle.pl_loop.proofs.variables.join_all.Given as goal

abbrev pub invariant-loop-variable : goal.invariant-loop-variable
invariant-loop-variable l = l.done.items ≡ map (joined l.i l.end) l.yielded
