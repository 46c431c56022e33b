-- The calls so far, and then those to come, are all.
use Rattle.std.proofs.Common.{◌≡◌, ◌++◌, drop}
use Rattle.std.specs.List.{flat_map}
use Rattle.pl_operators.specs.Bracketing.{calls_in}
use Rattle.pl_operators.proofs.bracketing.calls_of.Given as goal

abbrev pub invariant-loop-v : goal.invariant-loop-v
invariant-loop-v l = l.calls.items ++ flat_map calls_in (drop l.v-index l.row) ≡ flat_map calls_in l.row
