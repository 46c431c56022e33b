-- What was counted, with what is to come, is the sum; each number is below 2^32.
use Rattle.std.proofs.Common.{◌≡◌, ◌≤◌, ◌+◌, ◌*◌, drop}
use Rattle.std.specs.List.{sum}
use Rattle.pl_scheme.proofs.partition.adds_up.Given as goal

abbrev pub invariant-loop-count : goal.invariant-loop-count
invariant-loop-count l = (l.total + sum (drop l.count-index l.part) ≡ sum l.part) × (l.total ≤ l.count-index * 4294967295)
