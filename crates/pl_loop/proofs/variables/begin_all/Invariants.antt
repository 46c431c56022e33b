-- The slots that are done have their variables.
use Rattle.std.proofs.Common.{◌≡◌, map, take}
use Rattle.pl_loop.specs.Coming.{begun}
use Rattle.pl_loop.proofs.variables.begin_all.Given as goal

abbrev pub invariant-loop-slot : goal.invariant-loop-slot
invariant-loop-slot l = l.variables.items ≡ map (begun l.env) (take l.slot-index l.slots)
