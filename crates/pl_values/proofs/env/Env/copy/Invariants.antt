-- The slots that were copied are the first ones.
use Rattle.std.proofs.Common.{◌≡◌, take}
use Rattle.pl_values.proofs.env.Env.copy.Given as goal

abbrev pub invariant-loop-slot : goal.invariant-loop-slot
invariant-loop-slot l = l.slots.items ≡ take l.slot l.self
