-- So many slots are there, each empty.
use Rattle.std.proofs.Common.{◌≡◌, None, replicate}
use Rattle.pl_values.proofs.plain.empty_slots.Given as goal

abbrev pub invariant-loop-slot : goal.invariant-loop-slot
invariant-loop-slot l = l.slots.items ≡ replicate l._slot None
