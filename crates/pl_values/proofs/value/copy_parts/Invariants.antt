-- The parts that were copied are the first ones.
use Rattle.std.proofs.Common.{◌≡◌, take}
use Rattle.pl_values.proofs.value.copy_parts.Given as goal

abbrev pub invariant-loop-part : goal.invariant-loop-part
invariant-loop-part l = l.all.items ≡ take l.part-index l.parts
