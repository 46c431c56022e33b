-- The values that were copied are the first ones.
use Rattle.std.proofs.Common.{◌≡◌, take}
use Rattle.pl_values.proofs.value.Value.+copy.Given as goal

abbrev pub invariant-loop-held : goal.invariant-loop-held
invariant-loop-held l = l.all.items ≡ take l.held-index l.held-items
