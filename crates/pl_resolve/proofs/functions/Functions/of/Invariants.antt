-- The names that were copied are the first ones.
use Rattle.std.proofs.Common.{◌≡◌, map, take}
use Rattle.pl_resolve.proofs.functions.Functions.of.Given as goal

abbrev pub invariant-loop-function : goal.invariant-loop-function
invariant-loop-function l = l.locals.items ≡ map (λ f. f.name.text) (take l.function-index l.function-items)
