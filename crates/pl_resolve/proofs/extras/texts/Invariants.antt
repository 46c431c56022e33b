-- What was added, with the texts to come, is all of them.
use Rattle.std.proofs.Common.{◌≡◌, ◌++◌, map, drop}
use Rattle.pl_resolve.proofs.extras.texts.Given as goal

abbrev pub invariant-loop-text : goal.invariant-loop-text
invariant-loop-text l = l.all ++ map (λ k. k.now) (drop l.text-index l.table) ≡ map (λ k. k.now) l.table
