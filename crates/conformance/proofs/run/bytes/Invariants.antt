-- The texts to come stand behind those so far.
use Rattle.std.proofs.Common.{◌≡◌, ◌++◌, map, drop}
use Rattle.conformance.proofs.run.bytes.Given as goal

abbrev pub invariant-loop-text : goal.invariant-loop-text
invariant-loop-text l = l.texts ≡ map (λ v. v.items) l.all.items ++ drop l.text-index l.texts
