-- The texts to come stand behind the copies so far.
use Rattle.std.proofs.Common.{◌≡◌, ◌++◌, drop}
use Rattle.conformance.proofs.run.copies.Given as goal

abbrev pub invariant-loop-text : goal.invariant-loop-text
invariant-loop-text l = l.texts ≡ l.copies.items ++ drop l.text-index l.texts
