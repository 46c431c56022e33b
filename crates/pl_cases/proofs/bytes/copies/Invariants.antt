-- The texts to come stand behind the copies so far.
use Rattle.std.proofs.Common.{◌≡◌, ◌++◌, drop}
use Rattle.pl_cases.proofs.bytes.copies.Given as goal

abbrev pub invariant-loop-text : goal.invariant-loop-text
invariant-loop-text l = l.texts ≡ l.copies ++ drop l.text-index l.texts
