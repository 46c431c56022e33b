-- The name is one of all where it is one of those to come.
use Rattle.std.proofs.Common.{◌≡◌, drop}
use Rattle.std.specs.List.{list_any}
use Rattle.pl_words.specs.Words.{same}
use Rattle.pl_cases.proofs.bytes.is_one_of.Given as goal

abbrev pub invariant-loop-other : goal.invariant-loop-other
invariant-loop-other l = list_any (same l.name) (drop l.other-index l.names) ≡ list_any (same l.name) l.names
