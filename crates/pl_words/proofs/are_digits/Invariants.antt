-- All are digits where all to come are.
use Rattle.std.proofs.Common.{◌≡◌, drop}
use Rattle.std.specs.List.{list_all}
use Rattle.pl_words.specs.Words as spec
use Rattle.pl_words.proofs.are_digits.Given as goal

abbrev pub invariant-loop-byte : goal.invariant-loop-byte
invariant-loop-byte l = list_all spec.is_digit (drop l.byte-index l.word) ≡ list_all spec.is_digit l.word
