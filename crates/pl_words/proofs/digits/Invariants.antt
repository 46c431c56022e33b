-- The digits to come are put behind the number so far.
use Rattle.std.proofs.Common.{◌≡◌, ◌<◌, ◌^◌, drop}
use Rattle.pl_words.specs.Words as spec
use Rattle.pl_words.proofs.digits.Given as goal

abbrev pub invariant-loop-byte : goal.invariant-loop-byte
invariant-loop-byte l =
    record {
      same : spec.number_onto l.number (drop l.byte-index l.word) ≡ spec.number_onto 0 l.word;
      fits : l.number < 2 ^ 64;
    }
