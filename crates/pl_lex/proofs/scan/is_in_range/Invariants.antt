-- the number so far goes on to be the whole one, and hasn't passed the bound
use Rattle.std.proofs.Common.{◌≡◌, ◌≤◌, drop}
use Rattle.pl_lex.specs.Pieces.{number_from}
use Rattle.pl_lex.proofs.scan.is_in_range.Given as goal

abbrev pub invariant-loop-digit : goal.invariant-loop-digit
invariant-loop-digit l = record {
  goes_on : number_from l.number (drop l.digit-index l.digits) ≡ number_from 0 l.digits;
  bounded : l.number ≤ 9223372036854775807;
}
