use Rattle.std.proofs.Common.{◌≡◌, ◌≤◌, drop}
use Rattle.pl_terminals.specs.Terminals.{number_onto}
use Rattle.pl_terminals.proofs.texts.number.Given as goal

-- the digits that are left make the number, which is in range so far
abbrev pub invariant-loop-byte : goal.invariant-loop-byte
invariant-loop-byte l = record {
  goes_on : number_onto l.number (drop l.byte-index l.digits) ≡ number_onto 0 l.digits;
  small : l.number ≤ 9223372036854775807;
}
