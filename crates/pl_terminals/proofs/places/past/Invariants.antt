use Rattle.std.proofs.Common.{◌≡◌, ◌≤◌, ◌+◌, drop}
use Rattle.pl_lex.specs.Tokens.{past}
use Rattle.pl_terminals.proofs.places.past.Given as goal

-- the bytes that are left lead to the same place, and its numbers are small
abbrev pub invariant-loop-byte : goal.invariant-loop-byte
invariant-loop-byte l = record {
  goes_on : past l.place (drop l.byte-index l.bytes) ≡ past l.initial.place l.bytes;
  line : l.place.line ≤ l.initial.place.line + l.byte-index;
  col : l.place.col ≤ l.initial.place.col + l.byte-index;
  at : l.place.at ≤ l.initial.place.at + l.byte-index;
}
