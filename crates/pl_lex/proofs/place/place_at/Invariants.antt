-- the place so far goes on to be the one that is asked for, and its numbers are small
use Rattle.std.proofs.Common.{◌≡◌, ◌≤◌, ◌+◌, drop}
use Rattle.pl_lex.specs.Tokens.{past, first_place, mark_len}
use Rattle.pl_lex.proofs.place.place_at.Given as goal

abbrev pub invariant-loop-byte : goal.invariant-loop-byte
invariant-loop-byte l = record {
  goes_on : past l.place (drop l.byte-index l.byte-items) ≡ past (first_place l.source) l.byte-items;
  line : l.place.line ≤ 1 + l.byte-index;
  col : l.place.col ≤ 1 + l.byte-index;
  at : l.place.at ≤ mark_len l.source + l.byte-index;
}
