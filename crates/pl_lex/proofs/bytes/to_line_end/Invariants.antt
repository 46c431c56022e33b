-- the bytes passed and those to come make the whole way
use Rattle.std.proofs.Common.{◌≡◌, ◌+◌, drop}
use Rattle.pl_lex.specs.Bytes.{to_line_end}
use Rattle.pl_lex.proofs.bytes.to_line_end.Given as goal

abbrev pub invariant-loop-at : goal.invariant-loop-at
invariant-loop-at l = l.at + to_line_end (drop l.at l.text) ≡ to_line_end l.text
