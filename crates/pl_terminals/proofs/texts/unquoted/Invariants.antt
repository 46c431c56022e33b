use Rattle.std.proofs.Common.{◌≡◌, ◌++◌, drop, false}
use Rattle.pl_terminals.specs.Terminals.{unquoted}
use Rattle.pl_terminals.proofs.texts.unquoted.Given as goal

-- the text so far and that of the bytes that are left are all
abbrev pub invariant-loop-byte : goal.invariant-loop-byte
invariant-loop-byte l = l.text.items ++ unquoted l.quote l.twice (drop l.byte-index l.bytes) ≡ unquoted l.quote false l.bytes
