-- The words to come stand behind those so far.
use Rattle.std.proofs.Common.{◌≡◌, ◌++◌, map, drop}
use Rattle.pl_cases.specs.Words as spec
use Rattle.pl_cases.proofs.bytes.command.Given as goal

abbrev pub invariant-loop-piece : goal.invariant-loop-piece
invariant-loop-piece l = spec.command_of l.line ≡ l.command ++ map spec.word_of (drop l.piece-index l.piece-items)
