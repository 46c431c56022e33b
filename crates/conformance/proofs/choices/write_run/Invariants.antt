-- The text of the pieces to come stands behind the line so far.
use Rattle.std.proofs.Common.{◌≡◌, ◌++◌, drop}
use Rattle.conformance.specs.Choices.{pieces_text}
use Rattle.conformance.proofs.choices.write_run.Given as goal

abbrev pub invariant-loop-count : goal.invariant-loop-count
invariant-loop-count l = l.fn.line.items ++ pieces_text 32 l.pieces ≡ l.line.items ++ pieces_text l.sign (drop l.count-index l.pieces)
