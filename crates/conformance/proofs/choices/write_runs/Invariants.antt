-- The text of the runs to come stands behind the line so far.
use Rattle.std.proofs.Common.{◌≡◌, ◌++◌, drop}
use Rattle.std.specs.Prelude.{codes}
use Rattle.conformance.specs.Choices.{runs_text}
use Rattle.conformance.proofs.choices.write_runs.Given as goal

abbrev pub invariant-loop-run : goal.invariant-loop-run
invariant-loop-run l = l.fn.line.items ++ codes "loop" ++ runs_text l.bracket.runs ≡ l.line.items ++ runs_text (drop l.run-index l.run-items)
