-- The lines of the choices to come stand behind the text so far.
use Rattle.std.proofs.Common.{◌≡◌, ◌++◌, drop}
use Rattle.conformance.specs.Choices.{choice_lines}
use Rattle.conformance.proofs.choices.lines.Given as goal

abbrev pub invariant-loop-choice : goal.invariant-loop-choice
invariant-loop-choice l = choice_lines l.choices ≡ l.text.items ++ choice_lines (drop l.choice-index l.choices)
