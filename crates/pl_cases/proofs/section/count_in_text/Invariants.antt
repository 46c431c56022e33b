-- The lines so far belong to the text.
use Rattle.std.proofs.Common.{◌≡◌, ◌+◌, drop}
use Rattle.pl_cases.specs.Sections as spec
use Rattle.pl_cases.proofs.section.count_in_text.Given as goal

abbrev pub invariant-loop-index : goal.invariant-loop-index
invariant-loop-index l = l.index + spec.count_in_text (drop l.index l.lines) ≡ spec.count_in_text l.lines
