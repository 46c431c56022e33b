-- The sections to come stand behind those so far.
use Rattle.std.proofs.Common.{◌≡◌, ◌+◌, drop}
use Rattle.pl_cases.specs.Answers.{with_front}
use Rattle.pl_cases.specs.Sections as spec
use Rattle.pl_cases.proofs.section.sections.Given as goal

abbrev pub invariant-loop-index : goal.invariant-loop-index
invariant-loop-index l = with_front l.found (spec.sections_from l.in_text (l.index + 1) (drop l.index l.lines)) ≡ spec.sections_from spec.outside 1 l.lines
