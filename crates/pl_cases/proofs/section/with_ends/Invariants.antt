-- The lines to come stand behind the text so far.
use Rattle.std.proofs.Common.{◌≡◌, ◌++◌, drop}
use Rattle.pl_cases.specs.Sections as spec
use Rattle.pl_cases.proofs.section.with_ends.Given as goal

abbrev pub invariant-loop-line : goal.invariant-loop-line
invariant-loop-line l = spec.with_ends l.lines ≡ l.text.items ++ spec.with_ends (drop l.line-index l.lines)
