-- The sections to come say the rest.
use Rattle.std.proofs.Common.{◌≡◌, drop}
use Rattle.pl_cases.specs.Cases as spec
use Rattle.pl_cases.proofs.group.add_all.Given as goal

abbrev pub invariant-loop-section : goal.invariant-loop-section
invariant-loop-section l = spec.said_by_all l.draft (drop l.section-index l.sections) ≡ spec.said_by_all l.fn.draft l.sections
