-- The sections so far begin no case.
use Rattle.std.proofs.Common.{◌≡◌, ◌+◌, drop}
use Rattle.pl_cases.specs.Cases as spec
use Rattle.pl_cases.proofs.group.to_next_case.Given as goal

abbrev pub invariant-loop-index : goal.invariant-loop-index
invariant-loop-index l = l.index + spec.to_next_case (drop l.index l.sections) ≡ spec.to_next_case l.sections
