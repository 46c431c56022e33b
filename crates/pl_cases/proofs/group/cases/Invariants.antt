-- The cases to come stand behind those so far.
use Rattle.std.proofs.Common.{◌≡◌, length}
use Rattle.pl_cases.specs.Answers.{with_front}
use Rattle.pl_cases.specs.Cases as spec
use Rattle.pl_cases.proofs.group.cases.Given as goal

abbrev pub invariant-loop-rest : goal.invariant-loop-rest
invariant-loop-rest l = with_front l.cases (spec.cases_in (spec.grouped l.rest)) ≡ spec.cases_in (spec.grouped l.sections)

abbrev pub decreases-loop-rest : goal.decreases-loop-rest
decreases-loop-rest l = length l.rest
