-- The cases so far are judged, and their judgements counted.
use Rattle.std.proofs.Common.{◌≡◌, Bool, List, take}
use Rattle.std.specs.List.{AllZip}
use Rattle.conformance.specs.Judged.{IsJudged, tallied}
use Rattle.conformance.proofs.report.run_cases.Given as goal

abbrev pub invariant-loop-case : goal.invariant-loop-case
invariant-loop-case g l = (judged : List Bool) × AllZip IsJudged (take l.case-index l.cases) judged × (l.tally ≡ tallied l.fn.tally judged)
