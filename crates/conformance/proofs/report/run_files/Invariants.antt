-- The files so far are judged, and their judgements counted.
use Rattle.std.proofs.Common.{◌≡◌, Bool, List, length}
use Rattle.std.specs.Prelude.{All}
use Rattle.conformance.specs.Judged.{IsFileJudged, joined, tallied}
use Rattle.conformance.proofs.report.run_files.Given as goal

abbrev pub invariant-loop-file : goal.invariant-loop-file
invariant-loop-file g l =
    (judged : List (List Bool)) × (length judged ≡ l.file-index) × All IsFileJudged judged × (l.tally ≡ tallied (record { passed = 0; failed = 0 }) (joined judged))
