use Rattle.std.proofs.Common.{◌≡◌, ◌+◌, ◌<◌, List, [], ◌∷◌, ◌++◌, take, length, ap, sym, ◌∙◌, subst, arith}
use Rattle.std.specs.List.{AllZip}
use Rattle.std.proofs.lemmas.List.{take_more}
use Rattle.pl_cases.specs.declared.cases.Case.{Case}
use Rattle.conformance.specs.declared.report.Tally.{Tally}
use Rattle.conformance.specs.Judged.{IsJudged, tallied}
use Rattle.conformance.proofs.Counting.{zip_push, tallied_append}
use Rattle.conformance.proofs.report.run_cases.Goals as goal

-- one case more, with its judgement
pub loop-case-preserved : goal.loop-case-preserved
loop-case-preserved g c =
    let cases = c.args.cases.now in
    let at = c.loop-case.case-index in
    let judged = c.loop-case.invariant.0 in
    let passed = c.in_ok-passed.passed in
    let within : at < length cases = omega arith in
    let more : take at cases ++ c.case-item.result ∷ [] ≡ take (at + 1) cases =
    ap (λ (case : Case). take at cases ++ case ∷ []) c.case-item.is ∙ sym (take_more cases at c.case-item.result within) in (
      judged ++ passed ∷ [],
      subst (λ (some : List Case). AllZip IsJudged some (judged ++ passed ∷ [])) more (zip_push IsJudged (take at cases) judged c.case-item.result passed c.loop-case.invariant.1 c.in_ok-passed.ensures),
      c.add.ensures.counted ∙ ap (λ (t : Tally). tallied t (passed ∷ [])) c.loop-case.invariant.2 ∙ sym (tallied_append c.args.tally.now judged (passed ∷ [])),
    )
