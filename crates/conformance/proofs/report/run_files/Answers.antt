use Rattle.std.proofs.Common.{◌≡◌, ℕ, ◌+◌, ◌<◌, [], ◌∷◌, ◌++◌, length, length-append, arith, ap, sym, ◌∙◌, subst}
use Rattle.std.proofs.lemmas.List.Elements.{All-push}
use Rattle.conformance.specs.declared.report.Tally.{Tally}
use Rattle.conformance.specs.Judged.{IsFileJudged, joined, tallied}
use Rattle.conformance.proofs.Counting.{none, tallied_append, joined_push, is_success, has_success}
use Rattle.conformance.proofs.report.run_files.Goals as goal

-- one file more, with its judgements
pub loop-file-preserved : goal.loop-file-preserved
loop-file-preserved g c =
    let before = c.loop-file.invariant in
    let file = c.in_ok-run_file.ensures in (
      before.0 ++ file.0 ∷ [],
      length-append before.0 (file.0 ∷ []) ∙ ap (λ (n : ℕ). n + 1) before.1,
      All-push IsFileJudged before.0 file.0 before.2 file.1,
      file.2 ∙ ap (λ (t : Tally). tallied t file.0) before.3 ∙ sym (tallied_append none (joined before.0) file.0) ∙ ap (tallied none) (sym (joined_push before.0 file.0)),
    )

-- the exit status is that of the counts, and so of the judgements
pub returns : goal.returns
returns g c =
    let all = c.loop-file.invariant in (
      all.0,
      (let files : c.loop-file.file-index ≡ length c.args.files.now = omega arith in all.1 ∙ files),
      all.2,
      (
        (λ zero. is_success (joined all.0) (subst (λ (t : Tally). (0 < t.passed) × (t.failed ≡ 0)) all.3 (c.exit_code.ensures.0 zero))),
        (λ success. c.exit_code.ensures.1 (subst (λ (t : Tally). (0 < t.passed) × (t.failed ≡ 0)) (sym all.3) (has_success (joined all.0) success))),
      ),
    )
