use Rattle.std.proofs.Common.{◌≡◌, ℕ, ◌<◌, ◌≤◌, Bool, true, List, map, length, arith, rules, ap, ◌∙◌, subst}
use Rattle.std.specs.Prelude.{All}
use Rattle.std.proofs.lemmas.List.{take_all}
use Rattle.std.proofs.lemmas.List.Elements.{All-more, All-map}
use Rattle.conformance.specs.Judged.{IsRunJudged}
use Rattle.conformance.proofs.report.run_case.Goals as goal

-- the run with one command line more left what is wanted
pub loop-words-preserved : goal.loop-words-preserved
loop-words-preserved g c =
    let lines = c.deref-words-items.result.now in
    let at = c.loop-words.words-index in
    let within : at < length lines = omega arith in
    let passed : c.in_ok-run_with.field-0 ≡ true = search rules in
    let judged : IsRunJudged c.args.case.now c.words-item.result.items true =
    subst (λ (answer : Bool). IsRunJudged c.args.case.now c.words-item.result.items answer) passed
    (subst (λ (words : List (List ℕ)). IsRunJudged c.args.case.now words c.in_ok-run_with.field-0) c.deref.ensures.value c.in_ok-run_with.ensures) in
    All-more (λ words. IsRunJudged c.args.case.now words.items true) lines at c.words-item.result within c.loop-words.invariant
    (subst (λ words. IsRunJudged c.args.case.now words.items true) c.words-item.is judged)

pub returns : goal.returns
returns g c =
    let lines = c.deref-words-items.result.now in
    let done : length lines ≤ c.loop-words.words-index = omega arith in
    let all : All (λ words. IsRunJudged c.args.case.now words.items true) lines =
    subst (All (λ words. IsRunJudged c.args.case.now words.items true)) (take_all c.loop-words.words-index lines done) c.loop-words.invariant in
    subst (All (λ words. IsRunJudged c.args.case.now words true)) (ap (map (λ words. words.items)) c.deref-words-items.ensures.value ∙ c.in_ok-command_lines.ensures)
    (All-map (λ words. IsRunJudged c.args.case.now words true) (λ words. words.items) lines all)
