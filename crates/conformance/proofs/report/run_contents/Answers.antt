use Rattle.std.proofs.Common.{false, [], ◌∷◌, refl, sym, subst}
use Rattle.conformance.specs.declared.contents.Contents.{Contents}
use Rattle.conformance.specs.Judged.{AreJudged}
use Rattle.conformance.proofs.report.run_contents.Goals as goal

-- a text that is malformed, or can't be read, is a failure
pub returns-in_ok-println-in-Malformed : goal.returns-in_ok-println-in-Malformed
returns-in_ok-println-in-Malformed g c = (false ∷ [], subst (λ (contents : Contents). AreJudged contents (false ∷ [])) (sym c.in-Malformed.is) refl, c.add.ensures.counted)

pub returns-in_ok-println-in-Unreadable : goal.returns-in_ok-println-in-Unreadable
returns-in_ok-println-in-Unreadable g c = (false ∷ [], subst (λ (contents : Contents). AreJudged contents (false ∷ [])) (sym c.in-Unreadable.is) refl, c.add-in-Unreadable.ensures.counted)
