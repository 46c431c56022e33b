use Rattle.std.proofs.Common.{ℕ, List, [], ◌∷◌, ◌++◌, ap, ◌∙◌, append_assoc}
use Rattle.std.specs.Prelude.{codes}
use Rattle.conformance.proofs.run.with_workers.Goals as goal

-- the words, and two more
pub returns : goal.returns
returns c =
    c.in_ok-push-2.ensures.items
    ∙ ap (λ (line : List (List ℕ)). line ++ c.in_ok-of-2.field-0 ∷ []) (c.in_ok-push.ensures.items ∙ ap (λ (line : List (List ℕ)). line ++ c.in_ok-of.field-0 ∷ []) c.in_ok-line.ensures)
    ∙ append_assoc c.args.words.now (c.in_ok-of.field-0 ∷ []) (c.in_ok-of-2.field-0 ∷ [])
    ∙ ap (λ (word : List ℕ). c.args.words.now ++ word ∷ c.in_ok-of-2.field-0 ∷ []) c.in_ok-of.ensures
    ∙ ap (λ (word : List ℕ). c.args.words.now ++ codes "--workers" ∷ word ∷ []) c.in_ok-of-2.ensures
