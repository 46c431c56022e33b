-- One more turn.
use Rattle.std.proofs.Common.{◌≡◌, ℕ, zero, suc, ◌<◌, arith, ◌+◌, ◌++◌, List, [], ◌∷◌, add-one, replicate, refl, sym, ◌∙◌, ap, append_assoc, Option, Some, None}
use Rattle.pl_text.specs.declared.pattern.Part.{Part}
use Rattle.pl_text.specs.Cells.{each, gap}
use Rattle.pl_text.specs.Pattern.{found, put}

pub each_more : (f : ℕ → List ℕ) (n : ℕ) → each f (n + 1) ≡ each f n ++ f n
each_more f n = rw add-one refl

pub gap_later : (between : List ℕ) (n : ℕ) → 0 < n → gap between n ≡ between
gap_later between zero later = absurd (omega (arith, later))
gap_later between (suc n) later = refl

-- a text that grew by what f makes of the next number
pub grown : (old before after turn : List ℕ) (f : ℕ → List ℕ) (n : ℕ) → before ≡ old ++ each f n → after ≡ before ++ turn → f n ≡ turn → after ≡ old ++ each f (n + 1)
grown old before after turn f n was now is =
    now ∙ ap (λ (v : List ℕ). v ++ turn) was ∙ append_assoc old (each f n) turn ∙ ap (λ (v : List ℕ). old ++ (each f n ++ v)) (sym is) ∙ ap (λ (v : List ℕ). old ++ v) (sym (each_more f n))

-- a part that is put before those that come is found
pub part_put : (done : List Part) (p : Part) (more : Option (List Part)) → found done (put p more) ≡ found (done ++ p ∷ []) more
part_put done p None = refl
part_put done p (Some ps) = ap Some (sym (append_assoc done (p ∷ []) ps))
