-- Outputs that are skipped, one after another.
use Rattle.std.proofs.Common.{◌≡◌, ℕ, suc, zero, ◌+◌, ◌<◌, List, [], ◌∷◌, ◌++◌, length, drop, Option, None, refl, ap, ◌∙◌, arith, add-one, append_assoc}
use Rattle.pl_syntax.specs.declared.stmt.Target.{Target}
use Rattle.pl_frames.specs.declared.operand.Mark.{Mark}
use Rattle.pl_frames.specs.Outlist.{skips}

skips-suc : (ms : List Mark) (i : ℕ) → i < length ms → None ∷ skips (drop (suc i) ms) ≡ skips (drop i ms)
skips-suc [] i h = absurd (omega arith)
skips-suc (m ∷ ms) zero h = refl
skips-suc (m ∷ ms) (suc i) h = skips-suc ms i (omega arith)

-- one more is skipped
pub skips_more : (os more : List (Option Target)) (ms : List Mark) (i : ℕ) → i < length ms → more ≡ os ++ None ∷ [] → more ++ skips (drop (i + 1) ms) ≡ os ++ skips (drop i ms)
skips_more os more ms i h e = rw (e, add-one) (append_assoc os (None ∷ []) (skips (drop (suc i) ms)) ∙ ap (λ t. os ++ t) (skips-suc ms i h))
