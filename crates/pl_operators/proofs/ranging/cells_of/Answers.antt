-- The next number is the exact one, where it is one of the range.
use Rattle.std.proofs.Common.{ℤ, ℕ, ◌≡◌, ◌<◌, ◌+◌, to_z, of_z, ◌+ℤ◌, ◌*ℤ◌, pos, w64, FitsSigned, sym, subst, ◌∙◌}
use Rattle.std.proofs.lemmas.Int.{to_z-of_z}
use Rattle.pl_operators.proofs.Ranges.{next_clamped, cells_more}
use Rattle.pl_operators.proofs.ranging.cells_of.Goals as goal

pub loop-place-preserved : goal.loop-place-preserved
loop-place-preserved c =
    let first = to_z w64 (of_z w64 c.args.first) in
    let step = to_z w64 (of_z w64 c.args.step) in
    let is_first = to_z-of_z w64 c.args.first c.ranges.first in
    let is_step = to_z-of_z w64 c.args.step c.ranges.step in
    let place = c.loop-place._place in
    let next = to_z w64 c.loop-place.next-bits in
    let here : next ≡ first +ℤ step *ℤ pos place = c.loop-place.invariant.next c.loop-place-test.true in
    let fits : (k : ℕ) → k < c.args.count → FitsSigned w64 (first +ℤ step *ℤ pos k) = λ k h.
    subst (λ (z : ℤ). FitsSigned w64 (z +ℤ step *ℤ pos k)) (sym is_first)
    (subst (λ (z : ℤ). FitsSigned w64 (c.args.first +ℤ z *ℤ pos k)) (sym is_step) (c.requires k h)) in
    record {
      all = c.in_ok-push.ensures.items ∙ cells_more first step c.loop-place.cells.items next place c.loop-place.invariant.all here;
      next = λ within.
          to_z-of_z w64 c.saturating_add-next.result (record { sfits = c.saturating_add-next.type_inv })
          ∙ c.saturating_add-next.ensures
          ∙ next_clamped first step next place here (fits (place + 1) within);
    }
