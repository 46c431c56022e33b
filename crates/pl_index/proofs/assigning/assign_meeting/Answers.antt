-- The places are in the shape, and the value has a cell for each or one for all.
use Rattle.std.proofs.Common.{ℕ, ◌*◌, ◌<◌, inl, inr, List, length, refl, ap, sym, subst, ◌∙◌}
use Rattle.std.specs.List.{All}
use Rattle.pl_index.proofs.Crossing.{crossing_below}
use Rattle.pl_index.proofs.Cells.{length-crossing}
use Rattle.pl_index.proofs.assigning.assign_meeting.Goals as goal

pub store-requires-clause-places : goal.store-requires-clause-places
store-requires-clause-places c =
    subst (λ (ks : List ℕ). All (λ k. k < c.in-Ok.s.rows * c.in-Ok.s.cols) ks) (sym (c.as_slice.ensures.value ∙ c.in_ok-places-in-Ok.ensures))
    (crossing_below c.in-Ok.s c.args.rows.now c.args.cols.now c.in-Ok.ensures.inside)

pub store-requires-clause-fits : goal.store-requires-clause-fits
store-requires-clause-fits c =
    let count = sym (ap length (c.as_slice.ensures.value ∙ c.in_ok-places-in-Ok.ensures) ∙ length-crossing c.in-Ok.s.rows c.args.rows.now c.args.cols.now) in
    elim (c.if-not-block_takes.ensures.counts refl) [ inl h ↦ inl h | inr h ↦ inr (h ∙ count) ]
