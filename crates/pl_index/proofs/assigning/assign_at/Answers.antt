-- The places are within what the shape grew to.
use Rattle.std.proofs.Common.{ℕ, ◌*◌, ◌≤◌, subst}
use Rattle.pl_index.proofs.Crossing.{all_below}
use Rattle.pl_index.proofs.assigning.assign_at.Goals as goal

pub store-requires-clause-places : goal.store-requires-clause-places
store-requires-clause-places c =
    all_below c.args.places.now (c.in-Ok.s.rows * c.in-Ok.s.cols) (subst (λ (n : ℕ). n ≤ c.in-Ok.s.rows * c.in-Ok.s.cols) c.reach_of.ensures c.in-Ok.ensures.reached)
