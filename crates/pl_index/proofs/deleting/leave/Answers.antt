-- What has no mark is left.
use Rattle.std.proofs.Common.{ℕ, ◌≤◌, List, length, sym, subst}
use Rattle.pl_index.specs.Places.{reach}
use Rattle.pl_index.proofs.Crossing.{all_below}
use Rattle.pl_index.proofs.Left.{left_from, left_shorter, left_within}
use Rattle.pl_index.proofs.deleting.leave.Goals as goal

pub mark-requires : goal.mark-requires
mark-requires c = all_below c.args.places.now c.args.extent c.requires

pub returns-clause-left : goal.returns-clause-left
returns-clause-left c = left_from c.args.extent c.args.places.now c.in_ok-left.left.items c.as_slice.result.now c.in_ok-marks.marks.items c.in_ok-left.ensures c.as_slice.ensures.value c.in_ok-marks.ensures

pub returns-clause-less : goal.returns-clause-less
returns-clause-less c =
    subst (λ (ks : List ℕ). length ks ≤ c.args.extent)
    (sym (left_from c.args.extent c.args.places.now c.in_ok-left.left.items c.as_slice.result.now c.in_ok-marks.marks.items c.in_ok-left.ensures c.as_slice.ensures.value c.in_ok-marks.ensures))
    (left_shorter c.args.extent c.args.places.now)

pub returns-clause-reach : goal.returns-clause-reach
returns-clause-reach c =
    subst (λ (ks : List ℕ). reach ks ≤ c.args.extent)
    (sym (left_from c.args.extent c.args.places.now c.in_ok-left.left.items c.as_slice.result.now c.in_ok-marks.marks.items c.in_ok-left.ensures c.as_slice.ensures.value c.in_ok-marks.ensures))
    (left_within c.args.extent c.args.places.now)
