-- Each number of the range fits, and there are as many as were counted.
use Rattle.std.proofs.Common.{ℕ, ◌<◌, to_z, of_z, ◌+ℤ◌, ◌*ℤ◌, pos, w64, FitsSigned, length, sym, subst, ap, ◌∙◌, arith}
use Rattle.std.proofs.lemmas.Int.{to_z-of_z}
use Rattle.std.proofs.lemmas.List.FromFn.{length-map-range_with_len}
use Rattle.pl_operators.proofs.Ranges.{range_fits}
use Rattle.pl_operators.proofs.ranging.row.Goals as goal

pub cells_of-requires : goal.cells_of-requires
cells_of-requires c = λ k h.
    let first = to_z w64 (of_z w64 c.args.first) in
    let step = to_z w64 (of_z w64 c.args.step) in
    let last = to_z w64 (of_z w64 c.args.last) in
    range_fits first step last k
    (subst (FitsSigned w64) (sym (to_z-of_z w64 c.args.first c.ranges.first)) c.ranges.first)
    (subst (FitsSigned w64) (sym (to_z-of_z w64 c.args.last c.ranges.last)) c.ranges.last)
    (subst (λ (n : ℕ). k < n) c.count_of-count.ensures h)

pub new-requires-clause-count : goal.new-requires-clause-count
new-requires-clause-count c =
    ap length c.in_ok-cells.ensures
    ∙ length-map-range_with_len (λ k. to_z w64 (of_z w64 c.args.first) +ℤ to_z w64 (of_z w64 c.args.step) *ℤ pos k) 0 c.count_of-count.result
    ∙ omega arith
