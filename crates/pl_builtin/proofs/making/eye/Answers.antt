-- The cells are as many as the shape wants.
use Rattle.std.proofs.Common.{ℕ, ◌*◌, ◌/◌, ◌%◌, ◌==◌, length, ap, ◌∙◌}
use Rattle.std.proofs.lemmas.List.FromFn.{length-map-range_with_len}
use Rattle.pl_array.specs.Cellwise.{truth}
use Rattle.pl_builtin.proofs.making.eye.Goals as goal

pub new-requires-clause-count : goal.new-requires-clause-count
new-requires-clause-count c =
    ap length c.in_ok-cells.ensures ∙ length-map-range_with_len (λ (k : ℕ). truth (k % c.args.s.rows == k / c.args.s.rows)) 0 (c.args.s.rows * c.args.s.cols)
