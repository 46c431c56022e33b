-- The cells are as many as the shape wants, and of the class.
use Rattle.std.proofs.Common.{◌*◌, ℤ, List, length, ap, sym, ◌∙◌, subst}
use Rattle.std.specs.List.{All}
use Rattle.pl_array.specs.Arrays.{IsCell}
use Rattle.pl_array.specs.Joining.{below_at}
use Rattle.pl_array.proofs.Kept.{length-by_places}
use Rattle.pl_array.proofs.Joins.{down_class}
use Rattle.pl_array.proofs.join.concat_v.Goals as goal

pub new-requires-clause-count : goal.new-requires-clause-count
new-requires-clause-count c =
    ap length c.in_ok-cells.ensures ∙ length-by_places (c.in-Some.s.rows * c.in-Some.s.cols) (below_at c.args.a.now c.args.b.now c.in-Some.s.rows)

pub new-requires-clause-of_class : goal.new-requires-clause-of_class
new-requires-clause-of_class c =
    let k = c.in-Some-class_for.class in
    subst (λ (xs : List ℤ). All (IsCell k) xs) (sym c.in_ok-cells.ensures) (down_class c.args.a.now c.args.b.now k c.in-Some.s c.in-Some-class_for.ensures (sym c.in-Some.ensures))
