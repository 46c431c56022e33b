-- The regrown cells are as many as the shape wants, and of the class.
use Rattle.std.proofs.Common.{ℤ, List, length, ap, sym, subst, ◌∙◌}
use Rattle.std.specs.List.{All}
use Rattle.pl_array.specs.Arrays.{IsCell}
use Rattle.pl_array.specs.declared.class.Class.{Class}
use Rattle.pl_index.proofs.Cells.{length-regrown, regrown_class}
use Rattle.pl_index.proofs.write.regrow.Goals as goal

pub new-requires-clause-count : goal.new-requires-clause-count
new-requires-clause-count c = ap length c.in_ok-cells.ensures ∙ length-regrown c.args.a.now c.args.s

pub new-requires-clause-of_class : goal.new-requires-clause-of_class
new-requires-clause-of_class c =
    let a = c.args.a.now in
    subst (λ (k : Class). All (IsCell k) c.in_ok-cells.cells.items) (sym c.class.ensures)
    (subst (λ (xs : List ℤ). All (IsCell a.class) xs) (sym c.in_ok-cells.ensures) (regrown_class a c.args.s c.shape-valid.ensures.valid.of_class))
