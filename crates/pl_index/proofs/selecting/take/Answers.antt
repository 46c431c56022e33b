-- The cells that are picked are of the class.
use Rattle.std.proofs.Common.{ℤ, List, sym, subst}
use Rattle.std.specs.List.{All}
use Rattle.pl_array.specs.Arrays.{IsCell}
use Rattle.pl_array.specs.declared.class.Class.{Class}
use Rattle.pl_index.proofs.Cells.{picked_class}
use Rattle.pl_index.proofs.selecting.take.Goals as goal

pub new-requires-clause-of_class : goal.new-requires-clause-of_class
new-requires-clause-of_class c =
    let a = c.args.a.now in
    let all : All (IsCell a.class) c.cells.result.now = subst (λ (xs : List ℤ). All (IsCell a.class) xs) (sym c.cells.ensures.cells) c.cells.ensures.valid.of_class in
    subst (λ (k : Class). All (IsCell k) c.in_ok-cells.cells.items) (sym c.class.ensures)
    (subst (λ (xs : List ℤ). All (IsCell a.class) xs) (sym c.in_ok-cells.ensures) (picked_class a.class c.cells.result.now c.args.places.now all))
