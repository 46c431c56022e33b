-- Each cell of the result is one of the operand's.
use Rattle.std.proofs.Common.{◌*◌, ◌/◌, ◌%◌, length, ap, sym, ◌∙◌, subst}
use Rattle.std.specs.List.{All}
use Rattle.pl_array.specs.Arrays.{IsCell, cell_at}
use Rattle.pl_array.specs.declared.class.Class.{Class}
use Rattle.pl_array.specs.declared.class.Shape.{Shape}
use Rattle.pl_array.proofs.Kept.{length-by_places, turned_cells}
use Rattle.pl_array.proofs.turn.transpose.Goals as goal

pub new-requires-clause-count : goal.new-requires-clause-count
new-requires-clause-count c =
    let a = c.args.a.now in
    ap length c.in_ok-cells.ensures
    ∙ length-by_places (a.cols * a.rows) (λ k. cell_at a (k / a.cols) (k % a.cols))
    ∙ ap (λ (s : Shape). s.cols * s.rows) (sym c.shape-shape.ensures.shape)

pub new-requires-clause-of_class : goal.new-requires-clause-of_class
new-requires-clause-of_class c =
    subst (λ (k : Class). All (IsCell k) c.in_ok-cells.cells.items) (sym c.class.ensures) (turned_cells c.args.a.now c.in_ok-cells.cells.items c.in_ok-cells.ensures c.shape-shape.ensures.valid)
