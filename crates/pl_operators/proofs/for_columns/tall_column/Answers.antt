-- The cells of a column are as many as the rows, and of the class.
use Rattle.std.proofs.Common.{ℤ, ℕ, ◌*◌, ◌≡◌, List, ap, sym, subst, ◌∙◌}
use Rattle.std.specs.List.{All}
use Rattle.pl_array.specs.Arrays.{IsCell, cell_at}
use Rattle.pl_array.specs.declared.class.Class.{Class}
use Rattle.pl_array.specs.declared.class.Shape.{Shape}
use Rattle.pl_operators.proofs.ColumnCells.{column_count, column_class}
use Rattle.pl_operators.proofs.for_columns.tall_column.Goals as goal

pub new-requires-clause-count : goal.new-requires-clause-count
new-requires-clause-count c =
    let a = c.args.a.now in
    let rows : c.shape-rows.result.rows ≡ a.rows = ap (λ (s : Shape). s.rows) c.shape-rows.ensures.shape in
    column_count c.in_ok-cells.cells.items (λ r. cell_at a r c.args.j) a.rows c.in_ok-cells.ensures ∙ ap (λ (n : ℕ). n * 1) (sym rows)

pub new-requires-clause-of_class : goal.new-requires-clause-of_class
new-requires-clause-of_class c =
    let a = c.args.a.now in
    subst (λ (k : Class). All (IsCell k) c.in_ok-cells.cells.items) (sym c.class.ensures)
    (subst (λ (xs : List ℤ). All (IsCell a.class) xs) (sym c.in_ok-cells.ensures) (column_class a c.args.j c.shape-rows.ensures.valid c.requires))
