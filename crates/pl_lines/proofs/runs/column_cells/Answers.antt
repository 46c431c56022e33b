-- The slice has the cells of the column.
use Rattle.std.proofs.Common.{◌≡◌, ◌+◌, ◌-◌, ◌*◌, arith, ap}
use Rattle.pl_array.specs.declared.class.Shape.{Shape}
use Rattle.pl_lines.proofs.Standing.{column_is}
use Rattle.pl_lines.proofs.runs.column_cells.Goals as goal

pub returns : goal.returns
returns c =
    let a = c.args.a.now in
    let rows : c.shape-rows.result.rows ≡ a.rows = ap (λ (s : Shape). s.rows) c.shape-rows.ensures.shape in
    let m = c.args.i * c.shape-rows.result.rows in
    let n : m + c.shape-rows.result.rows - m ≡ a.rows = omega arith in
    column_is a c.args.i _ m c.cells.result.now c.cells.ensures.valid c.requires c.cells.ensures.cells n (ap (λ (k : _). c.args.i * k) rows)
