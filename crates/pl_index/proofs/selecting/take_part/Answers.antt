-- There are as many cells as rows times columns.
use Rattle.std.proofs.Common.{◌≡◌, ◌*◌, length, arith, ap, sym, ◌∙◌}
use Rattle.pl_index.proofs.Cells.{length-crossing}
use Rattle.pl_index.proofs.selecting.take_part.Goals as goal

pub take-requires : goal.take-requires
take-requires c =
    let count : length c.as_slice.result.now ≡ length c.args.rows.now * length c.args.cols.now = ap length c.as_slice.ensures.value ∙ ap length c.in_ok-places.ensures ∙ length-crossing c.shape.result.rows c.args.rows.now c.args.cols.now in
    record {
      exact = sym count;
      limit = omega (arith, count, c.requires.limit);
      row_limit = c.requires.few_rows;
      col_limit = c.requires.few_cols;
    }
