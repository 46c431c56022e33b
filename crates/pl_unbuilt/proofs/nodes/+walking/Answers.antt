use Rattle.std.proofs.Common.{◌≡◌, ◌++◌, ◌∙◌, sym, ap, map}
use Rattle.pl_unbuilt.specs.Nodes.{joined, of_expr, of_exprs}
use Rattle.pl_unbuilt.proofs.Joins.{at_rows, all_dropped}
use Rattle.pl_unbuilt.proofs.nodes.+walking.Goals as goal

pub add_expr-returns-after-loop-row : goal.add_expr-returns-after-loop-row
add_expr-returns-after-loop-row t c =
    let all : of_expr c.args.e.now ≡ joined (map of_exprs c.in-Rows.rows) = at_rows c.args.e.now c.in-Rows.rows c.in-Rows.is in
    let done : c.loop-row.out.items ≡ c.args.out.now.items ++ joined (map of_exprs c.in-Rows.rows) =
    all_dropped of_exprs c.as_slice-row-items.result.now c.loop-row.row-index c.loop-row-test.false c.loop-row.out.items ∙ c.loop-row.invariant ∙ ap (λ l. c.args.out.now.items ++ joined (map of_exprs l)) c.as_slice-row-items.ensures in
    done ∙ ap (λ l. c.args.out.now.items ++ l) (sym all)
