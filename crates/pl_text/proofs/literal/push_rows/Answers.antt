use Rattle.std.proofs.Common.{refl, ◌++◌}
use Rattle.std.specs.Prelude.{codes}
use Rattle.pl_text.specs.Cells.{gap}
use Rattle.pl_text.specs.Literal.{literal_row}
use Rattle.pl_text.proofs.Each.{grown}
use Rattle.pl_text.proofs.literal.push_rows.Goals as goal

pub loop-row-preserved : goal.loop-row-preserved
loop-row-preserved c = grown _ _ _ _ (λ r. gap (codes ";") r ++ literal_row c.args.a.now r) c.loop-row.row c.loop-row.invariant c.in_ok-push_next_row.ensures refl
