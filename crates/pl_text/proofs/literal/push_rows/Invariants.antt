use Rattle.std.proofs.Common.{◌≡◌, ◌++◌}
use Rattle.std.specs.Prelude.{codes}
use Rattle.pl_text.specs.Cells.{each, gap}
use Rattle.pl_text.specs.Literal.{literal_row}
use Rattle.pl_text.proofs.literal.push_rows.Given as goal

abbrev pub invariant-loop-row : goal.invariant-loop-row
invariant-loop-row l = l.text.items ≡ l.fn.text.items ++ each (λ r. gap (codes ";") r ++ literal_row l.a r) l.row
