use Rattle.std.proofs.Common.{◌≡◌, ◌++◌}
use Rattle.std.specs.Prelude.{codes}
use Rattle.pl_array.specs.Arrays.{cell_at}
use Rattle.pl_text.specs.Cells.{each, gap}
use Rattle.pl_text.specs.Literal.{word_of}
use Rattle.pl_text.proofs.literal.push_number_row.Given as goal

abbrev pub invariant-loop-col : goal.invariant-loop-col
invariant-loop-col l = l.text.items ≡ l.fn.text.items ++ each (λ c. gap (codes " ") c ++ word_of l.a.class (cell_at l.a l.row c)) l.col
