use Rattle.std.proofs.Common.{◌≡◌, ◌++◌}
use Rattle.std.specs.Prelude.{codes}
use Rattle.std.specs.Fmt.{signed_decimal}
use Rattle.pl_array.specs.Arrays.{cell_at}
use Rattle.pl_text.specs.Cells.{each, gap, set_right, width_of}
use Rattle.pl_text.proofs.displayed.push_numbers.Given as goal

abbrev pub invariant-loop-col : goal.invariant-loop-col
invariant-loop-col l = l.text.items ≡ l.fn.text.items ++ each (λ c. gap (codes "  ") c ++ set_right (width_of l.a.cells) (signed_decimal (cell_at l.a l.row c))) l.col
