use Rattle.std.proofs.Common.{◌≡◌, ◌++◌, ◌∷◌, []}
use Rattle.pl_text.specs.Cells.{each}
use Rattle.pl_text.specs.Displayed.{row_text}
use Rattle.pl_text.proofs.displayed.push_lines.Given as goal

abbrev pub invariant-loop-row : goal.invariant-loop-row
invariant-loop-row l = l.text.items ≡ l.fn.text.items ++ each (λ r. row_text l.a r ++ 10 ∷ []) l.row
