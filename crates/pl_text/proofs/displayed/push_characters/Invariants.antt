use Rattle.std.proofs.Common.{◌≡◌, ◌++◌, ◌∷◌, []}
use Rattle.pl_array.specs.Arrays.{cell_at}
use Rattle.pl_text.specs.Cells.{each, byte_of}
use Rattle.pl_text.proofs.displayed.push_characters.Given as goal

abbrev pub invariant-loop-col : goal.invariant-loop-col
invariant-loop-col l = l.text.items ≡ l.fn.text.items ++ each (λ c. byte_of (cell_at l.a l.row c) ∷ []) l.col
