use Rattle.std.proofs.Common.{◌≡◌, ◌++◌, map, take}
use Rattle.pl_text.specs.declared.items.Item.TheVariants.{Number}
use Rattle.pl_text.proofs.items.push_numbers.Given as goal

abbrev pub invariant-loop-cell : goal.invariant-loop-cell
invariant-loop-cell l = l.items.items ≡ l.fn.items.items ++ map (λ z. Number z) (take l.cell-index l.cells)
