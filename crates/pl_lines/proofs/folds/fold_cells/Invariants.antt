-- The fold goes on over the cells to come.
use Rattle.std.proofs.Common.{◌≡◌, Some, drop}
use Rattle.std.specs.List.{fold}
use Rattle.pl_array.specs.Arrays.{IsCell}
use Rattle.pl_lines.specs.Folding.{onward, folded}
use Rattle.pl_lines.proofs.folds.fold_cells.Given as goal

abbrev pub invariant-loop-cell : goal.invariant-loop-cell
invariant-loop-cell g l = (fold (onward (g.F.Fold.step l.fold)) (Some l.so_far) (drop l.cell-index l.cells) ≡ folded (g.F.Fold.step l.fold) (g.F.Fold.start l.fold) l.cells) × IsCell (g.F.Fold.class l.fold) l.so_far
