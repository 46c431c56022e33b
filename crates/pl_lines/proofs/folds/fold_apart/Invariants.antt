-- The fold goes on over the cells to come.
use Rattle.std.proofs.Common.{◌≡◌, Some, drop}
use Rattle.std.specs.List.{fold}
use Rattle.pl_array.specs.Arrays.{IsCell}
use Rattle.pl_lines.specs.Lines.{line}
use Rattle.pl_lines.specs.Folding.{onward, folded}
use Rattle.pl_lines.specs.declared.dim.Dim.TheVariants.{Across}
use Rattle.pl_lines.proofs.folds.fold_apart.Given as goal

abbrev pub invariant-loop-k : goal.invariant-loop-k
invariant-loop-k g l = (fold (onward (g.F.Fold.step l.fold)) (Some l.so_far) (drop l.k (line Across l.a l.i)) ≡ folded (g.F.Fold.step l.fold) (g.F.Fold.start l.fold) (line Across l.a l.i)) × IsCell (g.F.Fold.class l.fold) l.so_far
