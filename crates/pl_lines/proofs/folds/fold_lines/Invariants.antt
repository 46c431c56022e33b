-- The folds of the lines so far.
use Rattle.std.proofs.Common.{◌≡◌, Some, map}
use Rattle.std.specs.List.{All, range_with_len}
use Rattle.pl_array.specs.Arrays.{IsCell}
use Rattle.pl_lines.specs.Lines.{line}
use Rattle.pl_lines.specs.Folding.{folded, all_of}
use Rattle.pl_lines.proofs.folds.fold_lines.Given as goal

abbrev pub invariant-loop-i : goal.invariant-loop-i
invariant-loop-i g l = (all_of (map (λ i. folded (g.F.Fold.step l.fold) (g.F.Fold.start l.fold) (line l.d l.a i)) (range_with_len 0 l.i)) ≡ Some l.values.items) × All (IsCell (g.F.Fold.class l.fold)) l.values.items
