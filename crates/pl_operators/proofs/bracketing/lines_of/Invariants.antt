-- The rows that were joined, and then those to come, are all.
use Rattle.std.proofs.Common.{◌≡◌, map, length}
use Rattle.pl_operators.specs.Bracketing.{lines_of}
use Rattle.pl_operators.proofs.Fronts.{before}
use Rattle.pl_operators.proofs.bracketing.lines_of.Given as goal

abbrev pub invariant-loop-grid : goal.invariant-loop-grid
invariant-loop-grid l = before l.lines.items (lines_of (map (λ row. map (λ a. a.now) row.items) l.grid)) ≡ lines_of (map (λ row. map (λ a. a.now) row.items) l.initial.grid)

abbrev pub decreases-loop-grid : goal.decreases-loop-grid
decreases-loop-grid l = length l.grid
