-- The rows so far, and then those to come, are all.
use Rattle.std.proofs.Common.{◌≡◌, map, length}
use Rattle.pl_operators.specs.Bracketing.{grid_in}
use Rattle.pl_operators.proofs.Fronts.{before}
use Rattle.pl_operators.proofs.bracketing.grid_of.Given as goal

abbrev pub invariant-loop-rows : goal.invariant-loop-rows
invariant-loop-rows l = before (map (λ row. map (λ a. a.now) row.items) l.grid.items) (grid_in l.rows) ≡ grid_in l.initial.rows

abbrev pub decreases-loop-rows : goal.decreases-loop-rows
decreases-loop-rows l = length l.rows
