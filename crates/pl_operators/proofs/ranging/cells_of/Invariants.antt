-- The numbers so far, and the next one where there is one more.
use Rattle.std.proofs.Common.{◌≡◌, ◌<◌, ◌+ℤ◌, ◌*ℤ◌, pos}
use Rattle.pl_operators.specs.Ranging.{range_cells}
use Rattle.pl_operators.proofs.ranging.cells_of.Given as goal

abbrev pub invariant-loop-place : goal.invariant-loop-place
invariant-loop-place l = record {
  all : l.cells.items ≡ range_cells l.first l.step l._place;
  next : l._place < l.count → l.next ≡ l.first +ℤ l.step *ℤ pos l._place;
}
