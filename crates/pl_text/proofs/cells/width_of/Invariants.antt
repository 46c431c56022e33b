use Rattle.std.proofs.Common.{◌≡◌, take}
use Rattle.pl_text.specs.Cells.{width_of}
use Rattle.pl_text.proofs.cells.width_of.Given as goal

-- the greatest width so far
abbrev pub invariant-loop-cell : goal.invariant-loop-cell
invariant-loop-cell l = l.width ≡ width_of (take l.cell-index l.cells)
