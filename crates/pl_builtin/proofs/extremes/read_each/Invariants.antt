-- The cells of the lines so far.
use Rattle.std.proofs.Common.{◌≡◌, pos, map, get_or}
use Rattle.std.specs.List.{range_with_len}
use Rattle.pl_array.specs.Cellwise.{shape_of}
use Rattle.pl_lines.specs.Lines.{default_dim, line}
use Rattle.pl_builtin.specs.Along.{cell_of}
use Rattle.pl_builtin.proofs.extremes.read_each.Given as goal

abbrev pub invariant-loop-i : goal.invariant-loop-i
invariant-loop-i l = l.cells.items ≡ map (λ i. cell_of (line (default_dim (shape_of l.a)) l.a i) (get_or l.places i (pos 0))) (range_with_len 0 l.i)
