-- The values of the lines so far.
use Rattle.std.proofs.Common.{◌≡◌, map}
use Rattle.std.specs.List.{range_with_len}
use Rattle.pl_array.specs.Cellwise.{shape_of}
use Rattle.pl_lines.specs.Lines.{default_dim, line}
use Rattle.pl_lines.proofs.runs.map_lines.Given as goal

abbrev pub invariant-loop-i : goal.invariant-loop-i
invariant-loop-i g l = l.values.items ≡ map (λ i. g.R.LineRule.value l.rule (line (default_dim (shape_of l.a)) l.a i)) (range_with_len 0 l.i)
