-- Both texts begin with the same lines, so many as were counted, and what is left stands behind them.
use Rattle.std.proofs.Common.{◌≡◌, ◌++◌, length, List, ℕ}
use Rattle.pl_io.specs.Counted.{counted}
use Rattle.conformance.specs.Differences.{lines_of}
use Rattle.conformance.proofs.difference.first_difference.Given as goal

abbrev pub invariant-loop-wanted_line : goal.invariant-loop-wanted_line
invariant-loop-wanted_line l = (before : List (List ℕ)) × (lines_of l.wanted ≡ before ++ lines_of l.wanted_rest) × (lines_of l.got ≡ before ++ lines_of l.got_rest) × (l.line ≡ counted (length before))

abbrev pub decreases-loop-wanted_line : goal.decreases-loop-wanted_line
decreases-loop-wanted_line l = length l.wanted_rest
