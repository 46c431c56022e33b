-- The sums so far.
use Rattle.std.proofs.Common.{◌≡◌, Some, map}
use Rattle.std.specs.List.{range_with_len}
use Rattle.pl_lines.specs.Folding.{all_of}
use Rattle.pl_setfn.specs.Along.{running}
use Rattle.pl_setfn.proofs.sums.cumsum.Given as goal

abbrev pub invariant-loop-k : goal.invariant-loop-k
invariant-loop-k l = all_of (map (running l.mode l.d l.a) (range_with_len 0 l.k)) ≡ Some l.sums.items
