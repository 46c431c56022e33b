-- Among the cells so far, none is better than the one at the place, and each before it is worse.
use Rattle.std.proofs.Common.{◌≡◌, ℕ, ◌<◌, pos, max, true, false, get_or}
use Rattle.pl_builtin.specs.Along.{is_better}
use Rattle.pl_builtin.proofs.extremes.first_best.Given as goal

abbrev pub invariant-loop-k : goal.invariant-loop-k
invariant-loop-k l = record {
  within : l.at < max l.k 1;
  before : (j : ℕ) → j < l.at → is_better l.which (get_or l.cells l.at (pos 0)) (get_or l.cells j (pos 0)) ≡ true;
  none : (j : ℕ) → j < l.k → is_better l.which (get_or l.cells j (pos 0)) (get_or l.cells l.at (pos 0)) ≡ false;
}
