-- Counts of faults that rose by one.
use Rattle.std.proofs.Common.{◌≡◌, ℕ, arith}
use Rattle.pl_io.specs.Counted.{counted}
use Rattle.pl_io.specs.Faults.{Rose}

-- a count of one more rose
pub counted_rose : (before now : ℕ) → now ≡ counted before → Rose before now
counted_rose before now one_more = omega (arith, one_more)
