use Rattle.std.proofs.Common.{rules}
use Rattle.conformance.proofs.report.run_with.Goals as goal

-- the run that was judged left something else
pub returns : goal.returns
returns g c = (c.in_ok-seen.seen, c.in_ok-seen.ensures, λ passes. search rules)
