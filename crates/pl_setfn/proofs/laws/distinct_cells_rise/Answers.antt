-- A cell that equals the one before it is left out.
use Rattle.pl_setfn.proofs.Distinct.{distinct_rises, distinct_some}
use Rattle.pl_setfn.proofs.laws.distinct_cells_rise.Goals as goal

pub returns-clause-rise : goal.returns-clause-rise
returns-clause-rise c = λ k h. distinct_rises c.args.cells.now k h

pub returns-clause-occur : goal.returns-clause-occur
returns-clause-occur c = λ p. distinct_some p c.args.cells.now
