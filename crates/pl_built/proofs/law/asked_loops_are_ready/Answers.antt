use Rattle.pl_built.proofs.Ordinary.{asked_ready}
use Rattle.pl_built.proofs.law.asked_loops_are_ready.Goals as goal

pub returns : goal.returns
returns c = asked_ready
