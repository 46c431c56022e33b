use Rattle.pl_built.proofs.Ordinary.{asked_ordinary}
use Rattle.pl_built.proofs.law.an_asked_loop_does_as_an_ordinary_one.Goals as goal

pub returns : goal.returns
returns c = asked_ordinary
