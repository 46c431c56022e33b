use Rattle.pl_frame.proofs.Ordinary.{ordinary}
use Rattle.pl_frame.proofs.laws.an_ordinary_loop_does_the_same.Goals as goal

pub returns : goal.returns
returns c = ordinary
