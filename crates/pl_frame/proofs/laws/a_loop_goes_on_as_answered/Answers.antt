use Rattle.pl_frame.proofs.Answering.{goes_on_as_answered}
use Rattle.pl_frame.proofs.laws.a_loop_goes_on_as_answered.Goals as goal

pub returns : goal.returns
returns c = goes_on_as_answered
