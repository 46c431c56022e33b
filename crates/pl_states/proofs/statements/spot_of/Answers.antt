use Rattle.pl_states.proofs.statements.spot_of.Goals as goal

pub returns : goal.returns
returns c = cc
