use Rattle.pl_states.proofs.statements.linked.Goals as goal

pub returns : goal.returns
returns c = cc
