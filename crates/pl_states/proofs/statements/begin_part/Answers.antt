use Rattle.pl_states.proofs.statements.begin_part.Goals as goal

pub returns : goal.returns
returns c = rw (← c.spot_of.ensures) c.part_at.ensures
