use Rattle.pl_states.proofs.statements.by_use.Goals as goal

pub returns : goal.returns
returns c = rw (← c.use_of.ensures) c.by_kind.ensures
