use Rattle.pl_loop.proofs.choosing.finish_passed.Goals as goal

pub returns : goal.returns
returns c = rw c.in_ok-outputs.ensures at c.done.ensures
