use Rattle.std.proofs.Common.{refl}
use Rattle.pl_meaning.specs.Promises.{at}
use Rattle.pl_meaning.specs.Accesses.{take_turn}
use Rattle.pl_access.proofs.Halted.{halts}
use Rattle.pl_access.proofs.access.take_turn.Goals as goal

pub returns-then-memory-eq0-clause-err : goal.returns-then-memory-eq0-clause-err
unfolding take_turn
returns-then-memory-eq0-clause-err g c =
    λ x e. halts (take_turn c.args.place) (at c.args.memory.now (g.W.World.log c.args._world.now)) _ c.fail.result x (λ k h choices. rw c.if-memory-eq0.true refl) c.fail.ensures cc
