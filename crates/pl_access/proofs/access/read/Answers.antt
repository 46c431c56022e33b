use Rattle.std.proofs.Common.{refl, sym}
use Rattle.pl_meaning.specs.Promises.{at}
use Rattle.pl_meaning.specs.Accesses.{read}
use Rattle.pl_access.proofs.Halted.{halts}
use Rattle.pl_access.proofs.access.read.Goals as goal

pub returns-in-None-clause-err : goal.returns-in-None-clause-err
unfolding read
returns-in-None-clause-err g c =
    λ x e. halts (read c.args.slot c.args.place) (at c.args.memory.now (g.W.World.log c.args._world.now)) _ c.fail.result x (λ k h choices. rw (sym c.in-None.ensures) refl) c.fail.ensures cc
