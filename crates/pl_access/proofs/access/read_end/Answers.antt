use Rattle.std.proofs.Common.{refl, sym}
use Rattle.pl_meaning.specs.Promises.{at}
use Rattle.pl_meaning.specs.Accesses.{read_end}
use Rattle.pl_access.proofs.Halted.{halts}
use Rattle.pl_access.proofs.access.read_end.Goals as goal

pub returns-in-Err-clause-err : goal.returns-in-Err-clause-err
unfolding read_end
returns-in-Err-clause-err g c =
    let refused = rw c.get.ensures at c.in-Err.ensures in
    λ x e. halts (read_end c.args.ends c.args.place) (at c.args.memory.now (g.W.World.log c.args._world.now)) _ c.fail.result x (λ k h choices. rw (sym refused) refl) c.fail.ensures cc
