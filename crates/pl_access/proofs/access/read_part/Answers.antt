use Rattle.std.proofs.Common.{◌≡◌, Err, refl, sym}
use Rattle.pl_operators.specs.Picking.{select_value}
use Rattle.pl_meaning.specs.Promises.{at}
use Rattle.pl_meaning.specs.Accesses.{read_part}
use Rattle.pl_access.proofs.Halted.{halts}
use Rattle.pl_access.proofs.access.read_part.Goals as goal

pub returns-in-None-clause-err : goal.returns-in-None-clause-err
unfolding read_part
returns-in-None-clause-err g c =
    λ x e. halts (read_part c.args.slot c.args.place c.args.list.now) (at c.args.memory.now (g.W.World.log c.args._world.now)) _ c.fail.result x (λ k h choices. rw (sym c.in-None.ensures) refl) c.fail.ensures cc

pub returns-in-Err-Is-clause-err : goal.returns-in-Err-Is-clause-err
unfolding read_part
returns-in-Err-Is-clause-err g c =
    let refused : select_value c.in-Some.v.now c.args.list.now ≡ Err c.in-Err-Is.kind = c.in-Err-Is.ensures.err c.in-Err-Is.kind cc in
    λ x e. halts (read_part c.args.slot c.args.place c.args.list.now) (at c.args.memory.now (g.W.World.log c.args._world.now)) _ c.fail-in-Err-Is.result x (λ k h choices. rw (sym c.in-Some.ensures, refused) refl) c.fail-in-Err-Is.ensures cc
