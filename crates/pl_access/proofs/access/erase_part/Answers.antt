use Rattle.pl_meaning.specs.Accesses.{erase_part}
use Rattle.pl_access.proofs.Halted.{halts_back}
use Rattle.pl_access.proofs.Slots.{erased}
use Rattle.pl_access.proofs.access.erase_part.Goals as goal

pub returns-in-Err-Is-clause-err : goal.returns-in-Err-Is-clause-err
unfolding erase_part
returns-in-Err-Is-clause-err g c =
    let refused = rw c.in-Err-Is.field-0-is at c.in-Err-Is.ensures in
    λ x e. halts_back (erase_part c.args.slot c.args.place c.args.list.now) c.args.memory.now.env _ c.args.memory.now.turns c.args.memory.now.calls (g.W.World.log c.args._world.now) _ c.fail.result x (λ k h choices. erased c.args.slot c.args.place c.args.list.now _ c.in-Err-Is.kind refused.0 k h _) c.fail.ensures (cc) refused.1
