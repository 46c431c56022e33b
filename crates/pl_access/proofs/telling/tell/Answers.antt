use Rattle.std.proofs.Common.{take}
use Rattle.pl_meaning.specs.Logs.{shows}
use Rattle.pl_access.proofs.Tells.{keeps}
use Rattle.pl_access.proofs.telling.tell.Goals as goal

pub returns-in-Ok-clause-keeps : goal.returns-in-Ok-clause-keeps
returns-in-Ok-clause-keeps g c =
    keeps c.args.memory.now.env c.args.memory.now.turns c.args.memory.now.calls (g.W.World.log c.args.world.now) (g.W.World.log c.event.new.self) (shows c.args.event) _ c.in-Ok.ensures

pub returns-in-Err-Is-clause-keeps : goal.returns-in-Err-Is-clause-keeps
returns-in-Err-Is-clause-keeps g c =
    let h = rw c.in-Err-Is.field-0-is at c.in-Err-Is.ensures in
    keeps c.args.memory.now.env c.args.memory.now.turns c.args.memory.now.calls (g.W.World.log c.args.world.now) (g.W.World.log c.event.new.self) (take h.0 (shows c.args.event)) h.1.0 h.1.2
