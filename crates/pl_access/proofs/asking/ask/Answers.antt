use Rattle.pl_meaning.specs.Logs.{question_of}
use Rattle.pl_access.proofs.Asks.{asked, keeps}
use Rattle.pl_access.proofs.asking.ask.Goals as goal

pub returns-in-Ok-clause-ok : goal.returns-in-Ok-clause-ok
returns-in-Ok-clause-ok g c =
    let h = c.in-Ok.ensures in
    asked (question_of c.args.question) c.args.memory.now.env c.args.memory.now.turns c.args.memory.now.calls (g.W.World.log c.args.world.now) (g.W.World.log c.ask.new.self) h.0 c.in-Ok.answer h.1.0 h.1.1 h.1.2

pub returns-in-Ok-clause-keeps : goal.returns-in-Ok-clause-keeps
returns-in-Ok-clause-keeps g c =
    let h = c.in-Ok.ensures in
    keeps c.args.memory.now.env c.args.memory.now.turns c.args.memory.now.calls (g.W.World.log c.args.world.now) (g.W.World.log c.ask.new.self) h.0 h.1.0 h.1.2
