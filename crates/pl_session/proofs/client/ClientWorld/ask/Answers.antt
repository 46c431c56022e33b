use Rattle.pl_session.proofs.Asked.{loop_answered, extra_refused}
use Rattle.pl_session.proofs.client.ClientWorld.ask.Goals as goal

pub returns-in_ok-push-in-Loop : goal.returns-in_ok-push-in-Loop
returns-in_ok-push-in-Loop g c = loop_answered c.args.self.now.program.now c.args.self.now.turns c.args.env.now _ _ _ c.args.question c.in-Loop.asked c.in_ok-done-in-Loop.done.choice c.in_ok-done-in-Loop.done.answer c.args.self.now.entries.now c.push.new.self c.in-Loop.is c.in_ok-done-in-Loop.ensures c.in_ok-push-in-Loop.ensures.ok

pub returns-in_ok-answer-in-Extra : goal.returns-in_ok-answer-in-Extra
returns-in_ok-answer-in-Extra g c = extra_refused c.args.self.now.program.now c.args.self.now.turns c.args.env.now _ _ _ c.args.question _ _ _ c.in_ok-answer-in-Extra.answer c.args.self.now.entries.now c.in-Extra.is c.in_ok-answer-in-Extra.ensures
