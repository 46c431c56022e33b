use Rattle.std.proofs.Common.{◌<◌, length, refl, ap, arith}
use Rattle.std.proofs.lemmas.Option.{slice_get_read}
use Rattle.pl_meaning.specs.Logs.{loop_question}
use Rattle.pl_loop.proofs.Passes.{one_more}
use Rattle.pl_loop.proofs.passing.pass.Goals as goal

pub loop-s-preserved : goal.loop-s-preserved
loop-s-preserved c F k R =
    let within : c.loop-s.s-index < length c.args.question.body.now = omega (arith, ap length c.as_slice-s-items.ensures) in
    let here = slice_get_read c.args.question.body.now (length c.args.question.body.now) c.loop-s.s-index c.s-item.result refl within (rw c.as_slice-s-items.ensures at c.s-item.is) in
    one_more c.args.program.now c.args.depth (loop_question c.args.question) c.args.env.now F k _ c.args.memory.now.env c.args.printer.now.text.items R c.loop-s.s-index c.loop-s.memory.env c.loop-s.printer.text.items (c.loop-s.invariant F k R) c.s-item.result here c.step.new.memory.env c.step.new.printer.text.items c.loop-s.memory.turns c.step.new.memory.turns c.loop-s.memory.calls c.step.new.memory.calls (c.in_ok-step.ensures c.if-not-branch.false)
