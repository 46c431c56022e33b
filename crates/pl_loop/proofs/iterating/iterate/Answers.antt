use Rattle.std.proofs.Common.{◌≡◌, ◌∙◌, ap, ℤ, w64}
use Rattle.std.proofs.lemmas.Int.{to_z-of_z}
use Rattle.pl_meaning.specs.Logs.{loop_question}
use Rattle.pl_meaning.specs.Loops.{start_of}
use Rattle.pl_loop.proofs.Steps.{ran}
use Rattle.pl_loop.proofs.iterating.iterate.Goals as goal

pub returns-in-Ok-Done : goal.returns-in-Ok-Done
returns-in-Ok-Done c =
    let start : c.in_ok-start.start ≡ start_of c.args.program.now (loop_question c.args.question) c.args.env.now c.args.i = c.in_ok-start.ensures ∙ ap (λ (z : ℤ). start_of c.args.program.now (loop_question c.args.question) c.args.env.now z) (to_z-of_z w64 c.args.i c.ranges.i) in
    ran c.args.program.now c.args.turns c.args.depth (loop_question c.args.question) c.args.env.now c.args.i c.body_frame-frame.result c.in_ok-start.start c.in-Ok-Done.field-0 c.in-Ok-Done.end c.args.printer.now.text.items c.run_body.new.world.text.items c.body_frame-frame.ensures start c.in-Ok-Done.field-0-is c.in-Ok-Done.ensures
