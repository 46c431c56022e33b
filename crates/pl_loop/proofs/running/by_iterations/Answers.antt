use Rattle.std.proofs.Common.{◌≡◌, map}
use Rattle.pl_meaning.specs.Logs.{loop_question}
use Rattle.pl_meaning.specs.Loops.{written_slots}
use Rattle.pl_loop.specs.Coming.{begun}
use Rattle.pl_loop.proofs.Answering.{finished_ok, fallen_ok}
use Rattle.pl_loop.proofs.running.by_iterations.Goals as goal

pub returns-in-Ok : goal.returns-in-Ok
returns-in-Ok c =
    let variables : c.in_ok-variables.variables.items ≡ map (begun c.args.env.now) (written_slots c.args.program.now (loop_question c.args.question)) = rw c.requires at c.in_ok-variables.ensures in
    finished_ok c.args.program.now c.args.turns c.args.depth (loop_question c.args.question) c.args.env.now c.finish.result c.in-Ok.joined.text.items c.in-Ok.joined.variables.items (rw (c.in-Ok.is, variables) at c.in_ok-joined.ensures.done) c.finish.ensures

pub returns-in-Err : goal.returns-in-Err
returns-in-Err c =
    fallen_ok c.args.program.now c.args.turns c.args.depth (loop_question c.args.question) c.args.env.now c.fall.result c.in-Err.failed.i c.in-Err.failed.error (rw c.in-Err.is at c.in_ok-joined.ensures.index) (rw c.in-Err.is at c.in_ok-joined.ensures.raised) c.fall.ensures
