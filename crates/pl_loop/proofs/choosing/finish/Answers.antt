use Rattle.std.proofs.Common.{◌∙◌, sym, Ok, Err}
use Rattle.pl_meaning.specs.Logs.{loop_question}
use Rattle.pl_loop.specs.Coming.{outputs_by, no_writes}
use Rattle.pl_loop.proofs.Answering.{clashed_ok, done_ok}
use Rattle.pl_loop.proofs.choosing.finish.Goals as goal

pub returns-in-Err : goal.returns-in-Err
returns-in-Err c =
    clashed_ok c.args.program.now (loop_question c.args.question) c.args.joined.text.items c.clashed.result (Err c.in-Err.clash) (outputs_by no_writes c.args.joined.variables.items) (rw c.in-Err.is at c.in_ok-clash.ensures) c.clashed.ensures

pub returns-in-Ok : goal.returns-in-Ok
returns-in-Ok c =
    done_ok c.args.program.now (loop_question c.args.question) c.args.joined.text.items c.done.result (Ok c.in-Ok.outputs) (outputs_by no_writes c.args.joined.variables.items) (sym c.in-Ok.is ∙ c.in_ok-clash.ensures) c.done.ensures
