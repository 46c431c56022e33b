use Rattle.std.proofs.Common.{ℕ, List, subst, sym}
use Rattle.pl_meaning.specs.Logs.{loop_question}
use Rattle.pl_frame.proofs.Outputs.{written_once}
use Rattle.pl_loop.specs.Passes.{EachOnce}
use Rattle.pl_loop.proofs.Passes.{risen_ok}
use Rattle.pl_loop.proofs.running.by_passes.Goals as goal

pub finish_passed-requires : goal.finish_passed-requires
finish_passed-requires c = subst (λ (slots : List ℕ). EachOnce slots) (sym c.requires.slots) (written_once c.args.program.now (loop_question c.args.question))

pub returns-in-Ok : goal.returns-in-Ok
returns-in-Ok c =
    risen_ok c.args.program.now c.args.depth (loop_question c.args.question) c.args.env.now c.args.turns c.requires.founded c.in-Ok.passed.env c.in-Ok.passed.text.items ((rw c.in-Ok.is at c.in_ok-passed.ensures.done) c.requires.founded) c.args.slots.now c.requires.slots c.finish_passed.result c.finish_passed.ensures
