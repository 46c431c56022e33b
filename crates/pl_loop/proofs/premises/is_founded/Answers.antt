use Rattle.std.proofs.Common.{◌∙◌, sym}
use Rattle.pl_meaning.specs.Logs.{loop_question}
use Rattle.pl_loop.proofs.Passes.{founded}
use Rattle.pl_loop.proofs.premises.is_founded.Goals as goal

pub returns : goal.returns
returns c ready =
    founded c.args.program.now (loop_question c.args.question) c.args.env.now c.body_frame.result c.args.slots.now c.body_frame.ensures c.requires (sym c.in_ok-fits.ensures ∙ c.if-not-fits.false) (c.has_index-index.ensures c.if-not-index.false) (c.all_ready.ensures ready)
