use Rattle.std.proofs.Common.{w64}
use Rattle.std.proofs.lemmas.Int.{to_z-of_z}
use Rattle.pl_meaning.specs.Logs.{loop_question}
use Rattle.pl_loop.proofs.Answering.{fallen_near}
use Rattle.pl_loop.proofs.running.by_one.Goals as goal

pub returns : goal.returns
returns c =
    fallen_near c.args.program.now c.args.turns c.args.depth (loop_question c.args.question) c.args.env.now c.fall.result c.args.i _ _ c.in-Err.error c.requires.index (rw c.in-Err.is at c.in_ok-iterate.ensures) c.fall.ensures (cc (to_z-of_z w64 c.args.i c.ranges.i)) (cc (to_z-of_z w64 c.args.i c.ranges.i))
