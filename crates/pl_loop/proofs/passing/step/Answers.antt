use Rattle.std.proofs.Common.{w64}
use Rattle.std.proofs.lemmas.Int.{to_z-of_z}
use Rattle.pl_meaning.specs.Logs.{loop_question}
use Rattle.pl_meaning.specs.Promises.{at}
use Rattle.pl_loop.specs.Passes.{printer_log}
use Rattle.pl_loop.proofs.Passes.{stepped_near}
use Rattle.pl_loop.proofs.passing.step.Goals as goal

pub returns-in-Indexed : goal.returns-in-Indexed
returns-in-Indexed c =
    stepped_near c.args.program.now c.args.depth (loop_question c.args.question) c.args.env.now c.args.i _ c.args.s.now c.in-Assign.target c.in-Indexed.name _ c.in-Assign.e (at c.args.memory.now (printer_log c.args.printer.now.text.items)) (at c.assign.new.memory (printer_log c.assign.new.printer.text.items)) c.assign.result c.in-Assign.is c.in-Indexed.is c.assign.ensures (cc (to_z-of_z w64 c.args.i c.ranges.i))
