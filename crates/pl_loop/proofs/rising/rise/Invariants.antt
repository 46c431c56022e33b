-- So many passes are done.
use Rattle.pl_meaning.specs.Logs.{loop_question}
use Rattle.pl_frame.specs.Rising.{Risen}
use Rattle.pl_loop.specs.Passes.{Founded}
use Rattle.pl_loop.proofs.rising.rise.Given as goal

abbrev pub invariant-loop-k : goal.invariant-loop-k
invariant-loop-k l = Founded l.program (loop_question l.question) l.env → Risen l.program l.depth (loop_question l.question) l.env l.k l.memory.env l.printer.text.items
