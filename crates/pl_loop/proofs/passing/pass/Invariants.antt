-- So many statements of the pass are done.
use Rattle.std.proofs.Common.{ℕ}
use Rattle.pl_meaning.specs.Logs.{loop_question}
use Rattle.pl_meaning.specs.Loops.{start_of}
use Rattle.pl_frame.specs.Rising.{Passing, Risen}
use Rattle.pl_loop.specs.Passes.{Founded}
use Rattle.pl_loop.proofs.passing.pass.Given as goal

abbrev pub invariant-loop-s : goal.invariant-loop-s
invariant-loop-s l =
    Founded l.program (loop_question l.question) l.env → (k : ℕ) → Risen l.program l.depth (loop_question l.question) l.env k l.fn.memory.env l.fn.printer.text.items
    → Passing l.program l.depth (loop_question l.question) l.env l.i (start_of l.program (loop_question l.question) l.fn.memory.env l.i) l.fn.printer.text.items l.s-index l.memory.env l.printer.text.items
