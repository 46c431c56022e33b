-- What all iterations come to is what the others come to, behind the text and the variables so far.
use Rattle.std.proofs.Common.{◌-◌, pos, ◌+ℤ◌}
use Rattle.pl_meaning.specs.Logs.{loop_question}
use Rattle.pl_meaning.specs.Loops.{indices}
use Rattle.pl_loop.specs.Coming.{Stands}
use Rattle.pl_loop.proofs.iterating.iterate_all.Given as goal

abbrev pub invariant-loop-k : goal.invariant-loop-k
invariant-loop-k l = Stands l.program l.turns l.depth (loop_question l.question) l.env (indices l.question.first l.question.count) (indices (l.question.first +ℤ pos l.k) (l.question.count - l.k)) l.fn.variables.items l.printer.text.items l.variables.items
