-- The outputs that are done were read.
use Rattle.std.specs.Prelude.{[], drop}
use Rattle.pl_meaning.specs.Logs.{Log}
use Rattle.pl_meaning.specs.Promises.{Comes, at}
use Rattle.pl_meaning.specs.Parts.{results_from}
use Rattle.pl_eval.proofs.local.asked_for.Given as goal

abbrev pub invariant-loop-name : goal.invariant-loop-name
invariant-loop-name l =
    (m : Log) → Comes (results_from l.program l.frame l.place [] l.names) (at l.memory m) (results_from l.program l.frame l.place l.done.items (drop l.name-index l.names)) (at l.memory m)
