-- The variables that are done have their values.
use Rattle.std.specs.Vec.Iter.{into_iter_items}
use Rattle.pl_meaning.specs.Promises.{Comes, at}
use Rattle.pl_meaning.specs.Parts.{taken}
use Rattle.pl_eval.proofs.sharing.take_outputs.Given as goal

abbrev pub invariant-loop-output : goal.invariant-loop-output
invariant-loop-output g l =
    Comes (taken l.fn.outputs.items) (at l.fn.memory (g.W.World.log l.world)) (taken (into_iter_items l.output-iterator)) (at l.memory (g.W.World.log l.world))
