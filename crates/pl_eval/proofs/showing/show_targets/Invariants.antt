-- The targets that are done are shown.
use Rattle.std.specs.Prelude.{drop}
use Rattle.pl_meaning.specs.Parts.{shown_targets}
use Rattle.pl_meaning.specs.Promises.{Comes, Keeps, at}
use Rattle.pl_eval.proofs.showing.show_targets.Given as goal

abbrev pub invariant-loop-target : goal.invariant-loop-target
invariant-loop-target g l =
    Comes (shown_targets l.program l.wanted l.frame l.targets) (at l.memory (g.W.World.log l.fn.world)) (shown_targets l.program l.wanted l.frame (drop l.target-index l.targets)) (at l.memory (g.W.World.log l.world))
    × Keeps (at l.memory (g.W.World.log l.fn.world)) (at l.memory (g.W.World.log l.world))
