-- The statements that are done were looked at.
use Rattle.std.specs.Prelude.{drop}
use Rattle.pl_meaning.specs.Promises.{Comes, at}
use Rattle.pl_meaning.specs.Parts.{all_laid, written_in}
use Rattle.pl_eval.proofs.sharing.lay_all.Given as goal

abbrev pub invariant-loop-s : goal.invariant-loop-s
invariant-loop-s g l =
    Comes (all_laid l.program l.frame l.place (written_in l.body)) (at l.memory (g.W.World.log l.world)) (all_laid l.program l.frame l.place (written_in (drop l.s-index l.body))) (at l.memory (g.W.World.log l.world))
