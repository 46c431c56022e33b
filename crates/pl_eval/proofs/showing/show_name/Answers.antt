use Rattle.pl_meaning.specs.Parts.{shown_target}
use Rattle.pl_eval.proofs.showing.show_name.Goals as goal

pub returns-in-true-clause-ok : goal.returns-in-true-clause-ok
unfolding shown_target
returns-in-true-clause-ok g c = rw c.in-true.is (c.show_variable.ensures.ok)

pub returns-in-true-clause-err : goal.returns-in-true-clause-err
unfolding shown_target
returns-in-true-clause-err g c = λ x e k h all f. rw c.in-true.is (c.show_variable.ensures.err x e k h all f)
