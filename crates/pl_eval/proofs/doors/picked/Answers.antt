use Rattle.std.proofs.Common.{◌∙◌, sym}
use Rattle.pl_meaning.specs.Parts.{picked}
use Rattle.pl_eval.proofs.doors.picked.Goals as goal

pub returns-in_ok-operands-in-Some-clause-ok : goal.returns-in_ok-operands-in-Some-clause-ok
unfolding picked
returns-in_ok-operands-in-Some-clause-ok g c = rw (rw c.get.ensures at (sym c.read_door.ensures ∙ c.in-Some.is)) (rw (rw c.get-in-Some.ensures at c.in_ok-operands-in-Some.ensures) at (c.one_extra.ensures.ok))

pub returns-in_ok-operands-in-Some-clause-err : goal.returns-in_ok-operands-in-Some-clause-err
unfolding picked
returns-in_ok-operands-in-Some-clause-err g c = λ x e k h all f. rw (rw c.get.ensures at (sym c.read_door.ensures ∙ c.in-Some.is)) (rw (rw c.get-in-Some.ensures at c.in_ok-operands-in-Some.ensures) at (c.one_extra.ensures.err x e k h all f))
