use Rattle.std.proofs.Common.{◌∙◌, sym}
use Rattle.pl_eval.proofs.doors.operate_on_two.Goals as goal

pub returns-clause-ok : goal.returns-clause-ok
returns-clause-ok g c = rw (sym c.binary_door.ensures ∙ c.in-Some.is) (rw (c.in_ok-operands-in-Some.ensures) at (c.one_extra.ensures.ok))

pub returns-clause-err : goal.returns-clause-err
returns-clause-err g c = λ x e k h all f. rw (sym c.binary_door.ensures ∙ c.in-Some.is) (rw (c.in_ok-operands-in-Some.ensures) at (c.one_extra.ensures.err x e k h all f))
