use Rattle.std.proofs.Common.{sym, ◌∙◌}
use Rattle.pl_eval.proofs.showing.show_variable.Goals as goal

pub returns-in-Some-clause-err : goal.returns-in-Some-clause-err
returns-in-Some-clause-err g c = λ x e k h all f. rw (sym c.slot_of.ensures ∙ c.in-Some.is) (c.show_slot.ensures.err x e k h all f)
