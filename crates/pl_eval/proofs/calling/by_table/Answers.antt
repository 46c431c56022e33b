use Rattle.std.proofs.Common.{◌∙◌, sym, ap}
use Rattle.std.specs.Option.{option_copied}
use Rattle.pl_eval.proofs.calling.by_table.Goals as goal

pub returns-in-Some-clause-ok : goal.returns-in-Some-clause-ok
returns-in-Some-clause-ok g c = rw (sym c.name_behind.ensures ∙ ap option_copied c.in-Some.is) (c.by_name.ensures.ok)

pub returns-in-Some-clause-err : goal.returns-in-Some-clause-err
returns-in-Some-clause-err g c = λ x e k h all f. rw (sym c.name_behind.ensures ∙ ap option_copied c.in-Some.is) (c.by_name.ensures.err x e k h all f)
