-- No step is refused.
use Rattle.std.proofs.Common.{◌≡◌, Result, Ok, sym, ◌∙◌, subst, IfOk}
use Rattle.pl_base.specs.declared.errors.ErrKind.{ErrKind}
use Rattle.pl_array.specs.Arrays.{Array}
use Rattle.pl_setfn.proofs.AllTrue.{all_is}
use Rattle.pl_setfn.proofs.along.all.Goals as goal

pub returns-clause-ok : goal.returns-clause-ok
returns-clause-ok c = subst (λ (r : Result Array ErrKind). IfOk c.fold_lines.result (λ o. r ≡ Ok o)) (all_is c.args.d c.args.a.now) c.fold_lines.ensures.ok

pub returns-clause-err : goal.returns-clause-err
returns-clause-err c = λ kind p. sym (all_is c.args.d c.args.a.now) ∙ c.fold_lines.ensures.err kind p
