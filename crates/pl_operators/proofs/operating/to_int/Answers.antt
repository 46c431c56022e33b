-- Converting to int64 refuses nothing and keeps the numbers.
use Rattle.std.proofs.Common.{◌≡◌, Result, Ok, IfOk, sym, subst, ◌∙◌}
use Rattle.pl_base.specs.declared.errors.ErrKind.{ErrKind}
use Rattle.pl_array.specs.Arrays.{Array}
use Rattle.pl_operators.proofs.Converted.{to_int}
use Rattle.pl_operators.proofs.operating.to_int.Goals as goal

pub returns-clause-ok : goal.returns-clause-ok
returns-clause-ok c = subst (λ (r : Result Array ErrKind). IfOk c.convert.result (λ o. r ≡ Ok o)) (to_int c.args.a.now) c.convert.ensures.ok

pub returns-clause-err : goal.returns-clause-err
returns-clause-err c = λ kind is. sym (to_int c.args.a.now) ∙ c.convert.ensures.err kind is
