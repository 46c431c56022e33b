use Rattle.std.proofs.lemmas.Result.{IfOk-weaker}
use Rattle.pl_meaning.specs.Library.{library}
use Rattle.pl_library.proofs.calling.library.Goals as goal

pub returns-in-Own-clause-ok : goal.returns-in-Own-clause-ok
unfolding library
returns-in-Own-clause-ok g c = rw c.in-Own.is c.call_own.ensures.ok

pub returns-in-Own-clause-err : goal.returns-in-Own-clause-err
unfolding library
returns-in-Own-clause-err g c = rw c.in-Own.is c.call_own.ensures.err

pub returns-in-Numbers-clause-ok : goal.returns-in-Numbers-clause-ok
unfolding library
returns-in-Numbers-clause-ok g c = rw c.in-Numbers.is (IfOk-weaker c.call_table.result _ _ (λ v w. w _) c.call_table.ensures.ok)

pub returns-in-Numbers-clause-err : goal.returns-in-Numbers-clause-err
unfolding library
returns-in-Numbers-clause-err g c = rw c.in-Numbers.is (λ x e. c.call_table.ensures.err x e _)

pub returns-in-Sets-clause-ok : goal.returns-in-Sets-clause-ok
unfolding library
returns-in-Sets-clause-ok g c = rw c.in-Sets.is (IfOk-weaker c.call_table-in-Sets.result _ _ (λ v w. w _) c.call_table-in-Sets.ensures.ok)

pub returns-in-Sets-clause-err : goal.returns-in-Sets-clause-err
unfolding library
returns-in-Sets-clause-err g c = rw c.in-Sets.is (λ x e. c.call_table-in-Sets.ensures.err x e _)
