-- What was added, with the names to come, is what is wanted.
use Rattle.std.proofs.Common.{◌≡◌, ◌++◌, drop}
use Rattle.pl_resolve.specs.Scopes.{of_params}
use Rattle.pl_resolve.proofs.resolving.add_params.Given as goal

abbrev pub invariant-loop-param : goal.invariant-loop-param
invariant-loop-param l = l.out.items ++ of_params (drop l.param-index l.params) ≡ l.fn.out.items ++ of_params l.params
