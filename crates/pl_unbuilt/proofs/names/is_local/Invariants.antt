-- The name is among all where it is among those to come.
use Rattle.std.proofs.Common.{◌≡◌, drop}
use Rattle.pl_resolve.specs.Functions.{local_names}
use Rattle.pl_resolve.specs.Scopes.{is_among}
use Rattle.pl_unbuilt.proofs.names.is_local.Given as goal

abbrev pub invariant-loop-function : goal.invariant-loop-function
invariant-loop-function l = is_among (local_names (drop l.function-index l.functions)) l.name ≡ is_among (local_names l.functions) l.name
