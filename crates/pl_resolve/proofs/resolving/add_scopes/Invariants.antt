-- The scopes so far, with those to come, are all; and the first unknown name is still to come.
use Rattle.std.proofs.Common.{◌≡◌, ◌++◌, map, drop}
use Rattle.pl_resolve.specs.Scopes.{scope_in, function_text, unknown_among}
use Rattle.pl_resolve.proofs.resolving.add_scopes.Given as goal

abbrev pub invariant-loop-function : goal.invariant-loop-function
invariant-loop-function l = (l.scopes ++ map scope_in (map function_text (drop l.function-index l.all)) ≡ l.fn.scopes ++ map scope_in (map function_text l.all))
    × (unknown_among l.functions (map function_text (drop l.function-index l.all)) ≡ unknown_among l.functions (map function_text l.all))
