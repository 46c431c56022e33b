-- The variables to come, put behind those of the scope so far, give the scope; and the first unknown name is still to come.
use Rattle.std.proofs.Common.{◌≡◌, map, filter, drop, nat_eq}
use Rattle.std.specs.Cmp.Lexicographic.{pointwise}
use Rattle.indexmap.specs.IndexSet.{insert_all}
use Rattle.pl_resolve.specs.Scopes.{is_variable, scope_of, first_unknown}
use Rattle.pl_resolve.proofs.resolving.scope_in.Given as goal

abbrev pub invariant-loop-o : goal.invariant-loop-o
invariant-loop-o l = (insert_all (pointwise nat_eq) l.scope (map (λ o. o.name) (filter (is_variable l.vars) (drop l.o-index l.names))) ≡ scope_of l.vars l.names)
    × (first_unknown l.functions l.vars (drop l.o-index l.names) ≡ first_unknown l.functions l.vars l.names)
