-- The names to come, put behind those that were added, give all.
use Rattle.std.proofs.Common.{◌≡◌, map, filter, drop, nat_eq}
use Rattle.std.specs.Cmp.Lexicographic.{pointwise}
use Rattle.indexmap.specs.IndexSet.{insert_all}
use Rattle.pl_resolve.specs.Scopes.{assigns}
use Rattle.pl_resolve.proofs.resolving.add_assigned.Given as goal

abbrev pub invariant-loop-o : goal.invariant-loop-o
invariant-loop-o l = insert_all (pointwise nat_eq) l.vars (map (λ o. o.name) (filter (λ o. assigns o.how) (drop l.o-index l.names))) ≡ insert_all (pointwise nat_eq) l.fn.vars (map (λ o. o.name) (filter (λ o. assigns o.how) l.names))
