-- The names to come, put behind those that were added, give all.
use Rattle.std.proofs.Common.{◌≡◌, map, drop, nat_eq}
use Rattle.std.specs.Cmp.Lexicographic.{pointwise}
use Rattle.indexmap.specs.IndexSet.{insert_all}
use Rattle.pl_resolve.specs.Scopes.{distinct}
use Rattle.pl_meaning.specs.Parts.{written_in}
use Rattle.pl_forms.proofs.body.written_names.Given as goal

abbrev pub invariant-loop-s : goal.invariant-loop-s
invariant-loop-s l = insert_all (pointwise nat_eq) l.names.keys (map (λ n. n.text) (written_in (drop l.s-index l.s-items))) ≡ distinct (map (λ n. n.text) (written_in l.items))
