-- The greatest subscript so far, carried on over the places to come, is that of all.
use Rattle.std.proofs.Common.{◌≡◌, ◌+◌, max, drop}
use Rattle.std.specs.List.{fold}
use Rattle.pl_index.specs.Places.{reach}
use Rattle.pl_index.proofs.places.reach_of.Given as goal

abbrev pub invariant-loop-k : goal.invariant-loop-k
invariant-loop-k l = fold (λ top k. max top (k + 1)) l.top (drop l.k-index l.places) ≡ reach l.places
