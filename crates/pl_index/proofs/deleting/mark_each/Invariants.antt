-- The marks so far, and then those to come, are all the marks.
use Rattle.std.proofs.Common.{◌≡◌, drop}
use Rattle.pl_index.specs.Inner.{marked}
use Rattle.pl_index.proofs.deleting.mark_each.Given as goal

abbrev pub invariant-loop-place : goal.invariant-loop-place
invariant-loop-place l = marked l.marks (drop l.place-index l.places) ≡ marked l.initial.marks l.places
