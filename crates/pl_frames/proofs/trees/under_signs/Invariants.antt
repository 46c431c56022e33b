use Rattle.std.proofs.Common.{◌≡◌, length}
use Rattle.pl_frames.specs.Trees.{under_signs}
use Rattle.pl_frames.proofs.trees.under_signs.Given as goal

-- what the signs that are left make of the tree is what all make of the operand's
abbrev pub invariant-loop-at : goal.invariant-loop-at
invariant-loop-at l = under_signs l.signs l.tree ≡ under_signs l.initial.signs l.initial.tree

abbrev pub decreases-loop-at : goal.decreases-loop-at
decreases-loop-at l = length l.signs
