use Rattle.std.proofs.Common.{◌≡◌, drop}
use Rattle.pl_frames.specs.Trees.{negated}
use Rattle.pl_frames.proofs.trees.negated.Given as goal

-- what the marks that are left make of the tree is what all make of the operand's
abbrev pub invariant-loop-mark : goal.invariant-loop-mark
invariant-loop-mark l = negated (drop l.mark-index l.marks) l.tree ≡ negated l.marks l.initial.tree
