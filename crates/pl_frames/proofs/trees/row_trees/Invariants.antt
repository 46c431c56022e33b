use Rattle.std.proofs.Common.{◌≡◌, ◌++◌, map}
use Rattle.std.specs.Vec.Iter.{into_iter_items}
use Rattle.pl_frames.specs.Trees.{element_tree}
use Rattle.pl_frames.proofs.trees.row_trees.Given as goal

-- the trees so far and those of the elements that are left are all
abbrev pub invariant-loop-element : goal.invariant-loop-element
invariant-loop-element l = l.trees ++ map element_tree (into_iter_items l.element-iterator) ≡ map element_tree l.fn.elements
