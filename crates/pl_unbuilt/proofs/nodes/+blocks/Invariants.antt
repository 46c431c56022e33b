-- What was added, with the nodes of what is to come, is what is wanted.
use Rattle.std.proofs.Common.{◌≡◌, ◌++◌, map, drop}
use Rattle.pl_unbuilt.specs.Nodes.{joined, nodes_in, shape_of, of_arm, of_arms, of_block}
use Rattle.pl_unbuilt.proofs.nodes.+blocks.Given as goal

abbrev pub invariant-add_block-loop-s : goal.invariant-add_block-loop-s
invariant-add_block-loop-s l = l.out.items ++ nodes_in (map (shape_of l.program l.frame) (drop l.s-index l.s-items)) ≡ l.fn.out.items ++ of_block l.program l.frame l.body

abbrev pub invariant-add_arms-loop-arm : goal.invariant-add_arms-loop-arm
invariant-add_arms-loop-arm l = l.out.items ++ joined (map (of_arm l.program l.frame) (drop l.arm-index l.arm-items)) ≡ l.fn.out.items ++ of_arms l.program l.frame l.arms
