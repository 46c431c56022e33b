use Rattle.std.proofs.Common.{◌≡◌, []}
use Rattle.std.specs.Vec.Iter.{into_iter_items}
use Rattle.pl_frames.specs.Outlist.{row_outputs}
use Rattle.pl_frames.proofs.outlist.row_outputs.Given as goal

-- the outputs so far and the elements that are left come to what all come to
abbrev pub invariant-loop-element : goal.invariant-loop-element
invariant-loop-element l = row_outputs l.outputs (into_iter_items l.element-iterator) ≡ row_outputs [] l.fn.elements
