-- The variables are those that were moved out, and then those of the slots to come.
use Rattle.std.proofs.Common.{◌≡◌, ◌++◌, drop}
use Rattle.pl_frame.specs.Rising.{outputs_in}
use Rattle.pl_loop.specs.Passes.{EachOnce}
use Rattle.pl_loop.proofs.rising.take_outputs.Given as goal

abbrev pub invariant-loop-slot : goal.invariant-loop-slot
invariant-loop-slot l = EachOnce (drop l.slot-index l.slots) × (outputs_in l.fn.end l.slots ≡ l.outputs ++ outputs_in l.left (drop l.slot-index l.slots))
