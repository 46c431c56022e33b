use Rattle.std.proofs.Common.{◌≡◌, ◌++◌, drop}
use Rattle.pl_frames.specs.Outlist.{skips}
use Rattle.pl_frames.proofs.outlist.with_skips.Given as goal

-- the outputs so far and those that are left are all
abbrev pub invariant-loop-mark : goal.invariant-loop-mark
invariant-loop-mark l = l.outputs ++ skips (drop l._mark-index l.marks) ≡ l.initial.outputs ++ skips l.marks
