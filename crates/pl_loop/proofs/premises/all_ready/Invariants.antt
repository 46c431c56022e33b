-- All slots are ready where those to come are.
use Rattle.std.proofs.Common.{ℕ, ◌⊎◌, drop}
use Rattle.pl_frame.specs.Ordering.{Each, HasArray, IsNew}
use Rattle.pl_loop.proofs.premises.all_ready.Given as goal

abbrev pub invariant-loop-slot : goal.invariant-loop-slot
invariant-loop-slot l = Each (λ (s : ℕ). HasArray l.env s ⊎ IsNew l.env s) (drop l.slot-index l.slots) → Each (λ (s : ℕ). HasArray l.env s ⊎ IsNew l.env s) l.slots
