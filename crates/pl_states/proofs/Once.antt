-- What a step comes to where the name stands twice, from what the step gives.
use Rattle.std.proofs.Common.{◌≡◌, Bool, Result, Ok, Err, refl}
use Rattle.pl_base.specs.declared.memory.Or.{Or}
use Rattle.pl_base.specs.declared.memory.Or.TheVariants as or
use Rattle.pl_grammar.specs.declared.fault.FaultKind.{FaultKind}
use Rattle.pl_frames.specs.declared.state.State.{State}
use Rattle.pl_steps.specs.Steps.{Step, Gives}
use Rattle.pl_states.specs.Titles.{once, Once}

pub once_gives : (twice : Bool) (before after : Result State (Or FaultKind)) (s : Step) → Gives before s → Once twice before after → Gives after (once twice s)
once_gives twice (Ok st) after s g h = rw g h
once_gives twice (Err or.Memory) after s g h = rw h tt
once_gives twice (Err (or.Is kind)) after s g h = rw (h, g) refl
