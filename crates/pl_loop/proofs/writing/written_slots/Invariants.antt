-- What all statements write is what the others write, behind the slots so far.
use Rattle.std.proofs.Common.{◌≡◌, [], drop}
use Rattle.pl_meaning.specs.Parts.{written_in}
use Rattle.pl_meaning.specs.Loops.{slots_from}
use Rattle.pl_loop.proofs.writing.written_slots.Given as goal

abbrev pub invariant-loop-s : goal.invariant-loop-s
invariant-loop-s l = slots_from l.program l.frame [] (written_in l.body) ≡ slots_from l.program l.frame l.slots.items (written_in (drop l.s-index l.body))
