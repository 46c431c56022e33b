-- What was added, with the positions to come, is all of them.
use Rattle.std.specs.Option.{option_copied}
use Rattle.std.proofs.Common.{◌≡◌, ◌++◌, drop}
use Rattle.pl_meaning.specs.Extras.{given_in, read_operands}
use Rattle.pl_meaning.proofs.extras.read_operands.Given as goal

abbrev pub invariant-loop-position : goal.invariant-loop-position
invariant-loop-position l = l.operands.items ++ given_in (drop l.position-index l.list) ≡ read_operands (option_copied l.fn.value) l.list
