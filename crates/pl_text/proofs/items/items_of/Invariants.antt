use Rattle.std.proofs.Common.{◌≡◌, take}
use Rattle.pl_text.specs.Formatted.{items_of}
use Rattle.pl_text.proofs.items.items_of.Given as goal

abbrev pub invariant-loop-a : goal.invariant-loop-a
invariant-loop-a l = l.items.items ≡ items_of (take l.a-index l.args)
