use Rattle.std.proofs.Common.{◌≡◌, ◌++◌, take}
use Rattle.pl_text.specs.Formatted.{bytes_in}
use Rattle.pl_text.proofs.formatted.push_bytes.Given as goal

abbrev pub invariant-loop-part : goal.invariant-loop-part
invariant-loop-part l = l.text.items ≡ l.fn.text.items ++ bytes_in (take l.part-index l.parts)
