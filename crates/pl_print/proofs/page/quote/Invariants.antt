-- What is written, with the bytes to come, is all.
use Rattle.std.proofs.Common.{◌≡◌, ◌++◌, ◌≤◌, length, drop}
use Rattle.pl_layout.specs.Layout.{quoted}
use Rattle.pl_print.proofs.page.quote.Given as goal

abbrev pub invariant-loop-byte : goal.invariant-loop-byte
invariant-loop-byte l = (l.bytes.items ++ quoted (drop l.byte-index l.text) ≡ l.fn.bytes.items ++ quoted l.text) × (length l.fn.bytes.items ≤ length l.bytes.items)
