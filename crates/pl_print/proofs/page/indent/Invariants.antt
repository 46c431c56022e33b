-- What is written, with the blanks to come, is all.
use Rattle.std.proofs.Common.{◌≡◌, ◌++◌, ◌-◌, ◌≤◌, length}
use Rattle.pl_layout.specs.Layout.{indent}
use Rattle.pl_print.proofs.page.indent.Given as goal

abbrev pub invariant-loop-level : goal.invariant-loop-level
invariant-loop-level l = (l.bytes.items ++ indent (l.level - l._level) ≡ l.fn.bytes.items ++ indent l.level) × (length l.fn.bytes.items ≤ length l.bytes.items)
