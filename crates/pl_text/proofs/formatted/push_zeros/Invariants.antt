use Rattle.std.proofs.Common.{◌≡◌, ◌++◌, replicate}
use Rattle.pl_text.proofs.formatted.push_zeros.Given as goal

abbrev pub invariant-loop-zero : goal.invariant-loop-zero
invariant-loop-zero l = l.text.items ≡ l.fn.text.items ++ replicate l._zero 48
