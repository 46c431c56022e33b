use Rattle.std.proofs.Common.{sym, arith}
use Rattle.pl_lex.proofs.Numbers.{out_of_range}
use Rattle.pl_lex.proofs.scan.is_in_range.Goals as goal

pub returns-then-number : goal.returns-then-number
returns-then-number c = sym (out_of_range c.loop-digit.number c.args.digits.now c.loop-digit.digit-index c.loop-digit-test.true c.loop-digit.invariant.goes_on (omega arith))
