-- Only a power has a negative exponent.
use Rattle.pl_array.proofs.Combined.{no_negative}
use Rattle.pl_array.proofs.elementwise.has_negative.Goals as goal

pub returns-in_default : goal.returns-in_default
returns-in_default c = no_negative c.args.op c.args.a.now c.args.b.now c.args.s c.in_default.not-Pow
