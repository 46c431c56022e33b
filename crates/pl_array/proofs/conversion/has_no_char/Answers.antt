-- Only chars have a range.
use Rattle.pl_array.proofs.Kept.{no_other_class}
use Rattle.pl_array.proofs.conversion.has_no_char.Goals as goal

pub returns-in_default : goal.returns-in_default
returns-in_default c = no_other_class c.args.class c.args.xs.now c.in_default.not-Char
