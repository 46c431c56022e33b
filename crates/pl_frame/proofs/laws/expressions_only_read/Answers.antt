use Rattle.pl_frame.proofs.Values.{every_expression}
use Rattle.pl_frame.proofs.laws.expressions_only_read.Goals as goal

pub returns : goal.returns
returns c = every_expression
