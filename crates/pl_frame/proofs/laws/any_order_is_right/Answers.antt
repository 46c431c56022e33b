use Rattle.pl_frame.proofs.Single.{every_order}
use Rattle.pl_frame.proofs.laws.any_order_is_right.Goals as goal

pub returns : goal.returns
returns c = every_order
