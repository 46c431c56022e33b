use Rattle.pl_frame.proofs.Rising.{rising_order}
use Rattle.pl_frame.proofs.laws.rising_order_needs_one_workspace.Goals as goal

pub returns : goal.returns
returns c = rising_order
