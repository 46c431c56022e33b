use Rattle.pl_frame.proofs.Went.{what_went}
use Rattle.pl_frame.proofs.laws.what_went_on_only_read.Goals as goal

pub returns : goal.returns
returns c = what_went
