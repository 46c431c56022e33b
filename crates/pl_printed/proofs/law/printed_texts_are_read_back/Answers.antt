use Rattle.pl_printed.proofs.Whole.{printed_law}
use Rattle.pl_printed.proofs.law.printed_texts_are_read_back.Goals as goal

pub returns : goal.returns
returns c = printed_law
