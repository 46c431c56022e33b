use Rattle.pl_printing.proofs.Programs.{read_back}
use Rattle.pl_printing.proofs.laws.printed_is_read_back.Goals as goal

pub returns : goal.returns
returns c = read_back
