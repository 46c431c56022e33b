use Rattle.pl_lex.proofs.Ranges.{token_ranges}
use Rattle.pl_lex.proofs.law.token_ranges.Goals as goal

pub returns : goal.returns
returns c = token_ranges
