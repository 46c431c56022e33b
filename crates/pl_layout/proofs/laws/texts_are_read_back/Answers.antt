use Rattle.pl_layout.proofs.Law.{text_law}
use Rattle.pl_layout.proofs.laws.texts_are_read_back.Goals as goal

pub returns : goal.returns
returns c = text_law
