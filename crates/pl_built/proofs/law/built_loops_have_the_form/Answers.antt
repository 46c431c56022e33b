use Rattle.pl_built.proofs.Whole.{built_law}
use Rattle.pl_built.proofs.law.built_loops_have_the_form.Goals as goal

pub returns : goal.returns
returns c = built_law
