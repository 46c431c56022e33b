-- The two lists of names are one.
use Rattle.pl_resolve.specs.Functions.{function_names}
use Rattle.pl_resolve.proofs.functions.name_behind.Goals as goal

pub returns : goal.returns
unfolding function_names
returns c = c.name_in_both.ensures
