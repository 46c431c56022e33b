use Rattle.pl_grammar.specs.Programs.{strict}
use Rattle.pl_grammar.proofs.HeightsOfPrograms.{within_limit}
use Rattle.pl_grammar.proofs.laws.trees_are_low.Goals as goal

pub returns : goal.returns
returns c = λ limit. within_limit (strict limit)
