use Rattle.pl_terminals.proofs.Undone.{numbers, texts}
use Rattle.pl_terminals.proofs.law.spelling.Goals as goal

pub returns-clause-number : goal.returns-clause-number
returns-clause-number c = numbers

pub returns-clause-text : goal.returns-clause-text
returns-clause-text c = texts
