use Rattle.pl_grammar.specs.Programs.{strict}
use Rattle.pl_grammar.proofs.Theorem.{found, faulted, answered}
use Rattle.pl_grammar.proofs.laws.machine_reads.Goals as goal

pub returns-clause-found : goal.returns-clause-found
returns-clause-found c = λ limit. found (strict limit)

pub returns-clause-refused : goal.returns-clause-refused
returns-clause-refused c = faulted

pub returns-clause-reads : goal.returns-clause-reads
returns-clause-reads c = λ limit. answered (strict limit)
