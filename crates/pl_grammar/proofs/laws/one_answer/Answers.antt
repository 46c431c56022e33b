use Rattle.pl_grammar.specs.Programs.{strict}
use Rattle.pl_grammar.proofs.Theorem.{some_answer, one_program, one_fault, never_both}
use Rattle.pl_grammar.proofs.laws.one_answer.Goals as goal

pub returns-clause-some : goal.returns-clause-some
returns-clause-some c = some_answer

pub returns-clause-one_program : goal.returns-clause-one_program
returns-clause-one_program c = λ limit. one_program (strict limit)

pub returns-clause-one_fault : goal.returns-clause-one_fault
returns-clause-one_fault c = one_fault

pub returns-clause-never_both : goal.returns-clause-never_both
returns-clause-never_both c = never_both
