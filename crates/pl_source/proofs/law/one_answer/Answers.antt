use Rattle.pl_source.proofs.Once.{one_ready, not_refused}
use Rattle.pl_source.proofs.law.one_answer.Goals as goal

pub returns-clause-one_program : goal.returns-clause-one_program
returns-clause-one_program c = one_ready c.one_answer.ensures.one_list c.one_answer.ensures.never_both c.one_answer-2.ensures.one_program c.one_answer-2.ensures.never_both

pub returns-clause-never_both : goal.returns-clause-never_both
returns-clause-never_both c = not_refused c.one_answer.ensures.one_list c.one_answer.ensures.never_both c.one_answer-2.ensures.one_program c.one_answer-2.ensures.never_both
