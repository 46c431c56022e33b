use Rattle.pl_built.proofs.Runs.{asked_law, rules_law, slots_law}
use Rattle.pl_built.proofs.law.runs_ask_of_built_loops.Goals as goal

pub returns-clause-asks : goal.returns-clause-asks
returns-clause-asks c = asked_law

pub returns-clause-answers : goal.returns-clause-answers
returns-clause-answers c = rules_law

pub returns-clause-slots : goal.returns-clause-slots
returns-clause-slots c = slots_law
