use Rattle.pl_grammar.specs.Machine as gm
use Rattle.pl_parse.proofs.Simulation.{step_same, run_same}
use Rattle.pl_parse.proofs.law.one_machine.Goals as goal

pub returns-clause-step : goal.returns-clause-step
returns-clause-step c = step_same

pub returns-clause-answer : goal.returns-clause-answer
returns-clause-answer c = λ terminals. run_same terminals gm.beginning
