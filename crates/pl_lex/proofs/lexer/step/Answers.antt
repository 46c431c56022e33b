use Rattle.std.proofs.Common.{◌∙◌, sym, refl}
use Rattle.pl_lex.proofs.Steps.{run_fault_at, run_piece_at}
use Rattle.pl_lex.proofs.lexer.step.Goals as goal

pub returns-in-Err-clause-steps : goal.returns-in-Err-clause-steps
returns-in-Err-clause-steps c = (run_fault_at c.args.tokens.now.items c.args.before.now c.args.at c.args.source.now c.in-Err.kind c.requires.within (sym c.head.ensures.value ∙ c.in-Err.is), refl)

pub returns-clause-steps : goal.returns-clause-steps
returns-clause-steps c = rw (c.in_ok-tell.ensures, c.in_ok-pass.ensures.passed) (run_piece_at c.args.tokens.now.items c.args.before.now c.args.at c.args.source.now c.in-Ok.found c.requires.within (sym c.head.ensures.value ∙ c.in-Ok.is))
