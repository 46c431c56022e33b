use Rattle.pl_lex.proofs.Laws.{only_list, no_fault, no_tokens, only_fault}
use Rattle.pl_lex.proofs.lexer.lex.Goals as goal

pub returns-in-Ok-clause-only : goal.returns-in-Ok-clause-only
returns-in-Ok-clause-only c = λ tokens l. only_list c.args.source.now c.in-Ok.tokens.items tokens c.in-Ok.ensures.found l

pub returns-in-Ok-clause-fault_only : goal.returns-in-Ok-clause-fault_only
returns-in-Ok-clause-fault_only c = λ kind place f. no_fault c.args.source.now c.in-Ok.tokens.items kind place c.in-Ok.ensures.found f

pub returns-in-Err-Is-clause-only : goal.returns-in-Err-Is-clause-only
returns-in-Err-Is-clause-only c =
    let here = rw c.in-Err-Is.field-0-is at c.in-Err-Is.ensures.fault in
    λ tokens l. no_tokens c.args.source.now c.in-Err-Is.stop.kind c.in-Err-Is.stop.at tokens here.0 l

pub returns-in-Err-Is-clause-fault_only : goal.returns-in-Err-Is-clause-fault_only
returns-in-Err-Is-clause-fault_only c =
    let here = rw c.in-Err-Is.field-0-is at c.in-Err-Is.ensures.fault in
    λ kind place f. only_fault c.args.source.now c.in-Err-Is.stop.kind kind c.in-Err-Is.stop.at c.place_at-place.result place here.0 c.place_at-place.ensures f
