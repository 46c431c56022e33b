use Rattle.std.proofs.Common.{◌≡◌, ◌∙◌, sym, ap}
use Rattle.std.proofs.Common.{Err}
use Rattle.pl_states.specs.Run.{run, beginning}
use Rattle.pl_parse.proofs.Answered.{is_program, has_fault, only_program, no_fault, no_program, only_fault}
use Rattle.pl_parse.proofs.parsing.parse.Goals as goal

pub returns-in-Ok-clause-found : goal.returns-in-Ok-clause-found
returns-in-Ok-clause-found c = is_program c.args.source.now c.args.tokens.now c.deref.result.now c.in-Ok.program (c.deref.ensures.value ∙ c.in_ok-terminals.ensures) c.in-Ok.ensures

pub returns-in-Ok-clause-only : goal.returns-in-Ok-clause-only
returns-in-Ok-clause-only c = λ program x. only_program c.args.source.now c.args.tokens.now c.in-Ok.program program (returns-in-Ok-clause-found c) x

pub returns-in-Ok-clause-fault_only : goal.returns-in-Ok-clause-fault_only
returns-in-Ok-clause-fault_only c = λ kind place f. no_fault c.args.source.now c.args.tokens.now c.in-Ok.program kind place (returns-in-Ok-clause-found c) f

pub returns-clause-fault : goal.returns-clause-fault
returns-clause-fault c =
    let stops : run beginning c.deref.result.now ≡ Err c.in-Err-Is.refusal = rw c.in-Err-Is.field-0-is at c.in-Err-Is.ensures in
    let again : run beginning c.deref-in-Err-Is.result.now ≡ Err c.in-Err-Is.refusal = ap (λ x. run beginning x) (c.deref-in-Err-Is.ensures.value ∙ sym c.deref.ensures.value) ∙ stops in
    rw c.fault_of.ensures (has_fault c.args.source.now c.args.tokens.now c.deref-in-Err-Is.result.now c.in-Err-Is.refusal (c.deref-in-Err-Is.ensures.value ∙ c.in_ok-terminals.ensures) again)

pub returns-clause-only : goal.returns-clause-only
returns-clause-only c = λ program x. no_program c.args.source.now c.args.tokens.now program c.fault_of.result.kind c.fault_of.result.place (returns-clause-fault c) x

pub returns-clause-fault_only : goal.returns-clause-fault_only
returns-clause-fault_only c = λ kind place f. only_fault c.args.source.now c.args.tokens.now c.fault_of.result.kind kind c.fault_of.result.place place (returns-clause-fault c) f
