use Rattle.std.proofs.Common.{◌∙◌, sym}
use Rattle.pl_cases.specs.Answers.{with_front}
use Rattle.pl_cases.specs.Cases.{cases_in, grouped}
use Rattle.pl_cases.proofs.Placed.{at_exit}
use Rattle.pl_cases.proofs.Fronts.{goes_on, fails_on, ends}
use Rattle.pl_cases.proofs.group.cases.Goals as goal

-- a case more was found
pub loop-rest-preserved : goal.loop-rest-preserved
loop-rest-preserved c =
    rw (c.in_ok-push.ensures.ok)
    (goes_on c.loop-rest.cases c.loop-rest.rest.now c.first-item.result c.first-item.result c.split_at.result.0.now c.split_at.result.1.now c.to_next_case.result c.in_ok-case_at.field-0
    c.in-len1-up.len_at_least c.first-item.is c.to_next_case.ensures.count c.split_at.ensures.front c.split_at.ensures.back c.in_ok-case_at.ensures
    ∙ c.loop-rest.invariant)

-- none is left
pub returns : goal.returns
returns c = sym c.loop-rest.invariant ∙ ends c.loop-rest.cases c.loop-rest.rest.now c.in_default.len_below

-- the next one has a fault
pub returns-in_err-case_at : goal.returns-in_err-case_at
returns-in_err-case_at c =
    rw (sym c.loop-rest.invariant)
    (at_exit c.from_residual.result c.in_err-case_at.field-0.0 (with_front c.loop-rest.cases (cases_in (grouped c.loop-rest.rest.now))) c.from_residual.ensures.1
    (fails_on c.loop-rest.cases c.loop-rest.rest.now c.first-item.result c.first-item.result c.split_at.result.0.now c.to_next_case.result c.in_err-case_at.field-0.0
    c.in-len1-up.len_at_least c.first-item.is c.to_next_case.ensures.count c.split_at.ensures.front c.in_err-case_at.ensures))
