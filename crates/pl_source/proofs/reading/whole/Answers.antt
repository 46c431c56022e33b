use Rattle.std.proofs.Common.{sym, ◌∙◌}
use Rattle.pl_source.proofs.Refused.{is_resolved, not_built, same_refusal}
use Rattle.pl_source.proofs.reading.whole.Goals as goal

pub returns-in_ok-not_built-in-Some-clause-refused : goal.returns-in_ok-not_built-in-Some-clause-refused
returns-in_ok-not_built-in-Some-clause-refused c = λ f is.
    not_built c.args._source.now c.args.program c.in-Ok.resolved c.in-Some.place c.in_ok-not_built-in-Some.field-0 f c.requires c.in-Ok.ensures.known
    (is_resolved c.in-Ok.resolved c.args.program c.in-Ok.ensures.program c.in-Ok.ensures.scopes c.in-Ok.ensures.mode c.in-Ok.ensures.extras)
    (sym c.in_ok-unbuilt.ensures ∙ c.in-Some.is) c.in_ok-not_built-in-Some.ensures.status c.in_ok-not_built-in-Some.ensures.line (same_refusal c.in_ok-not_built-in-Some.field-0 f is)
