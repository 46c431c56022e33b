use Rattle.std.proofs.Common.{map, sym, ap, ◌∙◌}
use Rattle.pl_values.specs.Workspaces.{value_at}
use Rattle.pl_values.specs.Inner.{stacked}
use Rattle.pl_values.proofs.Seen.{read_hidden, read_own, read_below}
use Rattle.pl_values.proofs.layers.+value_below.Goals as goal

pub returns-then-not-shows : goal.returns-then-not-shows
returns-then-not-shows t c = read_hidden c.in-Some.layer.now.now (stacked (map (λ layer. layer.now) c.in-Some.rest.now) c.args.base.now) c.args.slot (sym c.shows.ensures ∙ c.if-not-shows.true)
    ∙ ap (λ l. value_at (stacked (map (λ layer. layer.now) l) c.args.base.now) c.args.slot) (sym c.in-Some.ensures.cases.0)

pub returns-in-Some-get : goal.returns-in-Some-get
returns-in-Some-get t c = read_own c.in-Some.layer.now.now (stacked (map (λ layer. layer.now) c.in-Some.rest.now) c.args.base.now) c.args.slot c.in-Some-get.value.now (sym c.shows.ensures ∙ c.if-not-shows.false) c.in-Some-get.ensures.value
    ∙ ap (λ l. value_at (stacked (map (λ layer. layer.now) l) c.args.base.now) c.args.slot) (sym c.in-Some.ensures.cases.0)

pub returns-in-None : goal.returns-in-None
returns-in-None t c = c.value_below.ensures ∙ read_below c.in-Some.layer.now.now (stacked (map (λ layer. layer.now) c.in-Some.rest.now) c.args.base.now) c.args.slot (sym c.shows.ensures ∙ c.if-not-shows.false) c.in-None.ensures.value
    ∙ ap (λ l. value_at (stacked (map (λ layer. layer.now) l) c.args.base.now) c.args.slot) (sym c.in-Some.ensures.cases.0)
