use Rattle.std.proofs.Common.{sym, ap, map, ◌∙◌}
use Rattle.pl_values.specs.Workspaces.{value_at}
use Rattle.pl_values.specs.Inner.{below_of, stacked}
use Rattle.pl_values.proofs.Seen.{read_hidden, read_own, read_below}
use Rattle.pl_values.proofs.layers.Layers.get.Goals as goal

pub returns-then-not-shows : goal.returns-then-not-shows
returns-then-not-shows c = read_hidden c.args.self.now.own (below_of c.args.self.now) c.args.slot (sym c.shows.ensures ∙ c.if-not-shows.true)

pub returns-in-Some : goal.returns-in-Some
returns-in-Some c = read_own c.args.self.now.own (below_of c.args.self.now) c.args.slot c.in-Some.value.now (sym c.shows.ensures ∙ c.if-not-shows.false) c.in-Some.ensures.value

pub returns-in-None : goal.returns-in-None
returns-in-None c = c.value_below.ensures
    ∙ ap (λ l. value_at (stacked (map (λ layer. layer.now) l) c.args.self.now.base.now) c.args.slot) c.as_slice.ensures.value
    ∙ read_below c.args.self.now.own (below_of c.args.self.now) c.args.slot (sym c.shows.ensures ∙ c.if-not-shows.false) c.in-None.ensures.value
