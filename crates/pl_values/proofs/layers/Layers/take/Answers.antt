use Rattle.std.proofs.Common.{sym, ap, map, ◌∙◌}
use Rattle.pl_values.specs.Workspaces.{value_at}
use Rattle.pl_values.specs.Inner.{below_of, stacked}
use Rattle.pl_values.proofs.Seen.{read_hidden, unset_laid, take_own, take_below}
use Rattle.pl_values.proofs.layers.Layers.take.Goals as goal

pub returns-then-not-shows-clause-ok : goal.returns-then-not-shows-clause-ok
returns-then-not-shows-clause-ok c = read_hidden c.args.self.now.own (below_of c.args.self.now) c.args.slot (sym c.shows.ensures ∙ c.if-not-shows.true)

pub returns-then-not-shows-clause-rest : goal.returns-then-not-shows-clause-rest
returns-then-not-shows-clause-rest c = unset_laid c.args.self.now.own (below_of c.args.self.now) c.args.slot (sym c.shows.ensures ∙ c.if-not-shows.true)

pub returns-then-has-clause-ok : goal.returns-then-has-clause-ok
returns-then-has-clause-ok c = c.empty.ensures.value ∙ take_own c.args.self.now.own (below_of c.args.self.now) c.args.slot (sym c.shows.ensures ∙ c.if-not-shows.false) (sym c.has.ensures ∙ c.if-has.true)

pub returns-clause-ok : goal.returns-clause-ok
returns-clause-ok c = c.in_ok-taken.ensures ∙ c.value_below.ensures
    ∙ ap (λ l. value_at (stacked (map (λ layer. layer.now) l) c.args.self.now.base.now) c.args.slot) c.as_slice.ensures.value
    ∙ take_below c.args.self.now.own (below_of c.args.self.now) c.args.slot (sym c.shows.ensures ∙ c.if-not-shows.false) (sym c.has.ensures ∙ c.if-has.false)
