use Rattle.std.proofs.Common.{ap, map, ◌∙◌}
use Rattle.pl_values.specs.Inner.{laid, stacked}
use Rattle.pl_values.proofs.Seen.{fresh_laid}
use Rattle.pl_values.proofs.layers.Layers.on.Goals as goal

pub returns : goal.returns
returns c = ap (λ items. laid c.in_ok-own.own (stacked (map (λ layer. layer.now) items) c.args.base.now)) c.new.ensures.items
    ∙ fresh_laid c.in_ok-own.own c.args.base.now c.in_ok-own.ensures.values c.in_ok-own.ensures.cleared
