use Rattle.std.proofs.Common.{◌≡◌, ap, map, ◌∙◌, ◌∷◌, replicate, false}
use Rattle.pl_values.specs.Inner.{laid, stacked, below_of}
use Rattle.pl_values.proofs.Seen.{fresh_laid, length_laid}
use Rattle.pl_values.proofs.layers.Layers.over.Goals as goal

pub returns : goal.returns
returns c =
    let under = c.args.under.now in
    let items : map (λ layer. layer.now) c.extend_from_slice.new.self.items ≡ under.own ∷ map (λ layer. layer.now) under.below.items = search (c.in_ok-extend_from_slice.ensures.items, c.in_ok-push.ensures.items, c.in_ok-below.ensures.items, c.as_slice.ensures.value) in
    ap (λ layers. laid c.in_ok-own.own (stacked layers under.base.now)) items
    ∙ fresh_laid c.in_ok-own.own (laid under.own (below_of under)) c.in_ok-own.ensures.values (c.in_ok-own.ensures.cleared ∙ ap (λ n. replicate n false) (search (c.len-2.ensures, length_laid under.own (below_of under))))
