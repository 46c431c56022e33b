-- The pairs of cells are those of the definition.
use Rattle.std.proofs.Common.{◌≡◌, ℤ, List, map, subst, ap₂, ◌∙◌, IfOk}
use Rattle.std.specs.List.{zip}
use Rattle.pl_array.specs.Cellwise.{number}
use Rattle.pl_array.proofs.Layouts.{IsWhole, pairs_are}
use Rattle.pl_array.proofs.passes.whole.Goals as goal

pub returns : goal.returns
returns g c =
    let f = number (g.R.Rule.op c.args.rule.now) in
    let same = ap₂ (λ (xs ys : List ℤ). map (λ (p : ℤ × ℤ). f p.0 p.1) (zip xs ys)) c.cells.ensures.cells c.cells-2.ensures.cells in
    let wa : IsWhole c.args.a.now c.args.s.rows c.args.s.cols = record { valid = c.cells.ensures.valid; row = c.requires.left.0; col = c.requires.left.1 } in
    let wb : IsWhole c.args.b.now c.args.s.rows c.args.s.cols = record { valid = c.cells-2.ensures.valid; row = c.requires.right.0; col = c.requires.right.1 } in
    subst (λ (xs : List ℤ). IfOk c.pairs.result (λ v. v.items ≡ xs)) (same ∙ pairs_are f c.args.a.now c.args.b.now c.args.s.rows c.args.s.cols wa wb) c.pairs.ensures
