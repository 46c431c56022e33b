-- The pairs of cells are those of the definition.
use Rattle.std.proofs.Common.{ℤ, List, ap₂, ◌∙◌}
use Rattle.std.specs.List.{zip, list_any}
use Rattle.pl_array.proofs.Layouts.{IsWhole, some_pair_is}
use Rattle.pl_array.proofs.searches.some_whole.Goals as goal

pub returns : goal.returns
returns g c =
    let t = g.T.Test.holds c.args.test.now in
    let same = ap₂ (λ (xs ys : List ℤ). list_any (λ (p : ℤ × ℤ). t p.0 p.1) (zip xs ys)) c.cells.ensures.cells c.cells-2.ensures.cells in
    let wa : IsWhole c.args.a.now c.args.s.rows c.args.s.cols = record { valid = c.cells.ensures.valid; row = c.requires.left.0; col = c.requires.left.1 } in
    let wb : IsWhole c.args.b.now c.args.s.rows c.args.s.cols = record { valid = c.cells-2.ensures.valid; row = c.requires.right.0; col = c.requires.right.1 } in
    c.some_pair.ensures ∙ same ∙ some_pair_is t c.args.a.now c.args.b.now c.args.s.rows c.args.s.cols wa wb
