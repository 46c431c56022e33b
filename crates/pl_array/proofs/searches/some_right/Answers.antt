-- The right operand's one cell stands for all.
use Rattle.std.proofs.Common.{ℤ, pos, List, get_or, ap, ap₂, ◌∙◌, FitsSigned, w64, rules}
use Rattle.std.specs.List.{list_any}
use Rattle.std.proofs.lemmas.Int.{to_z-of_z}
use Rattle.pl_array.proofs.Layouts.{IsWhole, IsOne, some_right_is}
use Rattle.pl_array.proofs.searches.some_right.Goals as goal

pub returns : goal.returns
returns g c =
    let t = g.T.Test.holds c.args.test.now in
    let wa : IsWhole c.args.a.now c.args.s.rows c.args.s.cols = record { valid = c.cells.ensures.valid; row = c.requires.left.0; col = c.requires.left.1 } in
    let ob : IsOne c.args.b.now = record { valid = c.cells-2.ensures.valid; one = c.requires.right } in
    let fits : FitsSigned w64 (get_or c.cells-2.result.now 0 (pos 0)) = search rules in
    let same = ap₂ (λ (xs : List ℤ) (y : ℤ). list_any (λ x. t x y) xs) c.cells.ensures.cells (to_z-of_z w64 (get_or c.cells-2.result.now 0 (pos 0)) fits ∙ ap (λ (xs : List ℤ). get_or xs 0 (pos 0)) c.cells-2.ensures.cells) in
    c.some_with_right.ensures ∙ same ∙ some_right_is t c.args.a.now c.args.b.now c.args.s.rows c.args.s.cols wa ob
