-- The left operand's one cell stands for all.
use Rattle.std.proofs.Common.{◌≡◌, ℤ, pos, List, map, get_or, subst, ap, ap₂, ◌∙◌, IfOk, FitsSigned, w64, rules}
use Rattle.std.proofs.lemmas.Int.{to_z-of_z}
use Rattle.pl_array.specs.Cellwise.{number}
use Rattle.pl_array.proofs.Layouts.{IsWhole, IsOne, left_is}
use Rattle.pl_array.proofs.passes.left.Goals as goal

pub returns : goal.returns
returns g c =
    let f = number (g.R.Rule.op c.args.rule.now) in
    let oa : IsOne c.args.a.now = record { valid = c.cells.ensures.valid; one = c.requires.left } in
    let wb : IsWhole c.args.b.now c.args.s.rows c.args.s.cols = record { valid = c.cells-2.ensures.valid; row = c.requires.right.0; col = c.requires.right.1 } in
    let fits : FitsSigned w64 (get_or c.cells.result.now 0 (pos 0)) = search rules in
    let same = ap₂ (λ (ys : List ℤ) (x : ℤ). map (λ y. f x y) ys) c.cells-2.ensures.cells (to_z-of_z w64 (get_or c.cells.result.now 0 (pos 0)) fits ∙ ap (λ (xs : List ℤ). get_or xs 0 (pos 0)) c.cells.ensures.cells) in
    subst (λ (xs : List ℤ). IfOk c.with_left.result (λ v. v.items ≡ xs)) (same ∙ left_is f c.args.a.now c.args.b.now c.args.s.rows c.args.s.cols oa wb) c.with_left.ensures
