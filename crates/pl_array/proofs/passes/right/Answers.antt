-- The right operand's one cell stands for all.
use Rattle.std.proofs.Common.{◌≡◌, ℤ, pos, List, map, get_or, subst, ap, ap₂, ◌∙◌, IfOk, FitsSigned, w64, rules}
use Rattle.std.proofs.lemmas.Int.{to_z-of_z}
use Rattle.pl_array.specs.Cellwise.{number}
use Rattle.pl_array.proofs.Layouts.{IsWhole, IsOne, right_is}
use Rattle.pl_array.proofs.passes.right.Goals as goal

pub returns : goal.returns
returns g c =
    let f = number (g.R.Rule.op c.args.rule.now) in
    let wa : IsWhole c.args.a.now c.args.s.rows c.args.s.cols = record { valid = c.cells.ensures.valid; row = c.requires.left.0; col = c.requires.left.1 } in
    let ob : IsOne c.args.b.now = record { valid = c.cells-2.ensures.valid; one = c.requires.right } in
    let fits : FitsSigned w64 (get_or c.cells-2.result.now 0 (pos 0)) = search rules in
    let same = ap₂ (λ (xs : List ℤ) (y : ℤ). map (λ x. f x y) xs) c.cells.ensures.cells (to_z-of_z w64 (get_or c.cells-2.result.now 0 (pos 0)) fits ∙ ap (λ (xs : List ℤ). get_or xs 0 (pos 0)) c.cells-2.ensures.cells) in
    subst (λ (xs : List ℤ). IfOk c.with_right.result (λ v. v.items ≡ xs)) (same ∙ right_is f c.args.a.now c.args.b.now c.args.s.rows c.args.s.cols wa ob) c.with_right.ensures
