-- The fold goes on, or ends at a step that is refused.
use Rattle.std.proofs.Common.{ℤ, pos, get_or, Some, FitsSigned, w64, rules, ap, sym, ◌∙◌, subst}
use Rattle.std.proofs.lemmas.Int.{to_z-of_z}
use Rattle.pl_array.specs.Arrays.{IsCell}
use Rattle.pl_lines.proofs.Onward.{steps, stops}
use Rattle.pl_lines.proofs.folds.fold_cells.Goals as goal

pub returns-in_err-so_far-clause-value : goal.returns-in_err-so_far-clause-value
returns-in_err-so_far-clause-value g c =
    let x = get_or c.args.cells.now c.loop-cell.cell-index (pos 0) in
    let fits : FitsSigned w64 x = search rules in
    c.from_residual.ensures ∙ sym (stops (g.F.Fold.step c.args.fold.now) c.args.cells.now c.loop-cell.cell-index _ _ (pos 0) _ c.loop-cell-test.true (sym (to_z-of_z w64 x fits)) c.loop-cell.invariant.0 (sym c.step.ensures.value ∙ c.in_err-so_far.was))

pub loop-cell-preserved : goal.loop-cell-preserved
loop-cell-preserved g c =
    let x = get_or c.args.cells.now c.loop-cell.cell-index (pos 0) in
    let fits : FitsSigned w64 x = search rules in
    let y = c.in_ok-so_far.so_far in
    let fits_y : FitsSigned w64 y = search rules in
    let kept = sym (to_z-of_z w64 y fits_y) in (
      steps (g.F.Fold.step c.args.fold.now) c.args.cells.now c.loop-cell.cell-index _ _ _ (pos 0) _ c.loop-cell-test.true (sym (to_z-of_z w64 x fits)) c.loop-cell.invariant.0 (sym c.step.ensures.value ∙ c.in_ok-so_far.was ∙ ap Some kept),
      subst (λ (z : ℤ). IsCell (g.F.Fold.class c.args.fold.now) z) kept c.in_ok-so_far.ensures.cell,
    )
