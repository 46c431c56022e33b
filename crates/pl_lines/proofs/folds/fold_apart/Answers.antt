-- The fold goes on, or ends at a step that is refused.
use Rattle.std.proofs.Common.{◌≡◌, ◌<◌, ℤ, pos, length, Some, FitsSigned, w64, rules, arith, ap, sym, ◌∙◌, subst}
use Rattle.std.proofs.lemmas.Int.{to_z-of_z}
use Rattle.std.proofs.lemmas.List.FromFn.{length-map-range_with_len, get_or-map-range_with_len}
use Rattle.pl_array.specs.Arrays.{IsCell}
use Rattle.pl_array.specs.declared.class.Shape.{Shape}
use Rattle.pl_lines.specs.Lines.{cell_along, line}
use Rattle.pl_lines.specs.declared.dim.Dim.TheVariants.{Across}
use Rattle.pl_lines.proofs.Onward.{steps, stops, finished}
use Rattle.pl_lines.proofs.folds.fold_apart.Goals as goal

pub returns-in_err-so_far-clause-value : goal.returns-in_err-so_far-clause-value
returns-in_err-so_far-clause-value g c =
    let a = c.args.a.now in
    let k = c.loop-k.k in
    let cols : c.shape-cols.result.cols ≡ a.cols = ap (λ (s : Shape). s.cols) c.shape-cols.ensures.shape in
    let within : k < a.cols = omega (arith, c.loop-k-test.true) in
    let in_line : k < length (line Across a c.args.i) = omega (arith, length-map-range_with_len (cell_along Across a c.args.i) 0 a.cols) in
    let fits : FitsSigned w64 c.cell.result = search rules in
    let x = get_or-map-range_with_len (cell_along Across a c.args.i) 0 a.cols k k (pos 0) within (omega arith) ∙ sym (to_z-of_z w64 c.cell.result fits ∙ c.cell.ensures) in
    c.from_residual.ensures ∙ sym (stops (g.F.Fold.step c.args.fold.now) (line Across a c.args.i) k _ _ (pos 0) _ in_line x c.loop-k.invariant.0 (sym c.step.ensures.value ∙ c.in_err-so_far.was))

pub loop-k-preserved : goal.loop-k-preserved
loop-k-preserved g c =
    let a = c.args.a.now in
    let k = c.loop-k.k in
    let cols : c.shape-cols.result.cols ≡ a.cols = ap (λ (s : Shape). s.cols) c.shape-cols.ensures.shape in
    let within : k < a.cols = omega (arith, c.loop-k-test.true) in
    let in_line : k < length (line Across a c.args.i) = omega (arith, length-map-range_with_len (cell_along Across a c.args.i) 0 a.cols) in
    let fits : FitsSigned w64 c.cell.result = search rules in
    let x = get_or-map-range_with_len (cell_along Across a c.args.i) 0 a.cols k k (pos 0) within (omega arith) ∙ sym (to_z-of_z w64 c.cell.result fits ∙ c.cell.ensures) in
    let y = c.in_ok-so_far.so_far in
    let fits_y : FitsSigned w64 y = search rules in
    let kept = sym (to_z-of_z w64 y fits_y) in (
      steps (g.F.Fold.step c.args.fold.now) (line Across a c.args.i) k _ _ _ (pos 0) _ in_line x c.loop-k.invariant.0 (sym c.step.ensures.value ∙ c.in_ok-so_far.was ∙ ap Some kept),
      subst (λ (z : ℤ). IsCell (g.F.Fold.class c.args.fold.now) z) kept c.in_ok-so_far.ensures.cell,
    )

pub returns-clause-value : goal.returns-clause-value
returns-clause-value g c =
    let a = c.args.a.now in
    let cols : c.shape-cols.result.cols ≡ a.cols = ap (λ (s : Shape). s.cols) c.shape-cols.ensures.shape in
    finished (g.F.Fold.step c.args.fold.now) (line Across a c.args.i) c.loop-k.k _ _ (omega (arith, c.loop-k-test.false, length-map-range_with_len (cell_along Across a c.args.i) 0 a.cols)) c.loop-k.invariant.0
