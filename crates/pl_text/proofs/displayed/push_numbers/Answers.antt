use Rattle.std.proofs.Common.{◌≡◌, ℕ, ◌++◌, sym, ◌∙◌, rules, w64}
use mir.Val.{SFits}
use Rattle.std.proofs.lemmas.Int.{to_z-of_z}
use Rattle.std.specs.Prelude.{codes}
use Rattle.std.specs.Fmt.{signed_decimal}
use Rattle.pl_array.specs.Arrays.{cell_at}
use Rattle.pl_text.specs.Cells.{gap, set_right, width_of}
use Rattle.pl_text.proofs.Each.{grown}
use Rattle.pl_text.proofs.displayed.push_numbers.Goals as goal

pub loop-col-preserved : goal.loop-col-preserved
loop-col-preserved c =
    let fits : SFits w64 c.cell.result = search rules in
    let kept = to_z-of_z w64 c.cell.result fits in
    grown _ _ _ _ (λ n. gap (codes "  ") n ++ set_right (width_of c.args.a.now.cells) (signed_decimal (cell_at c.args.a.now c.args.row n))) c.loop-col.col c.loop-col.invariant c.in_ok-push_field.ensures
    (λ i. gap (codes "  ") c.loop-col.col ++ set_right (sym c.requires.width i) (signed_decimal ((sym c.cell.ensures ∙ sym kept) i)))
