use Rattle.std.proofs.Common.{◌≡◌, ℕ, ◌++◌, sym, ◌∙◌, rules, w64}
use Rattle.std.proofs.lemmas.Int.{to_z-of_z}
use Rattle.std.specs.Prelude.{codes}
use Rattle.pl_array.specs.Arrays.{cell_at}
use Rattle.pl_text.specs.Cells.{gap}
use Rattle.pl_text.specs.Literal.{word_of}
use Rattle.pl_text.proofs.Each.{grown}
use mir.Val.{SFits}
use Rattle.pl_text.proofs.literal.push_number_row.Goals as goal

pub loop-col-preserved : goal.loop-col-preserved
loop-col-preserved c =
    let fits : SFits w64 c.cell.result = search rules in
    let kept = to_z-of_z w64 c.cell.result fits in
    grown _ _ _ _ (λ n. gap (codes " ") n ++ word_of c.args.a.now.class (cell_at c.args.a.now c.args.row n)) c.loop-col.col c.loop-col.invariant c.in_ok-push_spaced.ensures
    (λ i. gap (codes " ") c.loop-col.col ++ word_of (sym c.class.ensures i) ((sym c.cell.ensures ∙ sym kept) i))
