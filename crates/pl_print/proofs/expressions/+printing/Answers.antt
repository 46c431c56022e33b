use Rattle.std.proofs.Common.{rules, ◌∙◌, ℤ, w64, ◌∷◌, ap, sym, subst}
use Rattle.std.specs.Prelude.{OnOk, map}
use Rattle.std.proofs.lemmas.Int.{to_z-of_z}
use mir.Val.{SFits}
use Rattle.pl_grammar.specs.declared.terminal.Word.TheVariants as w
use Rattle.pl_printing.specs.Canonical.{Shown, terminal, directly, all_shown, rows_words}
use Rattle.pl_print.specs.Pages.{text_with, Writes}
use Rattle.pl_print.proofs.Lists.{rows_done}
use Rattle.pl_print.proofs.Shows.{shown_number, shown_rows}
use Rattle.pl_print.proofs.expressions.+printing.Goals as goal

pub expr-returns-in-Number : goal.expr-returns-in-Number
expr-returns-in-Number t c =
    let fits : SFits w64 c.in-Number.number = search rules in
    let Q : ℤ → Type 0 = λ z. OnOk c.number.result (Writes c.args.page.now c.number.new.self (λ rest. terminal c.args.gap (w.Number z) ∷ rest)) in
    let P : Shown → Type 0 = λ s. OnOk c.number.result (Writes c.args.page.now c.number.new.self (s.words c.args.gap)) in
    subst P (sym (shown_number c.args.e.now c.in-Number.number c.in-Number.is)) (subst Q (to_z-of_z w64 c.in-Number.number fits) c.number.ensures)

pub expr-returns-in_ok-sign-in-Rows-2 : goal.expr-returns-in_ok-sign-in-Rows-2
expr-returns-in_ok-sign-in-Rows-2 t c = λ rest.
    c.in_ok-sign-in-Rows-2.ensures rest
    ∙ ap (λ ts. text_with c.loop-es.page ts) (sym (rows_done c.loop-es.is_first c.as_slice-es-items.result.now c.loop-es.es-index c.loop-es-test.false (directly w.CloseSquare ∷ rest)))
    ∙ c.loop-es.invariant rest
    ∙ ap (λ rows. text_with c.args.page.now (rows_words (map all_shown rows) c.args.gap rest)) c.as_slice-es-items.ensures
    ∙ ap (λ (s : Shown). text_with c.args.page.now (s.words c.args.gap rest)) (sym (shown_rows c.args.e.now c.in-Rows.rows c.in-Rows.is))
