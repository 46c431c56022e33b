use Rattle.std.proofs.Common.{◌∙◌, ℕ, List, ap, sym, subst}
use Rattle.std.specs.Prelude.{◌==◌}
use Rattle.pl_printing.specs.Canonical.{functions_words}
use Rattle.pl_printed.specs.Printed.{ReadsBack}
use Rattle.pl_printed.proofs.Whole.{printed_law}
use Rattle.pl_print.specs.Pages.{text_with}
use Rattle.pl_print.proofs.Lists.{program_text}
use Rattle.pl_print.proofs.printing.print.Goals as goal

pub returns-clause-text : goal.returns-clause-text
returns-clause-text c =
    program_text c.args.program.now c.as_slice-s-items.result.now c.loop-s.s-index (c.len-at_start.result == 0) c.loop-s.page c.functions.new.page c.into_bytes.result.items
    c.as_slice-s-items.ensures c.loop-s-test.false (ap (λ n. n == 0) c.len-at_start.ensures) c.loop-s.invariant
    (λ rest. c.in_ok-functions.ensures rest ∙ ap (λ fs. text_with c.loop-s.page (functions_words (c.len-at_start.result == 0) fs rest)) c.as_slice.ensures)
    c.into_bytes.ensures

pub returns-clause-again : goal.returns-clause-again
returns-clause-again c = λ limit source h.
    let P : List ℕ → Type 0 = λ bytes. ReadsBack limit bytes c.args.program.now in
    subst P (sym (returns-clause-text c)) (printed_law limit source c.args.program.now h)
