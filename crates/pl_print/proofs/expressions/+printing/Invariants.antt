-- What is written, with what is to come, is all.
use Rattle.std.proofs.Common.{◌≡◌, List, ◌∷◌, map, drop}
use Rattle.pl_grammar.specs.declared.terminal.Terminal.{Terminal}
use Rattle.pl_grammar.specs.declared.terminal.Word.TheVariants as w
use Rattle.pl_printing.specs.Canonical.{directly, behind, words_of, all_shown, list_words, rows_words}
use Rattle.pl_print.specs.Pages.{text_with, more_rows}
use Rattle.pl_print.proofs.expressions.+printing.Given as goal

abbrev pub invariant-list-loop-e : goal.invariant-list-loop-e
invariant-list-loop-e l = (rest : List Terminal) → text_with l.page (behind w.Comma (words_of (all_shown (drop l.e-index l.more))) rest) ≡ text_with l.fn.page (list_words (all_shown l.list) l.gap rest)

abbrev pub invariant-expr-loop-es : goal.invariant-expr-loop-es
invariant-expr-loop-es l = (rest : List Terminal) → text_with l.page (more_rows l.is_first (map all_shown (drop l.es-index l.es-items)) (directly w.CloseSquare ∷ rest)) ≡ text_with l.fn.page (rows_words (map all_shown l.es-items) l.gap rest)
