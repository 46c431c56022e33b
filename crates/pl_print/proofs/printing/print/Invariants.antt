-- What is written, with the statements to come, is all.
use Rattle.std.proofs.Common.{◌≡◌, List, map, drop, false}
use Rattle.pl_grammar.specs.declared.terminal.Terminal.{Terminal}
use Rattle.pl_printing.specs.Canonical.{lines, stmt_words}
use Rattle.pl_print.specs.Pages.{first_page, text_with}
use Rattle.pl_print.proofs.printing.print.Given as goal

abbrev pub invariant-loop-s : goal.invariant-loop-s
invariant-loop-s l = (rest : List Terminal) → text_with l.page (lines false (map stmt_words (drop l.s-index l.s-items)) rest) ≡ text_with first_page (lines false (map stmt_words l.program.body) rest)
