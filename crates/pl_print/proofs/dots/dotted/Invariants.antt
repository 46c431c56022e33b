-- What is written, with the parts to come, is all.
use Rattle.std.proofs.Common.{◌≡◌, List, length}
use Rattle.pl_grammar.specs.declared.terminal.Terminal.{Terminal}
use Rattle.pl_printing.specs.Canonical.{parts_of, behind_dots, dotted_words}
use Rattle.pl_print.specs.Pages.{text_with}
use Rattle.pl_print.proofs.Parts.{parts_behind}
use Rattle.pl_print.proofs.dots.dotted.Given as goal

abbrev pub invariant-loop-tail : goal.invariant-loop-tail
invariant-loop-tail l = (rest : List Terminal) → text_with l.page (behind_dots (parts_behind l.tail) rest) ≡ text_with l.fn.page (dotted_words (parts_of l.text) l.gap rest)

abbrev pub decreases-loop-tail : goal.decreases-loop-tail
decreases-loop-tail l = length l.tail
