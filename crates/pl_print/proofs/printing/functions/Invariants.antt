-- What is written, with the functions to come, is all.
use Rattle.std.proofs.Common.{◌≡◌, List, drop}
use Rattle.pl_grammar.specs.declared.terminal.Terminal.{Terminal}
use Rattle.pl_printing.specs.Canonical.{functions_words}
use Rattle.pl_print.specs.Pages.{text_with}
use Rattle.pl_print.proofs.printing.functions.Given as goal

abbrev pub invariant-loop-f : goal.invariant-loop-f
invariant-loop-f l = (rest : List Terminal) → text_with l.page (functions_words l.at_start (drop l.f-index l.list) rest) ≡ text_with l.fn.page (functions_words l.fn.at_start l.list rest)
