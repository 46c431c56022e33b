-- What is written, with the names to come, is all.
use Rattle.std.proofs.Common.{◌≡◌, List, map, drop, false}
use Rattle.pl_grammar.specs.declared.terminal.Terminal.{Terminal}
use Rattle.pl_grammar.specs.declared.terminal.Word.TheVariants as w
use Rattle.pl_printing.specs.Canonical.{behind, separated, out_words}
use Rattle.pl_print.specs.Pages.{text_with}
use Rattle.pl_print.proofs.printing.names.Given as goal

abbrev pub invariant-loop-name : goal.invariant-loop-name
invariant-loop-name l = (rest : List Terminal) → text_with l.page (behind w.Comma (map out_words (drop l.name-index l.more)) rest) ≡ text_with l.fn.page (separated w.Comma (map out_words l.list) false rest)
