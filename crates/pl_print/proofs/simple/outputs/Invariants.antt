-- What is written, with the outputs to come, is all.
use Rattle.std.proofs.Common.{◌≡◌, List, map, drop, false}
use Rattle.pl_grammar.specs.declared.terminal.Terminal.{Terminal}
use Rattle.pl_grammar.specs.declared.terminal.Word.TheVariants as w
use Rattle.pl_printing.specs.Canonical.{behind, separated, output_words}
use Rattle.pl_print.specs.Pages.{text_with}
use Rattle.pl_print.proofs.simple.outputs.Given as goal

abbrev pub invariant-loop-to : goal.invariant-loop-to
invariant-loop-to l = (rest : List Terminal) → text_with l.page (behind w.Comma (map output_words (drop l.to-index l.more)) rest) ≡ text_with l.fn.page (separated w.Comma (map output_words l.list) false rest)
