-- What is written, with what is to come, is all.
use Rattle.std.proofs.Common.{◌≡◌, List, map, drop, true}
use Rattle.pl_grammar.specs.declared.terminal.Terminal.{Terminal}
use Rattle.pl_printing.specs.Canonical.{lines, block_words, stmt_words, arms_words}
use Rattle.pl_print.specs.Pages.{text_with, arm_words}
use Rattle.pl_print.proofs.statements.+blocks.Given as goal

abbrev pub invariant-block-loop-s : goal.invariant-block-loop-s
invariant-block-loop-s l = (rest : List Terminal) → text_with l.page (lines true (map stmt_words (drop l.s-index l.s-items)) rest) ≡ text_with l.fn.page (block_words (map stmt_words l.body) rest)

abbrev pub invariant-arms-loop-a : goal.invariant-arms-loop-a
invariant-arms-loop-a l = (rest : List Terminal) → text_with l.page (arms_words l.word l.other (map arm_words (drop l.a-index l.a-items)) l.indented rest) ≡ text_with l.fn.page (arms_words l.fn.first l.other (map arm_words l.list) l.indented rest)
