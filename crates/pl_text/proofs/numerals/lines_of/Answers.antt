use Rattle.std.proofs.Common.{List, ℕ, ◌++◌, ap, ◌∙◌}
use Rattle.pl_text.specs.Displayed.{numbers}
use Rattle.pl_text.proofs.Lines.{next_line}
use Rattle.pl_text.proofs.numerals.lines_of.Goals as goal

pub loop-row-preserved : goal.loop-row-preserved
loop-row-preserved c =
    next_line c.loop-row.texts.items c.push.new.self.items c.push_numbers.new.text (numbers c.args.a.now) c.loop-row.row c.in_ok-push.ensures.items c.loop-row.invariant
    (c.in_ok-push_numbers.ensures ∙ ap (λ (v : List ℕ). v ++ numbers c.args.a.now c.loop-row.row) c.new-text.ensures.items)
