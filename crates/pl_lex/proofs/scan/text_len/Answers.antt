use Rattle.std.proofs.Common.{◌∙◌, sym}
use Rattle.pl_lex.proofs.Texts.{goes_twice, goes_quote, goes_plain}
use Rattle.pl_lex.proofs.scan.text_len.Goals as goal
use Rattle.pl_lex.proofs.scan.text_len.Goals.{then-twice, else-twice+then-text-at+else-not-begins, else-twice+else-text-at+else-text-at-eq10}

pub loop-at-preserved : goal.loop-at-preserved
loop-at-preserved c =
    elim c.if-twice.branch [
      | then-twice w ↦ rw w.twice-is (sym (goes_twice c.args.quote c.args.text.now c.loop-at.at c.loop-at.twice w.if-twice.true c.loop-at-test.true) ∙ c.loop-at.invariant)
      | else-twice+then-text-at+else-not-begins w ↦ rw w.twice-is (sym (goes_quote c.args.quote c.args.text.now c.loop-at.at c.loop-at.twice w.if-twice.false c.loop-at-test.true w.if-text-at.true (sym w.begins.ensures ∙ w.if-not-begins.false)) ∙ c.loop-at.invariant)
      | else-twice+else-text-at+else-text-at-eq10 w ↦ rw (w.twice-is, w.if-twice.false) (sym (goes_plain c.args.quote c.args.text.now c.loop-at.at c.loop-at.twice w.if-twice.false c.loop-at-test.true w.if-text-at.false w.if-text-at-eq10.false) ∙ c.loop-at.invariant)
    ]
