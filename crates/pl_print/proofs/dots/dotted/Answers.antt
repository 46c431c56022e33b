use Rattle.std.proofs.Common.{◌∙◌, ap, refl}
use Rattle.pl_print.specs.Pages.{text_with}
use Rattle.pl_print.proofs.Parts.{begun, went}
use Rattle.pl_print.proofs.dots.dotted.Goals as goal

pub loop-tail-init : goal.loop-tail-init
loop-tail-init c = λ rest. c.in_ok-part.ensures _ ∙ ap (λ ts. text_with c.args.page.now ts) (begun c.args.text.now c.part_len-n.result c.part_len-n.ensures.value c.args.gap rest)

pub loop-tail-preserved : goal.loop-tail-preserved
loop-tail-preserved c = λ rest. c.in_ok-part-2.ensures _ ∙ c.in_ok-sign.ensures _ ∙ ap (λ ts. text_with c.loop-tail.page ts) (went c.loop-tail.tail.now _ c.part_len-n-in-len1-up.result c.in-len1-up.len_at_least refl c.part_len-n-in-len1-up.ensures.value rest) ∙ c.loop-tail.invariant rest
