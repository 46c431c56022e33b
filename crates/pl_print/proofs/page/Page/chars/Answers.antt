use Rattle.std.proofs.Common.{◌∙◌, ◌++◌, true, ap}
use Rattle.pl_layout.specs.Layout.{Line, quoted}
use Rattle.pl_print.specs.Pages.{Writing}
use Rattle.pl_print.proofs.Grows.{wrote_chars}
use Rattle.pl_print.proofs.page.Page.chars.Goals as goal

pub returns : goal.returns
returns c =
    let marked : Writing → Line = λ x. record { depth = x.line.depth; brackets = x.line.brackets; fresh = x.line.fresh; behind_text = true } in
    wrote_chars c.args.self.now c.plain.new.self _ c.args.gap c.args.text.now c.in_ok-plain.ensures.bytes c.in_ok-plain.ensures.line
    (c.in_ok-quote.ensures.ok ∙ ap (λ (x : Writing). x.bytes ++ quoted c.bytes.result.now) c.self.view_is ∙ ap (λ xs. c.plain.new.self.bytes ++ quoted xs) c.bytes.ensures)
    (ap marked c.self.view_is)
