use Rattle.std.proofs.Common.{sym, ◌∙◌}
use Rattle.conformance.proofs.Differing.{split}
use Rattle.conformance.proofs.difference.split_line.Goals as goal

pub returns : goal.returns
returns c = split c.args.text.now c.split_at.result.0.now c.split_at.result.1.now c.line_len.result (sym c.is_empty.ensures ∙ c.if-is_empty.false) c.line_len.ensures c.split_at.ensures.front c.split_at.ensures.back
