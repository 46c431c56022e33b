use Rattle.std.proofs.Common.{ℕ, List, length, ◌+◌, ◌==◌, ap, sym, ◌∙◌}
use Rattle.std.specs.Prelude.{Ok, Err}
use Rattle.pl_cases.specs.declared.malformed.Reason.TheVariants as reason
use Rattle.pl_cases.proofs.Ends.{whole, cut_off}
use Rattle.pl_cases.proofs.line.lines.Goals as goal

pub returns-then-is_empty : goal.returns-then-is_empty
returns-then-is_empty c =
    whole c.args.source.now c.in_ok-lines.lines.items c.pop.new.self.items c.in-Some.rest c.in_ok-lines.ensures c.in-Some.ensures.items
    (ap (λ (bs : List ℕ). length bs == 0) (sym c.bytes.ensures) ∙ sym c.is_empty.ensures ∙ c.if-is_empty.true)
    ∙ ap Ok (sym c.of-then-is_empty.ensures)

pub returns : goal.returns
returns c =
    cut_off c.args.source.now c.in_ok-lines.lines.items c.pop.new.self.items c.in-Some.rest c.in_ok-lines.ensures c.in-Some.ensures.items
    (ap (λ (bs : List ℕ). length bs == 0) (sym c.bytes.ensures) ∙ sym c.is_empty.ensures ∙ c.if-is_empty.false)
    ∙ ap (λ (n : ℕ). Err (record { line = n + 1; reason = reason.NoLineEnd })) (ap length (sym c.as_slice.ensures.value))
