use Rattle.std.proofs.Common.{◌≡◌, List, inl, inr, refl, sym, ap}
use Rattle.pl_base.specs.declared.choice.Choice.{Choice}
use Rattle.pl_errors.specs.Errors.{error_line}
use Rattle.pl_session.specs.declared.ended.Journal.{Journal}
use Rattle.pl_session.specs.Printing.{run_of}
use Rattle.pl_session.proofs.Pieces.{whole_prefix}
use Rattle.pl_session.proofs.running.run_ready.Goals as goal

-- all was printed before the error
pub returns-in-Ok-Raised-clause-part : goal.returns-in-Ok-Raised-clause-part
returns-in-Ok-Raised-clause-part g c = λ ends.
    let h = rw (c.in-Ok-Raised.is, c.in-Ok-Raised.field-0-is) at c.carry_out-fate.ensures in
    let entries : c.carry_out-fate.result.entries ≡ c.end_with_error.result.journal.entries = sym (ap (λ (j : Journal). j.entries) c.end_with_error.ensures.journal) in
    inr (run_of c.args.resolved.now c.args.limits.turns c.carry_out-fate.result.entries, (c.requires.short, (c.args.resolved.now, c.requires.read, ap (λ (e : List Choice). run_of c.args.resolved.now c.args.limits.turns e) entries)), whole_prefix _ _ _ h.1)

pub returns-in-Ok-Raised-clause-notes_part : goal.returns-in-Ok-Raised-clause-notes_part
returns-in-Ok-Raised-clause-notes_part g c = λ ends.
    let h = rw (c.in-Ok-Raised.is, c.in-Ok-Raised.field-0-is) at c.carry_out-fate.ensures in
    let entries : c.carry_out-fate.result.entries ≡ c.end_with_error.result.journal.entries = sym (ap (λ (j : Journal). j.entries) c.end_with_error.ensures.journal) in
    elim ends [
      | inl four ↦ inr (error_line c.in-Ok-Raised.error, inr (run_of c.args.resolved.now c.args.limits.turns c.carry_out-fate.result.entries, (c.requires.short, (c.args.resolved.now, c.requires.read, ap (λ (e : List Choice). run_of c.args.resolved.now c.args.limits.turns e) entries)), (c.in-Ok-Raised.error, h.0, refl)), c.end_with_error.ensures.part four)
      | inr nine ↦ inl (ap g.N.Sink.written (sym (c.end_with_error.ensures.quiet nine)))
    ]

pub returns-in-Ok-Raised-clause-said : goal.returns-in-Ok-Raised-clause-said
returns-in-Ok-Raised-clause-said g c = λ ends.
    let h = rw (c.in-Ok-Raised.is, c.in-Ok-Raised.field-0-is) at c.carry_out-fate.ensures in
    let entries : c.carry_out-fate.result.entries ≡ c.end_with_error.result.journal.entries = sym (ap (λ (j : Journal). j.entries) c.end_with_error.ensures.journal) in
    inr (run_of c.args.resolved.now c.args.limits.turns c.carry_out-fate.result.entries, (c.requires.short, (c.args.resolved.now, c.requires.read, ap (λ (e : List Choice). run_of c.args.resolved.now c.args.limits.turns e) entries)), (c.in-Ok-Raised.error, h.0), h.1)
