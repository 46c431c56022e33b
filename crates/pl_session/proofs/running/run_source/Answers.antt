use Rattle.std.proofs.Common.{rules, ℕ, List, inl, inr, refl, subst}
use Rattle.pl_session.specs.Ends.{PrintsPart, NotesPart, SaysAll, IsUnrun, WritesRefusal}
use Rattle.pl_session.proofs.Refused.{no_nine, not_unrun}
use Rattle.pl_session.proofs.running.run_source.Goals as goal

pub returns-in-Ok-clause-part : goal.returns-in-Ok-clause-part
returns-in-Ok-clause-part g c = λ ends.
    subst (λ (s : List ℕ). PrintsPart s c.args.limits.turns c.run_ready.result.journal.entries (g.K.Sink.written c.args.out.now) (g.K.Sink.written c.run_ready.new.out)) c.of-script.ensures (c.run_ready.ensures.part ends)

pub returns-in-Ok-clause-notes_part : goal.returns-in-Ok-clause-notes_part
returns-in-Ok-clause-notes_part g c = λ ends.
    subst (λ (s : List ℕ). NotesPart s c.args.limits.turns c.run_ready.result.journal.entries (g.N.Sink.written c.args.notes.now) (g.N.Sink.written c.run_ready.new.notes)) c.of-script.ensures (c.run_ready.ensures.notes_part ends)

pub returns-in-Err-Is-clause-refused : goal.returns-in-Err-Is-clause-refused
returns-in-Err-Is-clause-refused g c = λ ends.
    subst (λ (s : List ℕ). WritesRefusal s c.end_with_refusal.result.status.0 (g.N.Sink.written c.args.notes.now) (g.N.Sink.written c.end_with_refusal.new.notes)) c.of-script.ensures (c.end_with_refusal.ensures.refused ends)

pub returns-in-Err-Is-clause-notes_part : goal.returns-in-Err-Is-clause-notes_part
returns-in-Err-Is-clause-notes_part g c = λ ends.
    subst (λ (s : List ℕ). NotesPart s c.args.limits.turns c.end_with_refusal.result.journal.entries (g.N.Sink.written c.args.notes.now) (g.N.Sink.written c.end_with_refusal.new.notes)) c.of-script.ensures
    (c.end_with_refusal.ensures.notes_part (elim ends [ inl four ↦ four | inr nine ↦ absurd (no_nine c.end_with_refusal.result.status.0 c.end_with_refusal.ensures.statuses nine) ]))

pub returns-in-Ok-clause-said : goal.returns-in-Ok-clause-said
returns-in-Ok-clause-said g c = λ ends.
    elim (c.run_ready.ensures.said ends) [
      | inl rose ↦ inl rose
      | inr says ↦ inr (inl (subst (λ (s : List ℕ). SaysAll s c.args.limits.turns c.run_ready.result.journal.entries (g.K.Sink.written c.args.out.now) (g.K.Sink.written c.run_ready.new.out)) c.of-script.ensures says))
    ]

pub returns-in-Err-Is-clause-said : goal.returns-in-Err-Is-clause-said
returns-in-Err-Is-clause-said g c = λ ends. inr (inr (refl, subst IsUnrun c.of-script.ensures c.end_with_refusal.ensures.unrun))

-- what is run isn't refused
pub returns-in-Ok-clause-no_choice_unrun : goal.returns-in-Ok-clause-no_choice_unrun
returns-in-Ok-clause-no_choice_unrun g c = λ unrun. absurd (not_unrun c.one_answer.ensures.never_both c.args.source.items c.in-Ok.resolved (search rules) (search rules) unrun)
