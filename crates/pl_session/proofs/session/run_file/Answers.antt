use Rattle.std.proofs.Common.{rules, ℕ, List, inl, inr, refl, subst, sym}
use Rattle.pl_io.proofs.Counts.{counted_rose}
use Rattle.pl_session.specs.Lines.{too_long_line}
use Rattle.pl_session.specs.Ends.{Ends, Raises, PrintsPart, NotesPart, SaysAll, IsUnrun, WritesRefusal}
use Rattle.pl_session.proofs.Refused.{whole_taken, part_taken, not_nine, not_three_nine}
use Rattle.pl_session.proofs.session.run_file.Goals as goal

pub returns-in-Ok-clause-done : goal.returns-in-Ok-clause-done
returns-in-Ok-clause-done g c = λ zero.
    subst (λ (script : List ℕ). Ends script c.args.limits.turns c.run_source.result.journal.entries (g.K.Sink.written c.args.out.now) (g.K.Sink.written c.run_source.new.out)) (sym c.run_source.ensures.script) (c.run_source.ensures.done zero)

pub returns-in-Ok-clause-raised : goal.returns-in-Ok-clause-raised
returns-in-Ok-clause-raised g c = λ one.
    subst (λ (script : List ℕ). Raises script c.args.limits.turns c.run_source.result.journal.entries (g.K.Sink.written c.args.out.now) (g.K.Sink.written c.run_source.new.out) (g.N.Sink.written c.args.notes.now) (g.N.Sink.written c.run_source.new.notes)) (sym c.run_source.ensures.script) (c.run_source.ensures.raised one)

pub returns-in-Ok-clause-refused : goal.returns-in-Ok-clause-refused
returns-in-Ok-clause-refused g c = λ five.
    subst (λ (script : List ℕ). WritesRefusal script c.run_source.result.status.0 (g.N.Sink.written c.args.notes.now) (g.N.Sink.written c.run_source.new.notes)) (sym c.run_source.ensures.script) (c.run_source.ensures.refused five)

pub returns-in-Ok-clause-part : goal.returns-in-Ok-clause-part
returns-in-Ok-clause-part g c = λ ends.
    subst (λ (script : List ℕ). PrintsPart script c.args.limits.turns c.run_source.result.journal.entries (g.K.Sink.written c.args.out.now) (g.K.Sink.written c.run_source.new.out)) (sym c.run_source.ensures.script) (c.run_source.ensures.part ends)

pub returns-in-Ok-clause-notes_part : goal.returns-in-Ok-clause-notes_part
returns-in-Ok-clause-notes_part g c = λ ends.
    inl (subst (λ (script : List ℕ). NotesPart script c.args.limits.turns c.run_source.result.journal.entries (g.N.Sink.written c.args.notes.now) (g.N.Sink.written c.run_source.new.notes)) (sym c.run_source.ensures.script) (c.run_source.ensures.notes_part ends))

pub returns-in-Ok-clause-script : goal.returns-in-Ok-clause-script
returns-in-Ok-clause-script g c = λ ends.
    whole_taken (g.F.Files.bytes c.args.files.now c.args.name.now) c.in-Ok.source.items c.run_source.result.script c.in-Ok.ensures.whole c.run_source.ensures.script

pub returns-in-Ok-clause-script_part : goal.returns-in-Ok-clause-script_part
returns-in-Ok-clause-script_part g c =
    part_taken (g.F.Files.bytes c.args.files.now c.args.name.now) c.run_source.result.script (whole_taken (g.F.Files.bytes c.args.files.now c.args.name.now) c.in-Ok.source.items c.run_source.result.script c.in-Ok.ensures.whole c.run_source.ensures.script)

-- a file that is too long
pub returns-in-Err-Is-TooLong-clause-notes_part : goal.returns-in-Err-Is-TooLong-clause-notes_part
returns-in-Err-Is-TooLong-clause-notes_part g c = λ ends.
    inl (subst (λ (script : List ℕ). NotesPart script c.args.limits.turns c.close.result.journal.entries (g.N.Sink.written c.args.notes.now) (g.N.Sink.written c.close.new.notes)) (sym c.close.ensures.script)
    (inr (too_long_line, inl (5, inl (search rules, refl, refl)), c.close.ensures.part (elim ends [ inl four ↦ four | inr nine ↦ absurd (not_nine c.close.result.status.0 c.close.ensures.statuses nine) ]))))

pub returns-in-Ok-clause-said : goal.returns-in-Ok-clause-said
returns-in-Ok-clause-said g c = λ ends.
    elim (c.run_source.ensures.said ends) [
      | inl rose ↦ inl rose
      | inr (inl says) ↦ inr (inl (subst (λ (script : List ℕ). SaysAll script c.args.limits.turns c.run_source.result.journal.entries (g.K.Sink.written c.args.out.now) (g.K.Sink.written c.run_source.new.out)) (sym c.run_source.ensures.script) says))
      | inr (inr (same, unrun)) ↦ inr (inr (same, inl (subst IsUnrun (sym c.run_source.ensures.script) unrun)))
    ]

pub returns-in-Err-Is-TooLong-clause-said : goal.returns-in-Err-Is-TooLong-clause-said
returns-in-Err-Is-TooLong-clause-said g c = λ ends. inr (inr (refl, inl (subst IsUnrun (sym c.close.ensures.script) (5, (too_long_line, inl (search rules, refl, refl))))))

-- a file that can't be read
pub returns-in-Err-Is-Failed-clause-notes_part : goal.returns-in-Err-Is-Failed-clause-notes_part
returns-in-Err-Is-Failed-clause-notes_part g c = λ ends.
    inr (c.cannot_read.ensures.part (elim ends [ inl four ↦ four | inr nine ↦ absurd (not_three_nine c.cannot_read.result.status.0 c.cannot_read.ensures.statuses nine) ]), counted_rose _ _ (c.read_all.ensures.failed (search rules)))

pub returns-in-Ok-clause-no_choice_unrun : goal.returns-in-Ok-clause-no_choice_unrun
returns-in-Ok-clause-no_choice_unrun g c = λ unrun. c.run_source.ensures.no_choice_unrun (subst IsUnrun c.run_source.ensures.script unrun)
