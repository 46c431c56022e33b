use Rattle.std.proofs.Common.{inl, inr, subst}
use Rattle.pl_io.specs.Told.{AppendsPrefix}
use Rattle.pl_session.proofs.Refused.{status_is, not_four}
use Rattle.pl_session.proofs.running.end_with_refusal.Goals as goal

pub close-requires : goal.close-requires
close-requires g c = not_four c.args.refusal.now.status (status_is _ _ _ c.requires.refused)

pub returns-clause-notes_part : goal.returns-clause-notes_part
returns-clause-notes_part g c = λ four.
    inr (c.args.refusal.now.line, inl (c.args.refusal.now.status, inr (c.requires.short, c.requires.refused)), subst (AppendsPrefix (g.N.Sink.written c.args.notes.now) (g.N.Sink.written c.close.new.notes)) c.items.ensures (c.close.ensures.part four))

pub returns-clause-unrun : goal.returns-clause-unrun
returns-clause-unrun g c = (c.args.refusal.now.status, (c.args.refusal.now.line, inr (c.requires.short, c.requires.refused)))
