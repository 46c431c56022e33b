use Rattle.std.proofs.Common.{◌≡◌, ℕ, List, inl, inr, subst, sym, ◌∙◌, ap}
use Rattle.pl_session.specs.declared.ended.Journal.{Journal}
use Rattle.pl_session.specs.Words.{Command}
use Rattle.pl_session.specs.Ends.{LinePart, PrintsPart, SaysAll}
use Rattle.pl_session.proofs.Refused.{some_is}
use Rattle.pl_session.proofs.session.top.Goals as goal

-- the command that was carried out is the one of the words
pub returns-in-Some-clause-notes_part : goal.returns-in-Some-clause-notes_part
returns-in-Some-clause-notes_part g c = λ command is ends.
    let name : c.in-Some.command.name.now ≡ command.name = ap (λ (x : Command). x.name) (some_is (sym c.in-Some.ensures ∙ is)) in
    let turns : c.in-Some.command.turns ≡ c.run_file.result.journal.turns = sym (ap (λ (j : Journal). j.turns) c.run_file.ensures.journal) in
    subst (λ (n : List ℕ). LinePart n c.run_file.result.script c.run_file.result.journal.turns c.run_file.result.journal.entries (g.N.Sink.written c.args.notes.now) (g.N.Sink.written c.run_file.new.notes) (g.F.Files.faults c.args.files.now) (g.F.Files.faults c.run_file.new.files)) name
    (subst (λ (t : ℕ). LinePart c.in-Some.command.name.now c.run_file.result.script t c.run_file.result.journal.entries (g.N.Sink.written c.args.notes.now) (g.N.Sink.written c.run_file.new.notes) (g.F.Files.faults c.args.files.now) (g.F.Files.faults c.run_file.new.files)) turns (c.run_file.ensures.notes_part ends))

-- what was printed before is that of the command's turns
pub returns-in-Some-clause-part : goal.returns-in-Some-clause-part
returns-in-Some-clause-part g c = λ ends.
    let turns : c.in-Some.command.turns ≡ c.run_file.result.journal.turns = sym (ap (λ (j : Journal). j.turns) c.run_file.ensures.journal) in
    subst (λ (t : ℕ). PrintsPart c.run_file.result.script t c.run_file.result.journal.entries (g.K.Sink.written c.args.out.now) (g.K.Sink.written c.run_file.new.out)) turns (c.run_file.ensures.part ends)

-- of the command that was carried out all was said
pub returns-in-Some-clause-said : goal.returns-in-Some-clause-said
returns-in-Some-clause-said g c = λ command is ends.
    let turns : c.in-Some.command.turns ≡ c.run_file.result.journal.turns = sym (ap (λ (j : Journal). j.turns) c.run_file.ensures.journal) in
    elim (c.run_file.ensures.said ends) [
      | inl rose ↦ inl rose
      | inr (inl says) ↦ inr (inl (subst (λ (t : ℕ). SaysAll c.run_file.result.script t c.run_file.result.journal.entries (g.K.Sink.written c.args.out.now) (g.K.Sink.written c.run_file.new.out)) turns says))
      | inr (inr rest) ↦ inr (inr rest)
    ]
