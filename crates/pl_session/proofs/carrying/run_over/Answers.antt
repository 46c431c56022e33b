use Rattle.std.proofs.Common.{rules, ◌≡◌, List, subst, sym}
use Rattle.pl_base.specs.declared.choice.Choice.{Choice}
use Rattle.pl_session.specs.Printing.{run_of, CarriedOut}
use Rattle.pl_session.proofs.Carried.{carried_so, same_name}
use Rattle.pl_session.proofs.carrying.run_over.Goals as goal

-- the choices are those that the world kept
pub returns-clause-carried : goal.returns-clause-carried
returns-clause-carried g c =
    let kept : c.replace-entries.result ≡ c.run-ended.new.world.entries.now = search rules in
    subst (λ (entries : List Choice). CarriedOut (run_of c.args.client.now.program.now c.args.client.now.turns entries) c.fate_of-fate.result (g.K.Sink.written c.args.client.now.out.now) (g.K.Sink.written c.run-ended.new.world.out.now) (g.K.Sink.faults c.args.client.now.out.now) (g.K.Sink.faults c.run-ended.new.world.out.now)) (sym kept)
    (carried_so c.args.client.now.program.now c.args.client.now.turns _ _ _ _ _ _ _ _ _ _ _ _ c.requires.start c.fate_of-fate.ensures c.run-ended.ensures)

pub returns-clause-same_reference : goal.returns-clause-same_reference
returns-clause-same_reference g c = same_name _ _ _ _ _ _ _ _ _ _ _ _ c.run-ended.ensures
