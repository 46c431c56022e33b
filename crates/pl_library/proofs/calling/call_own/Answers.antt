use Rattle.std.proofs.Common.{refl}
use Rattle.std.proofs.lemmas.Result.{IfOk-weaker}
use Rattle.pl_meaning.specs.declared.known.Own.TheVariants.{Error, Feval}
use Rattle.pl_meaning.specs.Promises.{at}
use Rattle.pl_meaning.specs.Library.{own_of}
use Rattle.pl_access.proofs.Halted.{halts}
use Rattle.pl_library.proofs.Parts.{ends_as}
use Rattle.pl_library.proofs.calling.call_own.Goals as goal

pub returns-in-Disp-clause-ok : goal.returns-in-Disp-clause-ok
returns-in-Disp-clause-ok g c = rw c.in-Disp.is c.display.ensures.ok

pub returns-in-Disp-clause-err : goal.returns-in-Disp-clause-err
returns-in-Disp-clause-err g c = rw c.in-Disp.is c.display.ensures.err

pub returns-in-Fprintf-clause-ok : goal.returns-in-Fprintf-clause-ok
returns-in-Fprintf-clause-ok g c = rw c.in-Fprintf.is c.print.ensures.ok

pub returns-in-Fprintf-clause-err : goal.returns-in-Fprintf-clause-err
returns-in-Fprintf-clause-err g c = rw c.in-Fprintf.is c.print.ensures.err

pub returns-in-Sprintf-clause-ok : goal.returns-in-Sprintf-clause-ok
returns-in-Sprintf-clause-ok g c = rw c.in-Sprintf.is (IfOk-weaker c.make_text.result _ _ (λ v w. w _) c.make_text.ensures.ok)

pub returns-in-Sprintf-clause-err : goal.returns-in-Sprintf-clause-err
returns-in-Sprintf-clause-err g c = rw c.in-Sprintf.is (λ x e. c.make_text.ensures.err x e _)

pub returns-in-NumToStr-clause-ok : goal.returns-in-NumToStr-clause-ok
returns-in-NumToStr-clause-ok g c = rw c.in-NumToStr.is (IfOk-weaker c.make_number_text.result _ _ (λ v w. w _) c.make_number_text.ensures.ok)

pub returns-in-NumToStr-clause-err : goal.returns-in-NumToStr-clause-err
returns-in-NumToStr-clause-err g c = rw c.in-NumToStr.is (λ x e. c.make_number_text.ensures.err x e _)

pub returns-in-MatToStr-clause-ok : goal.returns-in-MatToStr-clause-ok
returns-in-MatToStr-clause-ok g c = rw c.in-MatToStr.is (IfOk-weaker c.make_array_text.result _ _ (λ v w. w _) c.make_array_text.ensures.ok)

pub returns-in-MatToStr-clause-err : goal.returns-in-MatToStr-clause-err
returns-in-MatToStr-clause-err g c = rw c.in-MatToStr.is (λ x e. c.make_array_text.ensures.err x e _)

pub returns-in-Error-clause-err : goal.returns-in-Error-clause-err
returns-in-Error-clause-err g c =
    rw c.in-Error.is (λ x e. ends_as (own_of c.args.place Error c.args.wanted c.args.given.items) (at c.args.memory.now (g.W.World.log c.args.world.now)) c.raise_text.result x _ (cc) (c.raise_text.ensures _))

pub returns-in-Feval-clause-err : goal.returns-in-Feval-clause-err
returns-in-Feval-clause-err g c =
    rw c.in-Feval.is (λ x e. halts (own_of c.args.place Feval c.args.wanted c.args.given.items) (at c.args.memory.now (g.W.World.log c.args.world.now)) _ c.fail.result x (λ k h answers. refl) c.fail.ensures cc)
