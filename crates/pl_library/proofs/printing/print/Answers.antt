use Rattle.std.proofs.Common.{refl}
use Rattle.std.proofs.lemmas.Result.{IfOk-weaker}
use Rattle.pl_meaning.specs.declared.known.Own.TheVariants.{Fprintf}
use Rattle.pl_meaning.specs.Promises.{at}
use Rattle.pl_meaning.specs.Library.{own_of}
use Rattle.pl_access.proofs.Halted.{halts}
use Rattle.pl_library.proofs.Parts.{fprintf_is, over, went_as, halts_as}
use Rattle.pl_library.proofs.printing.print.Goals as goal

pub returns-in-true-clause-err : goal.returns-in-true-clause-err
returns-in-true-clause-err g c =
    λ x e. halts (own_of c.args.place Fprintf c.args.wanted c.args.given.items) (at c.args.memory.now (g.W.World.log c.args.world.now)) _ c.fail.result x (λ k h answers. rw (over 0 c.args.wanted c.in-true.is) refl) c.fail.ensures cc

pub returns-in-false-clause-ok : goal.returns-in-false-clause-ok
returns-in-false-clause-ok g c =
    IfOk-weaker c.print_by_pattern.result _ _ (λ v w. went_as _ v.items _ (fprintf_is c.args.place c.args.wanted c.args.given.items c.in-false.is) w) c.print_by_pattern.ensures.ok

pub returns-in-false-clause-err : goal.returns-in-false-clause-err
returns-in-false-clause-err g c =
    λ x e. halts_as _ x _ (fprintf_is c.args.place c.args.wanted c.args.given.items c.in-false.is) (c.print_by_pattern.ensures.err x e)
