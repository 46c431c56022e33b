use Rattle.std.proofs.Common.{◌≡◌, Err, refl}
use Rattle.pl_meaning.specs.Promises.{at}
use Rattle.pl_meaning.specs.Library.{text_by}
use Rattle.pl_library.specs.Answering.{printing}
use Rattle.pl_access.proofs.Halted.{halts}
use Rattle.pl_library.proofs.printing.print_by_pattern.Goals as goal

pub returns-in-Ok-clause-ok : goal.returns-in-Ok-clause-ok
returns-in-Ok-clause-ok g c = rw c.in-Ok.ensures.ok c.print_text.ensures.ok

pub returns-in-Ok-clause-err : goal.returns-in-Ok-clause-err
returns-in-Ok-clause-err g c = rw c.in-Ok.ensures.ok c.print_text.ensures.err

pub returns-in-Err-Is-clause-err : goal.returns-in-Err-Is-clause-err
returns-in-Err-Is-clause-err g c =
    let refused : text_by c.args.given.items ≡ Err c.in-Err-Is.kind = c.in-Err-Is.ensures.err c.in-Err-Is.kind cc in
    λ x e. halts (printing c.args.place (text_by c.args.given.items)) (at c.args.memory.now (g.W.World.log c.args.world.now)) _ c.fail.result x (λ k h answers. rw refused refl) c.fail.ensures cc
