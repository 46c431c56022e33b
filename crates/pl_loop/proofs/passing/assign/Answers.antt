use Rattle.std.proofs.Common.{ℤ, w64, refl, sym, subst}
use Rattle.std.proofs.lemmas.Int.{to_z-of_z}
use Rattle.pl_meaning.specs.Promises.{at}
use Rattle.pl_loop.specs.Passes.{Put, printer_log}
use Rattle.pl_loop.proofs.passing.assign.Goals as goal

pub returns-in-Ok : goal.returns-in-Ok
returns-in-Ok c is = record {
  slot = c.in-Some.slot;
  slot_is = sym (rw c.body_frame-frame.ensures at c.in-Some.ensures);
  gained = c.in-Ok.v;
  between = at c.value.new.memory (printer_log c.value.new.world.text.items);
  went = rw c.body_frame-frame.ensures at c.in-Ok.ensures.ok;
  put = subst (λ (z : ℤ). Put c.args.env.now c.in-Some.slot z c.in-Ok.v c.value.new.memory.env c.put.new.memory.env) (to_z-of_z w64 c.args.i c.ranges.i) (c.in_ok-went-in-Ok.ensures is);
  log = refl;
}
