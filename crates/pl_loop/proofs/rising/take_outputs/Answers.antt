use Rattle.std.proofs.Common.{◌<◌, length, get_or, arith}
use Rattle.std.proofs.lemmas.Option.{slice_get-get_or}
use Rattle.pl_loop.proofs.Passes.{left_next}
use Rattle.pl_loop.proofs.rising.take_outputs.Goals as goal

pub loop-slot-preserved : goal.loop-slot-preserved
loop-slot-preserved c =
    let within : c.loop-slot.slot-index < length c.args.slots.now = omega arith in
    let here = slice_get-get_or c.args.slots.now c.loop-slot.slot-index 0 within in
    rw (c.in_ok-push_output.ensures, c.in_ok-value.ensures.ok, c.in_ok-value.ensures.rest) (left_next c.args.end c.loop-slot.left c.args.slots.now c.loop-slot.slot-index (get_or c.args.slots.now c.loop-slot.slot-index 0) c.loop-slot.outputs here c.loop-slot.invariant)
