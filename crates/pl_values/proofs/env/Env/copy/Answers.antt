use Rattle.std.proofs.Common.{◌<◌, length, arith}
use Rattle.pl_values.proofs.Seen.{one_more}
use Rattle.pl_values.proofs.env.Env.copy.Goals as goal

pub loop-slot-preserved : goal.loop-slot-preserved
loop-slot-preserved c =
    let within : c.loop-slot.slot < length c.args.self.now = omega (arith, c.loop-slot-test.true, c.len-slot-end.ensures) in
    search (one_more c.args.self.now c.loop-slot.slot within, c.in_ok-push.ensures.items, c.in_ok-copy_held.ensures, c.get.ensures, c.loop-slot.invariant, c.self.view_is)
