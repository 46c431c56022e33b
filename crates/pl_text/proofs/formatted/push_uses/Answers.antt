use Rattle.std.proofs.Common.{◌≡◌, ℕ, suc, ◌-◌, ◌+◌, ◌<◌, ◌++◌, length, drop, arith, length-drop}
use Rattle.pl_text.specs.Formatted.{uses}
use Rattle.pl_text.proofs.Uses.{stopped, ended, used_again}
use Rattle.pl_text.proofs.formatted.push_uses.Goals as goal

pub returns-in_default : goal.returns-in_default
returns-in_default c =
    let walked = rw c.in_default.is at c.in_ok-next.ensures.walks in
    stopped c.loop-use.text.items c.walk.new.text.items (c.args.text.now.items ++ uses (length c.args.items.now) c.args.parts.now c.args.items.now)
    (length c.args.items.now - c.loop-use._use) (length c.args.items.now - (c.loop-use._use + 1)) c.args.parts.now (drop c.loop-use.at c.args.items.now)
    (omega arith) c.loop-use.invariant.all walked

pub returns-then-at-items : goal.returns-then-at-items
returns-then-at-items c =
    let walked = rw c.in-Some.is at c.in_ok-next.ensures.walks in
    ended c.loop-use.text.items c.walk.new.text.items (c.args.text.now.items ++ uses (length c.args.items.now) c.args.parts.now c.args.items.now)
    (length c.args.items.now - c.loop-use._use) (length c.args.items.now - (c.loop-use._use + 1)) c.in-Some.next c.args.parts.now (drop c.loop-use.at c.args.items.now) c.args.items.now
    (omega arith) c.if-at-items.true c.loop-use.invariant.all walked

pub loop-use-preserved : goal.loop-use-preserved
loop-use-preserved c =
    let walked = rw c.in-Some.is at c.in_ok-next.ensures.walks in
    let left : c.in-Some.next < length c.args.items.now = c.if-at-items.false in
    record {
      left = left;
      all = used_again c.loop-use.text.items c.walk.new.text.items (c.args.text.now.items ++ uses (length c.args.items.now) c.args.parts.now c.args.items.now)
          (length c.args.items.now - c.loop-use._use) (length c.args.items.now - (c.loop-use._use + 1)) c.in-Some.next c.args.parts.now (drop c.loop-use.at c.args.items.now) c.args.items.now
          (omega arith) (omega (arith, length-drop c.in-Some.next c.args.items.now)) c.loop-use.invariant.all walked;
    }
