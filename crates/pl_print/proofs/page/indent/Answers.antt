use Rattle.std.proofs.Common.{[], ◌∷◌, length, ap, arith}
use Rattle.std.proofs.lemmas.List.{length-append}
use Rattle.pl_print.proofs.Grows.{indent_more}
use Rattle.pl_print.proofs.page.indent.Goals as goal

pub loop-level-preserved : goal.loop-level-preserved
loop-level-preserved c = (indent_more _ _ _ c.args.level c.loop-level._level c.loop-level-test.true c.loop-level.invariant.0 c.in_ok-extend_from_slice.ensures.items, omega (arith, ap length c.in_ok-extend_from_slice.ensures.items, length-append c.loop-level.bytes.items (32 ∷ 32 ∷ []), c.loop-level.invariant.1))
