use Rattle.std.proofs.Common.{rules, arith}
use Rattle.std.proofs.lemmas.Grind.{common_steps}
use Rattle.pl_io.proofs.Appended.{appends_more, piece_more}
use Rattle.pl_io.proofs.whole.write_all.Goals as goal

pub loop-at-preserved : goal.loop-at-preserved
loop-at-preserved g c = record {
  within = omega (arith, c.in-Ok.ensures.bound);
  wrote = appends_more _ _ _ _ _ _ c.loop-at.invariant.wrote c.in-Ok.ensures.bytes (piece_more c.args.bytes.now c.loop-at.at c.in-Ok.count);
  silent = λ e. c.in-Ok.ensures.silent (c.loop-at.invariant.silent e);
  kept = search rules;
  nothing = λ none. absurd (grind (arith, common_steps));
}
