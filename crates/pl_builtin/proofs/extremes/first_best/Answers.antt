-- The loop has gone over all cells.
use Rattle.std.proofs.Common.{◌≡◌, length, arith}
use Rattle.pl_builtin.proofs.FirstBest.{place_is}
use Rattle.pl_builtin.proofs.extremes.first_best.Goals as goal

pub returns-clause-place : goal.returns-clause-place
returns-clause-place c =
    let all : c.loop-k.k ≡ length c.args.cells.now = omega arith in
    place_is c.args.which c.args.cells.now c.loop-k.at c.loop-k.k all c.loop-k.invariant.within c.loop-k.invariant.before c.loop-k.invariant.none
