use Rattle.std.proofs.Common.{◌≡◌, ◌<◌, pos, ◌+ℤ◌, to_z, of_z, w64, arith}
use Rattle.std.proofs.lemmas.Int.{ints, to_z-of_z}
use Rattle.pl_meaning.specs.Logs.{loop_question}
use Rattle.pl_meaning.specs.Loops.{indices}
use Rattle.pl_loop.proofs.Steps.{stands_more}
use Rattle.pl_loop.proofs.iterating.iterate_all.Goals as goal

pub loop-k-preserved : goal.loop-k-preserved
loop-k-preserved c =
    let within : c.loop-k.k < c.args.question.count = omega arith in
    let index : to_z w64 (of_z w64 c.in-Some.i) ≡ c.args.question.first +ℤ pos c.loop-k.k = first_of (grind (arith, ints, to_z-of_z, c.in-Some.ensures, c.from.ensures), grind (arith, ints, to_z-of_z)) in
    stands_more c.args.program.now c.args.turns c.args.depth (loop_question c.args.question) c.args.env.now (indices c.args.question.first c.args.question.count) c.args.question.first c.args.question.count c.loop-k.k (to_z w64 (of_z w64 c.in-Some.i)) c.args.variables.items c.loop-k.printer.text.items c.loop-k.variables.items c.in-Ok.end c.iterate.new.printer.text.items c.in_ok-variables-in-Ok.variables.items within index c.loop-k.invariant (rw c.in-Ok.is at c.in_ok-end.ensures) c.in_ok-variables-in-Ok.ensures
