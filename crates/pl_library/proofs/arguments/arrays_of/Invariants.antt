-- What the arguments give is what those that are left give, behind the arrays that are there already.
use Rattle.std.proofs.Common.{◌≡◌, ◌++◌, length, Ok}
use Rattle.std.specs.Vec.Iter.{into_iter_items, into_iter_len}
use Rattle.pl_operators.specs.Operands.{and_then, arrays_in}
use Rattle.pl_library.proofs.arguments.arrays_of.Given as goal

abbrev pub invariant-loop-v : goal.invariant-loop-v
invariant-loop-v l =
    record { from : arrays_in l.fn.given.items ≡ and_then (arrays_in (into_iter_items l.left)) (λ more. Ok (l.arrays.items ++ more)); count : into_iter_len l.left ≡ length (into_iter_items l.left) }

abbrev pub decreases-loop-v : goal.decreases-loop-v
decreases-loop-v l = into_iter_len l.left
