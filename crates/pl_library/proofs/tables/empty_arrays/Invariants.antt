-- So many empty arrays are there.
use Rattle.std.proofs.Common.{◌≡◌, replicate}
use Rattle.pl_meaning.specs.Library.{empty_array}
use Rattle.pl_library.proofs.tables.empty_arrays.Given as goal

abbrev pub invariant-loop-array : goal.invariant-loop-array
invariant-loop-array l = l.arrays.items ≡ replicate l._array empty_array
