-- The first such name is still to come.
use Rattle.std.proofs.Common.{◌≡◌, drop}
use Rattle.pl_resolve.specs.Occurrences.{of_block}
use Rattle.pl_meaning.specs.Names.{names_in}
use Rattle.pl_unbuilt.specs.Unbuilt.{table_of, first_name}
use Rattle.pl_unbuilt.proofs.names.first_name.Given as goal

abbrev pub invariant-loop-o : goal.invariant-loop-o
invariant-loop-o l = first_name (table_of l.resolved) (names_in l.resolved l.i) (drop l.o-index l.o-items) ≡ first_name (table_of l.resolved) (names_in l.resolved l.i) (of_block l.body)
