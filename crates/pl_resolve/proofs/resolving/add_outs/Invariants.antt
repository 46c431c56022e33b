-- What was added, with the names to come, is what is wanted.
use Rattle.std.proofs.Common.{◌≡◌, ◌++◌, map, drop}
use Rattle.pl_resolve.specs.declared.occurrence.Use.TheVariants.{Assign}
use Rattle.pl_resolve.specs.Occurrences.{used}
use Rattle.pl_resolve.proofs.resolving.add_outs.Given as goal

abbrev pub invariant-loop-name : goal.invariant-loop-name
invariant-loop-name l = l.out.items ++ map (used Assign) (drop l.name-index l.outs) ≡ l.fn.out.items ++ map (used Assign) l.outs
