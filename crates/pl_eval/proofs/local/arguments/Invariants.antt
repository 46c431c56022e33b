-- The parameters that are done have their arguments.
use Rattle.std.specs.Prelude.{◌≡◌, drop}
use Rattle.std.specs.Vec.Iter.{into_iter_items}
use Rattle.pl_meaning.specs.Parts.{bound}
use Rattle.pl_eval.proofs.local.arguments.Given as goal

abbrev pub invariant-loop-parameter : goal.invariant-loop-parameter
invariant-loop-parameter l = bound l.program l.frame l.fn.env l.parameters l.fn.given.items ≡ bound l.program l.frame l.env (drop l.parameter-index l.parameters) (into_iter_items l.left)
