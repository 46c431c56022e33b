-- What was passed is another name.
use Rattle.std.proofs.Common.{◌≡◌, map, length}
use Rattle.std.specs.List.{list_any}
use Rattle.pl_grammar.specs.Words.{same}
use Rattle.pl_print.proofs.dots.is_among.Given as goal

abbrev pub invariant-loop-table : goal.invariant-loop-table
invariant-loop-table l = list_any (λ n. same n l.text) (map (λ n. n.now) l.table) ≡ list_any (λ n. same n l.text) (map (λ n. n.now) l.initial.table)

abbrev pub decreases-loop-table : goal.decreases-loop-table
decreases-loop-table l = length l.table
