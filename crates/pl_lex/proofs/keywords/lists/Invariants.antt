-- what was passed isn't the word
use Rattle.std.proofs.Common.{◌≡◌, map, length}
use Rattle.std.specs.List.{list_any}
use Rattle.pl_lex.specs.Keywords.{same}
use Rattle.pl_lex.proofs.keywords.lists.Given as goal

abbrev pub invariant-loop-table : goal.invariant-loop-table
invariant-loop-table l = list_any (λ k. same k l.word) (map (λ k. k.now) l.table) ≡ list_any (λ k. same k l.word) (map (λ k. k.now) l.initial.table)

abbrev pub decreases-loop-table : goal.decreases-loop-table
decreases-loop-table l = length l.table
