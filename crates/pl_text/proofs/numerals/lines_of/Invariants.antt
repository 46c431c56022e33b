use Rattle.std.proofs.Common.{◌≡◌, map}
use Rattle.std.specs.List.{range_with_len}
use Rattle.pl_text.specs.Displayed.{numbers}
use Rattle.pl_text.proofs.numerals.lines_of.Given as goal

abbrev pub invariant-loop-row : goal.invariant-loop-row
invariant-loop-row l = map (λ v. v.items) l.texts.items ≡ map (numbers l.a) (range_with_len 0 l.row)
