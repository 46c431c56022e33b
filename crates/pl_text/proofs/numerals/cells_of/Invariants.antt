use Rattle.std.proofs.Common.{◌≡◌, map, All}
use Rattle.std.specs.List.{range_with_len}
use Rattle.pl_array.specs.declared.class.Class.TheVariants.{Char}
use Rattle.pl_array.specs.Arrays.{IsCell}
use Rattle.pl_text.specs.Numerals.{character_at}
use Rattle.pl_text.proofs.numerals.cells_of.Given as goal

abbrev pub invariant-loop-place : goal.invariant-loop-place
invariant-loop-place l = record {
  all : l.cells.items ≡ map (character_at (map (λ v. v.items) l.texts) l.rows) (range_with_len 0 l.place);
  of_class : All (IsCell Char) l.cells.items;
}
