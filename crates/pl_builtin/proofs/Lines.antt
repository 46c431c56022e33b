-- One cell for each line fills the shape of the answer.
use Rattle.std.proofs.Common.{◌≡◌, ◌*◌, ℤ, List, length, map, arith, ap, ◌∙◌}
use Rattle.std.proofs.lemmas.List.{length-map}
use Rattle.std.proofs.lemmas.List.FromFn.{length-map-range_with_len}
use Rattle.pl_array.specs.declared.class.Shape.{Shape}
use Rattle.pl_array.specs.Arrays.{Array}
use Rattle.pl_array.specs.Cellwise.{shape_of}
use Rattle.pl_lines.specs.declared.dim.Dim.{Dim}
use Rattle.pl_lines.specs.declared.dim.Dim.TheVariants.{Down, Across}
use Rattle.pl_lines.specs.Lines.{default_dim, line, line_count, lines, with_extent}

count_of_lines : (value : List ℤ → ℤ) (d : Dim) (a : Array) → length (map value (lines d a)) ≡ line_count d (shape_of a)
count_of_lines value d a = length-map (lines d a) value ∙ length-map-range_with_len (line d a) 0 (line_count d (shape_of a))

shape_of_lines : (d : Dim) (s : Shape) → line_count d s ≡ (with_extent d s 1).rows * (with_extent d s 1).cols
shape_of_lines Down s = omega arith
shape_of_lines Across s = omega arith

one_each : (value : List ℤ → ℤ) (d : Dim) (a : Array) (xs : List ℤ) → xs ≡ map value (lines d a) → length xs ≡ (with_extent d (shape_of a) 1).rows * (with_extent d (shape_of a) 1).cols
one_each value d a xs e = ap length e ∙ count_of_lines value d a ∙ shape_of_lines d (shape_of a)

-- the same of the shape that the code has found
pub one_a_cell : (value : List ℤ → ℤ) (a : Array) (d : Dim) (s t : Shape) → s ≡ shape_of a → d ≡ default_dim s → t ≡ with_extent d s 1 → (xs : List ℤ) → xs ≡ map value (lines (default_dim (shape_of a)) a) → length xs ≡ t.rows * t.cols
one_a_cell value a d s t es ed et xs e = rw (et, ed, es) (one_each value (default_dim (shape_of a)) a xs e)
