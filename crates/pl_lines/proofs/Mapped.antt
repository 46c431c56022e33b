-- A value for each line, one more at a time.
use Rattle.std.proofs.Common.{◌≡◌, ℕ, ◌+◌, ◌≤◌, ℤ, List, [], ◌∷◌, ◌++◌, map, arith, ap, ap₂, sym, ◌∙◌}
use Rattle.std.specs.List.{range_with_len}
use Rattle.std.proofs.lemmas.Simd.{map-map}
use Rattle.std.proofs.lemmas.List.FromFn.{map-range_with_len_more}
use Rattle.pl_array.specs.Arrays.{Array}
use Rattle.pl_array.specs.Cellwise.{shape_of}
use Rattle.pl_lines.specs.Lines.{line_count, line, lines}
use Rattle.pl_lines.specs.declared.dim.Dim.{Dim}

pub value_more : (f : ℕ → ℤ) (i : ℕ) (xs : List ℤ) (v : ℤ) → xs ≡ map f (range_with_len 0 i) → v ≡ f i → xs ++ v ∷ [] ≡ map f (range_with_len 0 (i + 1))
value_more f i xs v e h = ap₂ (λ (ys : List ℤ) (y : ℤ). ys ++ y ∷ []) e h ∙ sym (map-range_with_len_more f 0 i i (omega arith))

-- once all lines are done
pub each_line : {X : Type 0} (f : List ℤ → X) (d : Dim) (a : Array) (i n : ℕ) → n ≤ i → i ≤ n → n ≡ line_count d (shape_of a) → map (λ k. f (line d a k)) (range_with_len 0 i) ≡ map f (lines d a)
each_line f d a i n low high e =
    let same : i ≡ n = omega arith in
    ap (λ (k : ℕ). map (λ k. f (line d a k)) (range_with_len 0 k)) (same ∙ e) ∙ sym (map-map f (line d a) (range_with_len 0 (line_count d (shape_of a))))
