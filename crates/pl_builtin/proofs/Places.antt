-- The cells that stand at the places of the first best ones are the best ones.
use Rattle.std.proofs.Common.{◌≡◌, ℕ, ◌+◌, ◌-◌, ◌≤◌, ◌==◌, ℤ, pos, Bool, true, false, cond, List, [], ◌∷◌, ◌++◌, map, get_or, Result, Ok, Err, arith, refl, ap, ap₂, sym, ◌∙◌}
use Rattle.std.specs.List.{range_with_len}
use Rattle.std.proofs.lemmas.Simd.{map-map}
use Rattle.std.proofs.lemmas.List.FromFn.{map-range_with_len_more, get_or-map-range_with_len, length-map-range_with_len, fill_by_all}
use Rattle.std.proofs.lemmas.Bool.Decides.{nat_tests}
use Rattle.pl_base.specs.declared.errors.ErrKind.{ErrKind}
use Rattle.pl_base.specs.declared.errors.ErrKind.TheVariants.{ArgRange}
use Rattle.pl_array.specs.declared.class.Class.TheVariants.{Int}
use Rattle.pl_array.specs.declared.class.Shape.{Shape}
use Rattle.pl_array.specs.Arrays.{Array}
use Rattle.pl_array.specs.Cellwise.{shape_of}
use Rattle.pl_array.specs.Joining.{is_nil}
use Rattle.pl_lines.specs.Lines.{default_dim, extent, line, line_count, lines, one_a_line}
use Rattle.pl_lines.specs.declared.dim.Dim.{Dim}
use Rattle.pl_builtin.specs.declared.extremes.Extreme.{Extreme}
use Rattle.pl_builtin.specs.Along.{first_best, best, best_place, cell_of, extreme_of, place_of}

pub one_more : (f : ℕ → ℤ) (i : ℕ) (xs : List ℤ) (v : ℤ) → xs ≡ map f (range_with_len 0 i) → v ≡ f i → xs ++ v ∷ [] ≡ map f (range_with_len 0 (i + 1))
one_more f i xs v e h = ap₂ (λ (ys : List ℤ) (y : ℤ). ys ++ y ∷ []) e h ∙ sym (map-range_with_len_more f 0 i i (omega arith))

pub all_done : (f : ℕ → ℤ) (i m n : ℕ) (xs : List ℤ) → xs ≡ map f (range_with_len 0 i) → m ≤ i → i ≤ m → m ≡ n → xs ≡ map f (range_with_len 0 n)
all_done f i m n xs e low high same =
    let here : i ≡ n = omega arith in
    e ∙ ap (λ (k : ℕ). map f (range_with_len 0 k)) here

-- the cell at the place of the best one
at_place : (which : Extreme) (cells : List ℤ) → cell_of cells (best_place which cells) ≡ best which cells
at_place which cells =
    let same : first_best which cells + 1 - 1 ≡ first_best which cells = omega arith in
    ap (λ (k : ℕ). get_or cells k (pos 0)) same

-- the cells that are read are the best ones
read_best : (which : Extreme) (d : Dim) (a : Array) (n : ℕ) → map (λ i. cell_of (line d a i) (get_or (map (best_place which) (map (line d a) (range_with_len 0 n))) i (pos 0))) (range_with_len 0 n) ≡ map (best which) (map (line d a) (range_with_len 0 n))
read_best which d a n =
    sym (fill_by_all (λ i. cell_of (line d a i) (get_or (map (best_place which) (map (line d a) (range_with_len 0 n))) i (pos 0))) (map (λ k. best which (line d a k)) (range_with_len 0 n)) n (pos 0) (length-map-range_with_len (λ k. best which (line d a k)) 0 n)
    (λ k h.
    get_or-map-range_with_len (λ k. best which (line d a k)) 0 n k k (pos 0) h (omega arith)
    ∙ sym (ap (cell_of (line d a k)) (ap (λ (zs : List ℤ). get_or zs k (pos 0)) (map-map (best_place which) (line d a) (range_with_len 0 n)) ∙ get_or-map-range_with_len (λ k. best_place which (line d a k)) 0 n k k (pos 0) h (omega arith))
    ∙ at_place which (line d a k))))
    ∙ sym (map-map (best which) (line d a) (range_with_len 0 n))

no_lines : (a : Array) → is_nil (shape_of a) ≡ true → line_count (default_dim (shape_of a)) (shape_of a) ≡ 0
no_lines a e = grind (arith, nat_tests)

-- by the two tests of the shape
by_shape : (which : Extreme) (d : Dim) (a p : Array) (xs : List ℤ) (nil none : Bool) → (nil ≡ true → line_count d (shape_of a) ≡ 0) → cond nil (Ok (record { class = Int; rows = 0; cols = 0; cells = [] })) (cond none (Err ArgRange) (Ok (one_a_line Int d (shape_of a) (map (best_place which) (lines d a))))) ≡ Ok p → xs ≡ map (λ i. cell_of (line d a i) (get_or p.cells i (pos 0))) (range_with_len 0 (line_count d (shape_of a))) → ◌≡◌ {A = Result Array ErrKind} (cond nil (Ok (record { class = Int; rows = 0; cols = 0; cells = [] })) (cond none (Err ArgRange) (Ok (one_a_line Int d (shape_of a) (map (best which) (lines d a)))))) (Ok (record { class = Int; rows = p.rows; cols = p.cols; cells = xs }))
by_shape which d a p xs true none empty e h =
    let inside : ◌≡◌ {A = Array} (record { class = Int; rows = 0; cols = 0; cells = [] }) p = cc in
    let no_cells : xs ≡ [] = h ∙ ap (λ (k : ℕ). map (λ i. cell_of (line d a i) (get_or p.cells i (pos 0))) (range_with_len 0 k)) (empty refl) in
    rw (no_cells, ← inside) refl
by_shape which d a p xs false true empty e h = absurd (cc)
by_shape which d a p xs false false empty e h =
    let inside : one_a_line Int d (shape_of a) (map (best_place which) (lines d a)) ≡ p = cc in
    let read : xs ≡ map (λ i. cell_of (line d a i) (get_or (map (best_place which) (lines d a)) i (pos 0))) (range_with_len 0 (line_count d (shape_of a))) = rw (← inside) at h in
    let cells : xs ≡ map (best which) (lines d a) = read ∙ read_best which d a (line_count d (shape_of a)) in
    rw (cells, ← inside) refl

pub cells_read : (which : Extreme) (a p : Array) (s : Shape) (ys xs : List ℤ) → place_of which a ≡ Ok p → s ≡ shape_of p → ys ≡ p.cells → xs ≡ map (λ i. cell_of (line (default_dim (shape_of a)) a i) (get_or ys i (pos 0))) (range_with_len 0 (line_count (default_dim (shape_of a)) (shape_of a))) → extreme_of which a ≡ Ok (record { class = Int; rows = s.rows; cols = s.cols; cells = xs })
cells_read which a p s ys xs e es ey h =
    rw es (by_shape which (default_dim (shape_of a)) a p xs (is_nil (shape_of a)) (extent (default_dim (shape_of a)) (shape_of a) == 0) (no_lines a) e (rw (← ey) h))
