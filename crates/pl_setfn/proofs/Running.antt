-- A running sum goes on from the one before it.
use Rattle.std.proofs.Common.{◌≡◌, ℕ, zero, suc, ◌+◌, ◌-◌, ◌*◌, ◌/◌, ◌%◌, ◌<◌, ◌==◌, ℤ, pos, List, [], ◌∷◌, map, length, get_or, take, Option, Some, None, Bool, false, cond, arith, refl, ap, ap₂, sym, ◌∙◌, subst}
use Rattle.std.specs.List.{range_with_len}
use Rattle.std.specs.Prelude.{option_map}
use Rattle.std.proofs.lemmas.List.Sums.{fold_more}
use Rattle.std.proofs.lemmas.List.FromFn.{length-map-range_with_len, get_or-map-range_with_len}
use Rattle.std.proofs.lemmas.Nat.{div-add-mod', div_below, mod_below, div-mul-add, mod-mul-add}
use Rattle.std.proofs.Math.Nat.{suc-mul}
use Rattle.std.proofs.lemmas.Bool.Decides.{nat_tests}
use Rattle.pl_base.specs.declared.mode.Mode.{Mode}
use Rattle.pl_array.specs.Arrays.{Array}
use Rattle.pl_array.specs.Cellwise.{shape_of}
use Rattle.pl_array.specs.declared.class.Shape.{Shape}
use Rattle.pl_lines.specs.declared.dim.Dim.{Dim}
use Rattle.pl_lines.specs.declared.dim.Dim.TheVariants.{Down, Across}
use Rattle.pl_lines.specs.Lines.{cell_along, line, extent}
use Rattle.pl_lines.specs.Folding.{onward, folded, all_of}
use Rattle.pl_setfn.specs.Along.{added, line_at, index_at, stride, running}

-- the values of a list of which none is missing
pub all_of_at : (xs : List (Option ℤ)) (ys : List ℤ) (k : ℕ) → all_of xs ≡ Some ys → k < length xs → get_or xs k None ≡ Some (get_or ys k (pos 0))
all_of_at [] ys k e h = absurd (omega arith)
all_of_at (None ∷ xs) ys k e h = absurd (cc)
all_of_at (Some x ∷ xs) ys k e h = inner (all_of xs) refl e k h (λ zs j p q. all_of_at xs zs j p q) where
  inner : (rest : Option (List ℤ)) → all_of xs ≡ rest → option_map (λ zs. x ∷ zs) rest ≡ Some ys → (k : ℕ) → k < suc (length xs) → ((zs : List ℤ) (j : ℕ) → all_of xs ≡ Some zs → j < length xs → get_or xs j None ≡ Some (get_or zs j (pos 0))) → get_or (Some x ∷ xs) k None ≡ Some (get_or ys k (pos 0))
  inner None so e k h more = absurd (cc)
  inner (Some zs) so e zero h more =
      let same : x ∷ zs ≡ ys = cc in
      ap (λ (us : List ℤ). Some (get_or us 0 (pos 0))) same
  inner (Some zs) so e (suc k) h more =
      let same : x ∷ zs ≡ ys = cc in
      more zs k so (omega arith) ∙ ap (λ (us : List ℤ). Some (get_or us (suc k) (pos 0))) same

-- one cell up in its column
record Above (rows k r : ℕ) : Type 0 where
  row : (k - 1) % rows ≡ r
  col : (k - 1) / rows ≡ k / rows
  less : k - 1 < k

above : (rows k r : ℕ) → 0 < rows → k % rows ≡ suc r → Above rows k r
above rows k r some h =
    let q = k / rows in
    let small : r < rows = omega (arith, mod_below k rows some) in
    let is : k - 1 ≡ q * rows + r = omega (arith, div-add-mod' k rows) in
    record {
      row = ap (λ (n : ℕ). n % rows) is ∙ mod-mul-add q rows r small;
      col = ap (λ (n : ℕ). n / rows) is ∙ div-mul-add q rows r small;
      less = omega (arith, div-add-mod' k rows);
    }

-- one cell to the left in its row
record LeftOf (rows k c : ℕ) : Type 0 where
  row : (k - rows) % rows ≡ k % rows
  col : (k - rows) / rows ≡ c
  less : k - rows < k

left_of : (rows k c : ℕ) → 0 < rows → k / rows ≡ suc c → LeftOf rows k c
left_of rows k c some h =
    let small : k % rows < rows = mod_below k rows some in
    let whole : suc c * rows + k % rows ≡ k = ap (λ (n : ℕ). n * rows + k % rows) (sym h) ∙ div-add-mod' k rows in
    let is : k - rows ≡ c * rows + k % rows = omega (arith, suc-mul c rows) in
    record {
      row = ap (λ (n : ℕ). n % rows) is ∙ mod-mul-add c rows (k % rows) small;
      col = ap (λ (n : ℕ). n / rows) is ∙ div-mul-add c rows (k % rows) small;
      less = omega (arith, suc-mul c rows);
    }

-- the sum of the first cells of a line
abbrev first_sum : Mode → Dim → Array → ℕ → ℕ → Option ℤ
first_sum mode d a i r = folded (added mode) (pos 0) (take r (line d a i))

one_cell_on : (mode : Mode) (d : Dim) (a : Array) (i r : ℕ) (so_far x : ℤ) → r < extent d (shape_of a) → first_sum mode d a i r ≡ Some so_far → cell_along d a i r ≡ x → first_sum mode d a i (r + 1) ≡ added mode so_far x
one_cell_on mode d a i r so_far x h e cell =
    let n = extent d (shape_of a) in
    let within : r < length (line d a i) = omega (arith, length-map-range_with_len (cell_along d a i) 0 n) in
    fold_more (onward (added mode)) (Some (pos 0)) (line d a i) r (pos 0) within
    ∙ ap₂ (onward (added mode)) e (get_or-map-range_with_len (cell_along d a i) 0 n r r (pos 0) h (omega arith) ∙ cell)

not_zero : (n r : ℕ) → n ≡ suc r → (n == 0) ≡ false
not_zero n r e = grind (arith, nat_tests)

-- the sum before the cell at place k
before_is : (mode : Mode) (d : Dim) (a : Array) (k : ℕ) (sums : List ℤ) → 0 < a.rows → all_of (map (running mode d a) (range_with_len 0 k)) ≡ Some sums → first_sum mode d a (line_at d (shape_of a) k) (index_at d (shape_of a) k) ≡ Some (cond (index_at d (shape_of a) k == 0) (pos 0) (get_or sums (k - stride d (shape_of a)) (pos 0)))
before_is mode Down a k sums some all = by_case (k % a.rows) refl where
  by_case : (r : ℕ) → k % a.rows ≡ r → first_sum mode Down a (k / a.rows) (k % a.rows) ≡ Some (cond (k % a.rows == 0) (pos 0) (get_or sums (k - 1) (pos 0)))
  by_case zero e = rw e refl
  by_case (suc r) e =
      let at = above a.rows k r some e in
      let value = all_of_at (map (running mode Down a) (range_with_len 0 k)) sums (k - 1) all (omega (arith, at.less, length-map-range_with_len (running mode Down a) 0 k)) in
      let one : r + 1 ≡ suc r = omega arith in
      ap (λ (n : ℕ). first_sum mode Down a (k / a.rows) n) (e ∙ sym one)
      ∙ ap₂ (λ (q s : ℕ). first_sum mode Down a q (s + 1)) (sym at.col) (sym at.row)
      ∙ sym (get_or-map-range_with_len (running mode Down a) 0 k (k - 1) (k - 1) None at.less (omega arith)) ∙ value
      ∙ ap (λ (b : Bool). Some (cond b (pos 0) (get_or sums (k - 1) (pos 0)))) (sym (not_zero (k % a.rows) r e))
before_is mode Across a k sums some all = by_case (k / a.rows) refl where
  by_case : (c : ℕ) → k / a.rows ≡ c → first_sum mode Across a (k % a.rows) (k / a.rows) ≡ Some (cond (k / a.rows == 0) (pos 0) (get_or sums (k - a.rows) (pos 0)))
  by_case zero e = rw e refl
  by_case (suc c) e =
      let at = left_of a.rows k c some e in
      let value = all_of_at (map (running mode Across a) (range_with_len 0 k)) sums (k - a.rows) all (omega (arith, at.less, length-map-range_with_len (running mode Across a) 0 k)) in
      let one : c + 1 ≡ suc c = omega arith in
      ap (λ (n : ℕ). first_sum mode Across a (k % a.rows) n) (e ∙ sym one)
      ∙ ap₂ (λ (q s : ℕ). first_sum mode Across a q (s + 1)) (sym at.row) (sym at.col)
      ∙ sym (get_or-map-range_with_len (running mode Across a) 0 k (k - a.rows) (k - a.rows) None at.less (omega arith)) ∙ value
      ∙ ap (λ (b : Bool). Some (cond b (pos 0) (get_or sums (k - a.rows) (pos 0)))) (sym (not_zero (k / a.rows) c e))

at_place : (d : Dim) (a : Array) (k : ℕ) → cell_along d a (line_at d (shape_of a) k) (index_at d (shape_of a) k) ≡ get_or a.cells k (pos 0)
at_place Down a k = ap (λ (n : ℕ). get_or a.cells n (pos 0)) (div-add-mod' k a.rows)
at_place Across a k = ap (λ (n : ℕ). get_or a.cells n (pos 0)) (div-add-mod' k a.rows)

in_line : (d : Dim) (a : Array) (k : ℕ) → 0 < a.rows → k < a.rows * a.cols → index_at d (shape_of a) k < extent d (shape_of a)
in_line Down a k some h = mod_below k a.rows some
in_line Across a k some h = div_below k a.rows a.cols some (omega arith)

-- one more running sum
running_on : (mode : Mode) (d : Dim) (a : Array) (k : ℕ) (sums : List ℤ) (before x : ℤ) → 0 < a.rows → k < a.rows * a.cols → all_of (map (running mode d a) (range_with_len 0 k)) ≡ Some sums → before ≡ cond (index_at d (shape_of a) k == 0) (pos 0) (get_or sums (k - stride d (shape_of a)) (pos 0)) → x ≡ get_or a.cells k (pos 0) → running mode d a k ≡ added mode before x
running_on mode d a k sums before x some h all e is =
    one_cell_on mode d a (line_at d (shape_of a) k) (index_at d (shape_of a) k) before x (in_line d a k some h)
    (before_is mode d a k sums some all ∙ ap Some (sym e)) (at_place d a k ∙ sym is)

some_rows : (rows cols k : ℕ) → k < rows * cols → 0 < rows
some_rows zero cols k h = absurd (omega arith)
some_rows (suc rows) cols k h = omega arith

-- the same, in terms of what is at hand in the pass over the cells
pub next_sum : (mode : Mode) (d : Dim) (a : Array) (k : ℕ) (s : Shape) (sums known cells : List ℤ) (b before cell : ℤ) (r : Option ℤ) → s ≡ shape_of a → k < s.rows * s.cols → all_of (map (running mode d a) (range_with_len 0 k)) ≡ Some sums → known ≡ sums → cells ≡ a.cells → b ≡ cond (index_at d s k == 0) (pos 0) (get_or known (k - stride d s) (pos 0)) → before ≡ b → cell ≡ get_or cells k (pos 0) → r ≡ added mode before cell → running mode d a k ≡ r
next_sum mode d a k s sums known cells b before cell r es within all ek ec eb ebb ecell er =
    let inside : k < a.rows * a.cols = subst (λ (t : Shape). k < t.rows * t.cols) es within in
    let is : before ≡ cond (index_at d (shape_of a) k == 0) (pos 0) (get_or sums (k - stride d (shape_of a)) (pos 0)) = ebb ∙ eb ∙ ap₂ (λ (t : Shape) (zs : List ℤ). cond (index_at d t k == 0) (pos 0) (get_or zs (k - stride d t) (pos 0))) es ek in
    running_on mode d a k sums before cell (some_rows a.rows a.cols k inside) inside all is (ecell ∙ ap (λ (zs : List ℤ). get_or zs k (pos 0)) ec) ∙ sym er
