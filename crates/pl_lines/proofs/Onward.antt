-- A fold that goes on cell by cell, and a list of values that grows by one.
use Rattle.std.proofs.Common.{◌≡◌, ℕ, zero, suc, ◌+◌, ◌*◌, ◌<◌, ◌≤◌, ℤ, List, [], ◌∷◌, ◌++◌, map, length, get_or, drop, Option, Some, None, Ok, Err, arith, refl, ap, sym, ◌∙◌, add-one}
use Rattle.std.specs.Prelude.{option_map}
use Rattle.std.specs.List.{fold, range_with_len}
use Rattle.std.proofs.Math.Seq.{drop-cons}
use Rattle.std.proofs.lemmas.List.FromFn.{length-map-range_with_len, get_or-map-range_with_len, map-range_with_len_more}
use Rattle.std.proofs.lemmas.Simd.{map-map}
use Rattle.std.proofs.Math.ListN.{drop_of_length-le}
use Rattle.pl_base.specs.declared.errors.ErrKind.TheVariants.{Overflow}
use Rattle.pl_array.specs.declared.class.Class.{Class}
use Rattle.pl_array.specs.declared.class.Shape.{Shape}
use Rattle.pl_array.specs.Arrays.{Array}
use Rattle.pl_array.specs.Cellwise.{shape_of}
use Rattle.pl_lines.specs.Lines.{line_count, with_extent, line, lines, one_a_line}
use Rattle.pl_lines.specs.Folding.{onward, folded, all_of, unless_refused, fold_lines_of}
use Rattle.pl_lines.specs.declared.dim.Dim.{Dim}
use Rattle.pl_lines.specs.declared.dim.Dim.TheVariants.{Down, Across}

pub stopped : (step : ℤ → ℤ → Option ℤ) (xs : List ℤ) → fold (onward step) None xs ≡ None
stopped step [] = refl
stopped step (x ∷ xs) = stopped step xs

-- from cell k on, with what the fold has come to
pub goes_on : (step : ℤ → ℤ → Option ℤ) (xs : List ℤ) (k : ℕ) (so_far x d : ℤ) (all : Option ℤ) → k < length xs → get_or xs k d ≡ x → fold (onward step) (Some so_far) (drop k xs) ≡ all → fold (onward step) (step so_far x) (drop (k + 1) xs) ≡ all
goes_on step xs k so_far x d all h e so = sym (ap (λ (ys : List ℤ). fold (onward step) (Some so_far) ys) (drop-cons xs k d h) ∙ ap (λ (z : ℤ). fold (onward step) (step so_far z) (drop (suc k) xs)) e ∙ ap (λ (n : ℕ). fold (onward step) (step so_far x) (drop n xs)) (sym (add-one k))) ∙ so

pub stops : (step : ℤ → ℤ → Option ℤ) (xs : List ℤ) (k : ℕ) (so_far x d : ℤ) (all : Option ℤ) → k < length xs → get_or xs k d ≡ x → fold (onward step) (Some so_far) (drop k xs) ≡ all → step so_far x ≡ None → all ≡ None
stops step xs k so_far x d all h e so none =
    sym (goes_on step xs k so_far x d all h e so) ∙ ap (λ (r : Option ℤ). fold (onward step) r (drop (k + 1) xs)) none ∙ stopped step (drop (k + 1) xs)

pub steps : (step : ℤ → ℤ → Option ℤ) (xs : List ℤ) (k : ℕ) (so_far x y d : ℤ) (all : Option ℤ) → k < length xs → get_or xs k d ≡ x → fold (onward step) (Some so_far) (drop k xs) ≡ all → step so_far x ≡ Some y → fold (onward step) (Some y) (drop (k + 1) xs) ≡ all
steps step xs k so_far x y d all h e so some =
    ap (λ (r : Option ℤ). fold (onward step) r (drop (k + 1) xs)) (sym some) ∙ goes_on step xs k so_far x d all h e so

grown : (xs : List (Option ℤ)) (ys : List ℤ) (x y : ℤ) (rest : Option (List ℤ)) → all_of xs ≡ rest → option_map (λ zs. x ∷ zs) rest ≡ Some ys → ((zs : List ℤ) → all_of xs ≡ Some zs → all_of (xs ++ Some y ∷ []) ≡ Some (zs ++ y ∷ [])) → option_map (λ zs. x ∷ zs) (all_of (xs ++ Some y ∷ [])) ≡ Some (ys ++ y ∷ [])
grown xs ys x y None e h more = absurd (cc)
grown xs ys x y (Some zs) e h more =
    let same : x ∷ zs ≡ ys = cc in
    ap (option_map (λ (us : List ℤ). x ∷ us)) (more zs e) ∙ ap (λ (us : List ℤ). Some (us ++ y ∷ [])) same

all_of_push : (xs : List (Option ℤ)) (ys : List ℤ) (y : ℤ) → all_of xs ≡ Some ys → all_of (xs ++ Some y ∷ []) ≡ Some (ys ++ y ∷ [])
all_of_push [] ys y e = let h : [] ≡ ys = cc in ap (λ (zs : List ℤ). Some (zs ++ y ∷ [])) h
all_of_push (None ∷ xs) ys y e = absurd (cc)
all_of_push (Some x ∷ xs) ys y e = grown xs ys x y (all_of xs) refl e (λ zs h. all_of_push xs zs y h)

all_of_none : (xs : List (Option ℤ)) (k : ℕ) (d : Option ℤ) → k < length xs → get_or xs k d ≡ None → all_of xs ≡ None
all_of_none [] k d h e = absurd (omega arith)
all_of_none (None ∷ xs) k d h e = refl
all_of_none (Some x ∷ xs) zero d h e = absurd (cc)
all_of_none (Some x ∷ xs) (suc k) d h e = ap (option_map (λ zs. x ∷ zs)) (all_of_none xs k d (omega arith) e)

-- one more line
pub one_more : (f : ℕ → Option ℤ) (i : ℕ) (ys : List ℤ) (y : ℤ) → all_of (map f (range_with_len 0 i)) ≡ Some ys → f i ≡ Some y → all_of (map f (range_with_len 0 (i + 1))) ≡ Some (ys ++ y ∷ [])
one_more f i ys y e h =
    ap all_of (map-range_with_len_more f 0 i i (omega arith))
    ∙ ap (λ (r : Option ℤ). all_of (map f (range_with_len 0 i) ++ r ∷ [])) h
    ∙ all_of_push (map f (range_with_len 0 i)) ys y e

-- one line is refused
pub one_none : (f : ℕ → Option ℤ) (i n : ℕ) → i < n → f i ≡ None → all_of (map f (range_with_len 0 n)) ≡ None
one_none f i n h e =
    all_of_none (map f (range_with_len 0 n)) i None (omega (arith, length-map-range_with_len f 0 n))
    (get_or-map-range_with_len f 0 n i i None h (omega arith) ∙ e)

counted : (n : ℕ) (ys : List ℤ) (x : ℤ) (rest : Option (List ℤ)) → option_map (λ zs. x ∷ zs) rest ≡ Some ys → ((zs : List ℤ) → rest ≡ Some zs → length zs ≡ n) → length ys ≡ suc n
counted n ys x None h more = absurd (cc)
counted n ys x (Some zs) h more =
    let same : x ∷ zs ≡ ys = cc in
    ap length (sym same) ∙ ap suc (more zs refl)

length_of_all : (xs : List (Option ℤ)) (ys : List ℤ) → all_of xs ≡ Some ys → length ys ≡ length xs
length_of_all [] ys e = let h : [] ≡ ys = cc in ap length (sym h)
length_of_all (None ∷ xs) ys e = absurd (cc)
length_of_all (Some x ∷ xs) ys e = counted (length xs) ys x (all_of xs) e (λ zs h. length_of_all xs zs h)

-- as many values as lines
pub all_counted : (f : ℕ → Option ℤ) (n : ℕ) (ys : List ℤ) → all_of (map f (range_with_len 0 n)) ≡ Some ys → length ys ≡ n
all_counted f n ys e = length_of_all (map f (range_with_len 0 n)) ys e ∙ length-map-range_with_len f 0 n

-- at the end of the cells
pub finished : (step : ℤ → ℤ → Option ℤ) (xs : List ℤ) (k : ℕ) (so_far : ℤ) (all : Option ℤ) → length xs ≤ k → fold (onward step) (Some so_far) (drop k xs) ≡ all → Some so_far ≡ all
finished step xs k so_far all h e = ap (λ (ys : List ℤ). fold (onward step) (Some so_far) ys) (sym (drop_of_length-le xs h)) ∙ e

module _ (class : Class) (step : ℤ → ℤ → Option ℤ) (start : ℤ) (d : Dim) (a : Array) where
  each_folded : map (λ k. folded step start (line d a k)) (range_with_len 0 (line_count d (shape_of a))) ≡ map (folded step start) (lines d a)
  each_folded = sym (map-map (folded step start) (line d a) (range_with_len 0 (line_count d (shape_of a))))

  pub refused_line : (i : ℕ) → i < line_count d (shape_of a) → folded step start (line d a i) ≡ None → fold_lines_of class step start d a ≡ Err Overflow
  refused_line i h e =
      ap (λ (r : Option (List ℤ)). unless_refused r (one_a_line class d (shape_of a)))
      (ap all_of (sym each_folded) ∙ one_none (λ k. folded step start (line d a k)) i (line_count d (shape_of a)) h e)

  pub all_folded : (i n : ℕ) (ys : List ℤ) → n ≤ i → i ≤ n → n ≡ line_count d (shape_of a) → all_of (map (λ k. folded step start (line d a k)) (range_with_len 0 i)) ≡ Some ys → fold_lines_of class step start d a ≡ Ok (one_a_line class d (shape_of a) ys)
  all_folded i n ys low high e h =
      let count : i ≡ line_count d (shape_of a) = omega arith in
      ap (λ (r : Option (List ℤ)). unless_refused r (one_a_line class d (shape_of a)))
      (ap all_of (sym each_folded) ∙ ap (λ (k : ℕ). all_of (map (λ k. folded step start (line d a k)) (range_with_len 0 k))) (sym count) ∙ h)

pub one_each : (d : Dim) (s t u : Shape) → t ≡ s → u ≡ with_extent d t 1 → line_count d s ≡ u.rows * u.cols
one_each Down s t u e h = rw (h, e) (omega arith)
one_each Across s t u e h = rw (h, e) (omega arith)

pub one_a_line_is : (class k : Class) (d : Dim) (s t u : Shape) (cells : List ℤ) → k ≡ class → t ≡ s → u ≡ with_extent d t 1 → ◌≡◌ {A = Array} (record { class = k; rows = u.rows; cols = u.cols; cells = cells }) (one_a_line class d s cells)
one_a_line_is class k d s t u cells ek e h = rw (ek, h, e) refl
