-- Cells that keep their order, filled up with zeros and written, are the cells that an assignment is defined by.
use Rattle.std.proofs.Common.{◌≡◌, ℕ, zero, suc, ◌+◌, ◌-◌, ◌*◌, ◌/◌, ◌%◌, ◌<◌, ◌≤◌, ◌==◌, ◌⊎◌, inl, inr, ℤ, pos, ltb, Bool, true, false, cond, ◌&&◌, List, [], ◌∷◌, length, get_or, set, replicate, arith, refl, ap, sym, subst, ◌∙◌, length-append}
use Rattle.std.proofs.Math.ListN.{get_or-append}
use Rattle.std.proofs.Math.Seq.{get_or-append_right}
use Rattle.std.proofs.lemmas.List.{length-set, length-replicate, get_or-set_same, get_or-set_other}
use Rattle.std.proofs.lemmas.List.FromFn.{fill_by_all, length-map-range_with_len, get_or-map-range_with_len}
use Rattle.std.proofs.lemmas.Bool.{eqb-true, eqb-false, ltb-true, ltb-false}
use Rattle.std.proofs.lemmas.Nat.{div-add-mod', mod_below, mul-le}
use Rattle.pl_array.specs.Arrays.{Array, IsValid, filled, written, put_of, cell_at}
use Rattle.pl_array.specs.Joining.{by_places}
use Rattle.pl_array.specs.declared.class.Shape.{Shape}
use Rattle.pl_index.specs.Writing.{last_at, old_at, regrown, stored, Grows}
use Rattle.pl_index.proofs.Crossing.{by_length, past_end_of}

after_set : (cells : List ℤ) (p : ℕ) (v : ℤ) (k : ℕ) (t : Bool) → (p == k) ≡ t → k < length cells → get_or (set cells p v) k (pos 0) ≡ cond t v (get_or cells k (pos 0))
after_set cells p v k true e h =
    let same : p ≡ k = eqb-true p k e in
    subst (λ (i : ℕ). get_or (set cells i v) k (pos 0) ≡ v) (sym same) (get_or-set_same cells k v (pos 0) h)
after_set cells p v k false e h = get_or-set_other cells p k v (pos 0) (λ q. eqb-false p k e (sym q))

get_or-written : (cells : List ℤ) (places : List ℕ) (values : List ℤ) (k : ℕ) → k < length cells → get_or (written cells places values) k (pos 0) ≡ last_at places values k (get_or cells k (pos 0))
get_or-written cells [] values k h = refl
get_or-written cells (p ∷ places) [] k h = refl
get_or-written cells (p ∷ places) (v ∷ values) k h =
    get_or-written (set cells p v) places values k (omega (arith, length-set cells p v))
    ∙ ap (λ (z : ℤ). last_at places values k z) (after_set cells p v k (p == k) refl h)

length-written : (cells : List ℤ) (places : List ℕ) (values : List ℤ) → length (written cells places values) ≡ length cells
length-written cells [] values = refl
length-written cells (place ∷ places) [] = refl
length-written cells (place ∷ places) (v ∷ values) = length-written (set cells place v) places values ∙ length-set cells place v

written_cells : (a : Array) (s : Shape) (cells : List ℤ) (places : List ℕ) (values : List ℤ) → length cells ≡ s.rows * s.cols → ((k : ℕ) → k < s.rows * s.cols → get_or cells k (pos 0) ≡ old_at a s.rows k) → written cells places values ≡ (stored a s places values).cells
written_cells a s cells places values count old =
    fill_by_all (λ k. last_at places values k (old_at a s.rows k)) (written cells places values) (s.rows * s.cols) (pos 0) (length-written cells places values ∙ count)
    (λ k h. get_or-written cells places values k (omega (arith, count)) ∙ ap (λ (z : ℤ). last_at places values k z) (old k h))

get_or-zeros : (n i : ℕ) → get_or (replicate n (pos 0)) i (pos 0) ≡ pos 0
get_or-zeros zero i = refl
get_or-zeros (suc n) zero = refl
get_or-zeros (suc n) (suc i) = get_or-zeros n i

length-filled : (cells : List ℤ) (count : ℕ) → length cells ≤ count → length (filled cells count) ≡ count
length-filled cells count h = simp (length-append, length-replicate) (omega arith)

filled_reads : (cells : List ℤ) (count k : ℕ) → get_or (filled cells count) k (pos 0) ≡ get_or cells k (pos 0)
filled_reads cells count k = elim (by_length (length cells) k) [
  | inl h ↦ get_or-append cells (replicate (count - length cells) (pos 0)) (pos 0) k h
  | inr h ↦
      get_or-append_right cells (replicate (count - length cells) (pos 0)) k (pos 0) h
      ∙ get_or-zeros (count - length cells) (k - length cells)
      ∙ sym (past_end_of cells (pos 0) k h)
]

-- the old cells keep their order in so many rows
pub record Order (a : Array) (rows : ℕ) : Type 0 where
  pub valid : IsValid a
  pub some : 0 < rows
  pub grows : a.rows ≤ rows
  pub kept : (a.rows ≡ rows) ⊎ ((a.rows ≡ 0) ⊎ (a.cols ≤ 1))

both_true : (p q : Bool) → (p && q) ≡ true → (p ≡ true) × (q ≡ true)
both_true true q e = (refl, e)
both_true false q e = absurd (cc)

one_false : (p q : Bool) → (p && q) ≡ false → (p ≡ false) ⊎ (q ≡ false)
one_false true q e = inr e
one_false false q e = inl refl

same_place : (a : Array) (rows k : ℕ) → Order a rows → k % rows < a.rows → k / rows < a.cols → k / rows * a.rows + k % rows ≡ k
same_place a rows k o row col = elim o.kept [
  | inl same ↦ rw same (div-add-mod' k rows)
  | inr t ↦ elim t [
    | inl none ↦ absurd (omega (arith, none))
    | inr few ↦
        let first : k / rows ≡ 0 = omega (arith, few) in
        let all : 0 * rows + k % rows ≡ k = subst (λ (c : ℕ). c * rows + k % rows ≡ k) first (div-add-mod' k rows) in
        rw first (omega (arith, all))
  ]
]

above_rows : (rows cols r c k : ℕ) → c * rows + r ≡ k → cols ≤ c → rows * cols ≤ k
above_rows rows cols r c k e h = omega (arith, mul-le cols rows c rows h (omega arith), e)

behind : (a : Array) (rows k : ℕ) → Order a rows → (a.rows ≤ k % rows) ⊎ (a.cols ≤ k / rows) → a.rows * a.cols ≤ k
behind a rows k o out = elim o.kept [
  | inl same ↦ elim out [
    | inl low ↦ absurd (omega (arith, same, mod_below k rows o.some))
    | inr right ↦ rw same (above_rows rows a.cols (k % rows) (k / rows) k (div-add-mod' k rows) right)
  ]
  | inr t ↦ elim t [
    | inl none ↦ rw none (omega arith)
    | inr few ↦ one_line a.rows a.cols few refl refl
  ]
]
  where
    split : k / rows * rows + k % rows ≡ k
    split = div-add-mod' k rows

    one_line : (m n : ℕ) → n ≤ 1 → m ≡ a.rows → n ≡ a.cols → m * n ≤ k
    one_line m zero h em en = omega arith
    one_line m (suc zero) h em en = elim out [
      | inl low ↦ omega (arith, split)
      | inr right ↦ omega (arith, o.grows, above_rows rows 1 (k % rows) (k / rows) k split (omega arith))
    ]
    one_line m (suc (suc n)) h em en = absurd (omega arith)

old_by : (a : Array) (rows k : ℕ) (t : Bool) → Order a rows → (ltb (k % rows) a.rows && ltb (k / rows) a.cols) ≡ t → get_or a.cells k (pos 0) ≡ cond t (cell_at a (k % rows) (k / rows)) (pos 0)
old_by a rows k true o e =
    let both = both_true (ltb (k % rows) a.rows) (ltb (k / rows) a.cols) e in
    ap (λ (i : ℕ). get_or a.cells i (pos 0)) (sym (same_place a rows k o (ltb-true (k % rows) a.rows both.0) (ltb-true (k / rows) a.cols both.1)))
old_by a rows k false o e =
    let out : (a.rows ≤ k % rows) ⊎ (a.cols ≤ k / rows) = elim (one_false (ltb (k % rows) a.rows) (ltb (k / rows) a.cols) e) [
      | inl h ↦ inl (ltb-false (k % rows) a.rows h)
      | inr h ↦ inr (ltb-false (k / rows) a.cols h)
    ] in
    past_end_of a.cells (pos 0) k (omega (arith, o.valid.count, behind a rows k o out))

kept_order : (a : Array) (rows k : ℕ) → Order a rows → get_or a.cells k (pos 0) ≡ old_at a rows k
kept_order a rows k o = old_by a rows k (ltb (k % rows) a.rows && ltb (k / rows) a.cols) o refl

some_rows : (rows cols k : ℕ) → k < rows * cols → 0 < rows
some_rows zero cols k h = absurd (omega arith)
some_rows (suc rows) cols k h = omega arith

pub length-less : (a : Array) (s : Shape) → IsValid a → Grows a s → length a.cells ≤ s.rows * s.cols
length-less a s valid g = omega (arith, valid.count, mul-le a.rows a.cols s.rows s.cols g.rows_kept g.cols_kept)

-- what a put makes where the cells keep their order
pub put_in_place : (a : Array) (s : Shape) (places : List ℕ) (values : List ℤ) → IsValid a → Grows a s → (a.rows ≡ s.rows) ⊎ ((a.rows ≡ 0) ⊎ (a.cols ≤ 1)) → put_of a s.rows s.cols places values ≡ stored a s places values
put_in_place a s places values valid g order =
    ap (λ (cells : List ℤ). let o : Array = record { class = a.class; rows = s.rows; cols = s.cols; cells = cells } in o)
    (written_cells a s (filled a.cells (s.rows * s.cols)) places values (length-filled a.cells (s.rows * s.cols) (length-less a s valid g))
    (λ k h. filled_reads a.cells (s.rows * s.cols) k ∙ kept_order a s.rows k (record { valid = valid; some = some_rows s.rows s.cols k h; grows = g.rows_kept; kept = order })))

same_cells : (f g : ℕ → ℤ) (n : ℕ) → ((k : ℕ) → k < n → f k ≡ g k) → by_places n f ≡ by_places n g
same_cells f g n h = fill_by_all g (by_places n f) n (pos 0) (length-map-range_with_len f 0 n) (λ k l. get_or-map-range_with_len f 0 n k k (pos 0) l (omega arith) ∙ h k l)

-- the regrown array is written as the old one
pub stored_regrown : (a : Array) (s : Shape) (places : List ℕ) (values : List ℤ) → IsValid (regrown a s) → stored (regrown a s) s places values ≡ stored a s places values
stored_regrown a s places values valid =
    ap (λ (cells : List ℤ). let o : Array = record { class = a.class; rows = s.rows; cols = s.cols; cells = cells } in o)
    (same_cells (λ k. last_at places values k (old_at (regrown a s) s.rows k)) (λ k. last_at places values k (old_at a s.rows k)) (s.rows * s.cols)
    (λ k h. ap (λ (z : ℤ). last_at places values k z) (
    sym (kept_order (regrown a s) s.rows k (record { valid = valid; some = some_rows s.rows s.cols k h; grows = omega arith; kept = inl refl }))
    ∙ get_or-map-range_with_len (old_at a s.rows) 0 (s.rows * s.cols) k k (pos 0) h (omega arith))))
