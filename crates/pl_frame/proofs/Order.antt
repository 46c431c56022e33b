-- The cells of an array that takes another shape, where they keep their order.
use Rattle.std.proofs.Common.{◌≡◌, ℕ, zero, suc, ◌+◌, ◌*◌, ◌/◌, ◌%◌, ◌<◌, ◌≤◌, ◌⊎◌, inl, inr, pos, ltb, Bool, true, false, cond, ◌&&◌, length, get_or, arith, refl, ap, sym, subst}
use Rattle.std.proofs.lemmas.Bool.{ltb-true, ltb-false}
use Rattle.std.proofs.lemmas.Nat.{div-add-mod', mod_below, mul-le}
use Rattle.pl_array.specs.Arrays.{Array, cell_at}
use Rattle.pl_index.specs.Writing.{old_at}
use Rattle.pl_index.proofs.Crossing.{past_end_of}

pub record Order (a : Array) (rows : ℕ) : Type 0 where
  pub count : length a.cells ≡ a.rows * a.cols
  pub some : 0 < rows
  pub grows : a.rows ≤ rows
  pub kept : (a.rows ≡ rows) ⊎ ((a.rows ≡ 0) ⊎ (a.cols ≤ 1))

both_true : (p q : Bool) → (p && q) ≡ true → (p ≡ true) × (q ≡ true)
both_true true q e = (refl, e)
both_true false q e = absurd (cc)

one_false : (p q : Bool) → (p && q) ≡ false → (p ≡ false) ⊎ (q ≡ false)
one_false true q e = inr e
one_false false q e = inl refl

same_place : (a : Array) (rows k : ℕ) → Order a rows → k % rows < a.rows → k / rows < a.cols → k / rows * a.rows + k % rows ≡ k
same_place a rows k o row col = elim o.kept [
  | inl same ↦ rw same (div-add-mod' k rows)
  | inr t ↦ elim t [
    | inl none ↦ absurd (omega (arith, none))
    | inr few ↦
        let first : k / rows ≡ 0 = omega (arith, few) in
        let all : 0 * rows + k % rows ≡ k = subst (λ (c : ℕ). c * rows + k % rows ≡ k) first (div-add-mod' k rows) in
        rw first (omega (arith, all))
  ]
]

above_rows : (rows cols r c k : ℕ) → c * rows + r ≡ k → cols ≤ c → rows * cols ≤ k
above_rows rows cols r c k e h = omega (arith, mul-le cols rows c rows h (omega arith), e)

behind : (a : Array) (rows k : ℕ) → Order a rows → (a.rows ≤ k % rows) ⊎ (a.cols ≤ k / rows) → a.rows * a.cols ≤ k
behind a rows k o out = elim o.kept [
  | inl same ↦ elim out [
    | inl low ↦ absurd (omega (arith, same, mod_below k rows o.some))
    | inr right ↦ rw same (above_rows rows a.cols (k % rows) (k / rows) k (div-add-mod' k rows) right)
  ]
  | inr t ↦ elim t [
    | inl none ↦ rw none (omega arith)
    | inr few ↦ one_line a.rows a.cols few refl refl
  ]
]
  where
    split : k / rows * rows + k % rows ≡ k
    split = div-add-mod' k rows

    one_line : (m n : ℕ) → n ≤ 1 → m ≡ a.rows → n ≡ a.cols → m * n ≤ k
    one_line m zero h em en = omega arith
    one_line m (suc zero) h em en = elim out [
      | inl low ↦ omega (arith, split)
      | inr right ↦ omega (arith, o.grows, above_rows rows 1 (k % rows) (k / rows) k split (omega arith))
    ]
    one_line m (suc (suc n)) h em en = absurd (omega arith)

old_by : (a : Array) (rows k : ℕ) (t : Bool) → Order a rows → (ltb (k % rows) a.rows && ltb (k / rows) a.cols) ≡ t → get_or a.cells k (pos 0) ≡ cond t (cell_at a (k % rows) (k / rows)) (pos 0)
old_by a rows k true o e =
    let both = both_true (ltb (k % rows) a.rows) (ltb (k / rows) a.cols) e in
    ap (λ (i : ℕ). get_or a.cells i (pos 0)) (sym (same_place a rows k o (ltb-true (k % rows) a.rows both.0) (ltb-true (k / rows) a.cols both.1)))
old_by a rows k false o e =
    let out : (a.rows ≤ k % rows) ⊎ (a.cols ≤ k / rows) = elim (one_false (ltb (k % rows) a.rows) (ltb (k / rows) a.cols) e) [
      | inl h ↦ inl (ltb-false (k % rows) a.rows h)
      | inr h ↦ inr (ltb-false (k / rows) a.cols h)
    ] in
    past_end_of a.cells (pos 0) k (omega (arith, o.count, behind a rows k o out))

pub kept_order : (a : Array) (rows k : ℕ) → Order a rows → get_or a.cells k (pos 0) ≡ old_at a rows k
kept_order a rows k o = old_by a rows k (ltb (k % rows) a.rows && ltb (k / rows) a.cols) o refl
