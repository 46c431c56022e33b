-- Where rows and columns that an array has meet, there are its places.
use Rattle.std.proofs.Common.{◌≡◌, ℕ, zero, suc, ◌+◌, ◌*◌, ◌/◌, ◌%◌, ◌<◌, ◌≤◌, max, ◌⊎◌, inl, inr, List, [], ◌∷◌, map, length, get_or, arith, refl, sym, subst}
use Rattle.std.specs.List.{All, range_with_len, fold}
use Rattle.std.proofs.lemmas.Nat.{mul-add-lt, div_below, mod_below}
use Rattle.std.proofs.lemmas.List.FromFn.{length-map-range_with_len, get_or-map-range_with_len, length-range_with_len, get_or-range_with_len}
use Rattle.std.proofs.lemmas.List.Elements.{All-from_get_or, All-head, All-tail}
use Rattle.pl_array.specs.Arrays.{most}
use Rattle.pl_array.specs.declared.class.Shape.{Shape}
use Rattle.pl_index.specs.Places.{reach, crossing, Inside}

-- from any number on, the greatest subscript is no less than it, and above each place
from_start : (top : ℕ) (ks : List ℕ) → top ≤ fold (λ top k. max top (k + 1)) top ks
from_start top [] = omega arith
from_start top (k ∷ ks) = omega (arith, from_start (max top (k + 1)) ks)

above_each : (top : ℕ) (ks : List ℕ) (i : ℕ) → i < length ks → get_or ks i 0 < fold (λ top k. max top (k + 1)) top ks
above_each top [] i h = absurd (omega arith)
above_each top (k ∷ ks) zero h = omega (arith, from_start (max top (k + 1)) ks)
above_each top (k ∷ ks) (suc i) h = above_each (max top (k + 1)) ks i (omega arith)

pub below_reach : (ks : List ℕ) (i : ℕ) → i < length ks → get_or ks i 0 < reach ks
below_reach ks i h = above_each 0 ks i h

pub past_end_of : {X : Type 0} (xs : List X) (d : X) (i : ℕ) → length xs ≤ i → get_or xs i d ≡ d
past_end_of [] d i h = refl
past_end_of (x ∷ xs) d zero h = absurd (omega arith)
past_end_of (x ∷ xs) d (suc i) h = past_end_of xs d i (omega arith)

pub by_length : (n i : ℕ) → (i < n) ⊎ (n ≤ i)
by_length zero i = inr (omega arith)
by_length (suc n) zero = inl (omega arith)
by_length (suc n) (suc i) = elim (by_length n i) [ inl h ↦ inl (omega arith) | inr h ↦ inr (omega arith) ]

small_number : (ks : List ℕ) (i : ℕ) → (get_or ks i 0 < reach ks) ⊎ (get_or ks i 0 ≡ 0)
small_number ks i = elim (by_length (length ks) i) [ inl h ↦ inl (below_reach ks i h) | inr h ↦ inr (past_end_of ks 0 i h) ]

product_below : (c r rows cols : ℕ) → rows * cols ≤ most → rows ≤ most → (c < cols) ⊎ (c ≡ 0) → (r < rows) ⊎ (r ≡ 0) → c * rows + r ≤ most
product_below c r rows cols limit rl (inl hc) (inl hr) = omega (arith, mul-add-lt c rows r cols hc hr)
product_below c r zero cols limit rl (inl hc) (inr hr) = omega arith
product_below c r (suc rows) cols limit rl (inl hc) (inr hr) = omega (arith, mul-add-lt c (suc rows) r cols hc (omega arith))
product_below c r rows cols limit rl (inr hc) (inl hr) = rw hc (omega arith)
product_below c r rows cols limit rl (inr hc) (inr hr) = rw hc (omega arith)

pub cross_small : (s : Shape) (rows cols : List ℕ) (i j : ℕ) → Inside s rows cols → get_or cols j 0 * s.rows + get_or rows i 0 ≤ most
cross_small s rows cols i j inside =
    let col : (get_or cols j 0 < s.cols) ⊎ (get_or cols j 0 ≡ 0) = elim (small_number cols j) [ inl h ↦ inl (omega (arith, inside.col_reach)) | inr h ↦ inr h ] in
    let row : (get_or rows i 0 < s.rows) ⊎ (get_or rows i 0 ≡ 0) = elim (small_number rows i) [ inl h ↦ inl (omega (arith, inside.row_reach)) | inr h ↦ inr h ] in
    product_below (get_or cols j 0) (get_or rows i 0) s.rows s.cols inside.limit inside.row_limit col row

default_zero : (ks : List ℕ) (i d : ℕ) → i < length ks → get_or ks i 0 ≡ get_or ks i d
default_zero [] i d h = absurd (omega arith)
default_zero (k ∷ ks) zero d h = refl
default_zero (k ∷ ks) (suc i) d h = default_zero ks i d (omega arith)

pub all_below : (ks : List ℕ) (n : ℕ) → reach ks ≤ n → All (λ k. k < n) ks
all_below ks n le i d h = subst (λ (k : ℕ). k < n) (default_zero ks i d h) (omega (arith, below_reach ks i h))

within_from : (top n : ℕ) (ks : List ℕ) → top ≤ n → All (λ k. k < n) ks → fold (λ top k. max top (k + 1)) top ks ≤ n
within_from top n [] h all = h
within_from top n (k ∷ ks) h all =
    let first : k < n = All-head (λ k. k < n) k ks all in
    within_from (max top (k + 1)) n ks (omega arith) (All-tail (λ k. k < n) k ks all)

pub reach_within : (ks : List ℕ) (n : ℕ) → All (λ k. k < n) ks → reach ks ≤ n
reach_within ks n all = within_from 0 n ks (omega arith) all

pub from_range_all : {X : Type 0} (P : X → Type 0) (n : ℕ) (cell : ℕ → X) (d : X) → ((k : ℕ) → k < n → P (cell k)) → All P (map cell (range_with_len 0 n))
from_range_all P n cell d h =
    All-from_get_or P (map cell (range_with_len 0 n)) d (λ k l.
    let within : k < n = omega (arith, length-map-range_with_len cell 0 n) in
    subst P (sym (get_or-map-range_with_len cell 0 n k k d within (omega arith))) (h k within))

pub range_below : (n : ℕ) → All (λ k. k < n) (range_with_len 0 n)
range_below n = All-from_get_or (λ k. k < n) (range_with_len 0 n) 0 (λ k l.
    let within : k < n = omega (arith, length-range_with_len 0 n) in
    subst (λ (i : ℕ). i < n) (sym (get_or-range_with_len 0 n k 0 within)) (omega arith))

some_first : (m n k : ℕ) → k < m * n → 0 < m
some_first zero n k h = absurd (omega arith)
some_first (suc m) n k h = omega arith

pub crossing_below : (s : Shape) (rows cols : List ℕ) → (0 < length rows * length cols → Inside s rows cols) → All (λ k. k < s.rows * s.cols) (crossing s.rows rows cols)
crossing_below s rows cols inside =
    from_range_all (λ k. k < s.rows * s.cols) (length rows * length cols) (λ k. get_or cols (k / length rows) 0 * s.rows + get_or rows (k % length rows) 0) 0 (λ k h.
    let some : 0 < length rows = some_first (length rows) (length cols) k h in
    let met : Inside s rows cols = inside (omega arith) in
    let row : get_or rows (k % length rows) 0 < s.rows = omega (arith, met.row_reach, below_reach rows (k % length rows) (mod_below k (length rows) some)) in
    let in_cols : k / length rows < length cols = div_below k (length rows) (length cols) some (omega arith) in
    let col : get_or cols (k / length rows) 0 < s.cols = omega (arith, met.col_reach, below_reach cols (k / length rows) in_cols) in
    mul-add-lt (get_or cols (k / length rows) 0) s.rows (get_or rows (k % length rows) 0) s.cols col row)
