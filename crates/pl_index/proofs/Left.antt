-- The places that are left are those without a mark.
use Rattle.std.proofs.Common.{◌≡◌, ℕ, zero, suc, ◌+◌, ◌<◌, ◌≤◌, ◌==◌, Bool, true, false, cond, not, ◌||◌, List, [], ◌∷◌, length, get_or, set, replicate, arith, refl, ap, sym, subst, ◌∙◌}
use Rattle.std.specs.List.{All, range_with_len, list_any, filter}
use Rattle.std.proofs.lemmas.List.{length-set, length-replicate, get_or-set_same, get_or-set_other}
use Rattle.std.proofs.lemmas.List.Elements.{All-filter, All-head, All-tail}
use Rattle.std.proofs.lemmas.List.FromFn.{length-range_with_len}
use Rattle.std.proofs.lemmas.Bool.{eqb-true, eqb-false}
use Rattle.pl_index.specs.Inner.{marked}
use Rattle.pl_index.specs.Places.{reach, left_over}
use Rattle.pl_index.proofs.Crossing.{reach_within, range_below}

marked_at : (marks : List Bool) (p k : ℕ) (t : Bool) → (p == k) ≡ t → k < length marks → get_or (set marks p true) k false ≡ (t || get_or marks k false)
marked_at marks p k true e h =
    let same : p ≡ k = eqb-true p k e in
    subst (λ (i : ℕ). get_or (set marks i true) k false ≡ true) (sym same) (get_or-set_same marks k true false h)
marked_at marks p k false e h = get_or-set_other marks p k true false (λ q. eqb-false p k e (sym q))

or-swap : (p q r : Bool) → (q || (p || r)) ≡ ((p || q) || r)
or-swap true true r = refl
or-swap true false r = refl
or-swap false true r = refl
or-swap false false r = refl

get_or-marked : (marks : List Bool) (places : List ℕ) (k : ℕ) → k < length marks → get_or (marked marks places) k false ≡ (list_any (λ place. place == k) places || get_or marks k false)
get_or-marked marks [] k h = refl
get_or-marked marks (p ∷ places) k h =
    get_or-marked (set marks p true) places k (omega (arith, length-set marks p true))
    ∙ ap (λ (b : Bool). list_any (λ place. place == k) places || b) (marked_at marks p k (p == k) refl h)
    ∙ or-swap (p == k) (list_any (λ place. place == k) places) (get_or marks k false)

get_or-unset : (n k : ℕ) → get_or (replicate n false) k false ≡ false
get_or-unset zero k = refl
get_or-unset (suc n) zero = refl
get_or-unset (suc n) (suc k) = get_or-unset n k

or-none : (b : Bool) → (b || false) ≡ b
or-none true = refl
or-none false = refl

same_filter : (p q : ℕ → Bool) (ks : List ℕ) → All (λ k. p k ≡ q k) ks → filter p ks ≡ filter q ks
same_filter p q [] all = refl
same_filter p q (k ∷ ks) all = rw (All-head (λ k. p k ≡ q k) k ks all, same_filter p q ks (All-tail (λ k. p k ≡ q k) k ks all)) refl

pub left_marked : (extent : ℕ) (places : List ℕ) → filter (λ k. not (get_or (marked (replicate extent false) places) k false)) (range_with_len 0 extent) ≡ left_over extent places
left_marked extent places =
    same_filter (λ k. not (get_or (marked (replicate extent false) places) k false)) (λ k. not (list_any (λ place. place == k) places)) (range_with_len 0 extent)
    (λ i d h.
    let k = get_or (range_with_len 0 extent) i d in
    let within : get_or (range_with_len 0 extent) i d < extent = range_below extent i d h in
    ap not (
    get_or-marked (replicate extent false) places k (omega (arith, length-replicate extent false))
    ∙ ap (λ (b : Bool). list_any (λ place. place == k) places || b) (get_or-unset extent k)
    ∙ or-none (list_any (λ place. place == k) places)))

by_test : (t : Bool) (k n : ℕ) (ks : List ℕ) → length ks ≤ n → length (cond t (k ∷ ks) ks) ≤ n + 1
by_test true k n ks h = omega arith
by_test false k n ks h = omega arith

filter_shorter : (p : ℕ → Bool) (ks : List ℕ) → length (filter p ks) ≤ length ks
filter_shorter p [] = omega arith
filter_shorter p (k ∷ ks) = omega (arith, by_test (p k) k (length ks) (filter p ks) (filter_shorter p ks))

pub left_shorter : (extent : ℕ) (places : List ℕ) → length (left_over extent places) ≤ extent
left_shorter extent places = omega (arith, filter_shorter (λ k. not (list_any (λ place. place == k) places)) (range_with_len 0 extent), length-range_with_len 0 extent)

pub left_within : (extent : ℕ) (places : List ℕ) → reach (left_over extent places) ≤ extent
left_within extent places =
    reach_within (left_over extent places) extent (All-filter (λ k. not (list_any (λ place. place == k) places)) (λ k. k < extent) (range_with_len 0 extent) (range_below extent))

pub left_from : (extent : ℕ) (places left : List ℕ) (marks items : List Bool) → left ≡ filter (λ k. not (get_or marks k false)) (range_with_len 0 extent) → marks ≡ items → items ≡ marked (replicate extent false) places → left ≡ left_over extent places
left_from extent places left marks items e em ei =
    e ∙ ap (λ (ms : List Bool). filter (λ k. not (get_or ms k false)) (range_with_len 0 extent)) (em ∙ ei) ∙ left_marked extent places
