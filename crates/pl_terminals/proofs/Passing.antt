-- Places go on from place to place.
use Rattle.std.proofs.Common.{◌≡◌, ℕ, ◌+◌, ◌-◌, ◌<◌, ◌≤◌, true, false, ◌==◌, if◌then◌else◌, List, [], ◌∷◌, ◌++◌, length, take, drop, refl, sym, ap, ◌∙◌, arith}
use Rattle.std.proofs.Math.Seq.{take-add}
use Rattle.std.proofs.lemmas.List.{length-take, length-drop, drop-drop}
use Rattle.pl_base.specs.declared.errors.Place.{Place}
use Rattle.pl_lex.specs.Tokens.{mark_len, first_place, next_place, past, place_of}
use Rattle.pl_terminals.specs.Terminals.{StandsIn}

pub past-append : (p : Place) (xs ys : List ℕ) → past p (xs ++ ys) ≡ past (past p xs) ys
past-append p [] ys = refl
past-append p (c ∷ cs) ys = past-append (next_place p c) cs ys

pub past-at : (p : Place) (xs : List ℕ) → (past p xs).at ≡ p.at + length xs
past-at p [] = omega arith
past-at p (c ∷ cs) = let ih : (past (next_place p c) cs).at ≡ p.at + 1 + length cs = past-at (next_place p c) cs in omega (arith, ih)

next-line : (p : Place) (c : ℕ) → (next_place p c).line ≤ p.line + 1
next-line p c = elim (c == 10) as (λ b. (if b then p.line + 1 else p.line) ≤ p.line + 1) [ true ↦ omega arith | false ↦ omega arith ]

next-col : (p : Place) (c : ℕ) → (next_place p c).col ≤ p.col + 1
next-col p c = elim (c == 10) as (λ b. (if b then 1 else p.col + 1) ≤ p.col + 1) [ true ↦ omega arith | false ↦ omega arith ]

past-line : (p : Place) (xs : List ℕ) → (past p xs).line ≤ p.line + length xs
past-line p [] = omega arith
past-line p (c ∷ cs) = let ih : (past (next_place p c) cs).line ≤ (next_place p c).line + length cs = past-line (next_place p c) cs in omega (arith, ih, next-line p c)

past-col : (p : Place) (xs : List ℕ) → (past p xs).col ≤ p.col + length xs
past-col p [] = omega arith
past-col p (c ∷ cs) = let ih : (past (next_place p c) cs).col ≤ (next_place p c).col + length cs = past-col (next_place p c) cs in omega (arith, ih, next-col p c)

-- the bytes up to b are those up to a, and then those from a to b
split : (m a b : ℕ) (s : List ℕ) → m ≤ a → a ≤ b → take (b - m) (drop m s) ≡ take (a - m) (drop m s) ++ take (b - a) (drop a s)
split m a b s h k =
    let e : b - m ≡ (a - m) + (b - a) = omega arith in
    let f : m + (a - m) ≡ a = omega arith in
    let d : drop (a - m) (drop m s) ≡ drop a s = drop-drop (a - m) m s ∙ ap (λ n. drop n s) f in
    ap (λ n. take n (drop m s)) e ∙ take-add (a - m) (b - a) (drop m s) ∙ ap (λ t. take (a - m) (drop m s) ++ take (b - a) t) d

-- the place behind the bytes between a place and a byte is that byte's
pub goes_on : (source : List ℕ) (p : Place) (b : ℕ) → StandsIn source p → p.at ≤ b → past p (take (b - p.at) (drop p.at source)) ≡ place_of source b
unfolding place_of
goes_on source p b (h, k, e) le =
    ap (λ q. past q (take (b - p.at) (drop p.at source))) e
    ∙ sym (past-append (first_place source) (take (p.at - mark_len source) (drop (mark_len source) source)) (take (b - p.at) (drop p.at source)))
    ∙ ap (past (first_place source)) (sym (split (mark_len source) p.at b source h le))

-- a byte before the mark's end
pub begins : (source : List ℕ) (b : ℕ) → b < mark_len source → first_place source ≡ place_of source b
unfolding place_of
begins source b h = let e : b - mark_len source ≡ 0 = omega arith in rw e refl

place-at : (source : List ℕ) (a : ℕ) → mark_len source ≤ a → a ≤ length source → (place_of source a).at ≡ a
unfolding place_of
place-at source a h k =
    let e : (past (first_place source) (take (a - mark_len source) (drop (mark_len source) source))).at ≡ mark_len source + length (take (a - mark_len source) (drop (mark_len source) source)) = past-at (first_place source) (take (a - mark_len source) (drop (mark_len source) source)) in
    grind (arith, e, length-take, length-drop)

-- the place of a byte stands in the source
pub stands : (source : List ℕ) (a : ℕ) → mark_len source ≤ a → a ≤ length source → StandsIn source (place_of source a)
unfolding place_of
stands source a h k =
    let e : (place_of source a).at ≡ a = place-at source a h k in
    (rw e h, rw e k, rw e refl)

pub first_stands : (source : List ℕ) → mark_len source ≤ length source → StandsIn source (first_place source)
unfolding place_of
first_stands source h = let e : mark_len source - mark_len source ≡ 0 = omega arith in (omega arith, h, rw e refl)

-- lines and columns are no more than bytes
pub near : (source : List ℕ) (p : Place) → StandsIn source p → (p.line ≤ 1 + p.at) × (p.col ≤ 1 + p.at)
unfolding place_of
near source p (h, k, e) =
    let bytes : List ℕ = take (p.at - mark_len source) (drop (mark_len source) source) in
    let n : length bytes ≤ p.at - mark_len source = grind (arith, length-take) in
    let l : (past (first_place source) bytes).line ≤ 1 + length bytes = past-line (first_place source) bytes in
    let c : (past (first_place source) bytes).col ≤ 1 + length bytes = past-col (first_place source) bytes in
    let line : p.line ≡ (past (first_place source) bytes).line = ap (λ (q : Place). q.line) e in
    let col : p.col ≡ (past (first_place source) bytes).col = ap (λ (q : Place). q.col) e in
    (omega (arith, n, l, line), omega (arith, n, c, col))
