-- One more line.
use Rattle.std.proofs.Common.{◌≡◌, ℕ, ℤ, ◌+◌, List, length, [], ◌∷◌, ◌++◌, map, arith, ap, sym, ◌∙◌}
use Rattle.std.specs.Global.{Vec}
use Rattle.std.proofs.lemmas.List.{map-append}
use Rattle.std.specs.List.{range_with_len}
use Rattle.std.proofs.lemmas.List.FromFn.{map-range_with_len_more, length-map-range_with_len}

pub line_more : (f : ℕ → List ℕ) (n : ℕ) → map f (range_with_len 0 (n + 1)) ≡ map f (range_with_len 0 n) ++ f n ∷ []
line_more f n = map-range_with_len_more f 0 n n (grind arith)

-- a text that is pushed is one line more
pub next_line : (old new : List (Vec ℕ)) (text : Vec ℕ) (f : ℕ → List ℕ) (n : ℕ) → new ≡ old ++ text ∷ [] → map (λ (v : Vec ℕ). v.items) old ≡ map f (range_with_len 0 n) → text.items ≡ f n → map (λ (v : Vec ℕ). v.items) new ≡ map f (range_with_len 0 (n + 1))
next_line old new text f n is all line =
    ap (map (λ (v : Vec ℕ). v.items)) is
    ∙ map-append (λ (v : Vec ℕ). v.items) old (text ∷ [])
    ∙ (λ i. all i ++ line i ∷ [])
    ∙ sym (line_more f n)

pub cell_more : (f : ℕ → ℤ) (n : ℕ) → map f (range_with_len 0 (n + 1)) ≡ map f (range_with_len 0 n) ++ f n ∷ []
cell_more f n = map-range_with_len_more f 0 n n (grind arith)

pub as_many : (xs : List ℤ) (f : ℕ → ℤ) (n : ℕ) → xs ≡ map f (range_with_len 0 n) → length xs ≡ n
as_many xs f n are = ap length are ∙ length-map-range_with_len f 0 n
