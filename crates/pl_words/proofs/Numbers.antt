-- A number with more digits is no smaller.
use Rattle.std.proofs.Common.{◌≡◌, ℕ, suc, ◌≤◌, ◌<◌, ◌^◌, List, [], ◌∷◌, length, drop, get_or, ap, sym, ◌∙◌, arith}
use Rattle.std.proofs.Math.Seq.{drop-cons}
use Rattle.pl_words.specs.Words.{digit_onto, number_onto}

pub grows : (n : ℕ) (cs : List ℕ) → n ≤ number_onto n cs
grows n [] = omega arith
grows n (c ∷ cs) = let more : digit_onto n c ≤ number_onto (digit_onto n c) cs = grows (digit_onto n c) cs in omega arith

-- where the digits so far are too many, all are
pub too_many : (n i : ℕ) (word : List ℕ) → i < length word → (digit_onto n (get_or word i 0) < 2 ^ 64 → ⊥) → number_onto n (drop i word) ≡ number_onto 0 word → number_onto 0 word < 2 ^ 64 → ⊥
too_many n i word within many same few =
    let all : number_onto (digit_onto n (get_or word i 0)) (drop (suc i) word) ≡ number_onto 0 word = sym (ap (number_onto n) (drop-cons word i 0 within)) ∙ same in
    let more : digit_onto n (get_or word i 0) ≤ number_onto (digit_onto n (get_or word i 0)) (drop (suc i) word) = grows (digit_onto n (get_or word i 0)) (drop (suc i) word) in
    many (omega arith)
