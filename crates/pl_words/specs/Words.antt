-- When two words are the same, and which number a word writes in decimal.
use Rattle.std.specs.Prelude.{ℕ, ◌+◌, ◌-◌, ◌*◌, nat_le, Bool, true, false, not, ◌&&◌, if◌then◌else◌, Option, Some, None, List, [], ◌∷◌, nat_eq}
use Rattle.std.specs.List.{list_all}
use Rattle.std.specs.Cmp.Lexicographic.{pointwise}

abbrev pub same : List ℕ → List ℕ → Bool
same a b = pointwise nat_eq a b

abbrev pub is_empty : List ℕ → Bool
is_empty [] = true
is_empty (c ∷ cs) = false

abbrev pub is_digit : ℕ → Bool
is_digit c = nat_le 48 c && nat_le c 57

-- one digit or more, and nothing else
abbrev pub is_number : List ℕ → Bool
is_number word = not (is_empty word) && list_all is_digit word

-- the number of which the digits so far are n, when these digits follow
abbrev pub digit_onto : ℕ → ℕ → ℕ
digit_onto n c = n * 10 + (c - 48)

abbrev pub number_onto : ℕ → List ℕ → ℕ
number_onto n [] = n
number_onto n (c ∷ cs) = number_onto (digit_onto n c) cs

abbrev pub within : ℕ → ℕ → ℕ → Option ℕ
within least most n = if nat_le least n && nat_le n most then Some n else None

-- the number that a word writes, where it writes one of this range
abbrev pub number_within : ℕ → ℕ → List ℕ → Option ℕ
number_within least most word = if is_number word then within least most (number_onto 0 word) else None
