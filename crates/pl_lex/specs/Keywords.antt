-- The keywords.
use Rattle.std.specs.Prelude.{ℕ, Bool, List, [], ◌∷◌, codes, nat_eq}
use Rattle.std.specs.List.{list_any}
use Rattle.std.specs.Cmp.Lexicographic.{pointwise}

-- the words that are no names
abbrev pub keywords : List (List ℕ)
keywords =
    codes "break" ∷ codes "case" ∷ codes "catch" ∷ codes "classdef" ∷ codes "continue" ∷ codes "else" ∷ codes "elseif" ∷ codes "end" ∷ codes "for" ∷ codes "function" ∷ codes "global" ∷ codes "if" ∷ codes "otherwise" ∷ codes "parfor" ∷ codes "persistent" ∷ codes "return" ∷ codes "spmd" ∷ codes "switch" ∷ codes "try" ∷ codes "while" ∷ []

-- the two words are one
abbrev pub same : List ℕ → List ℕ → Bool
same a b = pointwise nat_eq a b

-- the word is among the keywords
unfoldable pub is_keyword : List ℕ → Bool
is_keyword word = list_any (λ k. same k word) keywords

-- the word is `end`
unfoldable pub is_end : List ℕ → Bool
is_end word = same (codes "end") word
