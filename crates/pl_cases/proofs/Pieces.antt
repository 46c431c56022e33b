-- The pieces of a list whose first bytes were read.
use Rattle.std.proofs.Common.{◌≡◌, ℕ, List, [], ◌∷◌, ◌++◌, refl, ap, append_assoc, append-nil}
use Rattle.std.specs.List.{onto_first}

-- these bytes before the first of the pieces
abbrev pub behind : List ℕ → List (List ℕ) → List (List ℕ)
behind [] pieces = pieces
behind (b ∷ bs) [] = (b ∷ bs) ∷ []
behind (b ∷ bs) (piece ∷ pieces) = ((b ∷ bs) ++ piece) ∷ pieces

-- a byte more
pub behind_more : (front : List ℕ) (b : ℕ) (pieces : List (List ℕ)) → behind (front ++ b ∷ []) pieces ≡ behind front (onto_first b pieces)
behind_more [] b [] = refl
behind_more [] b (piece ∷ pieces) = refl
behind_more (a ∷ front) b [] = refl
behind_more (a ∷ front) b (piece ∷ pieces) = ap (λ (bs : List ℕ). (a ∷ bs) ∷ pieces) (append_assoc front (b ∷ []) piece)

-- the piece is whole
pub behind_whole : (front : List ℕ) (pieces : List (List ℕ)) → behind front ([] ∷ pieces) ≡ front ∷ pieces
behind_whole [] pieces = refl
behind_whole (a ∷ front) pieces = ap (λ (bs : List ℕ). (a ∷ bs) ∷ pieces) (append-nil front)
