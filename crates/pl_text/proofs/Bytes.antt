-- Bytes are cells of characters.
use Rattle.std.proofs.Common.{◌≡◌, ℕ, zero, suc, ℤ, pos, ◌≤ℤ◌, ◌<◌, ◌≤◌, List, [], ◌∷◌, map, All, arith, get_or, length, subst, ◌++◌}
use Rattle.std.proofs.lemmas.List.{get_or_default}
use Rattle.std.proofs.lemmas.List.Elements.{All-map, All-append}
use Rattle.std.proofs.lemmas.Int.{ints}
use Rattle.pl_array.specs.declared.class.Class.TheVariants.{Char}
use Rattle.pl_array.specs.Arrays.{IsCell}

is_cell : (b : ℕ) → b < 256 → IsCell Char (pos b)
is_cell b small = (omega (arith, ints), omega (arith, ints))

pub are_cells : (xs : List ℕ) → ((i : ℕ) → get_or xs i 0 < 256) → All (IsCell Char) (map (λ b. pos b) xs)
are_cells xs bytes = All-map (IsCell Char) (λ b. pos b) xs (λ k d within. is_cell (get_or xs k d) (let same : get_or xs k d ≡ get_or xs k 0 = get_or_default xs k d 0 within in omega (arith, bytes k)))

single : (P : ℤ → Type 0) (z : ℤ) → P z → All P (z ∷ [])
single P z here zero d within = here
single P z here (suc k) d within = absurd (omega (arith, within))

pub cells_more : (xs : List ℤ) (b : ℕ) → All (IsCell Char) xs → b < 256 → All (IsCell Char) (xs ++ pos b ∷ [])
cells_more xs b all small = All-append (IsCell Char) xs (pos b ∷ []) all (single (IsCell Char) (pos b) (is_cell b small))
