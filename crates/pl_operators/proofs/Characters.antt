-- Bytes are characters, and a text that is short enough is all of its first bytes.
use Rattle.std.proofs.Common.{◌≡◌, ℕ, ◌<◌, ◌≤◌, pos, List, map, length, take, get_or, All, arith, sym}
use Rattle.std.proofs.lemmas.List.{take_all, get_or_default}
use Rattle.std.proofs.lemmas.List.Elements.{All-map}
use Rattle.std.proofs.lemmas.Int.{ints}
use Rattle.pl_array.specs.declared.class.Class.TheVariants.{Char}
use Rattle.pl_array.specs.Arrays.{IsCell}

pub all_bytes : (n : ℕ) (bytes : List ℕ) → length bytes ≤ n → bytes ≡ take n bytes
all_bytes n bytes few = sym (take_all n bytes few)

is_cell : (b : ℕ) → b < 256 → IsCell Char (pos b)
is_cell b small = (omega (arith, ints), omega (arith, ints))

pub are_cells : (xs : List ℕ) → ((i : ℕ) → get_or xs i 0 < 256) → All (IsCell Char) (map (λ b. pos b) xs)
are_cells xs bytes = All-map (IsCell Char) (λ b. pos b) xs (λ k d within. is_cell (get_or xs k d) (let same : get_or xs k d ≡ get_or xs k 0 = get_or_default xs k d 0 within in omega (arith, bytes k)))
