-- The number of some digits only grows with more of them.
use Rattle.std.proofs.Common.{◌≡◌, ℕ, suc, zero, ◌+◌, ◌*◌, ◌-◌, ◌≤◌, ◌<◌, false, List, [], ◌∷◌, length, drop, get_or, arith}
use Rattle.std.proofs.lemmas.Bool.{lt-leb}
use Rattle.pl_lex.specs.Pieces.{number_from, in_range}

pub number_from_grows : (n : ℕ) (ds : List ℕ) → n ≤ number_from n ds
number_from_grows n [] = omega arith
number_from_grows n (d ∷ ds) = omega (arith, number_from_grows (n * 10 + (d - 48)) ds)

number_from_at : (n : ℕ) (t : List ℕ) (i : ℕ) → i < length t → n * 10 + (get_or t i 0 - 48) ≤ number_from n (drop i t)
number_from_at n [] i h = absurd (omega arith)
number_from_at n (d ∷ ds) zero h = number_from_grows (n * 10 + (d - 48)) ds
number_from_at n (d ∷ ds) (suc i) h = number_from_at n ds i (omega arith)

-- digits that pass the bound are out of range, whatever follows
pub out_of_range : (n : ℕ) (t : List ℕ) (i : ℕ) → i < length t → number_from n (drop i t) ≡ number_from 0 t → 9223372036854775807 < n * 10 + (get_or t i 0 - 48) → in_range t ≡ false
out_of_range n t i h e over = lt-leb (number_from 0 t) 9223372036854775807 (omega (arith, number_from_at n t i h))
