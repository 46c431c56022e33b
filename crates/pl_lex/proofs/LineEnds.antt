-- How far a line goes, one byte after another.
use Rattle.std.proofs.Common.{◌≡◌, ℕ, ◌+◌, ◌-◌, ◌<◌, suc, zero, List, [], ◌∷◌, length, drop, take, false, refl, arith, add-one}
use Rattle.std.proofs.lemmas.List.{take_rest}
use Rattle.pl_lex.specs.Bytes.{at_line_end, to_line_end}

-- a byte at which no line ends is one more of the line
pub to_line_end-suc : (t : List ℕ) (i : ℕ) → i < length t → at_line_end (drop i t) ≡ false → to_line_end (drop i t) ≡ 1 + to_line_end (drop (suc i) t)
to_line_end-suc [] i h e = absurd (omega arith)
to_line_end-suc (c ∷ cs) zero h e = rw e refl
to_line_end-suc (c ∷ cs) (suc i) h e = to_line_end-suc cs i (omega arith) e

-- the same with the slice that the code looks at
pub to_line_end_more : (t : List ℕ) (i : ℕ) → i < length t → at_line_end (take (length t - i) (drop i t)) ≡ false → i + 1 + to_line_end (drop (i + 1) t) ≡ i + to_line_end (drop i t)
to_line_end_more t i h e = let k : at_line_end (drop i t) ≡ false = rw take_rest at e in rw add-one (omega (arith, to_line_end-suc t i h k))
