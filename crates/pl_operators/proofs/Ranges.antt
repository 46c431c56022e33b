-- How many numbers a range has, and that each is a 64-bit number.
use Rattle.std.proofs.Common.{◌≡◌, ℕ, zero, suc, ◌+◌, ◌*◌, ◌/◌, ◌<◌, ◌≤◌, ℤ, pos, negsuc, neg_ℤ, ◌+ℤ◌, ◌-ℤ◌, ◌*ℤ◌, ◌<ℤ◌, ◌≤ℤ◌, Bool, true, false, cond, List, ◌++◌, ◌∷◌, [], FitsSigned, w64, refl, ap, sym, subst, ◌∙◌, arith}
use Rattle.std.specs.Prelude.{unsigned_abs, int_lt}
use Rattle.std.proofs.lemmas.Int.{ints}
use Rattle.std.proofs.Math.Nat.{div-mul-le_self}
use Rattle.std.proofs.Math.IntN.{pos-*ℤ-pos, negsuc-*ℤ-pos}
use Rattle.std.proofs.lemmas.Nat.{mul-le}
use Rattle.std.proofs.lemmas.List.FromFn.{map-range_with_len_more}
use Rattle.pl_base.specs.Numbers.{clamp}
use Rattle.pl_operators.specs.Ranging.{steps_up, range_count, range_cells}

pub count_none : (first step last : ℤ) → step ≡ pos 0 → range_count first step last ≡ 0
count_none first step last is = rw is refl

pub count_more : (first step last : ℤ) → pos 0 <ℤ step → range_count first step last ≡ steps_up first (unsigned_abs step) last
count_more first (pos zero) last above = absurd (omega (arith, ints, above))
count_more first (pos (suc s)) last above = refl
count_more first (negsuc s) last above = absurd (omega (arith, ints, above))

pub count_less : (first step last : ℤ) → step <ℤ pos 0 → range_count first step last ≡ steps_up last (unsigned_abs step) first
count_less first (pos s) last below = absurd (omega (arith, ints, below))
count_less first (negsuc s) last below = refl

pub fits_clamp : (z : ℤ) → FitsSigned w64 z → clamp z ≡ z
fits_clamp (pos n) f = ap pos (omega (arith, f.sfits))
fits_clamp (negsuc n) f = ap negsuc (omega (arith, f.sfits))

within_fits : (low z high : ℤ) → FitsSigned w64 low → FitsSigned w64 high → low ≤ℤ z → z ≤ℤ high → FitsSigned w64 z
within_fits low z high fl fh above below = omega (arith, ints, fl, fh, above, below)

from_below : (first last : ℤ) (m : ℕ) → int_lt last first ≡ false → m ≤ unsigned_abs (last -ℤ first) → (first +ℤ pos m) ≤ℤ last
from_below first last m up few = omega (arith, ints, up, few)

steps_fit : (size d k : ℕ) → k < d / size + 1 → size * k ≤ d
steps_fit size d k few = omega (arith, mul-le k size (d / size) size (omega (arith, few)) (omega arith), div-mul-le_self d size)

up_fits : (low high : ℤ) (size k : ℕ) (b : Bool) → int_lt high low ≡ b → FitsSigned w64 low → FitsSigned w64 high → k < cond b 0 (unsigned_abs (high -ℤ low) / size + 1) → FitsSigned w64 (low +ℤ pos (size * k))
up_fits low high size k true e fl fh few = absurd (omega (arith, few))
up_fits low high size k false e fl fh few =
    within_fits low (low +ℤ pos (size * k)) high fl fh (omega (arith, ints)) (from_below low high (size * k) e (steps_fit size (unsigned_abs (high -ℤ low)) k few))

down_fits : (low high : ℤ) (size k : ℕ) (b : Bool) → int_lt high low ≡ b → FitsSigned w64 low → FitsSigned w64 high → k < cond b 0 (unsigned_abs (high -ℤ low) / size + 1) → FitsSigned w64 (high +ℤ neg_ℤ (pos (size * k)))
down_fits low high size k true e fl fh few = absurd (omega (arith, few))
down_fits low high size k false e fl fh few =
    let m = steps_fit size (unsigned_abs (high -ℤ low)) k few in
    within_fits low (high +ℤ neg_ℤ (pos (size * k))) high fl fh (omega (arith, ints, e, m)) (omega (arith, ints))

-- each number of a range is a 64-bit number
pub range_fits : (first step last : ℤ) (k : ℕ) → FitsSigned w64 first → FitsSigned w64 last → k < range_count first step last → FitsSigned w64 (first +ℤ step *ℤ pos k)
range_fits first (pos zero) last k ff fl few = absurd (omega (arith, few))
range_fits first (pos (suc s)) last k ff fl few = subst (λ (z : ℤ). FitsSigned w64 (first +ℤ z)) (sym (pos-*ℤ-pos (suc s) k)) (up_fits first last (suc s) k (int_lt last first) refl ff fl few)
range_fits first (negsuc s) last k ff fl few = subst (λ (z : ℤ). FitsSigned w64 (first +ℤ z)) (sym (negsuc-*ℤ-pos s k)) (down_fits last first (suc s) k (int_lt first last) refl fl ff few)

next_number : (first step : ℤ) (k : ℕ) → first +ℤ step *ℤ pos k +ℤ step ≡ first +ℤ step *ℤ pos (k + 1)
next_number first (pos s) k = rw (pos-*ℤ-pos s k, pos-*ℤ-pos s (k + 1)) (omega (arith, ints))
next_number first (negsuc s) k = rw (negsuc-*ℤ-pos s k, negsuc-*ℤ-pos s (k + 1)) (omega (arith, ints))

-- the next number, where it is one of the range
pub next_clamped : (first step next : ℤ) (k : ℕ) → next ≡ first +ℤ step *ℤ pos k → FitsSigned w64 (first +ℤ step *ℤ pos (k + 1)) → clamp (next +ℤ step) ≡ first +ℤ step *ℤ pos (k + 1)
next_clamped first step next k is fits =
    ap (λ (z : ℤ). clamp (z +ℤ step)) is ∙ ap clamp (next_number first step k) ∙ fits_clamp (first +ℤ step *ℤ pos (k + 1)) fits

pub cells_more : (first step : ℤ) (cells : List ℤ) (next : ℤ) (k : ℕ) → cells ≡ range_cells first step k → next ≡ first +ℤ step *ℤ pos k → cells ++ next ∷ [] ≡ range_cells first step (k + 1)
cells_more first step cells next k are is =
    (λ i. are i ++ is i ∷ []) ∙ sym (map-range_with_len_more (λ k. first +ℤ step *ℤ pos k) 0 k k (omega arith))
