-- Powers that are no 64-bit numbers, and the powers of 0, 1 and -1.
use Rattle.std.proofs.Common.{◌≡◌, ◌≢◌, ℕ, zero, suc, ◌%◌, ◌^◌, ◌<◌, ◌≤◌, ◌==◌, ℤ, pos, negsuc, neg_ℤ, Bool, true, false, cond, FitsSigned, w64, refl, ap, ◌∙◌, arith, le_trans, pow_mono, pow-suc, mul-zero}
use Rattle.std.proofs.Math.Nat.{mul-one, pow-le-pow_left}
use Rattle.std.specs.Int.{int_pow}

pow_of_zero : (e : ℕ) → 0 < e → 0 ^ e ≡ 0
pow_of_zero zero h = absurd (omega arith)
pow_of_zero (suc e) h = pow-suc 0 e ∙ mul-zero (0 ^ e)

pow_of_one : (e : ℕ) → 1 ^ e ≡ 1
pow_of_one zero = refl
pow_of_one (suc e) = pow-suc 1 e ∙ mul-one (1 ^ e) ∙ pow_of_one e

pow_large : (n e : ℕ) → 64 ≤ e → 2 ^ 64 ≤ suc (suc n) ^ e
pow_large n e h =
    let two : 2 ≤ suc (suc n) = omega arith in
    le_trans (pow_mono h) (pow-le-pow_left two e)

too_large : (b : Bool) (m : ℕ) → 2 ^ 64 ≤ m → FitsSigned w64 (cond b (pos m) (neg_ℤ (pos m))) → ⊥
too_large true m h f = omega (arith, f.sfits)
too_large false zero h f = omega arith
too_large false (suc m) h f = omega (arith, f.sfits)

-- a large power of any other number is past the 64-bit numbers
pub power_too_large : (a : ℤ) (e : ℕ) → 64 ≤ e → a ≢ pos 0 → a ≢ pos 1 → a ≢ negsuc 0 → FitsSigned w64 (int_pow a e) → ⊥
power_too_large (pos zero) e h p q r f = p refl
power_too_large (pos (suc zero)) e h p q r f = q refl
power_too_large (pos (suc (suc n))) e h p q r f = omega (arith, f.sfits, pow_large n e h)
power_too_large (negsuc zero) e h p q r f = r refl
power_too_large (negsuc (suc n)) e h p q r f = too_large (e % 2 == 0) (suc (suc n) ^ e) (pow_large n e h) f

pub power_of_zero : (e : ℕ) → 64 ≤ e → int_pow (pos 0) e ≡ pos 0
power_of_zero e h = ap pos (pow_of_zero e (omega arith))

pub power_of_one : (e : ℕ) → int_pow (pos 1) e ≡ pos 1
power_of_one e = ap pos (pow_of_one e)

pub even_power : (e : ℕ) → e % 2 ≡ 0 → int_pow (negsuc 0) e ≡ pos 1
even_power e h = rw h (ap pos (pow_of_one e))

pub odd_power : (e : ℕ) → e % 2 ≢ 0 → int_pow (negsuc 0) e ≡ negsuc 0
odd_power e h =
    let one : e % 2 ≡ 1 = omega arith in
    rw one (ap (λ (m : ℕ). neg_ℤ (pos m)) (pow_of_one e))
