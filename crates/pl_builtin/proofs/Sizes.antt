-- Shifts by 64 and more, and quotients of numbers that aren't the least.
use Rattle.std.proofs.Common.{◌≡◌, ◌≢◌, ℕ, zero, suc, ◌+◌, ◌-◌, ◌*◌, ◌/◌, ◌^◌, ◌<◌, ◌≤◌, ℤ, pos, negsuc, neg_ℤ, unsigned_abs, int_lt, bit_or, min, Bool, true, false, refl, sym, arith, pow_mono, cond}
use Rattle.std.specs.Int.{div_ceil}
use Rattle.std.specs.Ordering.{int_eq}
use Rattle.std.proofs.lemmas.Int.{ints}
use Rattle.std.proofs.lemmas.Nat.{or_lt}
use Rattle.std.proofs.Math.Nat.{div-le_self, div-eq_of_lt, div-lt_iff_lt-mul}
use Rattle.pl_base.specs.Numbers.{clamp, nearest, quotient}
use Rattle.pl_builtin.specs.declared.rules.Rounding.{Rounding}
use Rattle.pl_builtin.specs.declared.rules.Rounding.TheVariants.{Fix, Floor, Ceil, Round}
use Rattle.pl_builtin.specs.Rules.{down, up, differ, divided, sized_quotient}

pub large_power : (k : ℕ) → 64 ≤ k → 2 ^ 64 ≤ 2 ^ k
large_power k h = pow_mono h

-- what is shifted down by 64 bits is gone
pub nothing_left : (m k : ℕ) → m < 2 ^ 64 → 64 ≤ k → 0 ≡ m / 2 ^ k
nothing_left m k h far =
    let below : m < 2 ^ k = omega (arith, large_power k far) in
    sym (div-eq_of_lt below)

-- what is shifted up by 64 bits is past them
pub past_all : (m k : ℕ) → m ≢ 0 → 64 ≤ k → 2 ^ 64 - 1 ≡ min (m * 2 ^ k) (2 ^ 64 - 1)
past_all zero k some far = absurd (some refl)
past_all (suc m) k some far = omega (arith, large_power k far)

ceil_below : (m n : ℕ) → 0 < n → div_ceil m n ≤ m
ceil_below m zero h = absurd (omega arith)
ceil_below m (suc n) h = omega arith

nearest_below : (m n : ℕ) → nearest m (suc n) ≤ m
nearest_below m n =
    let wide : 0 < 2 * suc n = omega arith in
    let within : (2 * m + suc n) / (2 * suc n) < suc m = (div-lt_iff_lt-mul wide).1 (omega arith) in
    omega arith

-- sizes below 2^63 aren't changed by the clamp
above_kept : (n : ℕ) → n < 2 ^ 63 → int_eq (clamp (pos n)) (pos n) ≡ true
above_kept n h = grind (arith, ints)

below_kept : (n : ℕ) → n < 2 ^ 63 → int_eq (clamp (neg_ℤ (pos n))) (neg_ℤ (pos n)) ≡ true
below_kept zero h = refl
below_kept (suc n) h = grind (arith, ints)

not_zero : (y : ℤ) → (y ≡ pos 0 → ⊥) → int_eq y (pos 0) ≡ false
not_zero y some = grind (arith, ints)

one_kept : (z d : Bool) (q : ℤ) (a b : ℕ) → z ≡ false → a < 2 ^ 63 → b < 2 ^ 63 → int_eq (clamp (cond z q (cond d (neg_ℤ (pos b)) (pos a)))) (cond z q (cond d (neg_ℤ (pos b)) (pos a))) ≡ true
one_kept true d q a b e la lb = absurd (cc)
one_kept false true q a b e la lb = below_kept b lb
one_kept false false q a b e la lb = above_kept a la

-- nor is the quotient of such sizes
sized_kept : (x y : ℤ) (a b : ℕ) → (y ≡ pos 0 → ⊥) → a < 2 ^ 63 → b < 2 ^ 63 → int_eq (clamp (sized_quotient x y a b)) (sized_quotient x y a b) ≡ true
sized_kept x y a b some la lb = one_kept (int_eq y (pos 0)) (differ (int_lt x (pos 0)) (int_lt y (pos 0))) (quotient x y) a b (not_zero y some) la lb

quotient_kept : (x y : ℤ) → (y ≡ pos 0 → ⊥) → unsigned_abs x < 2 ^ 63 → int_eq (clamp (quotient x y)) (quotient x y) ≡ true
quotient_kept (pos m) (pos zero) some h = absurd (some refl)
quotient_kept (negsuc m) (pos zero) some h = absurd (some refl)
quotient_kept (pos m) (pos (suc n)) some h = above_kept (nearest m (suc n)) (omega (arith, nearest_below m n))
quotient_kept (pos m) (negsuc n) some h = below_kept (nearest m (suc n)) (omega (arith, nearest_below m n))
quotient_kept (negsuc m) (pos (suc n)) some h = below_kept (nearest (suc m) (suc n)) (omega (arith, nearest_below (suc m) n))
quotient_kept (negsuc m) (negsuc n) some h = above_kept (nearest (suc m) (suc n)) (omega (arith, nearest_below (suc m) n))

some_size : (y : ℤ) → (y ≡ pos 0 → ⊥) → 0 < unsigned_abs y
some_size (pos zero) some = absurd (some refl)
some_size (pos (suc n)) some = omega arith
some_size (negsuc n) some = omega arith

down_small : (x y : ℤ) → unsigned_abs x < 2 ^ 63 → down x y < 2 ^ 63
down_small x y h = omega (arith, div-le_self (unsigned_abs x) (unsigned_abs y))

up_small : (x y : ℤ) → (y ≡ pos 0 → ⊥) → unsigned_abs x < 2 ^ 63 → up x y < 2 ^ 63
up_small x y some h = omega (arith, ceil_below (unsigned_abs x) (unsigned_abs y) (some_size y some))

-- without the least number no quotient is past the 64-bit numbers
pub quotient_within : (rounding : Rounding) (x y : ℤ) → (y ≡ pos 0 → ⊥) → unsigned_abs x < 2 ^ 63 → int_eq (clamp (divided rounding x y)) (divided rounding x y) ≡ true
quotient_within Fix x y some h = sized_kept x y (down x y) (down x y) some (down_small x y h) (down_small x y h)
quotient_within Floor x y some h = sized_kept x y (down x y) (up x y) some (down_small x y h) (up_small x y some h)
quotient_within Ceil x y some h = sized_kept x y (up x y) (down x y) some (up_small x y some h) (down_small x y h)
quotient_within Round x y some h = quotient_kept x y some h

pub or_within : (m n : ℕ) → m < 2 ^ 64 → n < 2 ^ 64 → bit_or m n < 2 ^ 64
or_within m n h k = or_lt 64 m n h k
