-- The numbers of the language: the exact result of each operation, which is then clamped.
use Rattle.std.specs.Prelude.{ℕ, zero, suc, ◌+◌, ◌-◌, ◌*◌, ◌/◌, ◌^◌, ℤ, pos, negsuc, neg_ℤ, int_rem}
use Rattle.std.specs.Int.{saturate_signed, w64, int_rem_euclid}

-- the number from -2^63 to 2^63 - 1 that lies nearest
abbrev pub clamp : ℤ → ℤ
clamp z = saturate_signed w64 z

-- the greatest and the least number
abbrev pub greatest : ℤ
greatest = pos (2 ^ 63 - 1)

abbrev pub least : ℤ
least = negsuc (2 ^ 63 - 1)

-- m / n to the nearest whole number, a tie upwards
abbrev pub nearest : ℕ → ℕ → ℕ
nearest m n = (2 * m + n) / (2 * n)

-- x / y to the nearest whole number, a tie away from zero; by 0 the greatest number, the least, or 0 where x is 0
abbrev pub quotient : ℤ → ℤ → ℤ
quotient (pos zero) (pos zero) = pos 0
quotient (pos (suc m)) (pos zero) = greatest
quotient (negsuc m) (pos zero) = least
quotient (pos m) (pos (suc n)) = pos (nearest m (suc n))
quotient (pos m) (negsuc n) = neg_ℤ (pos (nearest m (suc n)))
quotient (negsuc m) (pos (suc n)) = neg_ℤ (pos (nearest (suc m) (suc n)))
quotient (negsuc m) (negsuc n) = pos (nearest (suc m) (suc n))

-- what is left of x, from 0 to below y; where y is negative the mirror image; by 0 it is x
abbrev pub modulo : ℤ → ℤ → ℤ
modulo x (pos zero) = x
modulo x (pos (suc n)) = int_rem_euclid x (pos (suc n))
modulo x (negsuc n) = neg_ℤ (int_rem_euclid (neg_ℤ x) (pos (suc n)))

-- what is left of x by division towards zero; by 0 it is 0
abbrev pub remainder : ℤ → ℤ → ℤ
remainder x (pos zero) = pos 0
remainder x (pos (suc n)) = int_rem x (pos (suc n))
remainder x (negsuc n) = int_rem x (negsuc n)
