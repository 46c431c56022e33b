-- The numbers that `idivide` and the functions of bits make of two numbers.
use Rattle.std.specs.Prelude.{ℕ, suc, ◌*◌, ◌/◌, ◌^◌, ℤ, pos, negsuc, neg_ℤ, unsigned_abs, int_lt, Bool, true, false, not, ◌||◌, bit_and, bit_or, bit_xor, if◌then◌else◌}
use Rattle.std.specs.Int.{div_ceil}
use Rattle.std.specs.Ordering.{int_eq}
use Rattle.pl_base.specs.Numbers.{clamp, quotient}
use Rattle.pl_base.specs.declared.mode.Mode.{Mode}
use Rattle.pl_base.specs.declared.mode.Mode.TheVariants.{Saturate, Strict}
use Rattle.pl_builtin.specs.declared.rules.Rounding.{Rounding}
use Rattle.pl_builtin.specs.declared.rules.Rounding.TheVariants.{Fix, Floor, Ceil, Round}
use Rattle.pl_builtin.specs.declared.rules.Bits.{Bits}
use Rattle.pl_builtin.specs.declared.rules.Bits.TheVariants.{And, Or, Xor, Shift}
use Rattle.pl_builtin.specs.declared.rules.Rule.{Rule}
use Rattle.pl_builtin.specs.declared.rules.Rule.TheVariants.{Divide, Combine}

-- the quotient's size, rounded down
abbrev pub down : ℤ → ℤ → ℕ
down x y = unsigned_abs x / unsigned_abs y

-- and rounded up
abbrev pub up : ℤ → ℤ → ℕ
up x y = div_ceil (unsigned_abs x) (unsigned_abs y)

-- one of the two is below zero, and the other one isn't
abbrev pub differ : Bool → Bool → Bool
differ true b = not b
differ false b = b

-- the quotient with this size where it isn't below zero, and with that one where it is; by 0 it is that of `/`
abbrev pub sized_quotient : ℤ → ℤ → ℕ → ℕ → ℤ
sized_quotient x y above below =
    if int_eq y (pos 0) then quotient x y else
    (if differ (int_lt x (pos 0)) (int_lt y (pos 0)) then neg_ℤ (pos below) else pos above)

-- x / y, rounded towards zero, down, up, or to the nearest
abbrev pub divided : Rounding → ℤ → ℤ → ℤ
divided Fix x y = sized_quotient x y (down x y) (down x y)
divided Floor x y = sized_quotient x y (down x y) (up x y)
divided Ceil x y = sized_quotient x y (up x y) (down x y)
divided Round x y = quotient x y

-- x times 2 ^ y; where y is below zero the quotient, rounded down
abbrev pub shifted : ℕ → ℤ → ℕ
shifted x (pos y) = x * 2 ^ y
shifted x (negsuc y) = x / 2 ^ suc y

-- the exact result for the bits of x and y, which aren't below zero but for the count of a shift
abbrev pub combined_bits : Bits → ℤ → ℤ → ℕ
combined_bits And x y = bit_and (unsigned_abs x) (unsigned_abs y)
combined_bits Or x y = bit_or (unsigned_abs x) (unsigned_abs y)
combined_bits Xor x y = bit_xor (unsigned_abs x) (unsigned_abs y)
combined_bits Shift x y = shifted (unsigned_abs x) y

-- the exact result
abbrev pub exact : Rule → ℤ → ℤ → ℤ
exact (Divide rounding) x y = divided rounding x y
exact (Combine bits) x y = pos (combined_bits bits x y)

-- the number of a cell
abbrev pub number : Rule → ℤ → ℤ → ℤ
number rule x y = clamp (exact rule x y)

-- a division by 0
abbrev pub by_zero : Rule → ℤ → Bool
by_zero (Divide rounding) y = int_eq y (pos 0)
by_zero (Combine bits) y = false

-- in the strict mode a cell overflows where the clamp changes the exact result, or by a division by 0
abbrev pub overflows : Mode → Rule → ℤ → ℤ → Bool
overflows Saturate rule x y = false
overflows Strict rule x y = by_zero rule y || not (int_eq (number rule x y) (exact rule x y))
