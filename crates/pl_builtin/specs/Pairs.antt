-- What `idivide` and the functions of bits answer.
use Rattle.std.specs.Prelude.{ℤ, pos, negsuc, int_lt, Bool, ◌||◌, Result, Ok, Err, if◌then◌else◌}
use Rattle.std.specs.List.{list_any}
use Rattle.pl_base.specs.declared.mode.Mode.{Mode}
use Rattle.pl_base.specs.declared.errors.ErrKind.{ErrKind}
use Rattle.pl_base.specs.declared.errors.ErrKind.TheVariants.{ArgRange, Overflow}
use Rattle.pl_array.specs.declared.class.Class.TheVariants.{Int}
use Rattle.pl_array.specs.declared.class.Shape.{Shape}
use Rattle.pl_array.specs.Arrays.{Array}
use Rattle.pl_array.specs.Cellwise.{fitted, shape_of, sized, some_cell, each_cell}
use Rattle.pl_builtin.specs.declared.rules.Bits.{Bits}
use Rattle.pl_builtin.specs.declared.rules.Bits.TheVariants.{Shift}
use Rattle.pl_builtin.specs.declared.rules.Rule.{Rule}
use Rattle.pl_builtin.specs.declared.rules.Rule.TheVariants.{Combine}
use Rattle.pl_builtin.specs.Rules.{number, overflows}

-- the answer for operands that fit this shape
abbrev pub paired : Mode → Rule → Array → Array → Shape → Result Array ErrKind
paired mode rule a b s =
    if some_cell (overflows mode rule) a b s then Err Overflow else
    Ok (record { class = Int; rows = s.rows; cols = s.cols; cells = each_cell (number rule) a b s })

-- a rule on two arrays
abbrev pub pairs_of : Mode → Rule → Array → Array → Result Array ErrKind
pairs_of mode rule a b = sized (fitted (shape_of a) (shape_of b)) (paired mode rule a b)

-- a number below zero has no bits
abbrev pub is_negative : ℤ → Bool
is_negative z = int_lt z (pos 0)

-- a shift is by -63 to 63
abbrev pub is_far : ℤ → Bool
is_far z = int_lt z (negsuc 62) || int_lt (pos 63) z

-- a number that may not stand on the right
abbrev pub is_no_right : Bits → ℤ → Bool
is_no_right Shift z = is_far z
is_no_right bits z = is_negative z

-- the functions of bits
abbrev pub bits_of : Mode → Bits → Array → Array → Result Array ErrKind
bits_of mode bits a b =
    if list_any is_negative a.cells || list_any (is_no_right bits) b.cells then Err ArgRange else
    pairs_of mode (Combine bits) a b
