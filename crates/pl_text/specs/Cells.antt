-- Cells as text.
use Rattle.std.specs.Prelude.{ℕ, zero, suc, ◌-◌, ℤ, pos, negsuc, nat_lt, if◌then◌else◌, List, [], ◌∷◌, ◌++◌, length, fold, max, replicate}
use Rattle.std.specs.Fmt.{signed_decimal}

-- what f makes of each number below n, one after another
abbrev pub each : (ℕ → List ℕ) → ℕ → List ℕ
each f zero = []
each f (suc n) = each f n ++ f n

-- the byte of a cell of characters
abbrev pub byte_of : ℤ → ℕ
byte_of (pos n) = if nat_lt n 256 then n else 0
byte_of (negsuc n) = 0

-- how many bytes the longest decimal has
abbrev pub width_of : List ℤ → ℕ
width_of cells = fold (λ w z. max w (length (signed_decimal z))) 0 cells

-- a text set right in a field
abbrev pub set_right : ℕ → List ℕ → List ℕ
set_right width text = replicate (width - length text) 32 ++ text

-- a gap stands before each cell but the first
abbrev pub gap : List ℕ → ℕ → List ℕ
gap between zero = []
gap between (suc c) = between
