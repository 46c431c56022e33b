-- What the elementwise operators answer: the shapes' refusals, then those of the cells, then a number for each cell.
use Rattle.std.specs.Prelude.{◌≡◌, ℕ, ◌*◌, ◌/◌, ◌%◌, ◌==◌, ℤ, pos, ◌+ℤ◌, ◌-ℤ◌, ◌*ℤ◌, neg_ℤ, unsigned_abs, int_lt, Bool, true, false, not, ◌&&◌, ◌||◌, ◌≤◌, List, [], ◌∷◌, map, Option, Some, None, Result, Ok, Err, if◌then◌else◌, nat_le}
use Rattle.std.specs.Int.{int_pow, int_min, int_max, int_signum}
use Rattle.std.specs.List.{range_with_len, list_any}
use Rattle.std.specs.Ordering.{int_eq}
use Rattle.pl_base.specs.Numbers.{clamp, quotient, modulo, remainder}
use Rattle.pl_base.specs.declared.mode.Mode.{Mode}
use Rattle.pl_base.specs.declared.mode.Mode.TheVariants.{Saturate, Strict}
use Rattle.pl_base.specs.declared.errors.ErrKind.{ErrKind}
use Rattle.pl_base.specs.declared.errors.ErrKind.TheVariants.{SizeMismatch, SizeLimit, NegativePower, Overflow}
use Rattle.pl_array.specs.declared.class.Class.{Class}
use Rattle.pl_array.specs.declared.class.Class.TheVariants.{Logical, Int}
use Rattle.pl_array.specs.declared.class.Shape.{Shape}
use Rattle.pl_array.specs.declared.ops.Op1.{Op1}
use Rattle.pl_array.specs.declared.ops.Op1.TheVariants.{Neg, Not, Abs, Sign}
use Rattle.pl_array.specs.declared.ops.Op2.{Op2}
use Rattle.pl_array.specs.declared.ops.Op2.TheVariants.{Add, Sub, Mul, Div, Pow, Mod, Rem, Min, Max, Lt, Le, Gt, Ge, Eq, Ne, And, Or, Xor}
use Rattle.pl_array.specs.Arrays.{Array, most, cell_at}

-- the extent for two: the common one, or the other one where one is 1
abbrev pub fit_extent : ℕ → ℕ → Option ℕ
fit_extent m n = if m == n then Some m else (if m == 1 then Some n else (if n == 1 then Some m else None))

-- the shape with both extents
abbrev pub both : Option ℕ → Option ℕ → Option Shape
both (Some rows) (Some cols) = Some (record { rows = rows; cols = cols })
both (Some rows) None = None
both None cols = None

-- the shape for two arrays
abbrev pub fitted : Shape → Shape → Option Shape
fitted a b = both (fit_extent a.rows b.rows) (fit_extent a.cols b.cols)

-- the shape of an array
abbrev pub shape_of : Array → Shape
shape_of a = record { rows = a.rows; cols = a.cols }

-- where the operand's line has one cell, that one stands for all
abbrev pub spread : ℕ → ℕ → ℕ
spread extent i = if extent == 1 then 0 else i

-- the operand's cell for cell k of a result with so many rows
abbrev pub operand : Array → ℕ → ℕ → ℤ
operand a rows k = cell_at a (spread a.rows (k % rows)) (spread a.cols (k / rows))

-- 1 for true
abbrev pub truth : Bool → ℤ
truth true = pos 1
truth false = pos 0

-- a number that isn't 0 is true
abbrev pub is_true : ℤ → Bool
is_true z = not (int_eq z (pos 0))

-- the exact result for two numbers
abbrev pub exact : Op2 → ℤ → ℤ → ℤ
exact Add x y = x +ℤ y
exact Sub x y = x -ℤ y
exact Mul x y = x *ℤ y
exact Div x y = quotient x y
exact Pow x y = int_pow x (unsigned_abs y)
exact Mod x y = modulo x y
exact Rem x y = remainder x y
exact Min x y = int_min x y
exact Max x y = int_max x y
exact Lt x y = truth (int_lt x y)
exact Le x y = truth (not (int_lt y x))
exact Gt x y = truth (int_lt y x)
exact Ge x y = truth (not (int_lt x y))
exact Eq x y = truth (int_eq x y)
exact Ne x y = truth (not (int_eq x y))
exact And x y = truth (is_true x && is_true y)
exact Or x y = truth (is_true x || is_true y)
exact Xor x y = truth (not (is_true x) && is_true y || is_true x && not (is_true y))

-- the number of a cell
abbrev pub number : Op2 → ℤ → ℤ → ℤ
number op x y = clamp (exact op x y)

-- a power with an exponent below 0 has no number
abbrev pub negative_power : Op2 → ℤ → ℤ → Bool
negative_power Pow x y = int_lt y (pos 0)
negative_power op x y = false

-- a division by 0
abbrev pub by_zero : Op2 → ℤ → Bool
by_zero Div y = int_eq y (pos 0)
by_zero op y = false

-- in the strict mode a cell overflows where the clamp changes the exact result, or by a division by 0
abbrev pub overflows : Mode → Op2 → ℤ → ℤ → Bool
overflows Saturate op x y = false
overflows Strict op x y = by_zero op y || not (int_eq (number op x y) (exact op x y))

-- whether the test holds for some cell of the result
abbrev pub some_cell : (ℤ → ℤ → Bool) → Array → Array → Shape → Bool
some_cell test a b s = list_any (λ k. test (operand a s.rows k) (operand b s.rows k)) (range_with_len 0 (s.rows * s.cols))

-- a value for each cell of the result
abbrev pub each_cell : (ℤ → ℤ → ℤ) → Array → Array → Shape → List ℤ
each_cell f a b s = map (λ k. f (operand a s.rows k) (operand b s.rows k)) (range_with_len 0 (s.rows * s.cols))

-- comparisons and logical operators answer truth values, all others numbers
abbrev pub class_by : Op2 → Class
class_by Lt = Logical
class_by Le = Logical
class_by Gt = Logical
class_by Ge = Logical
class_by Eq = Logical
class_by Ne = Logical
class_by And = Logical
class_by Or = Logical
class_by Xor = Logical
class_by op = Int

-- the answer for operands that fit this shape
abbrev pub combined : Mode → Op2 → Array → Array → Shape → Result Array ErrKind
combined mode op a b s =
    if some_cell (negative_power op) a b s then Err NegativePower else
    (if some_cell (overflows mode op) a b s then Err Overflow else
    Ok (record { class = class_by op; rows = s.rows; cols = s.cols; cells = each_cell (number op) a b s }))

-- the refusals of the shapes, and else the answer for the shape
abbrev pub sized : Option Shape → (Shape → Result Array ErrKind) → Result Array ErrKind
sized None answer = Err SizeMismatch
sized (Some s) answer = if nat_le (s.rows * s.cols) most then answer s else Err SizeLimit

-- an operator on two arrays
abbrev pub map2_of : Mode → Op2 → Array → Array → Result Array ErrKind
map2_of mode op a b = sized (fitted (shape_of a) (shape_of b)) (combined mode op a b)

-- the exact result for one number
abbrev pub exact1 : Op1 → ℤ → ℤ
exact1 Neg x = neg_ℤ x
exact1 Not x = truth (not (is_true x))
exact1 Abs x = pos (unsigned_abs x)
exact1 Sign x = int_signum x

-- the number of a cell
abbrev pub number1 : Op1 → ℤ → ℤ
number1 op x = clamp (exact1 op x)

-- in the strict mode a cell overflows where the clamp changes the exact result
abbrev pub overflows1 : Mode → Op1 → ℤ → Bool
overflows1 Saturate op x = false
overflows1 Strict op x = not (int_eq (number1 op x) (exact1 op x))

-- a negation is a truth value, all others numbers
abbrev pub class_by1 : Op1 → Class
class_by1 Not = Logical
class_by1 op = Int

-- the number for each cell
abbrev pub mapped1 : Op1 → Array → Array
mapped1 op a = record { class = class_by1 op; rows = a.rows; cols = a.cols; cells = map (number1 op) a.cells }

-- an operator on one array
abbrev pub map1_of : Mode → Op1 → Array → Result Array ErrKind
map1_of mode op a = if list_any (overflows1 mode op) a.cells then Err Overflow else Ok (mapped1 op a)

-- an operator on two single numbers
abbrev pub single_by : Mode → Op2 → ℤ → ℤ → Result Array ErrKind
single_by mode op x y =
    if negative_power op x y then Err NegativePower else
    (if overflows mode op x y then Err Overflow else
    Ok (record { class = class_by op; rows = 1; cols = 1; cells = number op x y ∷ [] }))

-- the operands fit this shape, and it is within the limits
pub record Fits (a b : Array) (s : Shape) : Type 0 where
  pub shape : fitted (shape_of a) (shape_of b) ≡ Some s
  pub limit : s.rows * s.cols ≤ most
  pub row_limit : s.rows ≤ most
  pub col_limit : s.cols ≤ most
