-- Arrays joined, converted to another class, and turned.
use Rattle.std.specs.Prelude.{◌≡◌, ℕ, ◌+◌, ◌-◌, ◌*◌, ◌/◌, ◌%◌, ◌==◌, ℤ, pos, int_lt, Bool, false, ◌&&◌, ◌||◌, List, map, ◌++◌, Option, Some, None, Result, Ok, Err, if◌then◌else◌, nat_le, nat_lt}
use Rattle.std.specs.List.{range_with_len, list_any}
use Rattle.pl_base.specs.declared.errors.ErrKind.{ErrKind}
use Rattle.pl_base.specs.declared.errors.ErrKind.TheVariants.{ConcatMismatch, CharRange, SizeLimit}
use Rattle.pl_array.specs.declared.class.Class.{Class}
use Rattle.pl_array.specs.declared.class.Class.TheVariants.{Logical, Int, Char}
use Rattle.pl_array.specs.declared.class.Shape.{Shape}
use Rattle.pl_array.specs.Arrays.{Array, IsValid, class_number, most, cell_at}
use Rattle.pl_array.specs.Cellwise.{shape_of, truth, is_true}

-- the cells in this order
abbrev pub by_places : ℕ → (ℕ → ℤ) → List ℤ
by_places count cell = map cell (range_with_len 0 count)

-- the later of two classes
abbrev pub greater_class : Class → Class → Class
greater_class a b = if nat_lt (class_number a) (class_number b) then b else a

-- a number that a cell of the class can't be, where the class is char
abbrev pub is_no_char : Class → ℤ → Bool
is_no_char Char z = int_lt z (pos 0) || int_lt (pos 255) z
is_no_char class z = false

-- a shape without rows and columns, which joining skips
abbrev pub is_nil : Shape → Bool
is_nil s = s.rows == 0 && s.cols == 0

-- b to the right of a
abbrev pub across : Shape → Shape → Option Shape
across a b =
    if is_nil a then Some b else
    (if is_nil b then Some a else
    (if a.rows == b.rows then Some (record { rows = a.rows; cols = a.cols + b.cols }) else None))

-- b below a
abbrev pub down : Shape → Shape → Option Shape
down a b =
    if is_nil a then Some b else
    (if is_nil b then Some a else
    (if a.cols == b.cols then Some (record { rows = a.rows + b.rows; cols = a.cols }) else None))

-- within the limits
abbrev pub is_within : Shape → Bool
is_within s = nat_le (s.rows * s.cols) most && nat_le s.rows most && nat_le s.cols most

-- cell k of b below a, where the result has so many rows
abbrev pub below_at : Array → Array → ℕ → ℕ → ℤ
below_at a b rows k = if nat_lt (k % rows) a.rows then cell_at a (k % rows) (k / rows) else cell_at b (k % rows - a.rows) (k / rows)

-- some number of the two can't be a cell of the class
abbrev pub has_no_char : Class → Array → Array → Bool
has_no_char class a b = list_any (is_no_char class) a.cells || list_any (is_no_char class) b.cells

-- two valid arrays whose numbers can all be of their later class
pub record Joins (a b : Array) (class : Class) : Type 0 where
  pub left : IsValid a
  pub right : IsValid b
  pub later : class ≡ greater_class a.class b.class
  pub left_chars : false ≡ list_any (is_no_char class) a.cells
  pub right_chars : false ≡ list_any (is_no_char class) b.cells

-- the refusals of joining in their order, and else the array of these cells
abbrev pub joined : Option Shape → Array → Array → (Shape → List ℤ) → Result Array ErrKind
joined None a b cells = Err ConcatMismatch
joined (Some s) a b cells =
    if is_within s then
    (if has_no_char (greater_class a.class b.class) a b then Err CharRange else
    Ok (record { class = greater_class a.class b.class; rows = s.rows; cols = s.cols; cells = cells s }))
    else Err SizeLimit

-- b to the right of a: the columns of a, and then those of b
abbrev pub concat_h_of : Array → Array → Result Array ErrKind
concat_h_of a b = joined (across (shape_of a) (shape_of b)) a b (λ s. a.cells ++ b.cells)

-- b below a
abbrev pub concat_v_of : Array → Array → Result Array ErrKind
concat_v_of a b = joined (down (shape_of a) (shape_of b)) a b (λ s. by_places (s.rows * s.cols) (below_at a b s.rows))

-- the number in another class: a logical one is 1 for every number that isn't 0
abbrev pub converted : Class → ℤ → ℤ
converted Logical z = truth (is_true z)
converted Int z = z
converted Char z = z

-- the array in another class
abbrev pub convert_of : Array → Class → Result Array ErrKind
convert_of a class =
    if list_any (is_no_char class) a.cells then Err CharRange else
    Ok (record { class = class; rows = a.rows; cols = a.cols; cells = map (converted class) a.cells })

-- rows and columns change places
abbrev pub transposed : Array → Array
transposed a = record { class = a.class; rows = a.cols; cols = a.rows; cells = by_places (a.cols * a.rows) (λ k. cell_at a (k / a.cols) (k % a.cols)) }
