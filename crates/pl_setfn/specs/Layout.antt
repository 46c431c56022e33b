-- The cells of an array in another shape, repeated, or turned over.
use Rattle.std.specs.Prelude.{ℕ, ◌-◌, ◌*◌, ◌/◌, ◌%◌, ◌==◌, ℤ, pos, int_lt, unsigned_abs, ◌||◌, Result, Ok, Err, if◌then◌else◌}
use Rattle.pl_base.specs.declared.errors.ErrKind.{ErrKind}
use Rattle.pl_base.specs.declared.errors.ErrKind.TheVariants.{SizeMismatch, SizeLimit, ArgRange}
use Rattle.pl_array.specs.declared.class.Shape.{Shape}
use Rattle.pl_array.specs.Arrays.{Array, cell_at}
use Rattle.pl_array.specs.Cellwise.{shape_of}
use Rattle.pl_array.specs.Joining.{by_places, is_within}
use Rattle.pl_setfn.specs.Arguments.{with_number}

-- the array of the class of a and of this shape, with a cell for each row and column
abbrev pub laid_out : Array → Shape → (ℕ → ℕ → ℤ) → Array
laid_out a s cell = record { class = a.class; rows = s.rows; cols = s.cols; cells = by_places (s.rows * s.cols) (λ k. cell (k % s.rows) (k / s.rows)) }

-- the cells kept in their order in a shape for as many
abbrev pub reshaped : Array → Shape → Result Array ErrKind
reshaped a s =
    if s.rows * s.cols == a.rows * a.cols then
    (if is_within s then Ok (record { class = a.class; rows = s.rows; cols = s.cols; cells = a.cells }) else Err SizeLimit)
    else Err SizeMismatch

-- what `reshape` answers for two numbers
abbrev pub reshape_to : Array → ℤ → ℤ → Result Array ErrKind
reshape_to a r c =
    if int_lt r (pos 0) || int_lt c (pos 0) then Err ArgRange else
    reshaped a (record { rows = unsigned_abs r; cols = unsigned_abs c })

-- what `reshape` answers
abbrev pub reshape_of : Array → Array → Array → Result Array ErrKind
reshape_of a m n = with_number m (λ r. with_number n (λ c. reshape_to a r c))

-- how often: a number below 0 counts as 0
abbrev pub times : ℤ → ℕ
times z = if int_lt z (pos 0) then 0 else unsigned_abs z

-- the array repeated in this shape
abbrev pub tiled : Array → Shape → Result Array ErrKind
tiled a s = if is_within s then Ok (laid_out a s (λ i j. cell_at a (i % a.rows) (j % a.cols))) else Err SizeLimit

-- what `repmat` answers
abbrev pub repmat_of : Array → Array → Array → Result Array ErrKind
repmat_of a m n = with_number m (λ r. with_number n (λ c. tiled a (record { rows = a.rows * times r; cols = a.cols * times c })))

-- what `fliplr` answers: the columns in the opposite order
abbrev pub fliplr_of : Array → Array
fliplr_of a = laid_out a (shape_of a) (λ i j. cell_at a i (a.cols - 1 - j))

-- what `flipud` answers: the rows in the opposite order
abbrev pub flipud_of : Array → Array
flipud_of a = laid_out a (shape_of a) (λ i j. cell_at a (a.rows - 1 - i) j)
