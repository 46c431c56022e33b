-- What an assignment makes: the refusals in their order, and else for each cell the last value written there, the old cell, or 0.
use Rattle.std.specs.Prelude.{ℕ, ◌*◌, ◌/◌, ◌%◌, ◌≤◌, ◌==◌, ℤ, pos, Bool, ◌&&◌, ◌||◌, List, [], ◌∷◌, length, slice_index_or, replicate, Result, Ok, Err, if◌then◌else◌, nat_le, nat_lt, max}
use Rattle.pl_base.specs.declared.errors.ErrKind.{ErrKind}
use Rattle.pl_base.specs.declared.errors.ErrKind.TheVariants.{BadIndex, SizeLimit, GrowAmbiguous, AssignSize}
use Rattle.pl_array.specs.declared.class.Shape.{Shape}
use Rattle.pl_array.specs.declared.class.Class.{Class}
use Rattle.pl_array.specs.Arrays.{Array, most, cell_at}
use Rattle.pl_array.specs.Cellwise.{shape_of}
use Rattle.pl_array.specs.Joining.{is_nil, is_within, by_places, convert_of}
use Rattle.pl_index.specs.declared.index.Index.{Index}
use Rattle.pl_index.specs.declared.index.Index.TheVariants.{One, Two}
use Rattle.pl_index.specs.Places.{is_bad, places_of, reach, crossing}
use Rattle.pl_index.specs.Choosing.{row_of, column_of}

-- the last of the values that are written to place k, else z
abbrev pub last_at : List ℕ → List ℤ → ℕ → ℤ → ℤ
last_at [] values k z = z
last_at (place ∷ places) [] k z = z
last_at (place ∷ places) (v ∷ values) k z = last_at places values k (if place == k then v else z)

-- the old cell at place k of an array with so many rows, and 0 where there was none
abbrev pub old_at : Array → ℕ → ℕ → ℤ
old_at a rows k = if nat_lt (k % rows) a.rows && nat_lt (k / rows) a.cols then cell_at a (k % rows) (k / rows) else pos 0

-- the old cells in a shape, and zeros
abbrev pub regrown : Array → Shape → Array
regrown a s = record { class = a.class; rows = s.rows; cols = s.cols; cells = by_places (s.rows * s.cols) (old_at a s.rows) }

-- the array of this shape after these values were written to these places
abbrev pub stored : Array → Shape → List ℕ → List ℤ → Array
stored a s places values = record { class = a.class; rows = s.rows; cols = s.cols; cells = by_places (s.rows * s.cols) (λ k. last_at places values k (old_at a s.rows k)) }

-- one cell goes to every place
abbrev pub spread_over : List ℤ → ℕ → List ℤ
spread_over cells count = if length cells == 1 then replicate count (slice_index_or cells 0 (pos 0)) else cells

-- what is stored of a value that was converted
abbrev pub store_by : Result Array ErrKind → Array → Shape → List ℕ → Result Array ErrKind
store_by (Err kind) a s places = Err kind
store_by (Ok value) a s places = Ok (stored a s places (spread_over value.cells (length places)))

-- a value goes to these places in the class of the array, if its size fits
abbrev pub store_of : Bool → Result Shape ErrKind → Array → List ℕ → Array → Result Array ErrKind
store_of fits (Err kind) a places value = Err kind
store_of fits (Ok s) a places value = if fits then store_by (convert_of value a.class) a s places else Err AssignSize

-- the shape that reaches a subscript: a row where there is one row or nothing, a column where there is one of two cells or more
abbrev pub line_grown : Shape → ℕ → Result Shape ErrKind
line_grown s top =
    if nat_le top (s.rows * s.cols) then Ok s else
    (if nat_lt most top then Err SizeLimit else
    (if s.rows == 1 || is_nil s then Ok (row_of top) else
    (if s.cols == 1 && nat_lt 1 s.rows then Ok (column_of top) else Err GrowAmbiguous)))

-- one cell, or as many as places
abbrev pub fits_line : Array → ℕ → Bool
fits_line value count = length value.cells == 1 || length value.cells == count

-- the greater of both extents
abbrev pub greater : Shape → ℕ → ℕ → Shape
greater s rows cols = record { rows = max s.rows rows; cols = max s.cols cols }

-- the shape that reaches these rows and columns; where they don't meet nothing grows
abbrev pub block_grown : Shape → List ℕ → List ℕ → Result Shape ErrKind
block_grown s rows cols =
    if length rows * length cols == 0 then Ok s else
    (if is_within (greater s (reach rows) (reach cols)) then Ok (greater s (reach rows) (reach cols)) else Err SizeLimit)

-- one cell, the shape of the places, or for a line of places a vector of as many cells
abbrev pub fits_block : Array → ℕ → ℕ → Bool
fits_block value rows cols =
    length value.cells == 1
    || value.rows == rows && value.cols == cols
    || (rows == 1 || cols == 1) && (value.rows == 1 || value.cols == 1) && length value.cells == rows * cols

-- how many a colon stands for: the value's, where the array has neither rows nor columns
abbrev pub extent_for : Shape → ℕ → ℕ → ℕ
extent_for s own others = if is_nil s then others else own

-- to these places in column order
abbrev pub assign_places : Array → List ℕ → Array → Result Array ErrKind
assign_places a places value = store_of (fits_line value (length places)) (line_grown (shape_of a) (reach places)) a places value

-- the places in the shape that the rows and columns reach
abbrev pub places_in : Result Shape ErrKind → List ℕ → List ℕ → List ℕ
places_in (Err kind) rows cols = []
places_in (Ok s) rows cols = crossing s.rows rows cols

-- to these rows and columns
abbrev pub assign_block : Array → List ℕ → List ℕ → Array → Result Array ErrKind
assign_block a rows cols value =
    store_of (fits_block value (length rows) (length cols)) (block_grown (shape_of a) rows cols) a (places_in (block_grown (shape_of a) rows cols) rows cols) value

-- what an assignment makes of an array
abbrev pub assign_of : Array → Index → Array → Result Array ErrKind
assign_of a (One p) value = if is_bad p then Err BadIndex else assign_places a (places_of p (a.rows * a.cols)) value
assign_of a (Two r c) value =
    if is_bad r || is_bad c then Err BadIndex else
    assign_block a (places_of r (extent_for (shape_of a) a.rows value.rows)) (places_of c (extent_for (shape_of a) a.cols value.cols)) value

-- no cells
abbrev pub nothing : Class → Array
nothing class = record { class = class; rows = 0; cols = 0; cells = [] }

-- what an assignment makes where there was no value: the same as of no cells in the value's class
abbrev pub assign_new_of : Index → Array → Result Array ErrKind
assign_new_of at value = assign_of (nothing value.class) at value

-- a shape that has all rows and columns of the array, within the limits
pub record Grows (a : Array) (s : Shape) : Type 0 where
  pub rows_kept : a.rows ≤ s.rows
  pub cols_kept : a.cols ≤ s.cols
  pub limit : s.rows * s.cols ≤ most
  pub row_limit : s.rows ≤ most
  pub col_limit : s.cols ≤ most
