-- What selecting and deleting answer: the refusals in their order, and else the cells at the places named or left.
use Rattle.std.specs.Prelude.{ℕ, ◌*◌, ◌==◌, [], Bool, not, ◌&&◌, ◌||◌, List, length, Result, Ok, Err, if◌then◌else◌, nat_lt}
use Rattle.std.specs.List.{range_with_len}
use Rattle.pl_base.specs.declared.errors.ErrKind.{ErrKind}
use Rattle.pl_base.specs.declared.errors.ErrKind.TheVariants.{BadIndex, IndexRange, SizeLimit, DeleteShape}
use Rattle.pl_array.specs.declared.class.Shape.{Shape}
use Rattle.pl_array.specs.Arrays.{Array}
use Rattle.pl_array.specs.Cellwise.{shape_of}
use Rattle.pl_array.specs.Joining.{is_nil, is_within}
use Rattle.pl_index.specs.declared.index.Pos.{Pos}
use Rattle.pl_index.specs.declared.index.Pos.TheVariants.{All, At}
use Rattle.pl_index.specs.declared.index.Index.{Index}
use Rattle.pl_index.specs.declared.index.Index.TheVariants.{One, Two}
use Rattle.pl_index.specs.Places.{is_mask, is_bad, places_of, reach, crossing, picked, left_over}

-- a row or a column
abbrev pub is_vector : Shape → Bool
is_vector s = s.rows == 1 || s.cols == 1

-- a 1x1 shape
abbrev pub is_single : Shape → Bool
is_single s = s.rows == 1 && s.cols == 1

-- the shape of a row of so many cells
abbrev pub row_of : ℕ → Shape
row_of count = record { rows = 1; cols = count }

-- the shape of a column of so many cells
abbrev pub column_of : ℕ → Shape
column_of count = record { rows = count; cols = 1 }

-- a row where this is one row, else a column
abbrev pub line_like : Shape → ℕ → Shape
line_like s count = if s.rows == 1 then row_of count else column_of count

-- the shape of the places that x names: a mask's lie in a line, all others as the cells of x
abbrev pub own_shape : Array → ℕ → Shape
own_shape x count = if is_mask x.class then line_like (shape_of x) count else shape_of x

-- a vector under a vector lies as the one that is indexed, unless that is 1x1
abbrev pub laid : Shape → Shape → ℕ → Shape
laid s own count = if is_vector s && not (is_single s) && is_vector own then line_like s count else own

-- the shape of so many cells that are selected by one position: a colon gives a column
abbrev pub lying : Shape → Pos → ℕ → Shape
lying s All count = column_of count
lying s (At x) count = laid s (own_shape x count) count

-- the cells at these places, in this shape
abbrev pub taken : Array → Shape → List ℕ → Array
taken a s places = record { class = a.class; rows = s.rows; cols = s.cols; cells = picked a.cells places }

-- the array of these rows and columns
abbrev pub part : Array → List ℕ → List ℕ → Array
part a rows cols = record { class = a.class; rows = length rows; cols = length cols; cells = picked a.cells (crossing a.rows rows cols) }

-- by one position, which names these places
abbrev pub select_places : Array → Pos → List ℕ → Result Array ErrKind
select_places a p places =
    if nat_lt (a.rows * a.cols) (reach places) then Err IndexRange else
    Ok (taken a (lying (shape_of a) p (length places)) places)

-- by these rows and columns
abbrev pub select_part : Array → List ℕ → List ℕ → Result Array ErrKind
select_part a rows cols =
    if nat_lt a.rows (reach rows) || nat_lt a.cols (reach cols) then Err IndexRange else
    (if is_within (record { rows = length rows; cols = length cols }) then Ok (part a rows cols) else Err SizeLimit)

-- what an index selects
abbrev pub select_of : Array → Index → Result Array ErrKind
select_of a (One p) = if is_bad p then Err BadIndex else select_places a p (places_of p (a.rows * a.cols))
select_of a (Two r c) = if is_bad r || is_bad c then Err BadIndex else select_part a (places_of r a.rows) (places_of c a.cols)

-- the shape of so many cells that are left of a vector or of no cells
abbrev pub left_shape : Shape → ℕ → Shape
left_shape s count = if is_nil s then s else line_like s count

-- what is left without the cells at these places
abbrev pub delete_places : Array → List ℕ → Result Array ErrKind
delete_places a places =
    if is_vector (shape_of a) || is_nil (shape_of a) then
    (if nat_lt (a.rows * a.cols) (reach places) then Err IndexRange else
    Ok (taken a (left_shape (shape_of a) (length (left_over (a.rows * a.cols) places))) (left_over (a.rows * a.cols) places)))
    else Err DeleteShape

-- what is left without these rows
abbrev pub delete_rows : Array → List ℕ → Result Array ErrKind
delete_rows a rows =
    if nat_lt a.rows (reach rows) then Err IndexRange else
    Ok (part a (left_over a.rows rows) (range_with_len 0 a.cols))

-- what is left without these columns
abbrev pub delete_cols : Array → List ℕ → Result Array ErrKind
delete_cols a cols =
    if nat_lt a.cols (reach cols) then Err IndexRange else
    Ok (part a (range_with_len 0 a.rows) (left_over a.cols cols))

-- by two positions, one of them a colon; two colons leave no rows
abbrev pub delete_lines : Array → Pos → Pos → Result Array ErrKind
delete_lines a All All = Ok (part a [] (range_with_len 0 a.cols))
delete_lines a All (At y) = delete_cols a (places_of (At y) a.cols)
delete_lines a (At x) All = delete_rows a (places_of (At x) a.rows)
delete_lines a (At x) (At y) = Err DeleteShape

-- what a deletion leaves
abbrev pub delete_of : Array → Index → Result Array ErrKind
delete_of a (One p) = if is_bad p then Err BadIndex else delete_places a (places_of p (a.rows * a.cols))
delete_of a (Two r c) = if is_bad r || is_bad c then Err BadIndex else delete_lines a r c
