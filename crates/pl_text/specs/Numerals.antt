-- An array of numbers as the lines of its display.
use Rattle.std.specs.Prelude.{ℕ, ◌*◌, ◌/◌, ◌%◌, ◌==◌, ◌||◌, nat_lt, ℤ, pos, if◌then◌else◌, Result, Ok, Err, List, [], ◌∷◌, length, map, slice_index, slice_index_or}
use Rattle.std.specs.List.{range_with_len}
use Rattle.pl_base.specs.declared.errors.ErrKind.{ErrKind}
use Rattle.pl_base.specs.declared.errors.ErrKind.TheVariants.{SizeLimit}
use Rattle.pl_array.specs.declared.class.Class.TheVariants.{Char}
use Rattle.pl_array.specs.Arrays.{Array, most}
use Rattle.pl_text.specs.Displayed.{is_char, numbers}

-- the lines of the display, without their ends
abbrev pub lines : Array → List (List ℕ)
lines a = map (numbers a) (range_with_len 0 a.rows)

-- the character at a place, counted by columns, of lines one below the other
abbrev pub character_at : List (List ℕ) → ℕ → ℕ → ℤ
character_at texts rows k = pos (slice_index (slice_index_or texts (k % rows) []) (k / rows))

-- the characters of lines as an array, as wide as the first one
abbrev pub stacked : List (List ℕ) → ℕ → ℕ → Result Array ErrKind
stacked texts rows cols =
    if nat_lt most (rows * cols) || nat_lt most cols then Err SizeLimit else
    Ok (record { class = Char; rows = rows; cols = cols; cells = map (character_at texts rows) (range_with_len 0 (rows * cols)) })

-- the width of the first line
abbrev pub first_width : List (List ℕ) → ℕ
first_width [] = 0
first_width (text ∷ more) = length text

abbrev pub num2str_of : Array → Result Array ErrKind
num2str_of a = if is_char a.class then Ok a else stacked (lines a) a.rows (first_width (lines a))
