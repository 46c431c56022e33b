-- Square brackets, and the values of literals.
use Rattle.std.specs.Prelude.{ℕ, ◌==◌, ℤ, pos, Bool, false, true, not, ◌&&◌, List, [], ◌∷◌, map, take, length, Result, Ok, if◌then◌else◌}
use Rattle.std.specs.List.{flat_map, list_any}
use Rattle.pl_base.specs.declared.errors.ErrKind.{ErrKind}
use Rattle.pl_array.specs.declared.class.Class.TheVariants.{Int, Char}
use Rattle.pl_array.specs.Arrays.{Array, most}
use Rattle.pl_array.specs.Joining.{concat_h_of, concat_v_of}
use Rattle.pl_index.specs.Writing.{nothing}
use Rattle.pl_values.specs.declared.value.Value.{Value, out-Value}
use Rattle.pl_values.specs.declared.value.Value.TheOpen.{Value-F}
use Rattle.pl_values.specs.declared.value.Value.TheVariants as value
use Rattle.pl_operators.specs.Operands.{and_then, valued, arrays_in}

-- the arrays of rows of values, tested from the left
abbrev pub grid_in : List (List Value) → Result (List (List Array)) ErrKind
grid_in [] = Ok []
grid_in (row ∷ rows) = and_then (arrays_in row) (λ r. and_then (grid_in rows) (λ more. Ok (r ∷ more)))

-- arrays joined to the one before them, one after another
abbrev pub joined_to : (Array → Array → Result Array ErrKind) → Array → List Array → Result Array ErrKind
joined_to join a [] = Ok a
joined_to join a (b ∷ bs) = and_then (join a b) (λ ab. joined_to join ab bs)

-- arrays joined from the left; one alone is itself, and none is 0x0
abbrev pub joined_all : (Array → Array → Result Array ErrKind) → List Array → Result Array ErrKind
joined_all join [] = Ok (nothing Int)
joined_all join (a ∷ more) = joined_to join a more

-- each row across
abbrev pub lines_of : List (List Array) → Result (List Array) ErrKind
lines_of [] = Ok []
lines_of (row ∷ rows) = and_then (joined_all concat_h_of row) (λ line. and_then (lines_of rows) (λ more. Ok (line ∷ more)))

-- the rows across, and then down
abbrev pub stacked : List (List Array) → Result Array ErrKind
stacked grid = and_then (lines_of grid) (joined_all concat_v_of)

-- the array that rows of arrays make
abbrev pub matrix_of : List (List Value) → Result Value ErrKind
matrix_of rows = valued (and_then (grid_in rows) stacked)

abbrev pub is_futures_at : Value-F Value → Bool
is_futures_at (Value-F.Futures calls) = true
is_futures_at layer = false

-- a value that is a row of futures
abbrev pub is_futures : Value → Bool
is_futures v = is_futures_at (out-Value v)

abbrev pub calls_at : Value-F Value → List ℕ
calls_at (Value-F.Futures calls) = calls
calls_at layer = []

-- the numbers of a row of futures
abbrev pub calls_in : Value → List ℕ
calls_in v = calls_at (out-Value v)

-- one row that has elements, all of them futures
abbrev pub are_futures : List Value → Bool
are_futures row = not (length row == 0) && not (list_any (λ v. not (is_futures v)) row)

-- what square brackets make of their rows
abbrev pub rows_of : List (List Value) → Result Value ErrKind
rows_of [] = Ok (value.Array (nothing Int))
rows_of (row ∷ []) = if are_futures row then Ok (value.Futures (flat_map calls_in row)) else matrix_of (row ∷ [])
rows_of (row ∷ next ∷ rows) = matrix_of (row ∷ next ∷ rows)

-- a row of characters
abbrev pub char_row : List ℕ → Array
char_row bytes = record { class = Char; rows = 1; cols = length bytes; cells = map (λ b. pos b) bytes }

-- a text: a row of its characters, of more than an array holds the first ones, and 0x0 where there are none
abbrev pub chars_of : List ℕ → Value
chars_of bytes = if length bytes == 0 then value.Array (nothing Char) else value.Array (char_row (take most bytes))

-- a number
abbrev pub number_of : ℤ → Value
number_of z = value.Array (record { class = Int; rows = 1; cols = 1; cells = z ∷ [] })
