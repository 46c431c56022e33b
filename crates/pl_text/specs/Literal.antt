-- An array as the text that makes it again.
use Rattle.std.specs.Prelude.{ℕ, ℤ, pos, ◌==◌, ◌&&◌, nat_lt, Bool, true, if◌then◌else◌, Result, Ok, Err, List, [], ◌∷◌, ◌++◌, length, map, codes}
use Rattle.std.specs.Fmt.{decimal, signed_decimal}
use Rattle.std.specs.Ordering.{int_eq}
use Rattle.pl_base.specs.declared.errors.ErrKind.{ErrKind}
use Rattle.pl_base.specs.declared.errors.ErrKind.TheVariants.{SizeLimit}
use Rattle.pl_array.specs.declared.class.Class.{Class}
use Rattle.pl_array.specs.declared.class.Class.TheVariants.{Logical, Int, Char}
use Rattle.pl_array.specs.Arrays.{Array, cell_at, most}
use Rattle.pl_text.specs.Cells.{each, byte_of, gap}
use Rattle.pl_text.specs.Displayed.{is_char}

-- a logical cell is a word, any other number its decimal
abbrev pub word_of : Class → ℤ → List ℕ
word_of Logical z = if int_eq z (pos 0) then codes "false" else codes "true"
word_of Int z = signed_decimal z
word_of Char z = signed_decimal z

-- a character inside quotes: a quote stands twice
abbrev pub inside_quotes : ℕ → List ℕ
inside_quotes c = if c == 39 then codes "''" else c ∷ []

abbrev pub insides : Array → ℕ → List ℕ
insides a r = each (λ c. inside_quotes (byte_of (cell_at a r c))) a.cols

abbrev pub quoted_row : Array → ℕ → List ℕ
quoted_row a r = 39 ∷ insides a r ++ 39 ∷ []

abbrev pub number_row : Array → ℕ → List ℕ
number_row a r = each (λ c. gap (codes " ") c ++ word_of a.class (cell_at a r c)) a.cols

abbrev pub literal_row : Array → ℕ → List ℕ
literal_row a r = if is_char a.class then quoted_row a r else number_row a r

-- whether the array is one value of its sort, which needs no brackets
abbrev pub is_alone : Array → Bool
is_alone a = a.rows == 1 && (if is_char a.class then true else a.cols == 1)

abbrev pub zeros_text : Array → List ℕ
zeros_text a = codes "zeros(" ++ decimal a.rows ++ codes "," ++ decimal a.cols ++ codes ")"

abbrev pub literal_rows : Array → List ℕ
literal_rows a = each (λ r. gap (codes ";") r ++ literal_row a r) a.rows

abbrev pub literal : Array → List ℕ
literal a =
    if length a.cells == 0 then zeros_text a else
    if is_alone a then literal_row a 0 else codes "[" ++ literal_rows a ++ codes "]"

-- a text as a row of characters, where it isn't too long
abbrev pub char_row : List ℕ → Result Array ErrKind
char_row text = if nat_lt most (length text) then Err SizeLimit else Ok (record { class = Char; rows = 1; cols = length text; cells = map (λ b. pos b) text })

abbrev pub mat2str_of : Array → Result Array ErrKind
mat2str_of a = char_row (literal a)
