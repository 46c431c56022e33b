-- What is displayed of an array.
use Rattle.std.specs.Prelude.{ℕ, zero, suc, ◌==◌, ◌&&◌, Bool, true, false, not, if◌then◌else◌, List, [], ◌∷◌, ◌++◌, length, codes}
use Rattle.std.specs.Fmt.{decimal, signed_decimal}
use Rattle.pl_array.specs.declared.class.Class.{Class}
use Rattle.pl_array.specs.declared.class.Class.TheVariants.{Logical, Int, Char}
use Rattle.pl_array.specs.Arrays.{Array, cell_at}
use Rattle.pl_text.specs.Cells.{each, byte_of, width_of, set_right, gap}

abbrev pub is_char : Class → Bool
is_char Logical = false
is_char Int = false
is_char Char = true

-- the bytes of a row of characters
abbrev pub characters : Array → ℕ → List ℕ
characters a r = each (λ c. byte_of (cell_at a r c) ∷ []) a.cols

-- a row of numbers: each set right in the width of the widest of the whole array, two spaces between
abbrev pub numbers : Array → ℕ → List ℕ
numbers a r = each (λ c. gap (codes "  ") c ++ set_right (width_of a.cells) (signed_decimal (cell_at a r c))) a.cols

abbrev pub row_text : Array → ℕ → List ℕ
row_text a r = if is_char a.class then characters a r else numbers a r

-- a line for each row
abbrev pub displayed : Array → List ℕ
displayed a = each (λ r. row_text a r ++ 10 ∷ []) a.rows

-- behind `x = `, where it stands on the same line: a character row in quotes, the extents of an array without cells, a number
abbrev pub quoted : Array → List ℕ
quoted a = 39 ∷ characters a 0 ++ 39 ∷ []

abbrev pub extents : Array → List ℕ
extents a = codes "[](" ++ decimal a.rows ++ codes "x" ++ decimal a.cols ++ codes ")"

-- a name and its value: `x = 12`, `x = 'abc'`, `x = [](0x3)`, or `x =` and the lines of the display
abbrev pub named : List ℕ → Array → List ℕ
named name a =
    if is_char a.class && a.rows == 1 then name ++ codes " = " ++ quoted a ++ codes "\n" else
    if length a.cells == 0 then name ++ codes " = " ++ extents a ++ codes "\n" else
    if length a.cells == 1 && not (is_char a.class) then name ++ codes " = " ++ numbers a 0 ++ codes "\n" else
    name ++ codes " =\n" ++ displayed a
