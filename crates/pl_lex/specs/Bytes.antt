-- The bytes of a source: what each may begin or go on, and where a line ends.
use Rattle.std.specs.Prelude.{◌≡◌, ℕ, Bool, true, false, ◌&&◌, ◌||◌, ◌==◌, nat_le, if◌then◌else◌, ◌+◌, List, [], ◌∷◌, ◌++◌, drop}
use Rattle.std.specs.List.{prefix_len}
use Rattle.pl_lex.specs.declared.bytes.Class.{Class}
use Rattle.pl_lex.specs.declared.bytes.Class.TheVariants.{Letter, Digit, Underscore, Blank, LineFeed, Return, Percent, Single, Double, Dot, Equal, Compare, Twice, Scale, Paren, Square, Brace, Close, Plain, Other}

-- the signs: comparisons, doubled ones, those that a dot may precede, brackets, and the rest
abbrev pub sign_class : ℕ → Class
sign_class c =
    if c == 37 then Percent else
    if c == 39 then Single else
    if c == 34 then Double else
    if c == 46 then Dot else
    if c == 61 then Equal else
    if c == 60 || c == 62 || c == 126 then Compare else
    if c == 38 || c == 124 then Twice else
    if c == 42 || c == 47 || c == 94 then Scale else
    if c == 40 then Paren else
    if c == 91 then Square else
    if c == 123 then Brace else
    if c == 41 || c == 93 || c == 125 then Close else
    if c == 43 || c == 45 || c == 44 || c == 59 || c == 58 || c == 64 then Plain else Other

-- what a byte may begin: letters and digits are those of ASCII, white space is space and tab
unfoldable pub class_of : ℕ → Class
class_of c =
    if nat_le 97 c && nat_le c 122 then Letter else
    if nat_le 65 c && nat_le c 90 then Letter else
    if nat_le 48 c && nat_le c 57 then Digit else
    if c == 95 then Underscore else
    if c == 32 || c == 9 then Blank else
    if c == 10 then LineFeed else
    if c == 13 then Return else sign_class c

-- a byte of a name behind its first
abbrev pub part_class : Class → Bool
part_class Letter = true
part_class Digit = true
part_class Underscore = true
part_class _ = false

abbrev pub is_part : ℕ → Bool
is_part c = part_class (class_of c)

abbrev pub digit_class : Class → Bool
digit_class Digit = true
digit_class _ = false

-- a decimal digit
abbrev pub is_digit : ℕ → Bool
is_digit c = digit_class (class_of c)

abbrev pub blank_class : Class → Bool
blank_class Blank = true
blank_class _ = false

-- white space within a line
abbrev pub is_blank : ℕ → Bool
is_blank c = blank_class (class_of c)

-- this byte comes first
abbrev pub begins : ℕ → List ℕ → Bool
begins b [] = false
begins b (c ∷ cs) = c == b

-- LF, CR LF or the end of the file comes first
abbrev pub at_line_end : List ℕ → Bool
at_line_end [] = true
at_line_end (c ∷ cs) = c == 10 || (c == 13 && begins 10 cs)

-- how many bytes stand before the first line end
abbrev pub to_line_end : List ℕ → ℕ
to_line_end [] = 0
to_line_end (c ∷ cs) = if at_line_end (c ∷ cs) then 0 else 1 + to_line_end cs

-- nothing but white space stands before the line end
abbrev pub is_alone : List ℕ → Bool
is_alone cs = at_line_end (drop (prefix_len is_blank cs) cs)

-- each byte passes
abbrev pub Each : (ℕ → Bool) → List ℕ → Type 0
Each p [] = Unit {0}
Each p (c ∷ cs) = (p c ≡ true) × Each p cs

-- the first byte, if there is one, doesn't pass
abbrev pub Stops : (ℕ → Bool) → List ℕ → Type 0
Stops p [] = Unit {0}
Stops p (c ∷ cs) = p c ≡ false

-- these bytes are all that stands before the line end, when rest is behind them
abbrev pub FillsLine : List ℕ → List ℕ → Type 0
FillsLine [] rest = at_line_end rest ≡ true
FillsLine (c ∷ cs) rest = (at_line_end (c ∷ cs ++ rest) ≡ false) × FillsLine cs rest
