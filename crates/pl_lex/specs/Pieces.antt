-- The pieces of a source. A source is a list of pieces, each as long as it can be, and an ending: clean, or
-- what no piece begins. Whether a piece fits depends on what stands before it. This is a grammar: it says
-- how a source is cut, and knows nothing of a cursor.
use Rattle.std.specs.Prelude.{◌≡◌, ℕ, ◌+◌, ◌*◌, ◌-◌, Bool, true, false, not, ◌&&◌, ◌||◌, ◌==◌, nat_le, List, [], ◌∷◌, ◌++◌, drop}
use Rattle.pl_lex.specs.declared.bytes.Class.{Class}
use Rattle.pl_lex.specs.declared.bytes.Class.TheVariants.{Letter, Digit, Underscore, Blank, LineFeed, Return, Percent, Single, Double, Dot, Equal, Compare, Twice, Scale, Paren, Square, Brace, Close, Plain, Other}
use Rattle.pl_lex.specs.declared.state.Part.{Part}
use Rattle.pl_lex.specs.declared.state.Part.TheVariants as part
use Rattle.pl_lex.specs.declared.state.Before.{Before}
use Rattle.pl_lex.specs.declared.token.LexKind.{LexKind}
use Rattle.pl_lex.specs.declared.token.LexKind.TheVariants as kind
use Rattle.pl_lex.specs.Bytes.{class_of, is_part, is_digit, is_blank, begins, is_alone, Each, Stops, FillsLine}
use Rattle.pl_lex.specs.Keywords.{is_keyword}
use Rattle.pl_lex.specs.State.{in_block, opens_text, behind}

-- a piece: what it is, and its bytes
pub record Piece : Type 0 where
  pub part : Part
  pub first : ℕ
  pub others : List ℕ

-- how a source ends: behind its last piece, or at these bytes, of which the first begins none
pub data Ending : Type 0 where
  clean : Ending
  fault : LexKind → ℕ → List ℕ → Ending

abbrev pub ending_bytes : Ending → List ℕ
ending_bytes clean = []
ending_bytes (fault kind c cs) = c ∷ cs

-- the bytes of the pieces and the ending
abbrev pub bytes_of : List Piece → Ending → List ℕ
bytes_of [] e = ending_bytes e
bytes_of (p ∷ ps) e = p.first ∷ p.others ++ bytes_of ps e

-- ---- literals

-- the number of which the digits so far are n, when these digits follow
abbrev pub number_from : ℕ → List ℕ → ℕ
number_from n [] = n
number_from n (c ∷ cs) = number_from (n * 10 + (c - 48)) cs

-- the literal is at most the greatest int64
abbrev pub in_range : List ℕ → Bool
in_range digits = nat_le (number_from 0 digits) 9223372036854775807

-- ---- signs

abbrev pub scale_class : Class → Bool
scale_class Scale = true
scale_class _ = false

abbrev pub begins_scale : List ℕ → Bool
begins_scale [] = false
begins_scale (c ∷ cs) = scale_class (class_of c)

-- a byte of this class makes one sign with the byte behind it
abbrev pub joins : Class → ℕ → List ℕ → Bool
joins Dot c rest = begins_scale rest || begins 39 rest
joins Equal c rest = begins 61 rest
joins Compare c rest = begins 61 rest
joins Twice c rest = begins c rest
joins _ c rest = false

-- a dot begins `...`
abbrev pub continues : Class → List ℕ → Bool
continues Dot rest = begins 46 rest && begins 46 (drop 1 rest)
continues _ rest = false

-- a byte of this class begins a sign: a quote does where it opens no text
abbrev pub begins_sign : Class → Before → Bool
begins_sign Single b = not (opens_text b)
begins_sign Dot b = true
begins_sign Equal b = true
begins_sign Compare b = true
begins_sign Twice b = true
begins_sign Scale b = true
begins_sign Paren b = true
begins_sign Square b = true
begins_sign Brace b = true
begins_sign Close b = true
begins_sign Plain b = true
begins_sign _ b = false

-- the sign has one byte or two, and two where it can
abbrev pub IsLongest : Class → ℕ → List ℕ → List ℕ → Type 0
IsLongest k c [] rest = joins k c rest ≡ false
IsLongest k c (d ∷ []) rest = joins k c (d ∷ rest) ≡ true
IsLongest k c (d ∷ e ∷ cs) rest = ⊥

-- what stands directly behind a literal leaves it whole: no letter, no underscore, and no dot but one of a sign
-- of two bytes or of `...`
abbrev pub whole_class : Class → List ℕ → Bool
whole_class Letter rest = false
whole_class Underscore rest = false
whole_class Dot rest = continues Dot rest || joins Dot 46 rest
whole_class _ rest = true

abbrev pub is_whole : List ℕ → Bool
is_whole [] = true
is_whole (c ∷ cs) = whole_class (class_of c) cs

-- ---- texts

-- what stands between two quotes: a byte, or two quotes that stand for one
pub data Inner : Type 0 where
  plain : ℕ → Inner
  doubled : Inner

abbrev pub spelled : ℕ → List Inner → List ℕ → List ℕ
spelled q [] rest = rest
spelled q (plain c ∷ more) rest = c ∷ spelled q more rest
spelled q (doubled ∷ more) rest = q ∷ q ∷ spelled q more rest

-- no byte is the quote, and none ends the line
abbrev pub Inside : ℕ → List Inner → Type 0
Inside q [] = Unit {0}
Inside q (plain c ∷ more) = ((c == q) ≡ false) × ((c == 10) ≡ false) × Inside q more
Inside q (doubled ∷ more) = Inside q more

-- a text behind its first quote
pub record IsClosed (q : ℕ) (cs : List ℕ) : Type 0 where
  pub inner : List Inner
  pub inside : Inside q inner
  pub spells : cs ≡ spelled q inner (q ∷ [])

-- LF or the end of the file comes first
abbrev pub at_feed : List ℕ → Bool
at_feed [] = true
at_feed (c ∷ cs) = c == 10

-- a text that its line leaves open, behind its first quote
pub record IsOpen (q : ℕ) (cs : List ℕ) : Type 0 where
  pub inner : List Inner
  pub rest : List ℕ
  pub inside : Inside q inner
  pub ends : at_feed rest ≡ true
  pub spells : cs ≡ spelled q inner rest

-- a quote opens a text
abbrev pub opens : Class → Before → Bool
opens Single b = opens_text b
opens Double b = true
opens _ b = false

-- ---- lines

-- LF, or CR and LF
abbrev pub IsBreak : Class → List ℕ → Type 0
IsBreak k [] = k ≡ LineFeed
IsBreak k (c ∷ []) = (k ≡ Return) × (c ≡ 10)
IsBreak k (c ∷ d ∷ cs) = ⊥

-- `%` stands on a line alone with the byte behind it
abbrev pub marks : ℕ → Before → List ℕ → Bool
marks c b rest = b.fresh && (begins c rest && is_alone (drop 1 rest))

-- ---- what fits

-- a piece outside block comments: its class is that of its first byte, and rest stands behind it
abbrev pub FitsOutside : Part → Class → ℕ → List ℕ → Before → List ℕ → Type 0
FitsOutside part.Blank k c cs b rest = (k ≡ Blank) × Each is_blank cs × Stops is_blank rest
FitsOutside part.Continued k c cs b rest = (continues k (cs ++ rest) ≡ true) × FillsLine cs rest
FitsOutside part.Comment k c cs b rest = (k ≡ Percent) × (marks 123 b (cs ++ rest) ≡ false) × FillsLine cs rest
FitsOutside part.BlockStart k c cs b rest = (k ≡ Percent) × (cs ≡ 123 ∷ []) × (marks 123 b (123 ∷ rest) ≡ true)
FitsOutside part.BlockEnd k c cs b rest = ⊥
FitsOutside part.LineEnd k c cs b rest = IsBreak k cs
FitsOutside part.Name k c cs b rest = (k ≡ Letter) × Each is_part cs × Stops is_part rest × (is_keyword (c ∷ cs) ≡ false)
FitsOutside part.Keyword k c cs b rest = (k ≡ Letter) × Each is_part cs × Stops is_part rest × (is_keyword (c ∷ cs) ≡ true)
FitsOutside part.Literal k c cs b rest = (k ≡ Digit) × Each is_digit cs × Stops is_digit rest × (in_range (c ∷ cs) ≡ true) × (is_whole rest ≡ true)
FitsOutside part.Chars k c cs b rest = (opens k b ≡ true) × IsClosed c cs × (begins c rest ≡ false)
FitsOutside part.Sign k c cs b rest = (begins_sign k b ≡ true) × (continues k (cs ++ rest) ≡ false) × IsLongest k c cs rest

-- in a block comment these bytes are remarks: no white space, no line end, no mark alone on its line
abbrev pub remarks : Class → Before → List ℕ → Bool
remarks Blank b rest = false
remarks LineFeed b rest = false
remarks Return b rest = not (begins 10 rest)
remarks Percent b rest = not (marks 123 b rest || marks 125 b rest)
remarks _ b rest = true

-- a piece in a block comment
abbrev pub FitsInside : Part → Class → List ℕ → Before → List ℕ → Type 0
FitsInside part.Blank k cs b rest = (k ≡ Blank) × Each is_blank cs × Stops is_blank rest
FitsInside part.LineEnd k cs b rest = IsBreak k cs
FitsInside part.BlockStart k cs b rest = (k ≡ Percent) × (cs ≡ 123 ∷ []) × (marks 123 b (123 ∷ rest) ≡ true)
FitsInside part.BlockEnd k cs b rest = (k ≡ Percent) × (cs ≡ 125 ∷ []) × (marks 125 b (125 ∷ rest) ≡ true)
FitsInside part.Comment k cs b rest = (remarks k b (cs ++ rest) ≡ true) × FillsLine cs rest
FitsInside _ k cs b rest = ⊥

abbrev pub FitsBy : Bool → Part → Class → ℕ → List ℕ → Before → List ℕ → Type 0
FitsBy false p k c cs b rest = FitsOutside p k c cs b rest
FitsBy true p k c cs b rest = FitsInside p k cs b rest

-- the piece fits, with this before it and these bytes behind it
abbrev pub Fits : Piece → Before → List ℕ → Type 0
Fits p b rest = FitsBy (in_block b) p.part (class_of p.first) p.first p.others b rest

-- ---- what begins no piece

-- a byte that begins nothing: CR is one where no LF stands behind it
abbrev pub is_bad : Class → List ℕ → Bool
is_bad Other rest = true
is_bad Underscore rest = true
is_bad Return rest = not (begins 10 rest)
is_bad _ rest = false

-- the digits behind a first one, and what stands behind them
pub record HasDigits (cs : List ℕ) : Type 0 where
  pub digits : List ℕ
  pub rest : List ℕ
  pub each : Each is_digit digits
  pub stops : Stops is_digit rest
  pub spells : cs ≡ digits ++ rest

-- outside block comments a fault of this kind stands at the first byte
abbrev pub Refuses : LexKind → Class → ℕ → List ℕ → Before → Type 0
Refuses kind.BadByte k c cs b = is_bad k cs ≡ true
Refuses kind.OpenText k c cs b = (opens k b ≡ true) × IsOpen c cs
Refuses kind.LiteralRange k c cs b = (k ≡ Digit) × ((d : HasDigits cs) × (in_range (c ∷ d.digits) ≡ false))
Refuses kind.NotWhole k c cs b = (k ≡ Digit) × ((d : HasDigits cs) × ((in_range (c ∷ d.digits) ≡ true) × (is_whole d.rest ≡ false)))

abbrev pub Ends : Ending → Before → Type 0
Ends clean b = Unit {0}
Ends (fault kind c cs) b = (in_block b ≡ false) × Refuses kind (class_of c) c cs b

-- each piece fits where it stands, and so does the ending
abbrev pub Cut : Before → List Piece → Ending → Type 0
Cut b [] e = Ends e b
Cut b (p ∷ ps) e = Fits p b (bytes_of ps e) × Cut (behind p.part (p.first ∷ p.others) b) ps e
