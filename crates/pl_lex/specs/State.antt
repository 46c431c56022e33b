-- What stands before a place of the source, as far as it decides what comes next.
use Rattle.std.specs.Prelude.{ℕ, ◌+◌, ◌-◌, Bool, true, false, not, ◌&&◌, ◌||◌, ◌==◌, if◌then◌else◌, List, [], ◌∷◌, drop, slice_index}
use Rattle.pl_lex.specs.declared.bytes.Class.{Class}
use Rattle.pl_lex.specs.declared.bytes.Class.TheVariants.{Single, Dot, Paren, Square, Brace, Close}
use Rattle.pl_lex.specs.declared.state.Bracket.{Bracket}
use Rattle.pl_lex.specs.declared.state.Last.{Last}
use Rattle.pl_lex.specs.declared.state.Last.TheVariants as last
use Rattle.pl_lex.specs.declared.state.Part.{Part}
use Rattle.pl_lex.specs.declared.state.Part.TheVariants as part
use Rattle.pl_lex.specs.declared.state.Before.{Before}
use Rattle.pl_lex.specs.Bytes.{class_of, begins}
use Rattle.pl_lex.specs.Keywords.{is_end}

-- `end` is an index in the innermost open bracket
abbrev pub inside : List Bracket → Bool
inside [] = false
inside (k ∷ ks) = k.index

-- the innermost open bracket is a square one
abbrev pub in_square : List Bracket → Bool
in_square [] = false
in_square (k ∷ ks) = k.square

-- before the first byte
abbrev pub start : Before
start = record { brackets = []; last = last.Other; gap = false; fresh = true; joined = false; blocks = 0 }

-- in a block comment
abbrev pub in_block : Before → Bool
in_block b = not (b.blocks == 0)

-- white space stands behind the last token, and ends an element
abbrev pub apart : Before → Bool
apart b = b.gap && in_square b.brackets

abbrev pub ends_operand : Last → Bool
ends_operand last.Named = true
ends_operand last.Operand = true
ends_operand last.Other = false

abbrev pub is_named : Last → Bool
is_named last.Named = true
is_named last.Operand = false
is_named last.Other = false

-- a single quote opens a text, and transposes nothing
abbrev pub opens_text : Before → Bool
opens_text b = not (ends_operand b.last) || apart b

-- a parenthesis is one of an index
abbrev pub calls : Before → Bool
calls b = is_named b.last && not (apart b)

-- behind a token
abbrev pub token : Last → Before → Before
token l b = record b { last = l; gap = false; fresh = false }

-- behind a line end, which is a token where it isn't white space or in a comment
abbrev pub line_end : Before → Before
line_end b =
    if in_block b || b.joined
    then record b { fresh = true; joined = false }
    else record b { last = last.Other; gap = false; fresh = true; joined = false }

-- behind a keyword
abbrev pub keyword : List ℕ → Before → Before
keyword word b = token (if is_end word && inside b.brackets then last.Operand else last.Other) b

-- behind an opening bracket
abbrev pub opened : Bracket → Before → Before
opened k b = record (token last.Other b) { brackets = k ∷ b.brackets }

-- behind a closing bracket, of whichever sort
abbrev pub closed : ℕ → Before → Before
closed c b = record (token (if c == 125 then last.Named else last.Operand) b) { brackets = drop 1 b.brackets }

-- behind a sign, by the class of its first byte
unfoldable pub signed : Class → List ℕ → Before → Before
signed Paren text b = opened (record { square = false; index = calls b || inside b.brackets }) b
signed Square text b = opened (record { square = true; index = inside b.brackets }) b
signed Brace text b = opened (record { square = false; index = true }) b
signed Close text b = closed (slice_index text 0) b
signed Single text b = token last.Operand b
signed Dot text b = token (if begins 39 (drop 1 text) then last.Operand else last.Other) b
signed _ text b = token last.Other b

-- behind a piece with these bytes
unfoldable pub behind : Part → List ℕ → Before → Before
behind part.Blank text b = record b { gap = b.gap || not (in_block b) }
behind part.Continued text b = record b { gap = true; joined = true }
behind part.Comment text b = b
behind part.BlockStart text b = record b { blocks = b.blocks + 1 }
behind part.BlockEnd text b = record b { blocks = b.blocks - 1 }
behind part.LineEnd text b = line_end b
behind part.Name text b = token last.Named b
behind part.Keyword text b = keyword text b
behind part.Literal text b = token last.Operand b
behind part.Chars text b = token last.Operand b
behind part.Sign text b = signed (class_of (slice_index text 0)) text b
