-- The pieces of bytes, found from the front on: what `scan.rt` and `lexer.rt` compute. That these are the
-- pieces of the grammar is proved of it (proofs/Finds, proofs/Sound).
use Rattle.std.specs.Prelude.{ℕ, suc, zero, ◌+◌, Bool, true, false, ◌==◌, if◌then◌else◌, List, [], ◌∷◌, ◌++◌, drop, take, slice_index, Option, Some, None, option_map, Result, Ok, Err}
use Rattle.std.specs.List.{prefix_len}
use Rattle.pl_lex.specs.declared.bytes.Class.{Class}
use Rattle.pl_lex.specs.declared.bytes.Class.TheVariants.{Letter, Digit, Underscore, Blank, LineFeed, Return, Percent, Single, Double, Dot, Other}
use Rattle.pl_lex.specs.declared.state.Part.{Part}
use Rattle.pl_lex.specs.declared.state.Part.TheVariants as part
use Rattle.pl_lex.specs.declared.state.Before.{Before}
use Rattle.pl_lex.specs.declared.scan.Found.{Found}
use Rattle.pl_lex.specs.declared.token.Token.{Token}
use Rattle.pl_lex.specs.declared.token.LexKind.{LexKind}
use Rattle.pl_lex.specs.declared.token.LexKind.TheVariants as kind
use Rattle.pl_lex.specs.Bytes.{class_of, is_part, is_digit, is_blank, begins, to_line_end}
use Rattle.pl_lex.specs.Keywords.{is_keyword}
use Rattle.pl_lex.specs.State.{start, in_block, opens_text, behind}
use Rattle.pl_lex.specs.Pieces.{in_range, is_whole, joins, continues, marks}
use Rattle.pl_lex.specs.Tokens.{kind_of, token_of, mark_len}

-- a piece of this sort, with so many bytes behind its first
abbrev pub found : Part → ℕ → Found
found p n = record { part = p; more = n }

-- ---- one function for each sort of piece; the text begins with the piece

abbrev pub blank : List ℕ → Found
blank text = found part.Blank (prefix_len is_blank (drop 1 text))

abbrev pub to_end : Part → List ℕ → Found
to_end p text = found p (to_line_end (drop 1 text))

unfoldable pub word : List ℕ → Found
word text =
    found (if is_keyword (take (suc (prefix_len is_part (drop 1 text))) text) then part.Keyword else part.Name) (prefix_len is_part (drop 1 text))

-- a literal with so many digits behind its first
abbrev pub literal_of : ℕ → List ℕ → Result Found LexKind
literal_of n text =
    if in_range (take (suc n) text)
    then (if is_whole (drop (suc n) text) then Ok (found part.Literal n) else Err kind.NotWhole)
    else Err kind.LiteralRange

unfoldable pub literal : List ℕ → Result Found LexKind
literal text = literal_of (prefix_len is_digit (drop 1 text)) text

abbrev pub more : Option ℕ → Option ℕ
more n = option_map (λ n. 1 + n) n

-- how many bytes go up to and with the closing quote, if there is one; or the first byte is the second of two quotes
abbrev pub text_len : ℕ → Bool → List ℕ → Option ℕ
text_len q twice [] = None
text_len q true (c ∷ cs) = more (text_len q false cs)
text_len q false (c ∷ cs) =
    if c == q
    then (if begins q cs then more (text_len q true cs) else Some 1)
    else (if c == 10 then None else more (text_len q false cs))

abbrev pub text_of : Option ℕ → Result Found LexKind
text_of None = Err kind.OpenText
text_of (Some n) = Ok (found part.Chars n)

unfoldable pub quoted : List ℕ → Result Found LexKind
quoted text = text_of (text_len (slice_index text 0) false (drop 1 text))

unfoldable pub sign : Class → List ℕ → Found
sign k text = found part.Sign (if joins k (slice_index text 0) (drop 1 text) then 1 else 0)

unfoldable pub dotted : List ℕ → Found
dotted text = if continues Dot (drop 1 text) then to_end part.Continued text else sign Dot text

unfoldable pub percent : Before → List ℕ → Found
percent b text = if marks 123 b (drop 1 text) then found part.BlockStart 1 else to_end part.Comment text

-- the piece outside block comments, by the class of its first byte
unfoldable pub outside : Class → Before → List ℕ → Result Found LexKind
outside Letter b text = Ok (word text)
outside Digit b text = literal text
outside Underscore b text = Err kind.BadByte
outside Blank b text = Ok (blank text)
outside LineFeed b text = Ok (found part.LineEnd 0)
outside Return b text = if begins 10 (drop 1 text) then Ok (found part.LineEnd 1) else Err kind.BadByte
outside Percent b text = Ok (percent b text)
outside Single b text = if opens_text b then quoted text else Ok (sign Single text)
outside Double b text = quoted text
outside Dot b text = Ok (dotted text)
outside Other b text = Err kind.BadByte
outside k b text = Ok (sign k text)

-- the piece in a block comment
unfoldable pub inside : Class → Before → List ℕ → Found
inside Blank b text = blank text
inside LineFeed b text = found part.LineEnd 0
inside Return b text = if begins 10 (drop 1 text) then found part.LineEnd 1 else to_end part.Comment text
inside Percent b text = if marks 125 b (drop 1 text) then found part.BlockEnd 1 else percent b text
inside _ b text = to_end part.Comment text

-- the piece at the front of a text, which isn't empty
unfoldable pub head : Before → List ℕ → Result Found LexKind
head b text = if in_block b then Ok (inside (class_of (slice_index text 0)) b text) else outside (class_of (slice_index text 0)) b text

-- ---- the whole

-- what was told, and the token that this piece is, if it is one
abbrev pub told : List Token → Found → ℕ → Before → List Token
told done f at b = done ++ token_of (kind_of f.part b) at (at + 1 + f.more) b

-- a fault stops here; else on
abbrev pub on : {A : Type 0} → Result Found LexKind → ℕ → (Found → Result A (LexKind × ℕ)) → Result A (LexKind × ℕ)
on (Ok f) at go = go f
on (Err kind) at go = Err (kind, at)

-- the tokens, or the first fault and where it stands: n bytes of the piece at hand are to come
abbrev pub run : List Token → Before → ℕ → ℕ → List ℕ → Result (List Token) (LexKind × ℕ)
run done b at n [] = Ok done
run done b at (suc n) (c ∷ cs) = run done b (at + 1) n cs
run done b at zero (c ∷ cs) =
    on (head b (c ∷ cs)) at (λ f. run (told done f at b) (behind f.part (take (suc f.more) (c ∷ cs)) b) (at + 1) f.more cs)

-- the tokens of a source, or its first fault and where that stands
unfoldable pub answer : List ℕ → Result (List Token) (LexKind × ℕ)
answer source = run [] start (mark_len source) 0 (drop (mark_len source) source)
