-- The tokens of a source, and the fault that it may have in their place.
use Rattle.std.specs.Prelude.{◌≡◌, ℕ, ◌+◌, ◌-◌, ◌<◌, ◌≤◌, Bool, true, false, ◌||◌, ◌==◌, if◌then◌else◌, List, [], ◌∷◌, ◌++◌, length, drop, take, nat_eq, Option, Some, None}
use Rattle.std.specs.List.{starts_with}
use Rattle.pl_base.specs.declared.errors.Place.{Place}
use Rattle.pl_lex.specs.declared.state.Part.{Part}
use Rattle.pl_lex.specs.declared.state.Part.TheVariants as part
use Rattle.pl_lex.specs.declared.state.Before.{Before}
use Rattle.pl_lex.specs.declared.token.Token.{Token}
use Rattle.pl_lex.specs.declared.token.Kind.{Kind}
use Rattle.pl_lex.specs.declared.token.Kind.TheVariants as kind
use Rattle.pl_lex.specs.declared.token.LexKind.{LexKind}
use Rattle.pl_lex.specs.declared.bytes.Class.{Class}
use Rattle.pl_lex.specs.declared.bytes.Class.TheVariants.{Letter, Single, Double}
use Rattle.pl_lex.specs.Bytes.{class_of, is_part, is_digit, Each}
use Rattle.pl_lex.specs.Keywords.{is_keyword}
use Rattle.pl_lex.specs.State.{start, in_block, behind}
use Rattle.pl_lex.specs.Pieces.{Piece, clean, fault, bytes_of, Cut, in_range, IsClosed}

-- the kind of the token that a piece is, if it is one
abbrev pub kind_of : Part → Before → Option Kind
kind_of part.LineEnd b = if in_block b || b.joined then None else Some kind.LineEnd
kind_of part.Name b = Some kind.Name
kind_of part.Keyword b = Some kind.Keyword
kind_of part.Literal b = Some kind.Literal
kind_of part.Chars b = Some kind.Chars
kind_of part.Sign b = Some kind.Sign
kind_of _ b = None

-- the token from one place to another, if there is one
abbrev pub token_of : Option Kind → ℕ → ℕ → Before → List Token
token_of None from to b = []
token_of (Some k) from to b = record { kind = k; from = from; to = to; gap = b.gap } ∷ []

-- the tokens of the pieces, of which the first begins at a place
abbrev pub tokens_of : ℕ → Before → List Piece → List Token
tokens_of at b [] = []
tokens_of at b (p ∷ ps) =
    token_of (kind_of p.part b) at (at + 1 + length p.others) b
    ++ tokens_of (at + 1 + length p.others) (behind p.part (p.first ∷ p.others) b) ps

-- how many bytes the UTF-8 mark at the front has
unfoldable pub mark_len : List ℕ → ℕ
mark_len source = if starts_with nat_eq source (239 ∷ 187 ∷ 191 ∷ []) then 3 else 0

-- the place behind a byte that stands at a place
abbrev pub next_place : Place → ℕ → Place
next_place p c = record { line = (if c == 10 then p.line + 1 else p.line); col = (if c == 10 then 1 else p.col + 1); at = p.at + 1 }

-- the place behind these bytes
abbrev pub past : Place → List ℕ → Place
past p [] = p
past p (c ∷ cs) = past (next_place p c) cs

-- where the source begins, behind its mark
abbrev pub first_place : List ℕ → Place
first_place source = record { line = 1; col = 1; at = mark_len source }

-- where the byte behind so many stands
unfoldable pub place_of : List ℕ → ℕ → Place
place_of source at = past (first_place source) (take (at - mark_len source) (drop (mark_len source) source))

-- the source has these tokens
pub record Lexes (source : List ℕ) (tokens : List Token) : Type 0 where
  pub pieces : List Piece
  pub cut : Cut start pieces clean
  pub spells : bytes_of pieces clean ≡ drop (mark_len source) source
  pub tells : tokens_of (mark_len source) start pieces ≡ tokens

-- the source has no tokens: its first fault is of this kind, and stands at this place
pub record Faults (source : List ℕ) (kind : LexKind) (place : Place) : Type 0 where
  pub pieces : List Piece
  pub first : ℕ
  pub rest : List ℕ
  pub cut : Cut start pieces (fault kind first rest)
  pub spells : bytes_of pieces (fault kind first rest) ≡ drop (mark_len source) source
  pub stands : past (first_place source) (bytes_of pieces clean) ≡ place

-- ---- what a token's bytes are

-- a name is a letter and what goes on in a name, and no keyword
abbrev pub IsName : List ℕ → Type 0
IsName [] = ⊥
IsName (c ∷ cs) = (class_of c ≡ Letter) × Each is_part cs × (is_keyword (c ∷ cs) ≡ false)

-- a literal is digits, and at most the greatest int64
abbrev pub IsLiteral : List ℕ → Type 0
IsLiteral [] = ⊥
IsLiteral (c ∷ cs) = Each is_digit (c ∷ cs) × (in_range (c ∷ cs) ≡ true)

abbrev pub quote_class : Class → Bool
quote_class Single = true
quote_class Double = true
quote_class _ = false

-- a text is a quote, what stands between, and the quote
abbrev pub IsText : List ℕ → Type 0
IsText [] = ⊥
IsText (c ∷ cs) = (quote_class (class_of c) ≡ true) × IsClosed c cs

-- bytes of a token of this kind
abbrev pub IsTextOf : Kind → List ℕ → Type 0
IsTextOf kind.Name bytes = IsName bytes
IsTextOf kind.Keyword bytes = is_keyword bytes ≡ true
IsTextOf kind.Literal bytes = IsLiteral bytes
IsTextOf kind.Chars bytes = IsText bytes
IsTextOf kind.Sign bytes = length bytes ≤ 2
IsTextOf kind.LineEnd bytes = length bytes ≤ 2

-- a token is a range of the source, isn't empty, and has bytes of its kind
pub record IsTokenOf (source : List ℕ) (t : Token) : Type 0 where
  pub filled : t.from < t.to
  pub within : t.to ≤ length source
  pub bytes : IsTextOf t.kind (take (t.to - t.from) (drop t.from source))
