-- Which terminals can be laid out as text so that they are read back, and the law that says so.
use Rattle.std.specs.Prelude.{◌≡◌, ℕ, zero, suc, ◌≤◌, ℤ, pos, Bool, true, false, not, ◌==◌, List, [], ◌∷◌, map}
use Rattle.pl_syntax.specs.declared.expr.Bin.{Bin}
use Rattle.pl_syntax.specs.declared.expr.Bin.TheVariants as bin
use Rattle.pl_grammar.specs.declared.terminal.Terminal.{Terminal}
use Rattle.pl_grammar.specs.declared.terminal.Word.{Word}
use Rattle.pl_grammar.specs.declared.terminal.Word.TheVariants as w
use Rattle.pl_lex.specs.declared.token.Token.{Token}
use Rattle.pl_lex.specs.Bytes.{class_of, is_part, is_digit, begins, Each, Stops}
use Rattle.pl_lex.specs.State.{start, opens_text, token, line_end, keyword, closed, signed}
use Rattle.pl_lex.specs.Pieces.{is_whole, joins, continues}
use Rattle.pl_lex.specs.Tokens.{IsName, Lexes}
use Rattle.pl_terminals.specs.Terminals.{terminal_of}
use Rattle.pl_printing.specs.ReadingBack.{AreAlike}
use Rattle.pl_layout.specs.Layout.{Line, first_line, written, level, past, text_from, text}

-- ---- which terminals can be laid out

-- a literal of the language has no sign, and fits
abbrev pub IsNumber : ℤ → Type 0
IsNumber (pos n) = n ≤ 9223372036854775807
IsNumber z = ⊥

abbrev pub in_line : ℕ → Bool
in_line c = not (c == 10)

-- a name is one, a text ends no line, and a number is a literal
abbrev pub IsWord : Word → Type 0
IsWord (w.Name text) = IsName text
IsWord (w.Chars text) = Each in_line text
IsWord (w.Number z) = IsNumber z
IsWord word = Unit {0}

-- the bytes behind an operator don't make it a longer one
abbrev pub OperatorStays : Bin → List ℕ → Type 0
OperatorStays bin.Lt rest = begins 61 rest ≡ false
OperatorStays bin.Gt rest = begins 61 rest ≡ false
OperatorStays bin.And rest = begins 38 rest ≡ false
OperatorStays bin.Or rest = begins 124 rest ≡ false
OperatorStays o rest = Unit {0}

-- the bytes behind a word don't run together with it
abbrev pub Stays : Word → List ℕ → Type 0
Stays (w.Name text) rest = Stops is_part rest
Stays (w.Key word) rest = Stops is_part rest
Stays (w.Number z) rest = Stops is_digit rest × (is_whole rest ≡ true)
Stays (w.Chars text) rest = begins 39 rest ≡ false
Stays (w.Binary o) rest = OperatorStays o rest
Stays w.Not rest = begins 61 rest ≡ false
Stays w.Equal rest = begins 61 rest ≡ false
Stays w.Dot rest = (joins (class_of 46) 46 rest ≡ false) × (continues (class_of 46) rest ≡ false)
Stays word rest = Unit {0}

-- what the lexer has before a place, by the type of what it starts with
abbrev pub type_of : {A : Type 0} → A → Type 0
type_of {A} a = A

abbrev pub Before : Type 0
Before = type_of start

-- before a terminal's word, behind its white space
abbrev pub at_word : Terminal → Before → Before
at_word t b = record b { gap = t.gap }

abbrev pub first_byte : List ℕ → ℕ
first_byte [] = 0
first_byte (c ∷ cs) = c

-- behind a word with these bytes: behind a name as behind `}`, and behind a text or a number as behind `)`
abbrev pub beyond : Word → List ℕ → Before → Before
beyond (w.Name text) bytes b = token (closed 125 b).last b
beyond (w.Chars text) bytes b = token (closed 41 b).last b
beyond (w.Number z) bytes b = token (closed 41 b).last b
beyond (w.Key word) bytes b = keyword bytes b
beyond w.LineEnd bytes b = line_end b
beyond word bytes b = signed (class_of (first_byte bytes)) bytes b

-- a quote opens no text here, unless it has a dot before it
abbrev pub Transposes : Bool → Before → Type 0
Transposes false b = opens_text b ≡ false
Transposes true b = Unit {0}

-- a quote opens a text or transposes, as it should
abbrev pub QuoteFits : Bool → Word → Before → Type 0
QuoteFits behind_text (w.Chars text) b = opens_text b ≡ true
QuoteFits behind_text w.Quote b = Transposes behind_text b
QuoteFits behind_text word b = Unit {0}

abbrev pub is_indented : ℕ → Bool
is_indented zero = false
is_indented (suc n) = true

-- the first word of a line has white space before it where the line is indented, by so many levels
abbrev pub LineFits : Bool → Bool → ℕ → Type 0
LineFits true gap n = gap ≡ is_indented n
LineFits false gap n = Unit {0}

-- these terminals can be laid out from here on
abbrev pub AreShownFrom : Line → Before → List Terminal → Type 0
AreShownFrom l b [] = Unit {0}
AreShownFrom l b (t ∷ ts) =
    IsWord t.word
    × LineFits l.fresh t.gap (level t.word l)
    × QuoteFits l.behind_text t.word (at_word t b)
    × Stays t.word (text_from (past t.word l) ts)
    × AreShownFrom (past t.word l) (beyond t.word (written l.behind_text t.word) (at_word t b)) ts

-- these terminals can be laid out
abbrev pub AreShown : List Terminal → Type 0
AreShown ts = AreShownFrom first_line start ts

-- ---- the law

-- the source has tokens, and they are these terminals but for places
pub record ReadAs (source : List ℕ) (ts : List Terminal) : Type 0 where
  pub tokens : List Token
  pub lexes : Lexes source tokens
  pub alike : AreAlike (map (terminal_of source) tokens) ts

-- the text of terminals that can be laid out is read back as these terminals
abbrev pub TextLaw : Type 0
TextLaw = (ts : List Terminal) → AreShown ts → ReadAs (text ts) ts
