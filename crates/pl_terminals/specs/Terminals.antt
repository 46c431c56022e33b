-- The terminal of a token of a source.
use Rattle.std.specs.Prelude.{◌≡◌, ◌≤◌, ℕ, ◌+◌, ◌-◌, ◌*◌, ℤ, pos, min, Bool, true, false, ◌==◌, if◌then◌else◌, List, [], ◌∷◌, take, drop, length}
use Rattle.pl_base.specs.declared.errors.Place.{Place}
use Rattle.pl_lex.specs.declared.token.Token.{Token}
use Rattle.pl_lex.specs.declared.token.Kind.{Kind}
use Rattle.pl_lex.specs.declared.token.Kind.TheVariants as kind
use Rattle.pl_lex.specs.Tokens.{mark_len, place_of}
use Rattle.pl_lex.specs.Pieces.{Inner, plain, doubled}
use Rattle.pl_grammar.specs.declared.terminal.Word.{Word}
use Rattle.pl_grammar.specs.declared.terminal.Word.TheVariants as w
use Rattle.pl_grammar.specs.declared.terminal.Terminal.{Terminal}
use Rattle.pl_terminals.specs.Signs.{sign, keyword}

-- a text behind its first quote: of two quotes the second stands for both, and one alone ends it. The flag says that
-- a quote stands before
abbrev pub unquoted : ℕ → Bool → List ℕ → List ℕ
unquoted q twice [] = []
unquoted q true (c ∷ cs) = c ∷ unquoted q false cs
unquoted q false (c ∷ cs) = if c == q then unquoted q true cs else c ∷ unquoted q false cs

abbrev pub text : List ℕ → List ℕ
text [] = []
text (q ∷ cs) = unquoted q false cs

-- the number of which the digits so far are n, when these digits follow; it stops at the greatest of 64 bits
abbrev pub number_onto : ℕ → List ℕ → ℕ
number_onto n [] = n
number_onto n (c ∷ cs) = number_onto (min (n * 10 + (c - 48)) 9223372036854775807) cs

abbrev pub number : List ℕ → ℤ
number digits = pos (number_onto 0 digits)

abbrev pub word_of : Kind → List ℕ → Word
word_of kind.Name b = w.Name b
word_of kind.Keyword b = w.Key (keyword b)
word_of kind.Literal b = w.Number (number b)
word_of kind.Chars b = w.Chars (text b)
word_of kind.Sign b = sign b
word_of kind.LineEnd b = w.LineEnd

-- the bytes of a token
abbrev pub bytes_of : List ℕ → Token → List ℕ
bytes_of source t = take (t.to - t.from) (drop t.from source)

-- a place that is the one of its own byte
abbrev pub StandsIn : List ℕ → Place → Type 0
StandsIn source p = (mark_len source ≤ p.at) × (p.at ≤ length source) × (p ≡ place_of source p.at)

abbrev pub terminal_at : List ℕ → Token → Place → Terminal
terminal_at source t place = record { word = word_of t.kind (bytes_of source t); gap = t.gap; place = place }

abbrev pub terminal_of : List ℕ → Token → Terminal
terminal_of source t = terminal_at source t (place_of source t.from)

-- what stands between two quotes, two quotes for one
abbrev pub inner_bytes : ℕ → List Inner → List ℕ
inner_bytes q [] = []
inner_bytes q (plain c ∷ more) = c ∷ inner_bytes q more
inner_bytes q (doubled ∷ more) = q ∷ inner_bytes q more
