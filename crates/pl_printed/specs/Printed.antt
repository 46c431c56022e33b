-- The laws of printed texts: the text that a program is printed as is read back as the same program, but for places,
-- and that program is printed as the same text.
use Rattle.std.specs.Prelude.{◌≡◌, ℕ, List, map}
use Rattle.pl_syntax.specs.declared.stmt.Program.{Program}
use Rattle.pl_lex.specs.declared.token.Token.{Token}
use Rattle.pl_lex.specs.Tokens.{Lexes}
use Rattle.pl_terminals.specs.Terminals.{terminal_of}
use Rattle.pl_grammar.specs.Programs.{strict, Parses}
use Rattle.pl_printing.specs.Places.{but_places}
use Rattle.pl_printing.specs.Canonical.{canonical}
use Rattle.pl_layout.specs.Layout.{text}

-- the text that a program is printed as
abbrev pub printed : Program → List ℕ
printed program = text (canonical program)

-- the source has tokens, and they are this program, nested at most so deep
pub record IsSourceOf (limit : ℕ) (source : List ℕ) (program : Program) : Type 0 where
  pub tokens : List Token
  pub lexes : Lexes source tokens
  pub parses : Parses (strict limit) (map (terminal_of source) tokens) program

-- the source is a source of this program, but for places
pub record ReadsBack (limit : ℕ) (source : List ℕ) (program : Program) : Type 0 where
  pub again : Program
  pub is_source : IsSourceOf limit source again
  pub same : but_places again ≡ but_places program

-- a program that some source has is read back from what it is printed as, at no deeper nesting than that source has
abbrev pub PrintedLaw : Type 0
PrintedLaw = (limit : ℕ) (source : List ℕ) (program : Program) → IsSourceOf limit source program → ReadsBack limit (printed program) program

-- programs that are the same but for places are printed as the same text
abbrev pub PlacesAreNotPrinted : Type 0
PlacesAreNotPrinted = (program other : Program) → but_places program ≡ but_places other → printed program ≡ printed other

-- a program that some source has is printed, read back at whatever limit and printed again as the same text
abbrev pub PrintedAgain : Type 0
PrintedAgain = (limit other : ℕ) (source : List ℕ) (program again : Program) → IsSourceOf limit source program → IsSourceOf other (printed program) again → printed again ≡ printed program
