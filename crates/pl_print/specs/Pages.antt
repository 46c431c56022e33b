-- The page that a program is printed on, and how it grows.
use Rattle.std.specs.Prelude.{◌≡◌, ℕ, Bool, true, false, not, ◌==◌, Option, map, codes, List, [], ◌∷◌, ◌++◌}
use Rattle.pl_syntax.specs.declared.expr.Bin.TheVariants as bin
use Rattle.pl_syntax.specs.declared.expr.Name.{Name}
use Rattle.pl_syntax.specs.declared.expr.Expr.{Expr}
use Rattle.pl_syntax.specs.declared.stmt.Arm.{Arm, fold-Arm}
use Rattle.pl_syntax.specs.declared.stmt.StmtKind.{StmtKind, fold-StmtKind}
use Rattle.pl_syntax.specs.declared.stmt.Target.{Target}
use Rattle.pl_grammar.specs.declared.terminal.Keyword.{Keyword}
use Rattle.pl_grammar.specs.declared.terminal.Terminal.{Terminal}
use Rattle.pl_grammar.specs.declared.terminal.Word.{Word}
use Rattle.pl_grammar.specs.declared.terminal.Word.TheVariants as w
use Rattle.pl_print.specs.declared.page.Sign.{Sign}
use Rattle.pl_print.specs.declared.page.Sign.TheVariants as sign
use Rattle.pl_layout.specs.Layout.{Line, first_line, text_from}
use Rattle.pl_printing.specs.Canonical.{Words, Shown, behind, list_words, terminal, directly, apart, shown, all_shown, expr_words, name_words, in_brackets, target_words, output_words, separated, assigned, block_words, finish, last_words, of_stmt_kind, of_arm_layer, of_stmt_layer}

-- the bytes so far, and where the next word is to be written
pub record Writing : Type 0 where
  pub bytes : List ℕ
  pub line : Line

abbrev pub first_page : Writing
first_page = record { bytes = []; line = first_line }

-- the whole text, when these terminals follow
unfoldable pub text_with : Writing → List Terminal → List ℕ
text_with page rest = page.bytes ++ text_from page.line rest

-- a page has grown by the terminals that f puts before a rest
abbrev pub Writes : Writing → Writing → (List Terminal → List Terminal) → Type 0
Writes old new f = (rest : List Terminal) → text_with new rest ≡ text_with old (f rest)

-- the word that a sign is
abbrev pub word_of : Sign → Word
word_of sign.Plus = w.Binary bin.Add
word_of sign.Minus = w.Binary bin.Sub
word_of sign.Not = w.Not
word_of sign.Quote = w.Quote
word_of sign.Equal = w.Equal
word_of sign.Colon = w.Colon
word_of sign.Comma = w.Comma
word_of sign.Semicolon = w.Semicolon
word_of sign.Open = w.Open
word_of sign.Close = w.Close
word_of sign.OpenSquare = w.OpenSquare
word_of sign.CloseSquare = w.CloseSquare
word_of sign.OpenBrace = w.OpenBrace
word_of sign.CloseBrace = w.CloseBrace
word_of sign.At = w.At
word_of sign.Dot = w.Dot

-- ---- words of rows and statements

-- a row, behind a semicolon where it isn't the first
abbrev pub row_words : Bool → List Shown → List Terminal → List Terminal
row_words true row rest = list_words row false rest
row_words false row rest = directly w.Semicolon ∷ list_words row true rest

abbrev pub func_words : Name → Words
func_words n gap rest = terminal gap w.At ∷ directly (w.Name n.text) ∷ rest

abbrev pub state_words : List Terminal → List Terminal
state_words rest = directly w.Dot ∷ directly (w.Name (codes "State")) ∷ rest

-- the rows to come, of which the first may be the first of all
abbrev pub more_rows : Bool → List (List Shown) → List Terminal → List Terminal
more_rows true rows rest = separated w.Semicolon (map list_words rows) false rest
more_rows false rows rest = behind w.Semicolon (map list_words rows) rest

abbrev pub assign_words : Target → Expr → Words
assign_words t e gap rest = target_words t gap (apart w.Equal ∷ assigned t (shown e) rest)

abbrev pub spread_words : List (Option Target) → Expr → Words
spread_words ts e gap rest = terminal gap w.OpenSquare ∷ separated w.Comma (map output_words ts) false (directly w.CloseSquare ∷ apart w.Equal ∷ expr_words e true rest)

abbrev pub delete_words : Name → List Expr → Words
delete_words n es gap rest = name_words n.text gap (in_brackets (all_shown es) (apart w.Equal ∷ apart w.OpenSquare ∷ directly w.CloseSquare ∷ rest))

-- a block and its `end`
abbrev pub closed_words : List Words → Words
closed_words body gap rest = block_words body (finish gap rest)

-- the block behind `else`, `otherwise` or `catch`, unless it is empty, and the `end`
abbrev pub ended_words : Keyword → List Words → Words
ended_words word last gap rest = last_words word last gap (finish gap rest)

-- the words of a statement, without the end of its line
abbrev pub kind_words : StmtKind → Words
kind_words = fold-StmtKind Words (Keyword → Words) Words of_stmt_kind of_arm_layer of_stmt_layer

abbrev pub arm_words : Arm → Keyword → Words
arm_words = fold-Arm Words (Keyword → Words) Words of_stmt_kind of_arm_layer of_stmt_layer

-- a byte that is no dot
abbrev pub no_dot : ℕ → Bool
no_dot c = not (c == 46)
