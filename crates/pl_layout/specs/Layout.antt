-- How terminals are laid out as text: the bytes of each word, and the white space before it.
use Rattle.std.specs.Prelude.{ℕ, suc, zero, ◌+◌, ◌-◌, Bool, true, false, ◌&&◌, ◌||◌, ◌==◌, if◌then◌else◌, List, [], ◌∷◌, ◌++◌, codes}
use Rattle.std.specs.Fmt.{signed_decimal}
use Rattle.pl_syntax.specs.Signs.{binary_sign}
use Rattle.pl_grammar.specs.declared.terminal.Terminal.{Terminal}
use Rattle.pl_grammar.specs.declared.terminal.Word.{Word}
use Rattle.pl_grammar.specs.declared.terminal.Word.TheVariants as w
use Rattle.pl_grammar.specs.declared.terminal.Keyword.{Keyword}
use Rattle.pl_grammar.specs.declared.terminal.Keyword.TheVariants as k
use Rattle.pl_grammar.specs.Words.{is_link}

-- ---- words

abbrev pub keyword_bytes : Keyword → List ℕ
keyword_bytes k.Break = codes "break"
keyword_bytes k.Case = codes "case"
keyword_bytes k.Catch = codes "catch"
keyword_bytes k.Classdef = codes "classdef"
keyword_bytes k.Continue = codes "continue"
keyword_bytes k.Else = codes "else"
keyword_bytes k.Elseif = codes "elseif"
keyword_bytes k.End = codes "end"
keyword_bytes k.For = codes "for"
keyword_bytes k.Function = codes "function"
keyword_bytes k.Global = codes "global"
keyword_bytes k.If = codes "if"
keyword_bytes k.Otherwise = codes "otherwise"
keyword_bytes k.Parfor = codes "parfor"
keyword_bytes k.Persistent = codes "persistent"
keyword_bytes k.Return = codes "return"
keyword_bytes k.Spmd = codes "spmd"
keyword_bytes k.Switch = codes "switch"
keyword_bytes k.Try = codes "try"
keyword_bytes k.While = codes "while"

-- a text behind its first quote: each quote in it is written twice
abbrev pub quoted : List ℕ → List ℕ
quoted [] = 39 ∷ []
quoted (c ∷ cs) = if c == 39 then 39 ∷ 39 ∷ quoted cs else c ∷ quoted cs

-- a transposition; behind a text, where a quote would go on with it, it has a dot
abbrev pub transposing : Bool → List ℕ
transposing false = codes "'"
transposing true = codes ".'"

-- the bytes of a word, which may stand behind a text in quotes
abbrev pub written : Bool → Word → List ℕ
written behind_text (w.Name text) = text
written behind_text (w.Chars text) = 39 ∷ quoted text
written behind_text (w.Number z) = signed_decimal z
written behind_text (w.Binary o) = binary_sign o
written behind_text w.Not = codes "~"
written behind_text w.Quote = transposing behind_text
written behind_text w.Equal = codes "="
written behind_text w.Colon = codes ":"
written behind_text w.Comma = codes ","
written behind_text w.Semicolon = codes ";"
written behind_text w.LineEnd = codes "\n"
written behind_text w.Open = codes "("
written behind_text w.Close = codes ")"
written behind_text w.OpenSquare = codes "["
written behind_text w.CloseSquare = codes "]"
written behind_text w.OpenBrace = codes "{"
written behind_text w.CloseBrace = codes "}"
written behind_text w.At = codes "@"
written behind_text w.Dot = codes "."
written behind_text (w.Key word) = keyword_bytes word

-- ---- lines

-- where a word is to be written: how many blocks and brackets are open there, whether a line begins, and whether
-- the word before is a text in quotes
pub record Line : Type 0 where
  pub depth : ℕ
  pub brackets : ℕ
  pub fresh : Bool
  pub behind_text : Bool

abbrev pub first_line : Line
first_line = record { depth = 0; brackets = 0; fresh = true; behind_text = false }

abbrev pub opens_block : Keyword → Bool
opens_block k.If = true
opens_block k.While = true
opens_block k.For = true
opens_block k.Parfor = true
opens_block k.Switch = true
opens_block k.Try = true
opens_block k.Spmd = true
opens_block k.Function = true
opens_block word = false

abbrev pub is_end : Keyword → Bool
is_end k.End = true
is_end word = false

-- outside of brackets `end` closes a block
abbrev pub closes_block : Keyword → Line → Bool
closes_block word l = is_end word && (l.brackets == 0)

-- how many levels a line is indented that begins with this word: the parts of a compound statement stand out
abbrev pub level : Word → Line → ℕ
level (w.Key word) l = if is_link word || closes_block word l then l.depth - 1 else l.depth
level word l = l.depth

abbrev pub indent : ℕ → List ℕ
indent zero = []
indent (suc n) = 32 ∷ 32 ∷ indent n

abbrev pub blank : Bool → List ℕ
blank true = 32 ∷ []
blank false = []

-- the white space before a word
abbrev pub lead : Terminal → Line → List ℕ
lead t l = if l.fresh then indent (level t.word l) else blank t.gap

abbrev pub depth_behind : Word → Line → ℕ
depth_behind (w.Key word) l = if opens_block word then l.depth + 1 else (if closes_block word l then l.depth - 1 else l.depth)
depth_behind word l = l.depth

abbrev pub brackets_behind : Word → ℕ → ℕ
brackets_behind w.Open n = n + 1
brackets_behind w.OpenSquare n = n + 1
brackets_behind w.OpenBrace n = n + 1
brackets_behind w.Close n = n - 1
brackets_behind w.CloseSquare n = n - 1
brackets_behind w.CloseBrace n = n - 1
brackets_behind word n = n

abbrev pub ends_line : Word → Bool
ends_line w.LineEnd = true
ends_line word = false

abbrev pub is_text : Word → Bool
is_text (w.Chars text) = true
is_text word = false

-- where the next word is to be written
abbrev pub past : Word → Line → Line
past word l = record { depth = depth_behind word l; brackets = brackets_behind word l.brackets; fresh = ends_line word; behind_text = is_text word }

-- the bytes of terminals that begin here
abbrev pub text_from : Line → List Terminal → List ℕ
text_from l [] = []
text_from l (t ∷ ts) = lead t l ++ (written l.behind_text t.word ++ text_from (past t.word l) ts)

-- the text of terminals
abbrev pub text : List Terminal → List ℕ
text ts = text_from first_line ts
