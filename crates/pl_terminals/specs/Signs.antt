-- Signs and keywords by their bytes. What isn't among them stands for the last one.
use Rattle.std.specs.Prelude.{ℕ, ◌==◌, if◌then◌else◌, List, [], ◌∷◌, codes}
use Rattle.pl_lex.specs.Keywords.{same}
use Rattle.pl_syntax.specs.declared.expr.Bin.TheVariants as bin
use Rattle.pl_grammar.specs.declared.terminal.Word.{Word}
use Rattle.pl_grammar.specs.declared.terminal.Word.TheVariants as w
use Rattle.pl_grammar.specs.declared.terminal.Keyword.{Keyword}
use Rattle.pl_grammar.specs.declared.terminal.Keyword.TheVariants as k

-- `[ ] { } @ .`
abbrev pub bracket : ℕ → Word
bracket c =
    if c == 91 then w.OpenSquare else
    if c == 93 then w.CloseSquare else
    if c == 123 then w.OpenBrace else
    if c == 125 then w.CloseBrace else
    if c == 64 then w.At else w.Dot

-- a sign of one byte: `+ - * / ^ < > & | ~ ' = : , ; ( )` and the brackets
abbrev pub lone : ℕ → Word
lone c =
    if c == 43 then w.Binary bin.Add else
    if c == 45 then w.Binary bin.Sub else
    if c == 42 then w.Binary bin.Mul else
    if c == 47 then w.Binary bin.Div else
    if c == 94 then w.Binary bin.Pow else
    if c == 60 then w.Binary bin.Lt else
    if c == 62 then w.Binary bin.Gt else
    if c == 38 then w.Binary bin.And else
    if c == 124 then w.Binary bin.Or else
    if c == 126 then w.Not else
    if c == 39 then w.Quote else
    if c == 61 then w.Equal else
    if c == 58 then w.Colon else
    if c == 44 then w.Comma else
    if c == 59 then w.Semicolon else
    if c == 40 then w.Open else
    if c == 41 then w.Close else bracket c

-- `.* ./ .^ .'`
abbrev pub dotted : ℕ → Word
dotted c =
    if c == 42 then w.Binary bin.DotMul else
    if c == 47 then w.Binary bin.DotDiv else
    if c == 94 then w.Binary bin.DotPow else w.Quote

-- a sign of two bytes: those with a dot, `<= >= == ~= && ||`
abbrev pub double : ℕ → ℕ → Word
double c d =
    if c == 46 then dotted d else
    if c == 60 then w.Binary bin.Le else
    if c == 62 then w.Binary bin.Ge else
    if c == 61 then w.Binary bin.Eq else
    if c == 126 then w.Binary bin.Ne else
    if c == 38 then w.Binary bin.AndAlso else w.Binary bin.OrElse

abbrev pub sign : List ℕ → Word
sign [] = w.Dot
sign (c ∷ []) = lone c
sign (c ∷ d ∷ cs) = double c d

unfoldable pub later_keyword : List ℕ → Keyword
later_keyword b =
    if same (codes "global") b then k.Global else
    if same (codes "if") b then k.If else
    if same (codes "otherwise") b then k.Otherwise else
    if same (codes "parfor") b then k.Parfor else
    if same (codes "persistent") b then k.Persistent else
    if same (codes "return") b then k.Return else
    if same (codes "spmd") b then k.Spmd else
    if same (codes "switch") b then k.Switch else
    if same (codes "try") b then k.Try else k.While

unfoldable pub keyword : List ℕ → Keyword
keyword b =
    if same (codes "break") b then k.Break else
    if same (codes "case") b then k.Case else
    if same (codes "catch") b then k.Catch else
    if same (codes "classdef") b then k.Classdef else
    if same (codes "continue") b then k.Continue else
    if same (codes "else") b then k.Else else
    if same (codes "elseif") b then k.Elseif else
    if same (codes "end") b then k.End else
    if same (codes "for") b then k.For else
    if same (codes "function") b then k.Function else later_keyword b
