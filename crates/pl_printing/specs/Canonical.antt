-- What a program is printed as: the terminals of its canonical spelling. One statement stands on a line. A
-- terminal has white space before it where the text has a blank there: around operators of two operands and `=`,
-- behind commas and semicolons inside a line, behind keywords, and before the first terminal of an indented line.
use Rattle.std.specs.Prelude.{ℕ, suc, ◌==◌, nat_le, if◌then◌else◌, Bool, true, false, Option, Some, None, List, [], ◌∷◌, map, codes}
use Rattle.pl_syntax.specs.declared.expr.Name.{Name}
use Rattle.pl_syntax.specs.declared.expr.Un.{Un}
use Rattle.pl_syntax.specs.declared.expr.Un.TheVariants as un
use Rattle.pl_syntax.specs.declared.expr.Bin.{Bin}
use Rattle.pl_syntax.specs.declared.expr.Expr.{Expr, Expr-F, fold-Expr}
use Rattle.pl_syntax.specs.declared.expr.ExprKind.TheOpen.{ExprKind-F}
use Rattle.pl_syntax.specs.declared.stmt.Stmt.{Stmt, Stmt-F, fold-Stmt}
use Rattle.pl_syntax.specs.declared.stmt.StmtKind.TheOpen.{StmtKind-F}
use Rattle.pl_syntax.specs.declared.stmt.Arm.{Arm-F}
use Rattle.pl_syntax.specs.declared.stmt.Target.{Target}
use Rattle.pl_syntax.specs.declared.stmt.Target.TheVariants as target
use Rattle.pl_syntax.specs.declared.stmt.Function.{Function}
use Rattle.pl_syntax.specs.declared.stmt.Program.{Program}
use Rattle.pl_grammar.specs.declared.terminal.Terminal.{Terminal}
use Rattle.pl_grammar.specs.declared.terminal.Word.{Word}
use Rattle.pl_grammar.specs.declared.terminal.Word.TheVariants as w
use Rattle.pl_grammar.specs.declared.terminal.Keyword.{Keyword}
use Rattle.pl_grammar.specs.declared.terminal.Keyword.TheVariants as k
use Rattle.pl_grammar.specs.Words.{plus, minus, additive, tilde, sign_word, level, is_power, Dots, whole, stem, neither, dots}
use Rattle.pl_printing.specs.Places.{nowhere}

-- terminals, with white space before the first of them or not, and then the rest
abbrev pub Words : Type 0
Words = Bool → List Terminal → List Terminal

abbrev pub terminal : Bool → Word → Terminal
terminal gap word = record { word = word; gap = gap; place = nowhere }

abbrev pub directly : Word → Terminal
directly = terminal false

abbrev pub apart : Word → Terminal
apart = terminal true

-- one thing behind another, each but the first behind a sign and a blank
abbrev pub behind : Word → List Words → List Terminal → List Terminal
behind sign [] rest = rest
behind sign (x ∷ xs) rest = directly sign ∷ x true (behind sign xs rest)

abbrev pub separated : Word → List Words → Words
separated sign [] gap rest = rest
separated sign (x ∷ xs) gap rest = x gap (behind sign xs rest)

-- ---- names

-- the texts between the dots of a text
abbrev pub onto : ℕ → List (List ℕ) → List (List ℕ)
onto c [] = (c ∷ []) ∷ []
onto c (part ∷ parts) = (c ∷ part) ∷ parts

abbrev pub parts_of : List ℕ → List (List ℕ)
parts_of [] = [] ∷ []
parts_of (c ∷ cs) = if c == 46 then [] ∷ parts_of cs else onto c (parts_of cs)

abbrev pub behind_dots : List (List ℕ) → List Terminal → List Terminal
behind_dots [] rest = rest
behind_dots (part ∷ parts) rest = directly w.Dot ∷ directly (w.Name part) ∷ behind_dots parts rest

abbrev pub dotted_words : List (List ℕ) → Words
dotted_words [] gap rest = rest
dotted_words (part ∷ parts) gap rest = terminal gap (w.Name part) ∷ behind_dots parts rest

abbrev pub is_whole : Dots → Bool
is_whole whole = true
is_whole stem = false
is_whole neither = false

abbrev pub name_words : List ℕ → Words
name_words text gap rest = terminal gap (w.Name text) ∷ rest

abbrev pub split_words : Bool → List ℕ → Words
split_words true text gap rest = dotted_words (parts_of text) gap rest
split_words false text gap rest = name_words text gap rest

-- a name that may have dots: where it is a function of the language, its parts and the dots between them
abbrev pub head_words : List ℕ → Words
head_words text = split_words (is_whole (dots text)) text

-- ---- expressions

-- how an expression is spelled
pub record Shown : Type 0 where
  -- how tightly it binds
  pub bind : ℕ
  pub words : Words
  -- as the right operand of a power, which has the signs before it
  pub raised : Words
  -- before `.State`, where no name has dots
  pub stated : Words
  -- it is `[]`
  pub is_nothing : Bool

abbrev pub in_parentheses : Words → Words
in_parentheses words gap rest = terminal gap w.Open ∷ words false (directly w.Close ∷ rest)

-- in parentheses, or as it is
abbrev pub held : Bool → Words → Words
held true words gap rest = words gap rest
held false words gap rest = in_parentheses words gap rest

-- an operand, in parentheses where it binds less tightly than it has to
abbrev pub operand : ℕ → ℕ → Words → Words
operand least bind words = held (nat_le least bind) words

abbrev pub as_tight : ℕ → Shown → Words
as_tight least a = operand least a.bind a.words

-- what no sign before an operand is
abbrev pub spelled : ℕ → Words → Shown
spelled bind words = record { bind = bind; words = words; raised = operand 11 bind words; stated = words; is_nothing = false }

-- what is no operator
abbrev pub whole_words : Words → Shown
whole_words = spelled 11

abbrev pub signed_by : Word → Shown → Shown
signed_by sign a = record {
  bind = 9;
  words = λ gap rest. terminal gap sign ∷ as_tight 9 a false rest;
  raised = λ gap rest. terminal gap sign ∷ a.raised false rest;
  stated = λ gap rest. terminal gap sign ∷ as_tight 9 a false rest;
  is_nothing = false;
}

abbrev pub unary : Un → Shown → Shown
unary un.Plus a = signed_by (sign_word (additive plus)) a
unary un.Minus a = signed_by (sign_word (additive minus)) a
unary un.Not a = signed_by (sign_word tilde) a
unary un.Transpose a = spelled 10 (λ gap rest. as_tight 10 a gap (directly w.Quote ∷ rest))

-- the right operand of an operator that is a power, or of another one of this level
abbrev pub right_words : Bool → ℕ → Shown → List Terminal → List Terminal
right_words true least b rest = b.raised true rest
right_words false least b rest = as_tight (suc least) b true rest

abbrev pub right_of : Bin → Shown → List Terminal → List Terminal
right_of o = right_words (is_power o) (level o)

abbrev pub words_of : List Shown → List Words
words_of xs = map (λ (x : Shown). x.words) xs

abbrev pub list_words : List Shown → Words
list_words xs = separated w.Comma (words_of xs)

abbrev pub rows_words : List (List Shown) → Words
rows_words rows gap rest = terminal gap w.OpenSquare ∷ separated w.Semicolon (map list_words rows) false (directly w.CloseSquare ∷ rest)

abbrev pub is_no_row : List (List Shown) → Bool
is_no_row [] = true
is_no_row (row ∷ rows) = false

abbrev pub in_brackets : List Shown → List Terminal → List Terminal
in_brackets xs rest = directly w.Open ∷ list_words xs false (directly w.Close ∷ rest)

abbrev pub in_braces : Shown → List Terminal → List Terminal
in_braces a rest = directly w.OpenBrace ∷ a.words false (directly w.CloseBrace ∷ rest)

-- an index behind braces, or none
abbrev pub perhaps_list : Option (List Shown) → List Terminal → List Terminal
perhaps_list None rest = rest
perhaps_list (Some xs) rest = in_brackets xs rest

-- the step of a range and its colon, or nothing
abbrev pub perhaps_step : Option Shown → List Terminal → List Terminal
perhaps_step None rest = rest
perhaps_step (Some s) rest = as_tight 7 s false (directly w.Colon ∷ rest)

abbrev pub of_kind : ExprKind-F Shown Shown → Shown
of_kind (ExprKind-F.Number z) = whole_words (λ gap rest. terminal gap (w.Number z) ∷ rest)
of_kind (ExprKind-F.Chars t) = whole_words (λ gap rest. terminal gap (w.Chars t) ∷ rest)
of_kind (ExprKind-F.Var n) = record (whole_words (head_words n.text)) { stated = name_words n.text }
of_kind (ExprKind-F.Apply n xs) = record (whole_words (λ gap rest. head_words n.text gap (in_brackets xs rest))) { stated = λ gap rest. name_words n.text gap (in_brackets xs rest) }
of_kind (ExprKind-F.Brace n a xs) = whole_words (λ gap rest. name_words n.text gap (in_braces a (perhaps_list xs rest)))
of_kind (ExprKind-F.Unary o a) = unary o a
of_kind (ExprKind-F.Binary o a b) = spelled (level o) (λ gap rest. as_tight (level o) a gap (apart (w.Binary o) ∷ right_of o b rest))
of_kind (ExprKind-F.Range a s b) = spelled 6 (λ gap rest. as_tight 7 a gap (directly w.Colon ∷ perhaps_step s (as_tight 7 b false rest)))
of_kind (ExprKind-F.Rows rows) = record (whole_words (rows_words rows)) { is_nothing = is_no_row rows }
of_kind (ExprKind-F.Func n) = whole_words (λ gap rest. terminal gap w.At ∷ directly (w.Name n.text) ∷ rest)
of_kind ExprKind-F.End = whole_words (λ gap rest. terminal gap (w.Key k.End) ∷ rest)
of_kind ExprKind-F.Colon = whole_words (λ gap rest. terminal gap w.Colon ∷ rest)
of_kind (ExprKind-F.StateOf a) = whole_words (λ gap rest. a.stated gap (directly w.Dot ∷ directly (w.Name (codes "State")) ∷ rest))

abbrev pub of_layer : Expr-F Shown Shown → Shown
of_layer e = e.kind

abbrev pub shown : Expr → Shown
shown = fold-Expr Shown Shown of_kind of_layer

abbrev pub all_shown : List Expr → List Shown
all_shown es = map shown es

abbrev pub expr_words : Expr → Words
expr_words e = (shown e).words

-- ---- simple statements

abbrev pub target_words : Target → Words
target_words (target.Whole n) gap rest = name_words n.text gap rest
target_words (target.Indexed n es) gap rest = name_words n.text gap (in_brackets (all_shown es) rest)
target_words (target.Braced n e) gap rest = name_words n.text gap (in_braces (shown e) rest)

abbrev pub output_words : Option Target → Words
output_words None gap rest = terminal gap w.Not ∷ rest
output_words (Some t) gap rest = target_words t gap rest

-- the value that is assigned: `[;]` where `[]` would be a deletion
abbrev pub nothing_or : Bool → Words → List Terminal → List Terminal
nothing_or true words rest = apart w.OpenSquare ∷ directly w.Semicolon ∷ directly w.CloseSquare ∷ rest
nothing_or false words rest = words true rest

abbrev pub assigned : Target → Shown → List Terminal → List Terminal
assigned (target.Whole n) e rest = e.words true rest
assigned (target.Indexed n es) e rest = nothing_or e.is_nothing e.words rest
assigned (target.Braced n x) e rest = e.words true rest

-- ---- statements

abbrev pub key : Bool → Keyword → Terminal
key gap word = terminal gap (w.Key word)

abbrev pub line_end : List Terminal → List Terminal
line_end rest = directly w.LineEnd ∷ rest

-- the end of a statement's line: a semicolon where its value isn't shown
abbrev pub ending : Bool → List Terminal → List Terminal
ending true rest = line_end rest
ending false rest = directly w.Semicolon ∷ line_end rest

-- statements, each on its line, indented or not
abbrev pub lines : Bool → List Words → List Terminal → List Terminal
lines indented [] rest = rest
lines indented (x ∷ xs) rest = x indented (lines indented xs rest)

abbrev pub block_words : List Words → List Terminal → List Terminal
block_words xs rest = line_end (lines true xs rest)

abbrev pub finish : Words
finish gap rest = key gap k.End ∷ rest

-- arms, the first behind one keyword and the others behind another
abbrev pub arms_words : Keyword → Keyword → List (Keyword → Words) → Words
arms_words first other [] gap rest = rest
arms_words first other (a ∷ more) gap rest = a first gap (arms_words other other more gap rest)

-- the block behind `else`, `otherwise` or `catch`, unless it is empty
abbrev pub last_words : Keyword → List Words → Words
last_words word [] gap rest = rest
last_words word (x ∷ xs) gap rest = key gap word ∷ block_words (x ∷ xs) rest

abbrev pub workers_words : Option Expr → List Terminal → List Terminal
workers_words None rest = rest
workers_words (Some e) rest = apart w.Open ∷ expr_words e false (directly w.Close ∷ rest)

-- name = range
abbrev pub each_words : Name → Expr → Words
each_words n e gap rest = name_words n.text gap (apart w.Equal ∷ expr_words e true rest)

abbrev pub parfor_words : Name → Expr → Option Expr → List Terminal → List Terminal
parfor_words n e None rest = each_words n e true rest
parfor_words n e (Some bound) rest = apart w.Open ∷ each_words n e false (directly w.Comma ∷ expr_words bound true (directly w.Close ∷ rest))

abbrev pub of_stmt_kind : StmtKind-F Words (Keyword → Words) Words → Words
of_stmt_kind (StmtKind-F.Eval e) gap rest = expr_words e gap rest
of_stmt_kind (StmtKind-F.Assign t e) gap rest = target_words t gap (apart w.Equal ∷ assigned t (shown e) rest)
of_stmt_kind (StmtKind-F.AssignList ts e) gap rest = terminal gap w.OpenSquare ∷ separated w.Comma (map output_words ts) false (directly w.CloseSquare ∷ apart w.Equal ∷ expr_words e true rest)
of_stmt_kind (StmtKind-F.Delete n es) gap rest = name_words n.text gap (in_brackets (all_shown es) (apart w.Equal ∷ apart w.OpenSquare ∷ directly w.CloseSquare ∷ rest))
of_stmt_kind (StmtKind-F.If arms last) gap rest = arms_words k.If k.Elseif arms gap (last_words k.Else last gap (finish gap rest))
of_stmt_kind (StmtKind-F.While e body) gap rest = key gap k.While ∷ expr_words e true (block_words body (finish gap rest))
of_stmt_kind (StmtKind-F.For n e body) gap rest = key gap k.For ∷ each_words n e true (block_words body (finish gap rest))
of_stmt_kind (StmtKind-F.Parfor n e bound body) gap rest = key gap k.Parfor ∷ parfor_words n e bound (block_words body (finish gap rest))
of_stmt_kind (StmtKind-F.Switch e cases last) gap rest = key gap k.Switch ∷ expr_words e true (line_end (arms_words k.Case k.Case cases gap (last_words k.Otherwise last gap (finish gap rest))))
of_stmt_kind (StmtKind-F.Try body handler) gap rest = key gap k.Try ∷ block_words body (last_words k.Catch handler gap (finish gap rest))
of_stmt_kind (StmtKind-F.Spmd e body) gap rest = key gap k.Spmd ∷ workers_words e (block_words body (finish gap rest))
of_stmt_kind StmtKind-F.Break gap rest = key gap k.Break ∷ rest
of_stmt_kind StmtKind-F.Continue gap rest = key gap k.Continue ∷ rest
of_stmt_kind StmtKind-F.Return gap rest = key gap k.Return ∷ rest

-- an arm, given its keyword
abbrev pub of_arm_layer : Arm-F Words (Keyword → Words) Words → Keyword → Words
of_arm_layer a word gap rest = key gap word ∷ expr_words a.test true (block_words a.body rest)

abbrev pub of_stmt_layer : Stmt-F Words (Keyword → Words) Words → Words
of_stmt_layer s gap rest = s.kind gap (ending s.show rest)

-- a statement and the end of its line
abbrev pub stmt_words : Stmt → Words
stmt_words = fold-Stmt Words (Keyword → Words) Words of_stmt_kind of_arm_layer of_stmt_layer

-- ---- functions and programs

abbrev pub param_words : Option Name → Words
param_words None gap rest = terminal gap w.Not ∷ rest
param_words (Some n) gap rest = name_words n.text gap rest

abbrev pub out_words : Name → Words
out_words n = name_words n.text

abbrev pub outs_words : List Name → List Terminal → List Terminal
outs_words [] rest = rest
outs_words (n ∷ []) rest = name_words n.text true (apart w.Equal ∷ rest)
outs_words (n ∷ m ∷ more) rest = apart w.OpenSquare ∷ separated w.Comma (map out_words (n ∷ m ∷ more)) false (directly w.CloseSquare ∷ apart w.Equal ∷ rest)

abbrev pub function_words : Function → List Terminal → List Terminal
function_words f rest =
    directly (w.Key k.Function) ∷ outs_words f.outs (name_words f.name.text true (directly w.Open ∷ separated w.Comma (map param_words f.params) false (directly w.Close
    ∷ block_words (map stmt_words f.body) (finish false (line_end rest)))))

-- an empty line stands before each function that isn't at the beginning
abbrev pub empty_line : Bool → List Terminal → List Terminal
empty_line true rest = rest
empty_line false rest = line_end rest

abbrev pub functions_words : Bool → List Function → List Terminal → List Terminal
functions_words at_start [] rest = rest
functions_words at_start (f ∷ fs) rest = empty_line at_start (function_words f (functions_words false fs rest))

abbrev pub has_none : List Stmt → Bool
has_none [] = true
has_none (s ∷ ss) = false

-- the terminals of a program's canonical spelling
abbrev pub canonical : Program → List Terminal
canonical p = lines false (map stmt_words p.body) (functions_words (has_none p.body) p.functions [])
