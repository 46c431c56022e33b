-- Worked rows of the trees, by computing: what each compound statement, operator and row stands for.
use Rattle.std.proofs.Common.{◌≡◌, ℕ, pos, Bool, true, false, Option, Some, None, List, [], ◌∷◌, Ok, Err, refl}
use Rattle.std.specs.Prelude.{codes, option_map}
use Rattle.pl_syntax.specs.declared.expr.Name.{Name}
use Rattle.pl_syntax.specs.declared.expr.Bin.TheVariants as bin
use Rattle.pl_syntax.specs.declared.expr.Un.TheVariants as un
use Rattle.pl_syntax.specs.declared.expr.Expr.{Expr}
use Rattle.pl_syntax.specs.declared.expr.ExprKind as kind
use Rattle.pl_syntax.specs.declared.stmt.Stmt.{Stmt}
use Rattle.pl_syntax.specs.declared.stmt.StmtKind as what
use Rattle.pl_syntax.specs.declared.stmt.Target.TheVariants as target
use Rattle.pl_syntax.specs.declared.stmt.Program.{Program}
use Rattle.pl_grammar.specs.declared.terminal.Terminal.{Terminal}
use Rattle.pl_grammar.specs.declared.terminal.Word.TheVariants as w
use Rattle.pl_grammar.specs.declared.terminal.Keyword.TheVariants as k
use Rattle.pl_grammar.specs.Derivations.{Prog}
use Rattle.pl_grammar.specs.Trees.{node, stmt, arm, program_of}
use Rattle.pl_grammar.specs.Steps.{Answer}
use Rattle.pl_grammar.proofs.Rows.{m, g, t, s, v, vs, z, reads}

-- the program that terminals are, if they are one
abbrev answer : Answer → Option Program
answer (Ok p) = Some (program_of p)
answer (Err f) = None

-- a script of one statement
abbrev script_of : Stmt → Option Program
script_of x = Some (record { body = x ∷ []; functions = [] })

abbrev nm : List ℕ → Name
nm text = record { text = text; place = m.place }

abbrev x : Expr
x = node (kind.Var (nm (codes "x"))) m.place

abbrev y : Expr
y = node (kind.Var (nm (codes "y"))) m.place

abbrev num : ℕ → Expr
num i = node (kind.Number (pos i)) m.place

abbrev shown_stmt : what.StmtKind → Stmt
shown_stmt a = stmt a m.place true

abbrev hidden : what.StmtKind → Stmt
hidden a = stmt a m.place false

-- `x - y - 1` goes from the left
from_left : answer (reads (v (codes "x") ∷ t (w.Binary bin.Sub) ∷ v (codes "y") ∷ t (w.Binary bin.Sub) ∷ z 1 ∷ []))
    ≡ script_of (shown_stmt (what.Eval (node (kind.Binary bin.Sub (node (kind.Binary bin.Sub x y) m.place) (num 1)) m.place)))
from_left = refl

-- `-2^2` is `-(2^2)`
minus_power : answer (reads (t (w.Binary bin.Sub) ∷ z 2 ∷ t (w.Binary bin.Pow) ∷ z 2 ∷ []))
    ≡ script_of (shown_stmt (what.Eval (node (kind.Unary un.Minus (node (kind.Binary bin.Pow (num 2) (num 2)) m.place)) m.place)))
minus_power = refl

-- `2^-x` is `2^(-x)`
power_minus : answer (reads (z 2 ∷ t (w.Binary bin.Pow) ∷ t (w.Binary bin.Sub) ∷ v (codes "x") ∷ []))
    ≡ script_of (shown_stmt (what.Eval (node (kind.Binary bin.Pow (num 2) (node (kind.Unary un.Minus x) m.place)) m.place)))
power_minus = refl

-- `1:2:3`: the step stands in the middle
stepped_range : answer (reads (z 1 ∷ t w.Colon ∷ z 2 ∷ t w.Colon ∷ z 3 ∷ [])) ≡ script_of (shown_stmt (what.Eval (node (kind.Range (num 1) (Some (num 2)) (num 3)) m.place)))
stepped_range = refl

-- `[1,2;3]`
two_rows : answer (reads (t w.OpenSquare ∷ z 1 ∷ t w.Comma ∷ z 2 ∷ t w.Semicolon ∷ z 3 ∷ t w.CloseSquare ∷ []))
    ≡ script_of (shown_stmt (what.Eval (node (kind.Rows ((num 1 ∷ num 2 ∷ []) ∷ (num 3 ∷ []) ∷ [])) m.place)))
two_rows = refl

-- `x{1}(:,end)`
braced_list : answer (reads (v (codes "x") ∷ t w.OpenBrace ∷ z 1 ∷ t w.CloseBrace ∷ t w.Open ∷ t w.Colon ∷ t w.Comma ∷ t (w.Key k.End) ∷ t w.Close ∷ []))
    ≡ script_of (shown_stmt (what.Eval (node (kind.Brace (nm (codes "x")) (num 1) (Some (node kind.Colon m.place ∷ node kind.End m.place ∷ []))) m.place)))
braced_list = refl

-- `x.State`, and a name with dots
state_of : answer (reads (v (codes "x") ∷ t w.Dot ∷ v (codes "State") ∷ [])) ≡ script_of (shown_stmt (what.Eval (node (kind.StateOf x) m.place)))
unfolding Rattle.pl_grammar.specs.Words.is_state
state_of = refl

dotted_name : answer (reads (v (codes "codistributed") ∷ t w.Dot ∷ v (codes "ones") ∷ t w.Open ∷ z 1 ∷ t w.Close ∷ []))
    ≡ script_of (shown_stmt (what.Eval (node (kind.Apply (nm (codes "codistributed.ones")) (num 1 ∷ [])) m.place)))
unfolding Rattle.pl_grammar.specs.Words.is_state Rattle.pl_grammar.specs.Words.dots
dotted_name = refl

-- `x = 1;` is hidden, `x = 1,;` is shown
semicolon_hides : answer (reads (v (codes "x") ∷ t w.Equal ∷ z 1 ∷ t w.Semicolon ∷ [])) ≡ script_of (hidden (what.Assign (target.Whole (nm (codes "x"))) (num 1)))
semicolon_hides = refl

comma_first : answer (reads (v (codes "x") ∷ t w.Equal ∷ z 1 ∷ t w.Comma ∷ t w.Semicolon ∷ [])) ≡ script_of (shown_stmt (what.Assign (target.Whole (nm (codes "x"))) (num 1)))
comma_first = refl

-- `[x,~] = y`
outputs : answer (reads (t w.OpenSquare ∷ v (codes "x") ∷ t w.Comma ∷ t w.Not ∷ t w.CloseSquare ∷ t w.Equal ∷ v (codes "y") ∷ [])) ≡ script_of (shown_stmt (what.AssignList (Some (target.Whole (nm (codes "x"))) ∷ None ∷ []) y))
outputs = refl

-- `if x, 1, elseif y, 2, else 3, end`
if_arms : answer (reads (t (w.Key k.If) ∷ v (codes "x") ∷ t w.Comma ∷ z 1 ∷ t w.Comma ∷ t (w.Key k.Elseif) ∷ v (codes "y") ∷ t w.Comma ∷ z 2 ∷ t w.Comma ∷ t (w.Key k.Else) ∷ z 3 ∷ t w.Comma ∷ t (w.Key k.End) ∷ []))
    ≡ script_of (shown_stmt (what.If (arm x (shown_stmt (what.Eval (num 1)) ∷ []) ∷ arm y (shown_stmt (what.Eval (num 2)) ∷ []) ∷ []) (shown_stmt (what.Eval (num 3)) ∷ [])))
if_arms = refl

-- `switch x, case 1, y, otherwise 2, end`
switch_cases : answer (reads (t (w.Key k.Switch) ∷ v (codes "x") ∷ t w.Comma ∷ t (w.Key k.Case) ∷ z 1 ∷ t w.Comma ∷ v (codes "y") ∷ t w.Comma ∷ t (w.Key k.Otherwise) ∷ z 2 ∷ t w.Comma ∷ t (w.Key k.End) ∷ []))
    ≡ script_of (shown_stmt (what.Switch x (arm (num 1) (shown_stmt (what.Eval y) ∷ []) ∷ []) (shown_stmt (what.Eval (num 2)) ∷ [])))
switch_cases = refl

-- `try x, catch, y, end`
try_catch : answer (reads (t (w.Key k.Try) ∷ v (codes "x") ∷ t w.Comma ∷ t (w.Key k.Catch) ∷ t w.Comma ∷ v (codes "y") ∷ t w.Comma ∷ t (w.Key k.End) ∷ []))
    ≡ script_of (shown_stmt (what.Try (shown_stmt (what.Eval x) ∷ []) (shown_stmt (what.Eval y) ∷ [])))
try_catch = refl

-- `while x, break, end`
while_break : answer (reads (t (w.Key k.While) ∷ v (codes "x") ∷ t w.Comma ∷ t (w.Key k.Break) ∷ t w.Comma ∷ t (w.Key k.End) ∷ [])) ≡ script_of (shown_stmt (what.While x (shown_stmt what.Break ∷ [])))
while_break = refl

-- `for x = 1, end`, `for (x = 1), end`
for_loop : answer (reads (t (w.Key k.For) ∷ v (codes "x") ∷ t w.Equal ∷ z 1 ∷ t w.Comma ∷ t (w.Key k.End) ∷ [])) ≡ script_of (shown_stmt (what.For (nm (codes "x")) (num 1) []))
for_loop = refl

for_in_parentheses : answer (reads (t (w.Key k.For) ∷ t w.Open ∷ v (codes "x") ∷ t w.Equal ∷ z 1 ∷ t w.Close ∷ t w.Comma ∷ t (w.Key k.End) ∷ [])) ≡ script_of (shown_stmt (what.For (nm (codes "x")) (num 1) []))
for_in_parentheses = refl

-- `parfor x = 1, end`, `parfor (x = 1), end`, `parfor (x = 1, 2), end`
parfor_loop : answer (reads (t (w.Key k.Parfor) ∷ v (codes "x") ∷ t w.Equal ∷ z 1 ∷ t w.Comma ∷ t (w.Key k.End) ∷ [])) ≡ script_of (shown_stmt (what.Parfor (nm (codes "x")) (num 1) None []))
parfor_loop = refl

parfor_in_parentheses : answer (reads (t (w.Key k.Parfor) ∷ t w.Open ∷ v (codes "x") ∷ t w.Equal ∷ z 1 ∷ t w.Close ∷ t w.Comma ∷ t (w.Key k.End) ∷ [])) ≡ script_of (shown_stmt (what.Parfor (nm (codes "x")) (num 1) None []))
parfor_in_parentheses = refl

parfor_bound : answer (reads (t (w.Key k.Parfor) ∷ t w.Open ∷ v (codes "x") ∷ t w.Equal ∷ z 1 ∷ t w.Comma ∷ z 2 ∷ t w.Close ∷ t w.Comma ∷ t (w.Key k.End) ∷ [])) ≡ script_of (shown_stmt (what.Parfor (nm (codes "x")) (num 1) (Some (num 2)) []))
parfor_bound = refl

-- `spmd, end`, `spmd (2), end`
spmd_block : answer (reads (t (w.Key k.Spmd) ∷ t w.Comma ∷ t (w.Key k.End) ∷ [])) ≡ script_of (shown_stmt (what.Spmd None []))
spmd_block = refl

spmd_count : answer (reads (t (w.Key k.Spmd) ∷ t w.Open ∷ z 2 ∷ t w.Close ∷ t w.Comma ∷ t (w.Key k.End) ∷ [])) ≡ script_of (shown_stmt (what.Spmd (Some (num 2)) []))
spmd_count = refl

-- `function [x,y] = f(~,x), end`
function_title : answer (reads (t (w.Key k.Function) ∷ t w.OpenSquare ∷ v (codes "x") ∷ t w.Comma ∷ v (codes "y") ∷ t w.CloseSquare ∷ t w.Equal ∷ v (codes "f") ∷ t w.Open ∷ t w.Not ∷ t w.Comma ∷ v (codes "x") ∷ t w.Close ∷ t w.Comma ∷ t (w.Key k.End) ∷ []))
    ≡ Some (record { body = []; functions = record { name = nm (codes "f"); params = None ∷ Some (nm (codes "x")) ∷ []; outs = nm (codes "x") ∷ nm (codes "y") ∷ []; body = [] } ∷ [] })
function_title = refl
