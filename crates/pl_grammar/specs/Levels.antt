-- How high a tree is: each statement, operator, bracket, brace and list of arguments is a level over its parts.
use Rattle.std.specs.Prelude.{ℕ, suc, max, Option, Some, None, List, [], ◌∷◌, map}
use Rattle.pl_syntax.specs.declared.expr.Expr.{Expr, Expr-F, fold-Expr}
use Rattle.pl_syntax.specs.declared.expr.ExprKind.TheOpen.{ExprKind-F}
use Rattle.pl_syntax.specs.declared.stmt.Target.{Target}
use Rattle.pl_syntax.specs.declared.stmt.Target.TheVariants.{Whole, Indexed, Braced}
use Rattle.pl_syntax.specs.declared.stmt.Arm.{Arm, Arm-F, fold-Arm}
use Rattle.pl_syntax.specs.declared.stmt.Stmt.{Stmt, Stmt-F, fold-Stmt}
use Rattle.pl_syntax.specs.declared.stmt.StmtKind.TheOpen.{StmtKind-F}
use Rattle.pl_syntax.specs.declared.stmt.Function.{Function}
use Rattle.pl_syntax.specs.declared.stmt.Program.{Program}

-- the greatest of numbers
abbrev pub most : List ℕ → ℕ
most [] = 0
most (n ∷ ns) = max n (most ns)

abbrev pub optional : Option ℕ → ℕ
optional None = 0
optional (Some n) = n

abbrev pub optional_list : Option (List ℕ) → ℕ
optional_list None = 0
optional_list (Some ns) = suc (most ns)

-- the levels of an expression, given those of its parts
abbrev pub of_kind : ExprKind-F ℕ ℕ → ℕ
of_kind (ExprKind-F.Number z) = 0
of_kind (ExprKind-F.Chars t) = 0
of_kind (ExprKind-F.Var n) = 0
of_kind (ExprKind-F.Apply n ns) = suc (most ns)
of_kind (ExprKind-F.Brace n place ns) = max (suc place) (optional_list ns)
of_kind (ExprKind-F.Unary o a) = suc a
of_kind (ExprKind-F.Binary o a b) = suc (max a b)
of_kind (ExprKind-F.Range a step b) = suc (max a (max (optional step) b))
of_kind (ExprKind-F.Rows rows) = suc (most (map most rows))
of_kind (ExprKind-F.Func n) = 0
of_kind ExprKind-F.End = 0
of_kind ExprKind-F.Colon = 0
of_kind (ExprKind-F.StateOf a) = a

abbrev pub of_layer : Expr-F ℕ ℕ → ℕ
of_layer e = e.kind

abbrev pub levels : Expr → ℕ
levels = fold-Expr ℕ ℕ of_kind of_layer

abbrev pub levels_all : List Expr → ℕ
levels_all es = most (map levels es)

abbrev pub levels_optional : Option Expr → ℕ
levels_optional None = 0
levels_optional (Some e) = levels e

abbrev pub target_levels : Target → ℕ
target_levels (Whole n) = 0
target_levels (Indexed n es) = suc (levels_all es)
target_levels (Braced n e) = suc (levels e)

abbrev pub output_levels : Option Target → ℕ
output_levels None = 0
output_levels (Some t) = target_levels t

-- the levels of a statement, given those of its parts
abbrev pub of_stmt_kind : StmtKind-F ℕ ℕ ℕ → ℕ
of_stmt_kind (StmtKind-F.Eval e) = suc (levels e)
of_stmt_kind (StmtKind-F.Assign t e) = suc (max (target_levels t) (levels e))
of_stmt_kind (StmtKind-F.AssignList ts e) = suc (max (most (map output_levels ts)) (levels e))
of_stmt_kind (StmtKind-F.Delete n es) = suc (suc (levels_all es))
of_stmt_kind (StmtKind-F.If arms last) = suc (max (most arms) (most last))
of_stmt_kind (StmtKind-F.While e body) = suc (max (levels e) (most body))
of_stmt_kind (StmtKind-F.For n e body) = suc (max (levels e) (most body))
of_stmt_kind (StmtKind-F.Parfor n e bound body) = suc (max (levels e) (max (levels_optional bound) (most body)))
of_stmt_kind (StmtKind-F.Switch e cases last) = suc (max (levels e) (max (most cases) (most last)))
of_stmt_kind (StmtKind-F.Try body handler) = suc (max (most body) (most handler))
of_stmt_kind (StmtKind-F.Spmd e body) = suc (max (levels_optional e) (most body))
of_stmt_kind StmtKind-F.Break = 1
of_stmt_kind StmtKind-F.Continue = 1
of_stmt_kind StmtKind-F.Return = 1

abbrev pub of_arm_layer : Arm-F ℕ ℕ ℕ → ℕ
of_arm_layer a = max (levels a.test) (most a.body)

abbrev pub of_stmt_layer : Stmt-F ℕ ℕ ℕ → ℕ
of_stmt_layer s = s.kind

abbrev pub stmt_levels : Stmt → ℕ
stmt_levels = fold-Stmt ℕ ℕ ℕ of_stmt_kind of_arm_layer of_stmt_layer

abbrev pub arm_levels : Arm → ℕ
arm_levels = fold-Arm ℕ ℕ ℕ of_stmt_kind of_arm_layer of_stmt_layer

abbrev pub function_levels : Function → ℕ
function_levels f = most (map stmt_levels f.body)

abbrev pub program_levels : Program → ℕ
program_levels p = max (most (map stmt_levels p.body)) (most (map function_levels p.functions))
