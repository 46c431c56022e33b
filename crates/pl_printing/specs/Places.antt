-- A program but for its places: each place of its tree is a fixed one.
use Rattle.std.specs.Prelude.{List, map, option_map}
use Rattle.pl_base.specs.declared.errors.Place.{Place}
use Rattle.pl_syntax.specs.declared.expr.Name.{Name}
use Rattle.pl_syntax.specs.declared.expr.Expr.{Expr, Expr-F, fold-Expr}
use Rattle.pl_syntax.specs.declared.expr.ExprKind as kind
use Rattle.pl_syntax.specs.declared.expr.ExprKind.TheOpen.{ExprKind-F}
use Rattle.pl_syntax.specs.declared.stmt.Stmt.{Stmt, Stmt-F, fold-Stmt}
use Rattle.pl_syntax.specs.declared.stmt.StmtKind as what
use Rattle.pl_syntax.specs.declared.stmt.StmtKind.TheOpen.{StmtKind-F}
use Rattle.pl_syntax.specs.declared.stmt.Arm.{Arm, Arm-F}
use Rattle.pl_syntax.specs.declared.stmt.Target.{Target}
use Rattle.pl_syntax.specs.declared.stmt.Target.TheVariants as target
use Rattle.pl_syntax.specs.declared.stmt.Function.{Function}
use Rattle.pl_syntax.specs.declared.stmt.Program.{Program}
use Rattle.pl_grammar.specs.Trees.{node, stmt, arm}

-- the place of all
abbrev pub nowhere : Place
nowhere = record { line = 0; col = 0; at = 0 }

abbrev pub moved : Name → Name
moved n = record { text = n.text; place = nowhere }

-- ---- expressions

abbrev pub moved_kind : ExprKind-F kind.ExprKind Expr → kind.ExprKind
moved_kind (ExprKind-F.Number z) = kind.Number z
moved_kind (ExprKind-F.Chars t) = kind.Chars t
moved_kind (ExprKind-F.Var n) = kind.Var (moved n)
moved_kind (ExprKind-F.Apply n es) = kind.Apply (moved n) es
moved_kind (ExprKind-F.Brace n e es) = kind.Brace (moved n) e es
moved_kind (ExprKind-F.Unary o a) = kind.Unary o a
moved_kind (ExprKind-F.Binary o a b) = kind.Binary o a b
moved_kind (ExprKind-F.Range a s b) = kind.Range a s b
moved_kind (ExprKind-F.Rows rows) = kind.Rows rows
moved_kind (ExprKind-F.Func n) = kind.Func (moved n)
moved_kind ExprKind-F.End = kind.End
moved_kind ExprKind-F.Colon = kind.Colon
moved_kind (ExprKind-F.StateOf a) = kind.StateOf a

abbrev pub moved_layer : Expr-F kind.ExprKind Expr → Expr
moved_layer e = node e.kind nowhere

abbrev pub but_places_expr : Expr → Expr
but_places_expr = fold-Expr kind.ExprKind Expr moved_kind moved_layer

abbrev pub but_places_exprs : List Expr → List Expr
but_places_exprs es = map but_places_expr es

-- ---- statements

abbrev pub but_places_target : Target → Target
but_places_target (target.Whole n) = target.Whole (moved n)
but_places_target (target.Indexed n es) = target.Indexed (moved n) (but_places_exprs es)
but_places_target (target.Braced n e) = target.Braced (moved n) (but_places_expr e)

abbrev pub moved_what : StmtKind-F what.StmtKind Arm Stmt → what.StmtKind
moved_what (StmtKind-F.Eval e) = what.Eval (but_places_expr e)
moved_what (StmtKind-F.Assign t e) = what.Assign (but_places_target t) (but_places_expr e)
moved_what (StmtKind-F.AssignList ts e) = what.AssignList (map (option_map but_places_target) ts) (but_places_expr e)
moved_what (StmtKind-F.Delete n es) = what.Delete (moved n) (but_places_exprs es)
moved_what (StmtKind-F.If arms last) = what.If arms last
moved_what (StmtKind-F.While e body) = what.While (but_places_expr e) body
moved_what (StmtKind-F.For n e body) = what.For (moved n) (but_places_expr e) body
moved_what (StmtKind-F.Parfor n e bound body) = what.Parfor (moved n) (but_places_expr e) (option_map but_places_expr bound) body
moved_what (StmtKind-F.Switch e cases last) = what.Switch (but_places_expr e) cases last
moved_what (StmtKind-F.Try body handler) = what.Try body handler
moved_what (StmtKind-F.Spmd e body) = what.Spmd (option_map but_places_expr e) body
moved_what StmtKind-F.Break = what.Break
moved_what StmtKind-F.Continue = what.Continue
moved_what StmtKind-F.Return = what.Return

abbrev pub moved_arm : Arm-F what.StmtKind Arm Stmt → Arm
moved_arm a = arm (but_places_expr a.test) a.body

abbrev pub moved_stmt : Stmt-F what.StmtKind Arm Stmt → Stmt
moved_stmt s = stmt s.kind nowhere s.show

abbrev pub but_places_stmt : Stmt → Stmt
but_places_stmt = fold-Stmt what.StmtKind Arm Stmt moved_what moved_arm moved_stmt

abbrev pub but_places_function : Function → Function
but_places_function f = record { name = moved f.name; params = map (option_map moved) f.params; outs = map moved f.outs; body = map but_places_stmt f.body }

abbrev pub but_places : Program → Program
but_places p = record { body = map but_places_stmt p.body; functions = map but_places_function p.functions }
