-- What a name stands for where a part runs: a variable of the scope, a local function, or a function of the library.
use Rattle.std.specs.Prelude.{ℕ, nat_eq, List, [], position, slice_get, unwrap_or, Option, Some, None}
use Rattle.std.specs.Cmp.Lexicographic.{pointwise}
use Rattle.pl_syntax.specs.declared.expr.Name.{Name}
use Rattle.pl_syntax.specs.declared.expr.Expr.{Expr, out-Expr}
use Rattle.pl_syntax.specs.declared.expr.ExprKind.{ExprKind, out-ExprKind}
use Rattle.pl_syntax.specs.declared.expr.ExprKind.TheOpen.{ExprKind-F}
use Rattle.pl_resolve.specs.declared.resolved.Resolved.{Resolved}
use Rattle.pl_resolve.specs.Functions.{place_in}
use Rattle.pl_meaning.specs.declared.frame.Frame.{Frame}

-- the names of a scope
abbrev pub names_in : Resolved → ℕ → List (List ℕ)
names_in program scope = unwrap_or (slice_get program.scopes scope) []

-- the slot of a variable of this scope
abbrev pub slot_of : Resolved → Frame → List ℕ → Option ℕ
slot_of program f text = place_in (names_in program f.scope) text

-- the number of a local function
abbrev pub function_of : Resolved → List ℕ → Option ℕ
function_of program text = position (λ g. pointwise nat_eq text g.name.text) program.program.functions

-- the name of the function that an expression calls, if it is a call
abbrev pub unless_variable : Option ℕ → Name → Option Name
unless_variable None n = Some n
unless_variable (Some slot) n = None

abbrev pub callee_at : Resolved → Frame → ExprKind-F ExprKind Expr → Option Name
callee_at program f (ExprKind-F.Var n) = unless_variable (slot_of program f n.text) n
callee_at program f (ExprKind-F.Apply n es) = unless_variable (slot_of program f n.text) n
callee_at program f kind = None

abbrev pub callee_of : Resolved → Frame → Expr → Option Name
callee_of program f e = callee_at program f (out-ExprKind (out-Expr e).kind)

-- its arguments
abbrev pub arguments_at : ExprKind-F ExprKind Expr → List Expr
arguments_at (ExprKind-F.Apply n es) = es
arguments_at kind = []

abbrev pub arguments_of : Expr → List Expr
arguments_of e = arguments_at (out-ExprKind (out-Expr e).kind)
