-- What a fold makes of each kind of node.
use Rattle.std.proofs.Common.{◌≡◌, ◌∙◌, ℕ, ℤ, Bool, Option, Some, None, List, map, sym, ap}
use Rattle.pl_base.specs.declared.errors.Place.{Place}
use Rattle.pl_syntax.specs.declared.expr.Name.{Name}
use Rattle.pl_syntax.specs.declared.expr.Un.{Un}
use Rattle.pl_syntax.specs.declared.expr.Bin.{Bin}
use Rattle.pl_syntax.specs.declared.expr.Expr.{Expr, Expr-F, fold-Expr, fold-roll-Expr}
use Rattle.pl_syntax.specs.declared.expr.ExprKind as kind
use Rattle.pl_syntax.specs.declared.expr.ExprKind.{fold-ExprKind, fold-roll-ExprKind}
use Rattle.pl_syntax.specs.declared.expr.ExprKind.TheOpen.{ExprKind-F}
use Rattle.pl_syntax.specs.declared.expr.ExprKind.TheVariants.{rolls-Number, rolls-Chars, rolls-Var, rolls-Apply, rolls-Brace, rolls-Unary, rolls-Binary, rolls-Range, rolls-Rows, rolls-Func, rolls-End, rolls-Colon, rolls-StateOf}
use Rattle.pl_syntax.specs.declared.stmt.Stmt.{Stmt, Stmt-F, fold-Stmt, fold-roll-Stmt}
use Rattle.pl_syntax.specs.declared.stmt.StmtKind as what
use Rattle.pl_syntax.specs.declared.stmt.StmtKind.{fold-StmtKind, fold-roll-StmtKind}
use Rattle.pl_syntax.specs.declared.stmt.StmtKind.TheOpen.{StmtKind-F}
use Rattle.pl_syntax.specs.declared.stmt.StmtKind.TheVariants.{rolls-Eval, rolls-Assign, rolls-AssignList, rolls-Delete, rolls-If, rolls-While, rolls-For, rolls-Parfor, rolls-Switch, rolls-Try, rolls-Spmd, rolls-Break, rolls-Continue, rolls-Return}
use Rattle.pl_syntax.specs.declared.stmt.Arm.{Arm, Arm-F, fold-Arm, fold-roll-Arm}
use Rattle.pl_syntax.specs.declared.stmt.Target.{Target}
use Rattle.pl_grammar.specs.Trees.{node, stmt, arm}

module _ (K E : Type 0) (f : ExprKind-F K E → K) (g : Expr-F K E → E) where
  abbrev of_expr : Expr → E
  of_expr = fold-Expr K E f g

  abbrev of_kind : kind.ExprKind → K
  of_kind = fold-ExprKind K E f g

  abbrev at : K → Place → E
  at k p = g (record { kind = k; place = p })

  -- a node, given what the fold makes of its kind
  at_node : (k : kind.ExprKind) (v : K) (p : Place) → of_kind k ≡ v → of_expr (node k p) ≡ at v p
  at_node k v p h = fold-roll-Expr K E f g (record { kind = k; place = p }) ∙ ap (λ x. at x p) h

  pub at_number : (z : ℤ) (p : Place) → of_expr (node (kind.Number z) p) ≡ at (f (ExprKind-F.Number z)) p
  at_number z p = at_node (kind.Number z) (f (ExprKind-F.Number z)) p (ap of_kind (sym (rolls-Number z)) ∙ fold-roll-ExprKind K E f g (ExprKind-F.Number z))

  pub at_chars : (t : List ℕ) (p : Place) → of_expr (node (kind.Chars t) p) ≡ at (f (ExprKind-F.Chars t)) p
  at_chars t p = at_node (kind.Chars t) (f (ExprKind-F.Chars t)) p (ap of_kind (sym (rolls-Chars t)) ∙ fold-roll-ExprKind K E f g (ExprKind-F.Chars t))

  pub at_var : (n : Name) (p : Place) → of_expr (node (kind.Var n) p) ≡ at (f (ExprKind-F.Var n)) p
  at_var n p = at_node (kind.Var n) (f (ExprKind-F.Var n)) p (ap of_kind (sym (rolls-Var n)) ∙ fold-roll-ExprKind K E f g (ExprKind-F.Var n))

  pub at_apply : (n : Name) (es : List Expr) (p : Place) → of_expr (node (kind.Apply n es) p) ≡ at (f (ExprKind-F.Apply n (map of_expr es))) p
  at_apply n es p = at_node (kind.Apply n es) (f (ExprKind-F.Apply n (map of_expr es))) p (ap of_kind (sym (rolls-Apply n es)) ∙ fold-roll-ExprKind K E f g (ExprKind-F.Apply n es))

  pub at_brace : (n : Name) (e : Expr) (p : Place) → of_expr (node (kind.Brace n e None) p) ≡ at (f (ExprKind-F.Brace n (of_expr e) None)) p
  at_brace n e p = at_node (kind.Brace n e None) (f (ExprKind-F.Brace n (of_expr e) None)) p (ap of_kind (sym (rolls-Brace n e None)) ∙ fold-roll-ExprKind K E f g (ExprKind-F.Brace n e None))

  pub at_brace_list : (n : Name) (e : Expr) (es : List Expr) (p : Place) → of_expr (node (kind.Brace n e (Some es)) p) ≡ at (f (ExprKind-F.Brace n (of_expr e) (Some (map of_expr es)))) p
  at_brace_list n e es p = at_node (kind.Brace n e (Some es)) (f (ExprKind-F.Brace n (of_expr e) (Some (map of_expr es)))) p (ap of_kind (sym (rolls-Brace n e (Some es))) ∙ fold-roll-ExprKind K E f g (ExprKind-F.Brace n e (Some es)))

  pub at_unary : (o : Un) (a : Expr) (p : Place) → of_expr (node (kind.Unary o a) p) ≡ at (f (ExprKind-F.Unary o (of_expr a))) p
  at_unary o a p = at_node (kind.Unary o a) (f (ExprKind-F.Unary o (of_expr a))) p (ap of_kind (sym (rolls-Unary o a)) ∙ fold-roll-ExprKind K E f g (ExprKind-F.Unary o a))

  pub at_binary : (o : Bin) (a b : Expr) (p : Place) → of_expr (node (kind.Binary o a b) p) ≡ at (f (ExprKind-F.Binary o (of_expr a) (of_expr b))) p
  at_binary o a b p = at_node (kind.Binary o a b) (f (ExprKind-F.Binary o (of_expr a) (of_expr b))) p (ap of_kind (sym (rolls-Binary o a b)) ∙ fold-roll-ExprKind K E f g (ExprKind-F.Binary o a b))

  pub at_range : (a b : Expr) (p : Place) → of_expr (node (kind.Range a None b) p) ≡ at (f (ExprKind-F.Range (of_expr a) None (of_expr b))) p
  at_range a b p = at_node (kind.Range a None b) (f (ExprKind-F.Range (of_expr a) None (of_expr b))) p (ap of_kind (sym (rolls-Range a None b)) ∙ fold-roll-ExprKind K E f g (ExprKind-F.Range a None b))

  pub at_stepped : (a s b : Expr) (p : Place) → of_expr (node (kind.Range a (Some s) b) p) ≡ at (f (ExprKind-F.Range (of_expr a) (Some (of_expr s)) (of_expr b))) p
  at_stepped a s b p = at_node (kind.Range a (Some s) b) (f (ExprKind-F.Range (of_expr a) (Some (of_expr s)) (of_expr b))) p (ap of_kind (sym (rolls-Range a (Some s) b)) ∙ fold-roll-ExprKind K E f g (ExprKind-F.Range a (Some s) b))

  pub at_rows : (rows : List (List Expr)) (p : Place) → of_expr (node (kind.Rows rows) p) ≡ at (f (ExprKind-F.Rows (map (map of_expr) rows))) p
  at_rows rows p = at_node (kind.Rows rows) (f (ExprKind-F.Rows (map (map of_expr) rows))) p (ap of_kind (sym (rolls-Rows rows)) ∙ fold-roll-ExprKind K E f g (ExprKind-F.Rows rows))

  pub at_func : (n : Name) (p : Place) → of_expr (node (kind.Func n) p) ≡ at (f (ExprKind-F.Func n)) p
  at_func n p = at_node (kind.Func n) (f (ExprKind-F.Func n)) p (ap of_kind (sym (rolls-Func n)) ∙ fold-roll-ExprKind K E f g (ExprKind-F.Func n))

  pub at_end : (p : Place) → of_expr (node kind.End p) ≡ at (f ExprKind-F.End) p
  at_end p = at_node kind.End (f ExprKind-F.End) p (ap of_kind (sym rolls-End) ∙ fold-roll-ExprKind K E f g ExprKind-F.End)

  pub at_colon : (p : Place) → of_expr (node kind.Colon p) ≡ at (f ExprKind-F.Colon) p
  at_colon p = at_node kind.Colon (f ExprKind-F.Colon) p (ap of_kind (sym rolls-Colon) ∙ fold-roll-ExprKind K E f g ExprKind-F.Colon)

  pub at_state : (a : Expr) (p : Place) → of_expr (node (kind.StateOf a) p) ≡ at (f (ExprKind-F.StateOf (of_expr a))) p
  at_state a p = at_node (kind.StateOf a) (f (ExprKind-F.StateOf (of_expr a))) p (ap of_kind (sym (rolls-StateOf a)) ∙ fold-roll-ExprKind K E f g (ExprKind-F.StateOf a))

module _ (K A S : Type 0) (f : StmtKind-F K A S → K) (h : Arm-F K A S → A) (g : Stmt-F K A S → S) where
  abbrev of_stmt : Stmt → S
  of_stmt = fold-Stmt K A S f h g

  abbrev of_arm : Arm → A
  of_arm = fold-Arm K A S f h g

  abbrev of_what : what.StmtKind → K
  of_what = fold-StmtKind K A S f h g

  pub at_stmt : (k : what.StmtKind) (p : Place) (s : Bool) → of_stmt (stmt k p s) ≡ g (record { kind = of_what k; place = p; show = s })
  at_stmt k p s = fold-roll-Stmt K A S f h g (record { kind = k; place = p; show = s })

  pub at_arm : (e : Expr) (ss : List Stmt) → of_arm (arm e ss) ≡ h (record { test = e; body = map of_stmt ss })
  at_arm e ss = fold-roll-Arm K A S f h g (record { test = e; body = ss })

  pub at_eval : (e : Expr) → of_what (what.Eval e) ≡ f (StmtKind-F.Eval e)
  at_eval e = ap of_what (sym (rolls-Eval e)) ∙ fold-roll-StmtKind K A S f h g (StmtKind-F.Eval e)

  pub at_assign : (t : Target) (e : Expr) → of_what (what.Assign t e) ≡ f (StmtKind-F.Assign t e)
  at_assign t e = ap of_what (sym (rolls-Assign t e)) ∙ fold-roll-StmtKind K A S f h g (StmtKind-F.Assign t e)

  pub at_assign_list : (ts : List (Option Target)) (e : Expr) → of_what (what.AssignList ts e) ≡ f (StmtKind-F.AssignList ts e)
  at_assign_list ts e = ap of_what (sym (rolls-AssignList ts e)) ∙ fold-roll-StmtKind K A S f h g (StmtKind-F.AssignList ts e)

  pub at_delete : (n : Name) (es : List Expr) → of_what (what.Delete n es) ≡ f (StmtKind-F.Delete n es)
  at_delete n es = ap of_what (sym (rolls-Delete n es)) ∙ fold-roll-StmtKind K A S f h g (StmtKind-F.Delete n es)

  pub at_if : (arms : List Arm) (ss : List Stmt) → of_what (what.If arms ss) ≡ f (StmtKind-F.If (map of_arm arms) (map of_stmt ss))
  at_if arms ss = ap of_what (sym (rolls-If arms ss)) ∙ fold-roll-StmtKind K A S f h g (StmtKind-F.If arms ss)

  pub at_while : (e : Expr) (ss : List Stmt) → of_what (what.While e ss) ≡ f (StmtKind-F.While e (map of_stmt ss))
  at_while e ss = ap of_what (sym (rolls-While e ss)) ∙ fold-roll-StmtKind K A S f h g (StmtKind-F.While e ss)

  pub at_for : (n : Name) (e : Expr) (ss : List Stmt) → of_what (what.For n e ss) ≡ f (StmtKind-F.For n e (map of_stmt ss))
  at_for n e ss = ap of_what (sym (rolls-For n e ss)) ∙ fold-roll-StmtKind K A S f h g (StmtKind-F.For n e ss)

  pub at_parfor : (n : Name) (e : Expr) (b : Option Expr) (ss : List Stmt) → of_what (what.Parfor n e b ss) ≡ f (StmtKind-F.Parfor n e b (map of_stmt ss))
  at_parfor n e b ss = ap of_what (sym (rolls-Parfor n e b ss)) ∙ fold-roll-StmtKind K A S f h g (StmtKind-F.Parfor n e b ss)

  pub at_switch : (e : Expr) (arms : List Arm) (ss : List Stmt) → of_what (what.Switch e arms ss) ≡ f (StmtKind-F.Switch e (map of_arm arms) (map of_stmt ss))
  at_switch e arms ss = ap of_what (sym (rolls-Switch e arms ss)) ∙ fold-roll-StmtKind K A S f h g (StmtKind-F.Switch e arms ss)

  pub at_try : (ss hs : List Stmt) → of_what (what.Try ss hs) ≡ f (StmtKind-F.Try (map of_stmt ss) (map of_stmt hs))
  at_try ss hs = ap of_what (sym (rolls-Try ss hs)) ∙ fold-roll-StmtKind K A S f h g (StmtKind-F.Try ss hs)

  pub at_spmd : (b : Option Expr) (ss : List Stmt) → of_what (what.Spmd b ss) ≡ f (StmtKind-F.Spmd b (map of_stmt ss))
  at_spmd b ss = ap of_what (sym (rolls-Spmd b ss)) ∙ fold-roll-StmtKind K A S f h g (StmtKind-F.Spmd b ss)

  pub at_break : of_what what.Break ≡ f StmtKind-F.Break
  at_break = ap of_what (sym rolls-Break) ∙ fold-roll-StmtKind K A S f h g StmtKind-F.Break

  pub at_continue : of_what what.Continue ≡ f StmtKind-F.Continue
  at_continue = ap of_what (sym rolls-Continue) ∙ fold-roll-StmtKind K A S f h g StmtKind-F.Continue

  pub at_return : of_what what.Return ≡ f StmtKind-F.Return
  at_return = ap of_what (sym rolls-Return) ∙ fold-roll-StmtKind K A S f h g StmtKind-F.Return
