-- The names of a tree, in the order in which they stand in the text, and what is done with each.
use Rattle.std.specs.Prelude.{List, map, [], ◌∷◌, ◌++◌, Option, Some, None}
use Rattle.pl_syntax.specs.declared.expr.Name.{Name}
use Rattle.pl_syntax.specs.declared.expr.Expr.{Expr, Expr-F, fold-Expr}
use Rattle.pl_syntax.specs.declared.expr.ExprKind.TheOpen.{ExprKind-F}
use Rattle.pl_syntax.specs.declared.stmt.Target.{Target}
use Rattle.pl_syntax.specs.declared.stmt.Target.TheVariants.{Whole, Indexed, Braced}
use Rattle.pl_syntax.specs.declared.stmt.Arm.{Arm, Arm-F, fold-Arm}
use Rattle.pl_syntax.specs.declared.stmt.Stmt.{Stmt, Stmt-F, fold-Stmt}
use Rattle.pl_syntax.specs.declared.stmt.StmtKind.TheOpen.{StmtKind-F}
use Rattle.pl_resolve.specs.declared.occurrence.Occurrence.{Occurrence}
use Rattle.pl_resolve.specs.declared.occurrence.Use.{Use}
use Rattle.pl_resolve.specs.declared.occurrence.Use.TheVariants.{Read, ReadAt, ReadIn, Assign, AssignAt, AssignIn, Delete, Handle}

-- a name with what is done with it
abbrev pub used : Use → Name → Occurrence
used how name = record { name = name.text; place = name.place; how = how }

-- lists one after another
abbrev pub joined : List (List Occurrence) → List Occurrence
joined [] = []
joined (l ∷ lists) = l ++ joined lists

abbrev pub optional : Option (List Occurrence) → List Occurrence
optional None = []
optional (Some l) = l

abbrev pub optional_list : Option (List (List Occurrence)) → List Occurrence
optional_list None = []
optional_list (Some lists) = joined lists

-- the names of an expression, given those of its parts
abbrev pub of_kind : ExprKind-F (List Occurrence) (List Occurrence) → List Occurrence
of_kind (ExprKind-F.Number n) = []
of_kind (ExprKind-F.Chars t) = []
of_kind (ExprKind-F.Var name) = used Read name ∷ []
of_kind (ExprKind-F.Apply name list) = used ReadAt name ∷ joined list
of_kind (ExprKind-F.Brace name place list) = used ReadIn name ∷ (place ++ optional_list list)
of_kind (ExprKind-F.Unary op a) = a
of_kind (ExprKind-F.Binary op a b) = a ++ b
of_kind (ExprKind-F.Range first step last) = first ++ (optional step ++ last)
of_kind (ExprKind-F.Rows rows) = joined (map joined rows)
of_kind (ExprKind-F.Func name) = used Handle name ∷ []
of_kind ExprKind-F.End = []
of_kind ExprKind-F.Colon = []
of_kind (ExprKind-F.StateOf a) = a

abbrev pub of_layer : Expr-F (List Occurrence) (List Occurrence) → List Occurrence
of_layer e = e.kind

-- the names of an expression
abbrev pub of_expr : Expr → List Occurrence
of_expr = fold-Expr (List Occurrence) (List Occurrence) of_kind of_layer

-- the names of expressions
abbrev pub of_exprs : List Expr → List Occurrence
of_exprs list = joined (map of_expr list)

-- the names of a target
abbrev pub of_target : Target → List Occurrence
of_target (Whole name) = used Assign name ∷ []
of_target (Indexed name list) = used AssignAt name ∷ of_exprs list
of_target (Braced name place) = used AssignIn name ∷ of_expr place

abbrev pub of_output : Option Target → List Occurrence
of_output None = []
of_output (Some target) = of_target target

-- the names of an output list
abbrev pub of_targets : List (Option Target) → List Occurrence
of_targets list = joined (map of_output list)

abbrev pub of_optional : Option Expr → List Occurrence
of_optional None = []
of_optional (Some e) = of_expr e

-- the names of a statement, given those of its parts
abbrev pub of_stmt_kind : StmtKind-F (List Occurrence) (List Occurrence) (List Occurrence) → List Occurrence
of_stmt_kind (StmtKind-F.Eval e) = of_expr e
of_stmt_kind (StmtKind-F.Assign target e) = of_target target ++ of_expr e
of_stmt_kind (StmtKind-F.AssignList targets e) = of_targets targets ++ of_expr e
of_stmt_kind (StmtKind-F.Delete name list) = used Delete name ∷ of_exprs list
of_stmt_kind (StmtKind-F.If arms last) = joined arms ++ joined last
of_stmt_kind (StmtKind-F.While test body) = of_expr test ++ joined body
of_stmt_kind (StmtKind-F.For name range body) = used Assign name ∷ (of_expr range ++ joined body)
of_stmt_kind (StmtKind-F.Parfor name range most body) = used Assign name ∷ (of_expr range ++ (of_optional most ++ joined body))
of_stmt_kind (StmtKind-F.Switch value cases last) = of_expr value ++ (joined cases ++ joined last)
of_stmt_kind (StmtKind-F.Try body handler) = joined body ++ joined handler
of_stmt_kind (StmtKind-F.Spmd workers body) = of_optional workers ++ joined body
of_stmt_kind StmtKind-F.Break = []
of_stmt_kind StmtKind-F.Continue = []
of_stmt_kind StmtKind-F.Return = []

abbrev pub of_arm_layer : Arm-F (List Occurrence) (List Occurrence) (List Occurrence) → List Occurrence
of_arm_layer arm = of_expr arm.test ++ joined arm.body

abbrev pub of_stmt_layer : Stmt-F (List Occurrence) (List Occurrence) (List Occurrence) → List Occurrence
of_stmt_layer s = s.kind

-- the names of a statement
abbrev pub of_stmt : Stmt → List Occurrence
of_stmt = fold-Stmt (List Occurrence) (List Occurrence) (List Occurrence) of_stmt_kind of_arm_layer of_stmt_layer

-- the names of a test and of what it guards
abbrev pub of_arm : Arm → List Occurrence
of_arm = fold-Arm (List Occurrence) (List Occurrence) (List Occurrence) of_stmt_kind of_arm_layer of_stmt_layer

-- the names of statements
abbrev pub of_block : List Stmt → List Occurrence
of_block body = joined (map of_stmt body)

abbrev pub of_arms : List Arm → List Occurrence
of_arms arms = joined (map of_arm arms)
