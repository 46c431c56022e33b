-- The nodes of a tree that nothing carries out yet, by their places, in the order of the text.
use Rattle.std.specs.Prelude.{ℕ, suc, List, map, [], ◌∷◌, ◌++◌, Bool, true, false, ◌&&◌, if◌then◌else◌, Option, Some, None, is_some, is_none}
use Rattle.std.specs.List.{list_all}
use Rattle.pl_base.specs.declared.errors.Place.{Place}
use Rattle.pl_syntax.specs.declared.expr.Name.{Name}
use Rattle.pl_syntax.specs.declared.expr.Expr.{Expr, Expr-F, fold-Expr, out-Expr}
use Rattle.pl_syntax.specs.declared.expr.ExprKind.{ExprKind, out-ExprKind}
use Rattle.pl_syntax.specs.declared.expr.ExprKind.TheOpen.{ExprKind-F}
use Rattle.pl_syntax.specs.declared.stmt.Target.{Target}
use Rattle.pl_syntax.specs.declared.stmt.Target.TheVariants.{Whole, Indexed, Braced}
use Rattle.pl_syntax.specs.declared.stmt.Arm.{Arm, Arm-F, fold-Arm}
use Rattle.pl_syntax.specs.declared.stmt.Stmt.{Stmt, Stmt-F, fold-Stmt}
use Rattle.pl_syntax.specs.declared.stmt.StmtKind.TheOpen.{StmtKind-F}
use Rattle.pl_syntax.specs.declared.stmt.Function.{Function}
use Rattle.pl_resolve.specs.declared.resolved.Resolved.{Resolved}
use Rattle.pl_meaning.specs.declared.frame.Frame.{Frame}
use Rattle.pl_meaning.specs.Names.{slot_of}
use Rattle.pl_meaning.specs.Parts.{written_by}
use Rattle.pl_meaning.specs.Forms.{is_item_at}

-- lists one after another
abbrev pub joined : List (List Place) → List Place
joined [] = []
joined (l ∷ lists) = l ++ joined lists

abbrev pub optional : Option (List Place) → List Place
optional None = []
optional (Some l) = l

abbrev pub optional_list : Option (List (List Place)) → List Place
optional_list None = []
optional_list (Some lists) = joined lists

-- the nodes of an expression at a place, given those of its parts: an element in braces, and the state of a future
abbrev pub of_kind : ExprKind-F (Place → List Place) (List Place) → Place → List Place
of_kind (ExprKind-F.Number n) p = []
of_kind (ExprKind-F.Chars t) p = []
of_kind (ExprKind-F.Var name) p = []
of_kind (ExprKind-F.Apply name list) p = joined list
of_kind (ExprKind-F.Brace name k list) p = p ∷ (k ++ optional_list list)
of_kind (ExprKind-F.Unary op a) p = a
of_kind (ExprKind-F.Binary op a b) p = a ++ b
of_kind (ExprKind-F.Range first step last) p = first ++ (optional step ++ last)
of_kind (ExprKind-F.Rows rows) p = joined (map joined rows)
of_kind (ExprKind-F.Func name) p = []
of_kind ExprKind-F.End p = []
of_kind ExprKind-F.Colon p = []
of_kind (ExprKind-F.StateOf a) p = p ∷ a

abbrev pub of_layer : Expr-F (Place → List Place) (List Place) → List Place
of_layer e = e.kind e.place

-- the nodes of an expression
abbrev pub of_expr : Expr → List Place
of_expr = fold-Expr (Place → List Place) (List Place) of_kind of_layer

-- the nodes of expressions
abbrev pub of_exprs : List Expr → List Place
of_exprs list = joined (map of_expr list)

-- the nodes of a target: one in braces is a node itself
abbrev pub of_target : Target → List Place
of_target (Whole name) = []
of_target (Indexed name list) = of_exprs list
of_target (Braced name k) = name.place ∷ of_expr k

abbrev pub of_output : Option Target → List Place
of_output None = []
of_output (Some target) = of_target target

-- the nodes of an output list
abbrev pub of_targets : List (Option Target) → List Place
of_targets list = joined (map of_output list)

-- a range from one number to another, in steps of 1
abbrev pub is_between_at : ExprKind-F ExprKind Expr → Bool
is_between_at (ExprKind-F.Range a None b) = true
is_between_at kind = false

abbrev pub is_between : Expr → Bool
is_between e = is_between_at (out-ExprKind (out-Expr e).kind)

-- a loop over workers: one without a bound on them, between two numbers, with a body of the form, has the nodes of its range. Any
-- other one is a node itself
abbrev pub of_workers : Expr → Option Expr → Bool → Place → List Place
of_workers range most fits p = if is_none most && (is_between range && fits) then of_expr range else p ∷ []

-- what is known of a statement: its nodes; the variables that it writes a part of; and whether it is an item of a body of the
-- form, given the loop's index and what the body writes
pub record Shape : Type 0 where
  pub nodes : List Place
  pub written : List Name
  pub fits : Name → List Name → Bool

-- a statement that is no such item
abbrev pub plain : List Place → Shape
plain nodes = record { nodes = nodes; written = []; fits = λ index written. false }

-- the nodes of statements, and what they write
abbrev pub nodes_in : List Shape → List Place
nodes_in [] = []
nodes_in (s ∷ more) = s.nodes ++ nodes_in more

abbrev pub writes : List Shape → List Name
writes [] = []
writes (s ∷ more) = s.written ++ writes more

module _ (program : Resolved) (f : Frame) where
  -- an assignment, which is shown or not
  abbrev pub of_assignment : Target → Expr → Bool → Shape
  of_assignment target e show = record {
    nodes = of_target target ++ of_expr e;
    written = written_by (StmtKind-F.Assign target e);
    fits = λ index written. is_item_at program f index written show (StmtKind-F.Assign target e);
  }

  -- a body of the form
  abbrev pub all_fit : Name → List Shape → Bool
  all_fit index body = is_some (slot_of program f index.text) && list_all (λ (s : Shape). s.fits index (writes body)) body

  -- a statement at a place, shown or not, given its parts: nodes are blocks, and most loops over workers
  abbrev pub of_stmt_kind : StmtKind-F (Place → Bool → Shape) (List Place) Shape → Place → Bool → Shape
  of_stmt_kind (StmtKind-F.Eval e) p show = plain (of_expr e)
  of_stmt_kind (StmtKind-F.Assign target e) p show = of_assignment target e show
  of_stmt_kind (StmtKind-F.AssignList targets e) p show = plain (of_targets targets ++ of_expr e)
  of_stmt_kind (StmtKind-F.Delete name list) p show = plain (of_exprs list)
  of_stmt_kind (StmtKind-F.If arms last) p show = plain (joined arms ++ nodes_in last)
  of_stmt_kind (StmtKind-F.While test body) p show = plain (of_expr test ++ nodes_in body)
  of_stmt_kind (StmtKind-F.For name range body) p show = plain (of_expr range ++ nodes_in body)
  of_stmt_kind (StmtKind-F.Parfor name range most body) p show = plain (of_workers range most (all_fit name body) p)
  of_stmt_kind (StmtKind-F.Switch value cases last) p show = plain (of_expr value ++ (joined cases ++ nodes_in last))
  of_stmt_kind (StmtKind-F.Try body handler) p show = plain (nodes_in body ++ nodes_in handler)
  of_stmt_kind (StmtKind-F.Spmd workers body) p show = plain (p ∷ [])
  of_stmt_kind StmtKind-F.Break p show = plain []
  of_stmt_kind StmtKind-F.Continue p show = plain []
  of_stmt_kind StmtKind-F.Return p show = plain []

  abbrev pub of_arm_layer : Arm-F (Place → Bool → Shape) (List Place) Shape → List Place
  of_arm_layer arm = of_expr arm.test ++ nodes_in arm.body

  abbrev pub of_stmt_layer : Stmt-F (Place → Bool → Shape) (List Place) Shape → Shape
  of_stmt_layer s = s.kind s.place s.show

  -- what is known of a statement
  abbrev pub shape_of : Stmt → Shape
  shape_of = fold-Stmt (Place → Bool → Shape) (List Place) Shape of_stmt_kind of_arm_layer of_stmt_layer

  -- the nodes of a statement
  abbrev pub of_stmt : Stmt → List Place
  of_stmt s = (shape_of s).nodes

  -- the nodes of a test and of what it guards
  abbrev pub of_arm : Arm → List Place
  of_arm = fold-Arm (Place → Bool → Shape) (List Place) Shape of_stmt_kind of_arm_layer of_stmt_layer

  -- the nodes of statements
  abbrev pub of_block : List Stmt → List Place
  of_block body = nodes_in (map shape_of body)

  abbrev pub of_arms : List Arm → List Place
  of_arms arms = joined (map of_arm arms)

-- where the bodies of a scope's loops over workers stand: away from the client
abbrev pub frame_of : ℕ → Frame
frame_of scope = record { client = false; scope = scope; given = 0; wanted = 0; ends = None }

-- the nodes of functions, the scope of the first of which has this number
abbrev pub of_functions : Resolved → ℕ → List Function → List Place
of_functions program i [] = []
of_functions program i (g ∷ functions) = of_block program (frame_of i) g.body ++ of_functions program (suc i) functions

-- the nodes of a program: the script's, and then those of its functions in order
abbrev pub of_program : Resolved → List Place
of_program r = of_block r (frame_of 0) r.program.body ++ of_functions r 1 r.program.functions
