-- What is known of a statement, by what it is, one layer deep.
use Rattle.std.specs.Prelude.{◌&&◌, is_some}
use Rattle.std.specs.List.{list_all}
use Rattle.std.proofs.Common.{◌≡◌, ◌∙◌, Bool, ◌++◌, List, [], ◌∷◌, map, refl, sym, ap}
use Rattle.pl_base.specs.declared.errors.Place.{Place}
use Rattle.pl_syntax.specs.declared.expr.Name.{Name}
use Rattle.pl_syntax.specs.declared.stmt.Arm.{Arm, out-Arm, fold_out-Arm}
use Rattle.pl_syntax.specs.declared.stmt.Stmt.{Stmt, fold_out-Stmt}
use Rattle.pl_syntax.specs.declared.stmt.StmtKind as stmt
use Rattle.pl_syntax.specs.declared.stmt.StmtKind.{roll-StmtKind, roll-out-StmtKind, fold-StmtKind, fold-roll-StmtKind}
use Rattle.pl_syntax.specs.declared.stmt.StmtKind.TheOpen.{StmtKind-F}
use Rattle.pl_resolve.specs.declared.resolved.Resolved.{Resolved}
use Rattle.pl_meaning.specs.declared.frame.Frame.{Frame}
use Rattle.pl_meaning.specs.Names.{slot_of}
use Rattle.pl_meaning.specs.Parts.{written_by, written_in}
use Rattle.pl_meaning.specs.Forms.{is_item_at, is_item, is_form}
use Rattle.pl_unbuilt.specs.Nodes.{Shape, writes, of_expr, of_exprs, of_target, of_targets, of_workers, all_fit, of_stmt_kind, of_arm_layer, of_stmt_layer, shape_of, of_stmt, of_arm, of_arms, of_block}
use Rattle.pl_built.specs.Built.{guarded, kind_of}

module _ (program : Resolved) (f : Frame) where
  abbrev block : List Stmt → List Place
  block = of_block program f

  abbrev arms_in : List Arm → List Place
  arms_in = of_arms program f

  -- the nodes of a statement at a place
  abbrev pub nodes_at : StmtKind-F stmt.StmtKind Arm Stmt → Place → List Place
  nodes_at (StmtKind-F.Eval e) p = of_expr e
  nodes_at (StmtKind-F.Assign target e) p = of_target target ++ of_expr e
  nodes_at (StmtKind-F.AssignList targets e) p = of_targets targets ++ of_expr e
  nodes_at (StmtKind-F.Delete name list) p = of_exprs list
  nodes_at (StmtKind-F.If arms last) p = arms_in arms ++ block last
  nodes_at (StmtKind-F.While test body) p = of_expr test ++ block body
  nodes_at (StmtKind-F.For name range body) p = of_expr range ++ block body
  nodes_at (StmtKind-F.Parfor name range most body) p = of_workers range most (all_fit program f name (map (shape_of program f) body)) p
  nodes_at (StmtKind-F.Switch value cases last) p = of_expr value ++ (arms_in cases ++ block last)
  nodes_at (StmtKind-F.Try body handler) p = block body ++ block handler
  nodes_at (StmtKind-F.Spmd workers body) p = p ∷ []
  nodes_at StmtKind-F.Break p = []
  nodes_at StmtKind-F.Continue p = []
  nodes_at StmtKind-F.Return p = []

  -- what is known of it
  abbrev shape_at : StmtKind-F stmt.StmtKind Arm Stmt → Place → Bool → Shape
  shape_at o p show = record { nodes = nodes_at o p; written = written_by o; fits = λ index written. is_item_at program f index written show o }

  abbrev folded : stmt.StmtKind → Place → Bool → Shape
  folded = fold-StmtKind (Place → Bool → Shape) (List Place) Shape (of_stmt_kind program f) (of_arm_layer program f) (of_stmt_layer program f)

  opened : (o : StmtKind-F stmt.StmtKind Arm Stmt) (g : Place → Bool → Shape) → folded (roll-StmtKind o) ≡ g → (p : Place) (show : Bool) → folded (roll-StmtKind o) p show ≡ g p show
  opened o g is p show = ap (λ (h : Place → Bool → Shape). h p show) is

  rolled : (o : StmtKind-F stmt.StmtKind Arm Stmt) (p : Place) (show : Bool) → folded (roll-StmtKind o) p show ≡ shape_at o p show
  rolled (StmtKind-F.Eval e) p show = opened (StmtKind-F.Eval e) _ (fold-roll-StmtKind (Place → Bool → Shape) (List Place) Shape (of_stmt_kind program f) (of_arm_layer program f) (of_stmt_layer program f) (StmtKind-F.Eval e)) p show
  rolled (StmtKind-F.Assign target e) p show = opened (StmtKind-F.Assign target e) _ (fold-roll-StmtKind (Place → Bool → Shape) (List Place) Shape (of_stmt_kind program f) (of_arm_layer program f) (of_stmt_layer program f) (StmtKind-F.Assign target e)) p show
  rolled (StmtKind-F.AssignList targets e) p show = opened (StmtKind-F.AssignList targets e) _ (fold-roll-StmtKind (Place → Bool → Shape) (List Place) Shape (of_stmt_kind program f) (of_arm_layer program f) (of_stmt_layer program f) (StmtKind-F.AssignList targets e)) p show
  rolled (StmtKind-F.Delete name list) p show = opened (StmtKind-F.Delete name list) _ (fold-roll-StmtKind (Place → Bool → Shape) (List Place) Shape (of_stmt_kind program f) (of_arm_layer program f) (of_stmt_layer program f) (StmtKind-F.Delete name list)) p show
  rolled (StmtKind-F.If arms last) p show = opened (StmtKind-F.If arms last) _ (fold-roll-StmtKind (Place → Bool → Shape) (List Place) Shape (of_stmt_kind program f) (of_arm_layer program f) (of_stmt_layer program f) (StmtKind-F.If arms last)) p show
  rolled (StmtKind-F.While test body) p show = opened (StmtKind-F.While test body) _ (fold-roll-StmtKind (Place → Bool → Shape) (List Place) Shape (of_stmt_kind program f) (of_arm_layer program f) (of_stmt_layer program f) (StmtKind-F.While test body)) p show
  rolled (StmtKind-F.For name range body) p show = opened (StmtKind-F.For name range body) _ (fold-roll-StmtKind (Place → Bool → Shape) (List Place) Shape (of_stmt_kind program f) (of_arm_layer program f) (of_stmt_layer program f) (StmtKind-F.For name range body)) p show
  rolled (StmtKind-F.Parfor name range most body) p show = opened (StmtKind-F.Parfor name range most body) _ (fold-roll-StmtKind (Place → Bool → Shape) (List Place) Shape (of_stmt_kind program f) (of_arm_layer program f) (of_stmt_layer program f) (StmtKind-F.Parfor name range most body)) p show
  rolled (StmtKind-F.Switch value cases last) p show = opened (StmtKind-F.Switch value cases last) _ (fold-roll-StmtKind (Place → Bool → Shape) (List Place) Shape (of_stmt_kind program f) (of_arm_layer program f) (of_stmt_layer program f) (StmtKind-F.Switch value cases last)) p show
  rolled (StmtKind-F.Try body handler) p show = opened (StmtKind-F.Try body handler) _ (fold-roll-StmtKind (Place → Bool → Shape) (List Place) Shape (of_stmt_kind program f) (of_arm_layer program f) (of_stmt_layer program f) (StmtKind-F.Try body handler)) p show
  rolled (StmtKind-F.Spmd workers body) p show = opened (StmtKind-F.Spmd workers body) _ (fold-roll-StmtKind (Place → Bool → Shape) (List Place) Shape (of_stmt_kind program f) (of_arm_layer program f) (of_stmt_layer program f) (StmtKind-F.Spmd workers body)) p show
  rolled StmtKind-F.Break p show = opened StmtKind-F.Break _ (fold-roll-StmtKind (Place → Bool → Shape) (List Place) Shape (of_stmt_kind program f) (of_arm_layer program f) (of_stmt_layer program f) StmtKind-F.Break) p show
  rolled StmtKind-F.Continue p show = opened StmtKind-F.Continue _ (fold-roll-StmtKind (Place → Bool → Shape) (List Place) Shape (of_stmt_kind program f) (of_arm_layer program f) (of_stmt_layer program f) StmtKind-F.Continue) p show
  rolled StmtKind-F.Return p show = opened StmtKind-F.Return _ (fold-roll-StmtKind (Place → Bool → Shape) (List Place) Shape (of_stmt_kind program f) (of_arm_layer program f) (of_stmt_layer program f) StmtKind-F.Return) p show

  shape_is : (s : Stmt) → shape_of program f s ≡ shape_at (kind_of s) s.place s.show
  shape_is s =
      fold_out-Stmt (Place → Bool → Shape) (List Place) Shape (of_stmt_kind program f) (of_arm_layer program f) (of_stmt_layer program f) s
      ∙ ap (λ k. folded k s.place s.show) (sym (roll-out-StmtKind s.kind))
      ∙ rolled (kind_of s) s.place s.show

  -- the nodes of a statement, of a test and what it guards
  pub nodes_are : (s : Stmt) → of_stmt program f s ≡ nodes_at (kind_of s) s.place
  nodes_are s = ap (λ (x : Shape). x.nodes) (shape_is s)

  pub arm_nodes_are : (arm : Arm) → of_arm program f arm ≡ of_expr (out-Arm arm).test ++ block (guarded arm)
  arm_nodes_are arm = fold_out-Arm (Place → Bool → Shape) (List Place) Shape (of_stmt_kind program f) (of_arm_layer program f) (of_stmt_layer program f) arm

  written_is : (body : List Stmt) → writes (map (shape_of program f) body) ≡ written_in body
  written_is [] = refl
  written_is (s ∷ body) = ap (λ (x : Shape). x.written ++ writes (map (shape_of program f) body)) (shape_is s) ∙ ap (λ l. written_by (kind_of s) ++ l) (written_is body)

  items_fit : (index : Name) (written : List Name) (body : List Stmt) → list_all (λ (x : Shape). x.fits index written) (map (shape_of program f) body) ≡ list_all (is_item program f index written) body
  items_fit index written [] = refl
  items_fit index written (s ∷ body) = ap (λ (x : Shape). x.fits index written && list_all (λ (y : Shape). y.fits index written) (map (shape_of program f) body)) (shape_is s) ∙ ap (λ b. is_item program f index written s && b) (items_fit index written body)

  -- a body fits where it is of the form
  pub form_is : (index : Name) (body : List Stmt) → all_fit program f index (map (shape_of program f) body) ≡ is_form program f index body
  form_is index body = ap (λ w. is_some (slot_of program f index.text) && list_all (λ (x : Shape). x.fits index w) (map (shape_of program f) body)) (written_is body) ∙ ap (λ b. is_some (slot_of program f index.text) && b) (items_fit index (written_in body) body)
