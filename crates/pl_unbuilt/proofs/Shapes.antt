-- What is known of a statement, by what it is; and that a body fits where it is of the form.
use Rattle.std.specs.Prelude.{◌&&◌, is_some}
use Rattle.std.specs.List.{list_all}
use Rattle.std.proofs.Common.{◌≡◌, ◌∙◌, Bool, ◌++◌, List, [], ◌∷◌, map, Option, refl, sym, ap}
use Rattle.std.proofs.lemmas.List.{append_assoc}
use Rattle.pl_base.specs.declared.errors.Place.{Place}
use Rattle.pl_syntax.specs.declared.expr.Name.{Name}
use Rattle.pl_syntax.specs.declared.expr.Expr.{Expr}
use Rattle.pl_syntax.specs.declared.stmt.Arm.{Arm}
use Rattle.pl_syntax.specs.declared.stmt.Stmt.{Stmt, fold_out-Stmt}
use Rattle.pl_syntax.specs.declared.stmt.StmtKind as stmt
use Rattle.pl_syntax.specs.declared.stmt.StmtKind.{out-StmtKind, roll-StmtKind, roll-out-StmtKind, fold-StmtKind, fold-roll-StmtKind}
use Rattle.pl_syntax.specs.declared.stmt.StmtKind.TheOpen.{StmtKind-F}
use Rattle.pl_syntax.specs.declared.stmt.StmtKind.TheVariants.{rolls-While, rolls-For, rolls-Parfor, rolls-Switch, rolls-Try}
use Rattle.pl_resolve.specs.declared.resolved.Resolved.{Resolved}
use Rattle.pl_meaning.specs.declared.frame.Frame.{Frame}
use Rattle.pl_meaning.specs.Names.{slot_of}
use Rattle.pl_meaning.specs.Parts.{written_by, written_in}
use Rattle.pl_meaning.specs.Forms.{is_item_at, is_item, is_form}
use Rattle.pl_unbuilt.specs.Nodes.{Shape, writes, of_expr, of_workers, all_fit, of_stmt_kind, of_arm_layer, of_stmt_layer, shape_of, of_stmt, of_arms, of_block}

-- what is added, and then more
pub then_more : (x : List Place) {y z : List Place} (a b : List Place) → y ≡ x ++ a → z ≡ y ++ b → z ≡ x ++ (a ++ b)
then_more x a b first second = second ∙ ap (λ l. l ++ b) first ∙ append_assoc x a b

module _ (program : Resolved) (f : Frame) where
  abbrev kind_of : stmt.StmtKind → Place → Bool → Shape
  kind_of = fold-StmtKind (Place → Bool → Shape) (List Place) Shape (of_stmt_kind program f) (of_arm_layer program f) (of_stmt_layer program f)

  at_stmt : (s : Stmt) → shape_of program f s ≡ kind_of s.kind s.place s.show
  at_stmt s = fold_out-Stmt (Place → Bool → Shape) (List Place) Shape (of_stmt_kind program f) (of_arm_layer program f) (of_stmt_layer program f) s

  -- a statement whose kind has this shape
  shaped : (s : Stmt) (k : stmt.StmtKind) (g : Place → Bool → Shape) → s.kind ≡ k → kind_of k ≡ g → of_stmt program f s ≡ (g s.place s.show).nodes
  shaped s k g is shape = ap (λ (x : Shape). x.nodes) (at_stmt s ∙ ap (λ h. kind_of h s.place s.show) is ∙ ap (λ (h : Place → Bool → Shape). h s.place s.show) shape)

  pub at_while : (s : Stmt) (test : Expr) (body : List Stmt) → s.kind ≡ stmt.While test body → of_stmt program f s ≡ of_expr test ++ of_block program f body
  at_while s test body is = shaped s _ _ is (ap kind_of (sym (rolls-While test body)) ∙ fold-roll-StmtKind (Place → Bool → Shape) (List Place) Shape (of_stmt_kind program f) (of_arm_layer program f) (of_stmt_layer program f) (StmtKind-F.While test body))

  pub at_for : (s : Stmt) (n : Name) (range : Expr) (body : List Stmt) → s.kind ≡ stmt.For n range body → of_stmt program f s ≡ of_expr range ++ of_block program f body
  at_for s n range body is = shaped s _ _ is (ap kind_of (sym (rolls-For n range body)) ∙ fold-roll-StmtKind (Place → Bool → Shape) (List Place) Shape (of_stmt_kind program f) (of_arm_layer program f) (of_stmt_layer program f) (StmtKind-F.For n range body))

  pub at_switch : (s : Stmt) (value : Expr) (cases : List Arm) (last : List Stmt) → s.kind ≡ stmt.Switch value cases last → of_stmt program f s ≡ of_expr value ++ (of_arms program f cases ++ of_block program f last)
  at_switch s value cases last is = shaped s _ _ is (ap kind_of (sym (rolls-Switch value cases last)) ∙ fold-roll-StmtKind (Place → Bool → Shape) (List Place) Shape (of_stmt_kind program f) (of_arm_layer program f) (of_stmt_layer program f) (StmtKind-F.Switch value cases last))

  pub at_try : (s : Stmt) (body handler : List Stmt) → s.kind ≡ stmt.Try body handler → of_stmt program f s ≡ of_block program f body ++ of_block program f handler
  at_try s body handler is = shaped s _ _ is (ap kind_of (sym (rolls-Try body handler)) ∙ fold-roll-StmtKind (Place → Bool → Shape) (List Place) Shape (of_stmt_kind program f) (of_arm_layer program f) (of_stmt_layer program f) (StmtKind-F.Try body handler))

  pub at_parfor : (s : Stmt) (index : Name) (range : Expr) (most : Option Expr) (body : List Stmt) → s.kind ≡ stmt.Parfor index range most body → of_stmt program f s ≡ of_workers range most (all_fit program f index (map (shape_of program f) body)) s.place
  at_parfor s index range most body is = shaped s _ _ is (ap kind_of (sym (rolls-Parfor index range most body)) ∙ fold-roll-StmtKind (Place → Bool → Shape) (List Place) Shape (of_stmt_kind program f) (of_arm_layer program f) (of_stmt_layer program f) (StmtKind-F.Parfor index range most body))

  -- what of a shape tells whether a body fits
  abbrev Outline : Type 0
  Outline = List Name × (Name → List Name → Bool)

  abbrev outline : Shape → Outline
  outline x = (x.written, x.fits)

  abbrev outline_at : Bool → StmtKind-F stmt.StmtKind Arm Stmt → Outline
  outline_at show o = (written_by o, λ index written. is_item_at program f index written show o)

  opened : (o : StmtKind-F stmt.StmtKind Arm Stmt) (g : Place → Bool → Shape) → kind_of (roll-StmtKind o) ≡ g → (p : Place) (show : Bool) → outline (kind_of (roll-StmtKind o) p show) ≡ outline (g p show)
  opened o g is p show = ap (λ (h : Place → Bool → Shape). outline (h p show)) is

  outlined : (o : StmtKind-F stmt.StmtKind Arm Stmt) (p : Place) (show : Bool) → outline (kind_of (roll-StmtKind o) p show) ≡ outline_at show o
  outlined (StmtKind-F.Eval e) p show = opened (StmtKind-F.Eval e) _ (fold-roll-StmtKind (Place → Bool → Shape) (List Place) Shape (of_stmt_kind program f) (of_arm_layer program f) (of_stmt_layer program f) (StmtKind-F.Eval e)) p show
  outlined (StmtKind-F.Assign t e) p show = opened (StmtKind-F.Assign t e) _ (fold-roll-StmtKind (Place → Bool → Shape) (List Place) Shape (of_stmt_kind program f) (of_arm_layer program f) (of_stmt_layer program f) (StmtKind-F.Assign t e)) p show
  outlined (StmtKind-F.AssignList ts e) p show = opened (StmtKind-F.AssignList ts e) _ (fold-roll-StmtKind (Place → Bool → Shape) (List Place) Shape (of_stmt_kind program f) (of_arm_layer program f) (of_stmt_layer program f) (StmtKind-F.AssignList ts e)) p show
  outlined (StmtKind-F.Delete n es) p show = opened (StmtKind-F.Delete n es) _ (fold-roll-StmtKind (Place → Bool → Shape) (List Place) Shape (of_stmt_kind program f) (of_arm_layer program f) (of_stmt_layer program f) (StmtKind-F.Delete n es)) p show
  outlined (StmtKind-F.If arms last) p show = opened (StmtKind-F.If arms last) _ (fold-roll-StmtKind (Place → Bool → Shape) (List Place) Shape (of_stmt_kind program f) (of_arm_layer program f) (of_stmt_layer program f) (StmtKind-F.If arms last)) p show
  outlined (StmtKind-F.While e body) p show = opened (StmtKind-F.While e body) _ (fold-roll-StmtKind (Place → Bool → Shape) (List Place) Shape (of_stmt_kind program f) (of_arm_layer program f) (of_stmt_layer program f) (StmtKind-F.While e body)) p show
  outlined (StmtKind-F.For n e body) p show = opened (StmtKind-F.For n e body) _ (fold-roll-StmtKind (Place → Bool → Shape) (List Place) Shape (of_stmt_kind program f) (of_arm_layer program f) (of_stmt_layer program f) (StmtKind-F.For n e body)) p show
  outlined (StmtKind-F.Parfor n e most body) p show = opened (StmtKind-F.Parfor n e most body) _ (fold-roll-StmtKind (Place → Bool → Shape) (List Place) Shape (of_stmt_kind program f) (of_arm_layer program f) (of_stmt_layer program f) (StmtKind-F.Parfor n e most body)) p show
  outlined (StmtKind-F.Switch e arms last) p show = opened (StmtKind-F.Switch e arms last) _ (fold-roll-StmtKind (Place → Bool → Shape) (List Place) Shape (of_stmt_kind program f) (of_arm_layer program f) (of_stmt_layer program f) (StmtKind-F.Switch e arms last)) p show
  outlined (StmtKind-F.Try body handler) p show = opened (StmtKind-F.Try body handler) _ (fold-roll-StmtKind (Place → Bool → Shape) (List Place) Shape (of_stmt_kind program f) (of_arm_layer program f) (of_stmt_layer program f) (StmtKind-F.Try body handler)) p show
  outlined (StmtKind-F.Spmd most body) p show = opened (StmtKind-F.Spmd most body) _ (fold-roll-StmtKind (Place → Bool → Shape) (List Place) Shape (of_stmt_kind program f) (of_arm_layer program f) (of_stmt_layer program f) (StmtKind-F.Spmd most body)) p show
  outlined StmtKind-F.Break p show = opened StmtKind-F.Break _ (fold-roll-StmtKind (Place → Bool → Shape) (List Place) Shape (of_stmt_kind program f) (of_arm_layer program f) (of_stmt_layer program f) StmtKind-F.Break) p show
  outlined StmtKind-F.Continue p show = opened StmtKind-F.Continue _ (fold-roll-StmtKind (Place → Bool → Shape) (List Place) Shape (of_stmt_kind program f) (of_arm_layer program f) (of_stmt_layer program f) StmtKind-F.Continue) p show
  outlined StmtKind-F.Return p show = opened StmtKind-F.Return _ (fold-roll-StmtKind (Place → Bool → Shape) (List Place) Shape (of_stmt_kind program f) (of_arm_layer program f) (of_stmt_layer program f) StmtKind-F.Return) p show

  outline_is : (s : Stmt) → outline (shape_of program f s) ≡ outline_at s.show (out-StmtKind s.kind)
  outline_is s = ap outline (at_stmt s ∙ ap (λ k. kind_of k s.place s.show) (sym (roll-out-StmtKind s.kind))) ∙ outlined (out-StmtKind s.kind) s.place s.show

  all_written : (body : List Stmt) → writes (map (shape_of program f) body) ≡ written_in body
  all_written [] = refl
  all_written (s ∷ body) = ap (λ (x : Outline). x.0 ++ writes (map (shape_of program f) body)) (outline_is s) ∙ ap (λ l. written_by (out-StmtKind s.kind) ++ l) (all_written body)

  all_items : (index : Name) (written : List Name) (body : List Stmt) → list_all (λ (x : Shape). x.fits index written) (map (shape_of program f) body) ≡ list_all (is_item program f index written) body
  all_items index written [] = refl
  all_items index written (s ∷ body) = ap (λ (x : Outline). x.1 index written && list_all (λ (y : Shape). y.fits index written) (map (shape_of program f) body)) (outline_is s) ∙ ap (λ b. is_item program f index written s && b) (all_items index written body)

  -- a body fits where it is of the form
  pub form_fits : (index : Name) (body : List Stmt) → all_fit program f index (map (shape_of program f) body) ≡ is_form program f index body
  form_fits index body = ap (λ b. is_some (slot_of program f index.text) && b) (ap (λ w. list_all (λ (x : Shape). x.fits index w) (map (shape_of program f) body)) (all_written body) ∙ all_items index (written_in body) body)
