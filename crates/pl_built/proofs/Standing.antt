-- Where no nodes are, each loop over workers is of the form.
use Rattle.std.specs.Prelude.{◌&&◌, is_some, is_none, ◌≡◌}
use Rattle.std.specs.List.{list_all}
use Rattle.std.proofs.Common.{◌∙◌, ◌⊎◌, inl, inr, Bool, true, false, cond, ◌++◌, List, [], ◌∷◌, map, Option, Some, None, refl, sym, ap, subst}
use Rattle.std.proofs.lemmas.Bool.{and_parts}
use Rattle.pl_base.specs.declared.errors.Place.{Place}
use Rattle.pl_syntax.specs.declared.expr.Name.{Name}
use Rattle.pl_syntax.specs.declared.expr.Expr.{Expr}
use Rattle.pl_syntax.specs.declared.stmt.Arm.{Arm, out-Arm}
use Rattle.pl_syntax.specs.declared.stmt.Stmt.{Stmt, out-Stmt}
use Rattle.pl_syntax.specs.declared.stmt.StmtKind.{StmtKind}
use Rattle.pl_syntax.specs.declared.stmt.StmtKind.TheOpen.{StmtKind-F}
use Rattle.pl_resolve.specs.declared.resolved.Resolved.{Resolved}
use Rattle.pl_meaning.specs.declared.frame.Frame.{Frame}
use Rattle.pl_meaning.specs.Names.{slot_of}
use Rattle.pl_meaning.specs.Parts.{written_in}
use Rattle.pl_meaning.specs.Forms.{is_item_at, is_item, is_form}
use Rattle.pl_unbuilt.specs.Nodes.{of_expr, is_between, of_workers, of_stmt, of_arm, of_arms, of_block}
use Rattle.pl_built.specs.Built.{IsOneOf, guarded, blocks_at, kind_of, StandsIn, directly, within}
use Rattle.pl_built.proofs.Shapes.{nodes_at, nodes_are, arm_nodes_are, form_is}

-- ## Empty lists

cons_nil : {A : Type 0} (x : A) (xs : List A) → ◌≡◌ {A = List A} (x ∷ xs) [] → ⊥
cons_nil x xs e = cc

pub left_none : {A : Type 0} (a b : List A) → a ++ b ≡ [] → a ≡ []
left_none [] b e = refl
left_none (x ∷ a) b e = absurd (cons_nil x (a ++ b) e)

pub right_none : {A : Type 0} (a b : List A) → a ++ b ≡ [] → b ≡ []
right_none [] b e = e
right_none (x ∷ a) b e = absurd (cons_nil x (a ++ b) e)

false_true : false ≡ true → ⊥
false_true e = cc

in_either : {A B C : Type 0} → A ⊎ B → (A → C) → (B → C) → C
in_either (inl a) f g = f a
in_either (inr b) f g = g b

-- ## Loops over workers

-- a loop without nodes
pub record IsBuilt (range : Expr) (most : Option Expr) (fits : Bool) : Type 0 where
  pub form : fits ≡ true
  pub unbounded : most ≡ None
  pub between : is_between range ≡ true

is_nothing : (most : Option Expr) → is_none most ≡ true → most ≡ None
is_nothing None e = refl
is_nothing (Some e) k = absurd (false_true k)

tested : (b : Bool) (l : List Place) (p : Place) → cond b l (p ∷ []) ≡ [] → b ≡ true
tested true l p e = refl
tested false l p e = absurd (cons_nil p [] e)

pub built_where_none : (range : Expr) (most : Option Expr) (fits : Bool) (p : Place) → of_workers range most fits p ≡ [] → IsBuilt range most fits
built_where_none range most fits p e =
    let tests : is_none most && (is_between range && fits) ≡ true = tested (is_none most && (is_between range && fits)) (of_expr range) p e in
    let two : (is_none most ≡ true) × (is_between range && fits ≡ true) = and_parts (is_none most) (is_between range && fits) tests in
    let last : (is_between range ≡ true) × (fits ≡ true) = and_parts (is_between range) fits two.1 in
    record { form = last.1; unbounded = is_nothing most two.0; between = last.0 }

module _ (program : Resolved) (f : Frame) where
  -- ## In a body of the form no loop stands

  item_in : (index : Name) (written : List Name) (body : List Stmt) (s : Stmt) → list_all (is_item program f index written) body ≡ true → IsOneOf body s → is_item program f index written s ≡ true
  item_in index written [] s all one = absurd one
  item_in index written (t ∷ body) s all (inl e) = subst (λ x. is_item program f index written x ≡ true) e (and_parts (is_item program f index written t) (list_all (is_item program f index written) body) all).0
  item_in index written (t ∷ body) s all (inr more) = item_in index written body s (and_parts (is_item program f index written t) (list_all (is_item program f index written) body) all).1 more

  -- an item of such a body is no loop, and has no blocks
  not_a_loop : (index : Name) (written : List Name) (show : Bool) (n : Name) (range : Expr) (most : Option Expr) (body : List Stmt) (o : StmtKind-F StmtKind Arm Stmt) → o ≡ StmtKind-F.Parfor n range most body → is_item_at program f index written show o ≡ true → ⊥
  not_a_loop index written show n range most body o is item = false_true (subst (λ k. is_item_at program f index written show k ≡ true) is item)

  no_blocks : (index : Name) (written : List Name) (show : Bool) (o : StmtKind-F StmtKind Arm Stmt) (block : List Stmt) → is_item_at program f index written show o ≡ true → IsOneOf (blocks_at o) block → ⊥
  no_blocks index written show (StmtKind-F.If arms last) block item one = false_true item
  no_blocks index written show (StmtKind-F.While test body) block item one = false_true item
  no_blocks index written show (StmtKind-F.For n range body) block item one = false_true item
  no_blocks index written show (StmtKind-F.Parfor n range most body) block item one = false_true item
  no_blocks index written show (StmtKind-F.Switch value cases last) block item one = false_true item
  no_blocks index written show (StmtKind-F.Try body handler) block item one = false_true item
  no_blocks index written show (StmtKind-F.Spmd workers body) block item one = false_true item
  no_blocks index written show (StmtKind-F.Eval e) block item one = one
  no_blocks index written show (StmtKind-F.Assign target e) block item one = one
  no_blocks index written show (StmtKind-F.AssignList targets e) block item one = one
  no_blocks index written show (StmtKind-F.Delete n list) block item one = one
  no_blocks index written show StmtKind-F.Break block item one = one
  no_blocks index written show StmtKind-F.Continue block item one = one
  no_blocks index written show StmtKind-F.Return block item one = one

  no_loop_in : (index : Name) (written : List Name) (body : List Stmt) (s : Stmt) (n : Name) (range : Expr) (most : Option Expr) (inner : List Stmt) → list_all (is_item program f index written) body ≡ true → StandsIn body s → kind_of s ≡ StmtKind-F.Parfor n range most inner → ⊥
  no_loop_in index written body s n range most inner all (directly one) is = not_a_loop index written (out-Stmt s).show n range most inner (kind_of s) is (item_in index written body s all one)
  no_loop_in index written body s n range most inner all (within t block one other stands) is = no_blocks index written (out-Stmt t).show (kind_of t) block (item_in index written body t all one) other

  -- ## Statements without nodes

  none_in : (body : List Stmt) (s : Stmt) → of_block program f body ≡ [] → IsOneOf body s → of_stmt program f s ≡ []
  none_in [] s none one = absurd one
  none_in (t ∷ body) s none (inl e) = subst (λ x. of_stmt program f x ≡ []) e (left_none (of_stmt program f t) (of_block program f body) none)
  none_in (t ∷ body) s none (inr more) = none_in body s (right_none (of_stmt program f t) (of_block program f body) none) more

  none_guarded : (arms : List Arm) (block : List Stmt) → of_arms program f arms ≡ [] → IsOneOf (map guarded arms) block → of_block program f block ≡ []
  none_guarded [] block none one = absurd one
  none_guarded (arm ∷ arms) block none (inl e) = subst (λ b. of_block program f b ≡ []) e (right_none (of_expr (out-Arm arm).test) (of_block program f (guarded arm)) (sym (arm_nodes_are program f arm) ∙ left_none (of_arm program f arm) (of_arms program f arms) none))
  none_guarded (arm ∷ arms) block none (inr more) = none_guarded arms block (right_none (of_arm program f arm) (of_arms program f arms) none) more

  -- a body in which no loop over workers stands
  abbrev HasNone : List Stmt → Type 0
  HasNone body = (s : Stmt) (n : Name) (range : Expr) (most : Option Expr) (inner : List Stmt) → StandsIn body s → kind_of s ≡ StmtKind-F.Parfor n range most inner → ⊥

  form_has_none : (index : Name) (body : List Stmt) → is_form program f index body ≡ true → HasNone body
  form_has_none index body form s n range most inner = no_loop_in index (written_in body) body s n range most inner (and_parts (is_some (slot_of program f index.text)) (list_all (is_item program f index (written_in body)) body) form).1

  abbrev Quiet : List Stmt → Type 0
  Quiet block = (of_block program f block ≡ []) ⊎ HasNone block

  last_or_guarded : (arms : List Arm) (last block : List Stmt) → of_arms program f arms ++ of_block program f last ≡ [] → IsOneOf (last ∷ map guarded arms) block → Quiet block
  last_or_guarded arms last block none (inl e) = inl (subst (λ b. of_block program f b ≡ []) e (right_none (of_arms program f arms) (of_block program f last) none))
  last_or_guarded arms last block none (inr one) = inl (none_guarded arms block (left_none (of_arms program f arms) (of_block program f last) none) one)

  only_body : (first : List Place) (body block : List Stmt) → first ++ of_block program f body ≡ [] → IsOneOf (body ∷ []) block → Quiet block
  only_body first body block none (inl e) = inl (subst (λ b. of_block program f b ≡ []) e (right_none first (of_block program f body) none))
  only_body first body block none (inr one) = absurd one

  -- a block of a statement without nodes has none, or is a body of the form
  quiet : (o : StmtKind-F StmtKind Arm Stmt) (p : Place) (block : List Stmt) → nodes_at program f o p ≡ [] → IsOneOf (blocks_at o) block → Quiet block
  quiet (StmtKind-F.If arms last) p block none one = last_or_guarded arms last block none one
  quiet (StmtKind-F.While test body) p block none one = only_body (of_expr test) body block none one
  quiet (StmtKind-F.For n range body) p block none one = only_body (of_expr range) body block none one
  quiet (StmtKind-F.Parfor n range most body) p block none (inl e) =
      inr (subst HasNone e (form_has_none n body (sym (form_is program f n body) ∙ (built_where_none range most _ p none).form)))
  quiet (StmtKind-F.Parfor n range most body) p block none (inr one) = absurd one
  quiet (StmtKind-F.Switch value cases last) p block none one = last_or_guarded cases last block (right_none (of_expr value) (of_arms program f cases ++ of_block program f last) none) one
  quiet (StmtKind-F.Try body handler) p block none (inl e) = inl (subst (λ b. of_block program f b ≡ []) e (left_none (of_block program f body) (of_block program f handler) none))
  quiet (StmtKind-F.Try body handler) p block none (inr one) = only_body (of_block program f body) handler block none one
  quiet (StmtKind-F.Spmd workers body) p block none one = absurd (cons_nil p [] none)
  quiet (StmtKind-F.Eval e) p block none one = absurd one
  quiet (StmtKind-F.Assign target e) p block none one = absurd one
  quiet (StmtKind-F.AssignList targets e) p block none one = absurd one
  quiet (StmtKind-F.Delete n list) p block none one = absurd one
  quiet StmtKind-F.Break p block none one = absurd one
  quiet StmtKind-F.Continue p block none one = absurd one
  quiet StmtKind-F.Return p block none one = absurd one

  -- ## A body without nodes

  directly_built : (s : Stmt) (n : Name) (range : Expr) (most : Option Expr) (body : List Stmt) → of_stmt program f s ≡ [] → kind_of s ≡ StmtKind-F.Parfor n range most body → IsBuilt range most (is_form program f n body)
  directly_built s n range most body none is =
      let none_here : nodes_at program f (StmtKind-F.Parfor n range most body) s.place ≡ [] = ap (λ o. nodes_at program f o s.place) (sym is) ∙ sym (nodes_are program f s) ∙ none in
      subst (IsBuilt range most) (form_is program f n body) (built_where_none range most _ s.place none_here)

  -- each loop over workers that stands in it is built
  pub loops_built : (all : List Stmt) (s : Stmt) (n : Name) (range : Expr) (most : Option Expr) (body : List Stmt) → of_block program f all ≡ [] → StandsIn all s → kind_of s ≡ StmtKind-F.Parfor n range most body → IsBuilt range most (is_form program f n body)
  loops_built all s n range most body none (directly one) is = directly_built s n range most body (none_in all s none one) is
  loops_built all s n range most body none (within t block one other stands) is =
      in_either (quiet (kind_of t) t.place block (sym (nodes_are program f t) ∙ none_in all t none one) other)
      (λ inside. loops_built block s n range most body inside stands is)
      (λ no. absurd (no s n range most body stands is))
