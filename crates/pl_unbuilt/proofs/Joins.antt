-- The nodes of rows, row by row.
use Rattle.std.proofs.Common.{◌≡◌, ℕ, ◌≤◌, ◌++◌, List, [], ◌∷◌, map, drop, length, refl, sym, ap, ◌∙◌}
use Rattle.std.proofs.lemmas.List.{append-nil}
use Rattle.std.proofs.Math.ListN.{drop_of_length-le}
use Rattle.pl_syntax.specs.declared.expr.Expr.{Expr, fold_out-Expr}
use Rattle.pl_syntax.specs.declared.expr.ExprKind.{fold-ExprKind, fold-roll-ExprKind}
use Rattle.pl_syntax.specs.declared.expr.ExprKind.TheOpen.{ExprKind-F}
use Rattle.pl_syntax.specs.declared.expr.ExprKind.TheVariants.{Rows, rolls-Rows}
use Rattle.pl_base.specs.declared.errors.Place.{Place}
use Rattle.pl_unbuilt.specs.Nodes.{joined, of_kind, of_layer, of_expr, of_exprs}

pub rows_joined : (rows : List (List Expr)) → joined (map of_exprs rows) ≡ joined (map joined (map (map of_expr) rows))
rows_joined [] = refl
rows_joined (row ∷ rows) = ap (λ l. of_exprs row ++ l) (rows_joined rows)

-- behind the end nothing is left
pub all_dropped : {A : Type 0} (names : A → List Place) (list : List A) (i : ℕ) → length list ≤ i → (out : List Place) → out ≡ out ++ joined (map names (drop i list))
all_dropped names list i past out = sym (append-nil out) ∙ ap (λ l. out ++ joined (map names l)) (sym (drop_of_length-le list past))

-- the nodes of a bracket
pub at_rows : (e : Expr) (rows : List (List Expr)) → e.kind ≡ Rows rows → of_expr e ≡ joined (map of_exprs rows)
at_rows e rows is =
    fold_out-Expr (Place → List Place) (List Place) of_kind of_layer e
    ∙ ap (λ k. fold-ExprKind (Place → List Place) (List Place) of_kind of_layer k e.place) (is ∙ sym (rolls-Rows rows))
    ∙ ap (λ f. f e.place) (fold-roll-ExprKind (Place → List Place) (List Place) of_kind of_layer (ExprKind-F.Rows rows))
    ∙ sym (rows_joined rows)
