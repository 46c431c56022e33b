-- An expression is printed the same whatever its places are: by induction on it.
use Rattle.std.proofs.Common.{◌≡◌, ◌∙◌, ℤ, ℕ, List, [], ◌∷◌, Some, None, map, refl, ap, sym, subst}
use Rattle.pl_base.specs.declared.errors.Place.{Place}
use Rattle.pl_syntax.specs.declared.expr.Name.{Name}
use Rattle.pl_syntax.specs.declared.expr.Un.{Un}
use Rattle.pl_syntax.specs.declared.expr.Bin.{Bin}
use Rattle.pl_syntax.specs.declared.expr.Expr.{Expr, roll-Expr, ind-Expr}
use Rattle.pl_syntax.specs.declared.expr.ExprKind as kind
use Rattle.pl_syntax.specs.declared.expr.ExprKind.{map-ExprKind, roll-ExprKind}
use Rattle.pl_syntax.specs.declared.expr.ExprKind.TheOpen.{ExprKind-F}
use Rattle.pl_syntax.specs.declared.expr.ExprKind.TheVariants.{rolls-Number, rolls-Chars, rolls-Var, rolls-Apply, rolls-Brace, rolls-Unary, rolls-Binary, rolls-Range, rolls-Rows, rolls-Func, rolls-End, rolls-Colon, rolls-StateOf}
use Rattle.pl_grammar.specs.Trees.{node}
use Rattle.pl_printing.specs.Places.{nowhere, moved, moved_kind, moved_layer, but_places_expr, but_places_exprs}
use Rattle.pl_printing.specs.Canonical.{Shown, of_kind, of_layer, shown, all_shown}
use Rattle.pl_printing.proofs.Folds.{at_number, at_chars, at_var, at_apply, at_brace, at_brace_list, at_unary, at_binary, at_range, at_stepped, at_rows, at_func, at_end, at_colon, at_state}

-- an expression is shown the same without its places, and a kind at each place
abbrev Kept : Expr → Type 0
Kept e = shown (but_places_expr e) ≡ shown e

abbrev KeptKind : kind.ExprKind → Type 0
KeptKind k = (p : Place) → Kept (node k p)

-- a part that is kept
abbrev Part : Type 0
Part = (e : Expr) × Kept e

abbrev PartKind : Type 0
PartKind = (k : kind.ExprKind) × KeptKind k

abbrev parts : List Part → List Expr
parts es = map (λ e. e.0) es

abbrev all_parts : List (List Part) → List (List Expr)
all_parts rows = map parts rows

parts_kept : (es : List Part) → all_shown (but_places_exprs (parts es)) ≡ all_shown (parts es)
parts_kept [] = refl
parts_kept (e ∷ es) = λ i. e.1 i ∷ parts_kept es i

rows_kept : (rows : List (List Part)) → map all_shown (map but_places_exprs (all_parts rows)) ≡ map all_shown (all_parts rows)
rows_kept [] = refl
rows_kept (row ∷ rows) = λ i. parts_kept row i ∷ rows_kept rows i

-- ---- each kind, of kept parts

kept_number : (z : ℤ) → KeptKind (kind.Number z)
kept_number z p = ap shown (at_number kind.ExprKind Expr moved_kind moved_layer z p) ∙ at_number Shown Shown of_kind of_layer z nowhere ∙ sym (at_number Shown Shown of_kind of_layer z p)

kept_chars : (t : List ℕ) → KeptKind (kind.Chars t)
kept_chars t p = ap shown (at_chars kind.ExprKind Expr moved_kind moved_layer t p) ∙ at_chars Shown Shown of_kind of_layer t nowhere ∙ sym (at_chars Shown Shown of_kind of_layer t p)

kept_var : (n : Name) → KeptKind (kind.Var n)
kept_var n p = ap shown (at_var kind.ExprKind Expr moved_kind moved_layer n p) ∙ at_var Shown Shown of_kind of_layer (moved n) nowhere ∙ sym (at_var Shown Shown of_kind of_layer n p)

kept_apply : (n : Name) (es : List Part) → KeptKind (kind.Apply n (parts es))
kept_apply n es p =
    ap shown (at_apply kind.ExprKind Expr moved_kind moved_layer n (parts es) p)
    ∙ at_apply Shown Shown of_kind of_layer (moved n) (but_places_exprs (parts es)) nowhere
    ∙ ap (λ xs. of_kind (ExprKind-F.Apply n xs)) (parts_kept es)
    ∙ sym (at_apply Shown Shown of_kind of_layer n (parts es) p)

kept_brace : (n : Name) (e : Part) → KeptKind (kind.Brace n e.0 None)
kept_brace n e p =
    ap shown (at_brace kind.ExprKind Expr moved_kind moved_layer n e.0 p)
    ∙ at_brace Shown Shown of_kind of_layer (moved n) (but_places_expr e.0) nowhere
    ∙ ap (λ x. of_kind (ExprKind-F.Brace n x None)) e.1
    ∙ sym (at_brace Shown Shown of_kind of_layer n e.0 p)

kept_brace_list : (n : Name) (e : Part) (es : List Part) → KeptKind (kind.Brace n e.0 (Some (parts es)))
kept_brace_list n e es p =
    ap shown (at_brace_list kind.ExprKind Expr moved_kind moved_layer n e.0 (parts es) p)
    ∙ at_brace_list Shown Shown of_kind of_layer (moved n) (but_places_expr e.0) (but_places_exprs (parts es)) nowhere
    ∙ (λ i. of_kind (ExprKind-F.Brace n (e.1 i) (Some (parts_kept es i))))
    ∙ sym (at_brace_list Shown Shown of_kind of_layer n e.0 (parts es) p)

kept_unary : (o : Un) (a : Part) → KeptKind (kind.Unary o a.0)
kept_unary o a p =
    ap shown (at_unary kind.ExprKind Expr moved_kind moved_layer o a.0 p)
    ∙ at_unary Shown Shown of_kind of_layer o (but_places_expr a.0) nowhere
    ∙ ap (λ x. of_kind (ExprKind-F.Unary o x)) a.1
    ∙ sym (at_unary Shown Shown of_kind of_layer o a.0 p)

kept_binary : (o : Bin) (a b : Part) → KeptKind (kind.Binary o a.0 b.0)
kept_binary o a b p =
    ap shown (at_binary kind.ExprKind Expr moved_kind moved_layer o a.0 b.0 p)
    ∙ at_binary Shown Shown of_kind of_layer o (but_places_expr a.0) (but_places_expr b.0) nowhere
    ∙ (λ i. of_kind (ExprKind-F.Binary o (a.1 i) (b.1 i)))
    ∙ sym (at_binary Shown Shown of_kind of_layer o a.0 b.0 p)

kept_range : (a b : Part) → KeptKind (kind.Range a.0 None b.0)
kept_range a b p =
    ap shown (at_range kind.ExprKind Expr moved_kind moved_layer a.0 b.0 p)
    ∙ at_range Shown Shown of_kind of_layer (but_places_expr a.0) (but_places_expr b.0) nowhere
    ∙ (λ i. of_kind (ExprKind-F.Range (a.1 i) None (b.1 i)))
    ∙ sym (at_range Shown Shown of_kind of_layer a.0 b.0 p)

kept_stepped : (a s b : Part) → KeptKind (kind.Range a.0 (Some s.0) b.0)
kept_stepped a s b p =
    ap shown (at_stepped kind.ExprKind Expr moved_kind moved_layer a.0 s.0 b.0 p)
    ∙ at_stepped Shown Shown of_kind of_layer (but_places_expr a.0) (but_places_expr s.0) (but_places_expr b.0) nowhere
    ∙ (λ i. of_kind (ExprKind-F.Range (a.1 i) (Some (s.1 i)) (b.1 i)))
    ∙ sym (at_stepped Shown Shown of_kind of_layer a.0 s.0 b.0 p)

kept_rows : (rows : List (List Part)) → KeptKind (kind.Rows (all_parts rows))
kept_rows rows p =
    ap shown (at_rows kind.ExprKind Expr moved_kind moved_layer (all_parts rows) p)
    ∙ at_rows Shown Shown of_kind of_layer (map but_places_exprs (all_parts rows)) nowhere
    ∙ ap (λ xs. of_kind (ExprKind-F.Rows xs)) (rows_kept rows)
    ∙ sym (at_rows Shown Shown of_kind of_layer (all_parts rows) p)

kept_func : (n : Name) → KeptKind (kind.Func n)
kept_func n p = ap shown (at_func kind.ExprKind Expr moved_kind moved_layer n p) ∙ at_func Shown Shown of_kind of_layer (moved n) nowhere ∙ sym (at_func Shown Shown of_kind of_layer n p)

kept_end : KeptKind kind.End
kept_end p = ap shown (at_end kind.ExprKind Expr moved_kind moved_layer p) ∙ at_end Shown Shown of_kind of_layer nowhere ∙ sym (at_end Shown Shown of_kind of_layer p)

kept_colon : KeptKind kind.Colon
kept_colon p = ap shown (at_colon kind.ExprKind Expr moved_kind moved_layer p) ∙ at_colon Shown Shown of_kind of_layer nowhere ∙ sym (at_colon Shown Shown of_kind of_layer p)

kept_state : (a : Part) → KeptKind (kind.StateOf a.0)
kept_state a p =
    ap shown (at_state kind.ExprKind Expr moved_kind moved_layer a.0 p)
    ∙ at_state Shown Shown of_kind of_layer (but_places_expr a.0) nowhere
    ∙ ap (λ x. of_kind (ExprKind-F.StateOf x)) a.1
    ∙ sym (at_state Shown Shown of_kind of_layer a.0 p)

-- ---- the induction

abbrev kind_of : ExprKind-F PartKind Part → kind.ExprKind
kind_of y = roll-ExprKind (map-ExprKind PartKind Part kind.ExprKind Expr (λ e. e.0) (λ e. e.0) y)

kept_kind : (y : ExprKind-F PartKind Part) → KeptKind (kind_of y)
kept_kind (ExprKind-F.Number z) = subst KeptKind (sym (rolls-Number z)) (kept_number z)
kept_kind (ExprKind-F.Chars t) = subst KeptKind (sym (rolls-Chars t)) (kept_chars t)
kept_kind (ExprKind-F.Var n) = subst KeptKind (sym (rolls-Var n)) (kept_var n)
kept_kind (ExprKind-F.Apply n es) = subst KeptKind (sym (rolls-Apply n (parts es))) (kept_apply n es)
kept_kind (ExprKind-F.Brace n e None) = subst KeptKind (sym (rolls-Brace n e.0 None)) (kept_brace n e)
kept_kind (ExprKind-F.Brace n e (Some es)) = subst KeptKind (sym (rolls-Brace n e.0 (Some (parts es)))) (kept_brace_list n e es)
kept_kind (ExprKind-F.Unary o a) = subst KeptKind (sym (rolls-Unary o a.0)) (kept_unary o a)
kept_kind (ExprKind-F.Binary o a b) = subst KeptKind (sym (rolls-Binary o a.0 b.0)) (kept_binary o a b)
kept_kind (ExprKind-F.Range a None b) = subst KeptKind (sym (rolls-Range a.0 None b.0)) (kept_range a b)
kept_kind (ExprKind-F.Range a (Some s) b) = subst KeptKind (sym (rolls-Range a.0 (Some s.0) b.0)) (kept_stepped a s b)
kept_kind (ExprKind-F.Rows rows) = subst KeptKind (sym (rolls-Rows (all_parts rows))) (kept_rows rows)
kept_kind (ExprKind-F.Func n) = subst KeptKind (sym (rolls-Func n)) (kept_func n)
kept_kind ExprKind-F.End = subst KeptKind (sym rolls-End) kept_end
kept_kind ExprKind-F.Colon = subst KeptKind (sym rolls-Colon) kept_colon
kept_kind (ExprKind-F.StateOf a) = subst KeptKind (sym (rolls-StateOf a.0)) (kept_state a)

pub kept_expr : (e : Expr) → shown (but_places_expr e) ≡ shown e
kept_expr = ind-Expr KeptKind Kept
    (λ x y is. subst (λ z. KeptKind (roll-ExprKind z)) is (kept_kind y))
    (λ x y is. subst (λ z. Kept (roll-Expr z)) is (y.kind.1 y.place))

pub kept_exprs : (es : List Expr) → all_shown (but_places_exprs es) ≡ all_shown es
kept_exprs [] = refl
kept_exprs (e ∷ es) = λ i. kept_expr e i ∷ kept_exprs es i
