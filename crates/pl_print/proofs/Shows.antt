-- How a number and rows are shown.
use Rattle.std.proofs.Common.{◌≡◌, ◌∙◌, ℤ, List, map, ap, sym}
use Rattle.pl_syntax.specs.declared.expr.Expr.{Expr, fold_out-Expr}
use Rattle.pl_syntax.specs.declared.expr.ExprKind as kind
use Rattle.pl_syntax.specs.declared.expr.ExprKind.{fold-ExprKind, fold-roll-ExprKind}
use Rattle.pl_syntax.specs.declared.expr.ExprKind.TheOpen.{ExprKind-F}
use Rattle.pl_syntax.specs.declared.expr.ExprKind.TheVariants.{rolls-Number, rolls-Rows}
use Rattle.pl_printing.specs.Canonical.{Shown, of_kind, of_layer, shown, all_shown}

abbrev of_what : kind.ExprKind → Shown
of_what = fold-ExprKind Shown Shown of_kind of_layer

pub shown_number : (e : Expr) (z : ℤ) → e.kind ≡ kind.Number z → shown e ≡ of_kind (ExprKind-F.Number z)
shown_number e z is =
    fold_out-Expr Shown Shown of_kind of_layer e
    ∙ ap of_what (is ∙ sym (rolls-Number z))
    ∙ fold-roll-ExprKind Shown Shown of_kind of_layer (ExprKind-F.Number z)

pub shown_rows : (e : Expr) (rows : List (List Expr)) → e.kind ≡ kind.Rows rows → shown e ≡ of_kind (ExprKind-F.Rows (map all_shown rows))
shown_rows e rows is =
    fold_out-Expr Shown Shown of_kind of_layer e
    ∙ ap of_what (is ∙ sym (rolls-Rows rows))
    ∙ fold-roll-ExprKind Shown Shown of_kind of_layer (ExprKind-F.Rows rows)
