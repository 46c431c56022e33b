-- Worked rows of the canonical spelling: parentheses only where they are needed, the signs behind a power, rows.
use Rattle.std.proofs.Common.{◌≡◌, ◌∙◌, ℕ, ℤ, pos, false, None, List, [], ◌∷◌, map, ap}
use Rattle.pl_syntax.specs.declared.expr.Un.{Un}
use Rattle.pl_syntax.specs.declared.expr.Un.TheVariants as un
use Rattle.pl_syntax.specs.declared.expr.Bin.{Bin}
use Rattle.pl_syntax.specs.declared.expr.Bin.TheVariants as bin
use Rattle.pl_syntax.specs.declared.expr.Expr.{Expr}
use Rattle.pl_syntax.specs.declared.expr.ExprKind as kind
use Rattle.pl_syntax.specs.declared.expr.ExprKind.TheOpen.{ExprKind-F}
use Rattle.pl_grammar.specs.declared.terminal.Terminal.{Terminal}
use Rattle.pl_grammar.specs.declared.terminal.Word.{Word}
use Rattle.pl_grammar.specs.declared.terminal.Word.TheVariants as w
use Rattle.pl_grammar.specs.Trees.{node}
use Rattle.pl_printing.specs.Places.{nowhere}
use Rattle.pl_printing.specs.Canonical.{Shown, of_kind, of_layer, shown, all_shown, expr_words, directly, apart}
use Rattle.pl_printing.proofs.Folds.{at_number, at_unary, at_binary, at_range, at_rows}

-- what the folds make of each kind of node
number_is : (i : ℤ) → shown (node (kind.Number i) nowhere) ≡ of_kind (ExprKind-F.Number i)
number_is i = at_number Shown Shown of_kind of_layer i nowhere

unary_is : (o : Un) (x : Expr) (s : Shown) → shown x ≡ s → shown (node (kind.Unary o x) nowhere) ≡ of_kind (ExprKind-F.Unary o s)
unary_is o x s e = at_unary Shown Shown of_kind of_layer o x nowhere ∙ ap (λ v. of_kind (ExprKind-F.Unary o v)) e

binary_is : (o : Bin) (x y : Expr) (s t : Shown) → shown x ≡ s → shown y ≡ t → shown (node (kind.Binary o x y) nowhere) ≡ of_kind (ExprKind-F.Binary o s t)
binary_is o x y s t e f = at_binary Shown Shown of_kind of_layer o x y nowhere ∙ ap (λ v. of_kind (ExprKind-F.Binary o v (shown y))) e ∙ ap (λ v. of_kind (ExprKind-F.Binary o s v)) f

range_is : (x y : Expr) (s t : Shown) → shown x ≡ s → shown y ≡ t → shown (node (kind.Range x None y) nowhere) ≡ of_kind (ExprKind-F.Range s None t)
range_is x y s t e f = at_range Shown Shown of_kind of_layer x y nowhere ∙ ap (λ v. of_kind (ExprKind-F.Range v None (shown y))) e ∙ ap (λ v. of_kind (ExprKind-F.Range s None v)) f

rows_is : (rs : List (List Expr)) (ss : List (List Shown)) → map all_shown rs ≡ ss → shown (node (kind.Rows rs) nowhere) ≡ of_kind (ExprKind-F.Rows ss)
rows_is rs ss e = at_rows Shown Shown of_kind of_layer rs nowhere ∙ ap (λ v. of_kind (ExprKind-F.Rows v)) e

spelled_by : (e : Expr) (s : Shown) → shown e ≡ s → expr_words e false [] ≡ s.words false []
spelled_by e s h = ap (λ (v : Shown). v.words false []) h

abbrev num : ℕ → Expr
num i = node (kind.Number (pos i)) nowhere

abbrev binary : Bin → Expr → Expr → Expr
binary o a b = node (kind.Binary o a b) nowhere

abbrev unary : Un → Expr → Expr
unary o a = node (kind.Unary o a) nowhere

abbrev d : Word → Terminal
d = directly

abbrev a : Word → Terminal
a = apart

abbrev n : ℕ → Word
n i = w.Number (pos i)

-- `1 - 2 - 3` and `1 - (2 - 3)`
from_left : expr_words (binary bin.Sub (binary bin.Sub (num 1) (num 2)) (num 3)) false [] ≡ d (n 1) ∷ a (w.Binary bin.Sub) ∷ a (n 2) ∷ a (w.Binary bin.Sub) ∷ a (n 3) ∷ []
from_left = spelled_by _ _ (binary_is bin.Sub _ _ _ _ (binary_is bin.Sub _ _ _ _ (number_is (pos 1)) (number_is (pos 2))) (number_is (pos 3)))

from_right : expr_words (binary bin.Sub (num 1) (binary bin.Sub (num 2) (num 3))) false [] ≡ d (n 1) ∷ a (w.Binary bin.Sub) ∷ a w.Open ∷ d (n 2) ∷ a (w.Binary bin.Sub) ∷ a (n 3) ∷ d w.Close ∷ []
from_right = spelled_by _ _ (binary_is bin.Sub _ _ _ _ (number_is (pos 1)) (binary_is bin.Sub _ _ _ _ (number_is (pos 2)) (number_is (pos 3))))

-- `2 ^ -1 * 3`, `-2 ^ 2` and `(-2) ^ 2`
sign_behind : expr_words (binary bin.Mul (binary bin.Pow (num 2) (unary un.Minus (num 1))) (num 3)) false [] ≡ d (n 2) ∷ a (w.Binary bin.Pow) ∷ a (w.Binary bin.Sub) ∷ d (n 1) ∷ a (w.Binary bin.Mul) ∷ a (n 3) ∷ []
sign_behind = spelled_by _ _ (binary_is bin.Mul _ _ _ _ (binary_is bin.Pow _ _ _ _ (number_is (pos 2)) (unary_is un.Minus _ _ (number_is (pos 1)))) (number_is (pos 3)))

sign_over : expr_words (unary un.Minus (binary bin.Pow (num 2) (num 2))) false [] ≡ d (w.Binary bin.Sub) ∷ d (n 2) ∷ a (w.Binary bin.Pow) ∷ a (n 2) ∷ []
sign_over = spelled_by _ _ (unary_is un.Minus _ _ (binary_is bin.Pow _ _ _ _ (number_is (pos 2)) (number_is (pos 2))))

sign_inside : expr_words (binary bin.Pow (unary un.Minus (num 2)) (num 2)) false [] ≡ d w.Open ∷ d (w.Binary bin.Sub) ∷ d (n 2) ∷ d w.Close ∷ a (w.Binary bin.Pow) ∷ a (n 2) ∷ []
sign_inside = spelled_by _ _ (binary_is bin.Pow _ _ _ _ (unary_is un.Minus _ _ (number_is (pos 2))) (number_is (pos 2)))

-- `(1 + 2)'` and `1:2 + 3`
behind_parentheses : expr_words (unary un.Transpose (binary bin.Add (num 1) (num 2))) false [] ≡ d w.Open ∷ d (n 1) ∷ a (w.Binary bin.Add) ∷ a (n 2) ∷ d w.Close ∷ d w.Quote ∷ []
behind_parentheses = spelled_by _ _ (unary_is un.Transpose _ _ (binary_is bin.Add _ _ _ _ (number_is (pos 1)) (number_is (pos 2))))

range_of_sum : expr_words (node (kind.Range (num 1) None (binary bin.Add (num 2) (num 3))) nowhere) false [] ≡ d (n 1) ∷ d w.Colon ∷ d (n 2) ∷ a (w.Binary bin.Add) ∷ a (n 3) ∷ []
range_of_sum = spelled_by _ _ (range_is _ _ _ _ (number_is (pos 1)) (binary_is bin.Add _ _ _ _ (number_is (pos 2)) (number_is (pos 3))))

-- `[1, 2; 3]` and `[]`
row_list : expr_words (node (kind.Rows ((num 1 ∷ num 2 ∷ []) ∷ (num 3 ∷ []) ∷ [])) nowhere) false [] ≡ d w.OpenSquare ∷ d (n 1) ∷ d w.Comma ∷ a (n 2) ∷ d w.Semicolon ∷ a (n 3) ∷ d w.CloseSquare ∷ []
row_list = spelled_by _ _ (rows_is _ ((of_kind (ExprKind-F.Number (pos 1)) ∷ of_kind (ExprKind-F.Number (pos 2)) ∷ []) ∷ (of_kind (ExprKind-F.Number (pos 3)) ∷ []) ∷ []) three)
  where
    three : map all_shown ((num 1 ∷ num 2 ∷ []) ∷ (num 3 ∷ []) ∷ []) ≡ (of_kind (ExprKind-F.Number (pos 1)) ∷ of_kind (ExprKind-F.Number (pos 2)) ∷ []) ∷ (of_kind (ExprKind-F.Number (pos 3)) ∷ []) ∷ []
    three = ap (λ v. (v ∷ shown (num 2) ∷ []) ∷ (shown (num 3) ∷ []) ∷ []) (number_is (pos 1)) ∙ ap (λ v. (of_kind (ExprKind-F.Number (pos 1)) ∷ v ∷ []) ∷ (shown (num 3) ∷ []) ∷ []) (number_is (pos 2)) ∙ ap (λ v. (of_kind (ExprKind-F.Number (pos 1)) ∷ of_kind (ExprKind-F.Number (pos 2)) ∷ []) ∷ (v ∷ []) ∷ []) (number_is (pos 3))
