-- Trees are no higher than their derivations nest.
use Rattle.std.proofs.Common.{◌≡◌, ◌∙◌, ℕ, suc, ◌+◌, ◌≤◌, Option, Some, None, List, [], ◌∷◌, ◌++◌, map, refl, ap, sym, arith}
use Rattle.std.specs.Prelude.{max}
use Rattle.std.proofs.Math.Nat.{le-max_left, le-max_right}
use Rattle.pl_base.specs.declared.errors.Place.{Place}
use Rattle.pl_syntax.specs.declared.expr.Name.{Name}
use Rattle.pl_syntax.specs.declared.expr.Expr.{Expr, fold-roll-Expr}
use Rattle.pl_syntax.specs.declared.expr.ExprKind as kind
use Rattle.pl_syntax.specs.declared.expr.ExprKind.{fold-ExprKind, fold-roll-ExprKind}
use Rattle.pl_syntax.specs.declared.expr.ExprKind.TheOpen.{ExprKind-F}
use Rattle.pl_syntax.specs.declared.expr.ExprKind.TheVariants.{rolls-Number, rolls-Chars, rolls-Var, rolls-Apply, rolls-Brace, rolls-Unary, rolls-Binary, rolls-Range, rolls-Rows, rolls-Func, rolls-End, rolls-Colon, rolls-StateOf}
use Rattle.pl_syntax.specs.declared.expr.Un.{Un}
use Rattle.pl_syntax.specs.declared.expr.Bin.{Bin}
use Rattle.std.specs.Prelude.{ℤ}
use Rattle.pl_grammar.specs.Derivations.{Signs, no_signs, more_signs, Ex, number, chars, bare, call, state, paren, rows, rows_to, func, last, under, transposed, Op, joined, signed, from, stepped, head, braced, Args, no_args, listed, Elements, one, also, Item, value, colon, Rows, no_rows, broken, filled}
use Rattle.pl_grammar.specs.Trees.{node, name_of, head_name, un_of, under_signs, mark, tree, under_tree, arg_trees, trees, item_tree, row_trees}
use Rattle.pl_grammar.specs.Nesting.{count, weight, height, op_height, args_height, elements_height, item_height, rows_height}
use Rattle.pl_grammar.specs.Levels.{most, of_kind, of_layer, levels, levels_all, levels_optional}
use Rattle.pl_grammar.proofs.Operands.{max_room}

-- ---- the levels of a node

abbrev kind_levels : kind.ExprKind → ℕ
kind_levels = fold-ExprKind ℕ ℕ of_kind of_layer

at_node : (k : kind.ExprKind) (p : Place) → levels (node k p) ≡ kind_levels k
at_node k p = fold-roll-Expr ℕ ℕ of_kind of_layer (record { kind = k; place = p })

at_number : (z : ℤ) → kind_levels (kind.Number z) ≡ 0
at_number z = ap kind_levels (sym (rolls-Number z)) ∙ fold-roll-ExprKind ℕ ℕ of_kind of_layer (ExprKind-F.Number z)

at_binary : (o : Bin) (a b : Expr) → kind_levels (kind.Binary o a b) ≡ suc (max (levels a) (levels b))
at_binary o a b = ap kind_levels (sym (rolls-Binary o a b)) ∙ fold-roll-ExprKind ℕ ℕ of_kind of_layer (ExprKind-F.Binary o a b)

at_range : (a : Expr) (x : Option Expr) (b : Expr) → kind_levels (kind.Range a x b) ≡ suc (max (levels a) (max (levels_optional x) (levels b)))
at_range a None b = ap kind_levels (sym (rolls-Range a None b)) ∙ fold-roll-ExprKind ℕ ℕ of_kind of_layer (ExprKind-F.Range a None b)
at_range a (Some x) b = ap kind_levels (sym (rolls-Range a (Some x) b)) ∙ fold-roll-ExprKind ℕ ℕ of_kind of_layer (ExprKind-F.Range a (Some x) b)

at_apply : (n : Name) (es : List Expr) → kind_levels (kind.Apply n es) ≡ suc (levels_all es)
at_apply n es = ap kind_levels (sym (rolls-Apply n es)) ∙ fold-roll-ExprKind ℕ ℕ of_kind of_layer (ExprKind-F.Apply n es)

at_rows : (R : List (List Expr)) → kind_levels (kind.Rows R) ≡ suc (most (map most (map (map levels) R)))
at_rows R = ap kind_levels (sym (rolls-Rows R)) ∙ fold-roll-ExprKind ℕ ℕ of_kind of_layer (ExprKind-F.Rows R)

at_chars : (t : List ℕ) → kind_levels (kind.Chars t) ≡ 0
at_chars t = ap kind_levels (sym (rolls-Chars t)) ∙ fold-roll-ExprKind ℕ ℕ of_kind of_layer (ExprKind-F.Chars t)

at_var : (n : Name) → kind_levels (kind.Var n) ≡ 0
at_var n = ap kind_levels (sym (rolls-Var n)) ∙ fold-roll-ExprKind ℕ ℕ of_kind of_layer (ExprKind-F.Var n)

at_func : (n : Name) → kind_levels (kind.Func n) ≡ 0
at_func n = ap kind_levels (sym (rolls-Func n)) ∙ fold-roll-ExprKind ℕ ℕ of_kind of_layer (ExprKind-F.Func n)

at_end : kind_levels kind.End ≡ 0
at_end = ap kind_levels (sym rolls-End) ∙ fold-roll-ExprKind ℕ ℕ of_kind of_layer ExprKind-F.End

at_colon : kind_levels kind.Colon ≡ 0
at_colon = ap kind_levels (sym rolls-Colon) ∙ fold-roll-ExprKind ℕ ℕ of_kind of_layer ExprKind-F.Colon

at_state : (e : Expr) → kind_levels (kind.StateOf e) ≡ levels e
at_state e = ap kind_levels (sym (rolls-StateOf e)) ∙ fold-roll-ExprKind ℕ ℕ of_kind of_layer (ExprKind-F.StateOf e)

at_unary : (o : Un) (e : Expr) → kind_levels (kind.Unary o e) ≡ suc (levels e)
at_unary o e = ap kind_levels (sym (rolls-Unary o e)) ∙ fold-roll-ExprKind ℕ ℕ of_kind of_layer (ExprKind-F.Unary o e)

at_brace : (n : Name) (e : Expr) → kind_levels (kind.Brace n e None) ≡ max (suc (levels e)) 0
at_brace n e = ap kind_levels (sym (rolls-Brace n e None)) ∙ fold-roll-ExprKind ℕ ℕ of_kind of_layer (ExprKind-F.Brace n e None)

at_brace_list : (n : Name) (e : Expr) (es : List Expr) → kind_levels (kind.Brace n e (Some es)) ≡ max (suc (levels e)) (suc (levels_all es))
at_brace_list n e es = ap kind_levels (sym (rolls-Brace n e (Some es))) ∙ fold-roll-ExprKind ℕ ℕ of_kind of_layer (ExprKind-F.Brace n e (Some es))

-- ---- lists

most_snoc : (ns : List ℕ) (x b : ℕ) → most ns ≤ b → x ≤ b → most (ns ++ x ∷ []) ≤ b
most_snoc [] x b h j = let v : max x 0 + 0 ≤ b = max_room x 0 0 b (omega (arith, j)) (omega arith) in omega (arith, v)
most_snoc (n ∷ ns) x b h j =
    let i : most (ns ++ x ∷ []) ≤ b = most_snoc ns x b (omega (arith, h, le-max_right n (most ns))) j in
    let v : max n (most (ns ++ x ∷ [])) + 0 ≤ b = max_room n (most (ns ++ x ∷ [])) 0 b (omega (arith, h, le-max_left n (most ns))) (omega (arith, i)) in
    omega (arith, v)

pub map_snoc : {A B : Type 0} (f : A → B) (xs : List A) (y : A) → map f (xs ++ y ∷ []) ≡ map f xs ++ f y ∷ []
map_snoc f [] y = refl
map_snoc f (x ∷ xs) y = ap (λ z. f x ∷ z) (map_snoc f xs y)

-- a list with one more element
pub all_snoc : {A : Type 0} (f : A → ℕ) (xs : List A) (y : A) (b : ℕ) → most (map f xs) ≤ b → f y ≤ b → most (map f (xs ++ y ∷ [])) ≤ b
all_snoc f xs y b h j = rw (map_snoc f xs y) (most_snoc (map f xs) (f y) b h j)

row_most : List Expr → ℕ
row_most es = most (map levels es)

rows_same : (R : List (List Expr)) → map most (map (map levels) R) ≡ map row_most R
unfolding row_most
rows_same [] = refl
rows_same (es ∷ R) = ap (λ z. most (map levels es) ∷ z) (rows_same R)

-- ---- expressions

signs_levels : (us : Signs) (e : Expr) → levels (under_signs us e) ≡ count us + levels e
signs_levels no_signs e = omega arith
signs_levels (more_signs us m s) e = omega (arith, signs_levels us (node (kind.Unary (un_of s) e) m.place), at_node (kind.Unary (un_of s) e) m.place, at_unary (un_of s) e)

rows_most : (R : List (List Expr)) (es : List Expr) (b : ℕ) → most (map row_most R) ≤ b → levels_all es ≤ b → most (map row_most (R ++ es ∷ [])) ≤ b
unfolding row_most
rows_most R es b h j = all_snoc row_most R es b h j

mutual
  pub low : (e : Ex) → levels (tree e) ≤ height e
  low (number m z) = omega (arith, at_node (kind.Number z) m.place, at_number z)
  low (chars m cs) = omega (arith, at_node (kind.Chars cs) m.place, at_chars cs)
  low (bare (head h)) = omega (arith, at_node (kind.Var (head_name h)) (head_name h).place, at_var (head_name h))
  low (bare (braced n m e z)) =
      let v : max (suc (levels (tree e))) 0 + 0 ≤ suc (height e) = max_room (suc (levels (tree e))) 0 0 (suc (height e)) (omega (arith, low e)) (omega arith) in
      omega (arith, at_node (kind.Brace (name_of n) (tree e) None) (name_of n).place, at_brace (name_of n) (tree e), v)
  low (call (head h) m a z) = omega (arith, at_node (kind.Apply (head_name h) (arg_trees a)) (head_name h).place, at_apply (head_name h) (arg_trees a), low_args a, le-max_right 0 (suc (args_height a)))
  low (call (braced n i e y) m a z) =
      let H : ℕ = max (suc (height e)) (suc (args_height a)) in
      let v : max (suc (levels (tree e))) (suc (levels_all (arg_trees a))) + 0 ≤ H = max_room (suc (levels (tree e))) (suc (levels_all (arg_trees a))) 0 H (omega (arith, low e, le-max_left (suc (height e)) (suc (args_height a)))) (omega (arith, low_args a, le-max_right (suc (height e)) (suc (args_height a)))) in
      omega (arith, at_node (kind.Brace (name_of n) (tree e) (Some (arg_trees a))) (name_of n).place, at_brace_list (name_of n) (tree e) (arg_trees a), v)
  low (state e d m) = omega (arith, at_node (kind.StateOf (tree e)) (mark e).place, at_state (tree e), low e)
  low (paren m e z) = omega (arith, low e)
  low (rows m rs z) = omega (arith, at_node (kind.Rows (row_trees rs)) m.place, at_rows (row_trees rs), ap most (rows_same (row_trees rs)), low_rows rs)
  low (rows_to m rs es t z) =
      let R : List (List Expr) = row_trees rs ++ trees es ∷ [] in
      let v : most (map row_most R) ≤ max (rows_height rs) (elements_height es) = rows_most (row_trees rs) (trees es) (max (rows_height rs) (elements_height es)) (omega (arith, low_rows rs, le-max_left (rows_height rs) (elements_height es))) (omega (arith, low_elements es, le-max_right (rows_height rs) (elements_height es))) in
      omega (arith, at_node (kind.Rows R) m.place, at_rows R, ap most (rows_same R), v)
  low (func m n) = omega (arith, at_node (kind.Func (name_of n)) n.mark.place, at_func (name_of n))
  low (last m) = omega (arith, at_node kind.End m.place, at_end)
  low (under p e) = low_op p (tree e) (height e) (low e)
  low (transposed e m) = omega (arith, at_node (kind.Unary Rattle.pl_syntax.specs.declared.expr.Un.TheVariants.Transpose (tree e)) m.place, at_unary Rattle.pl_syntax.specs.declared.expr.Un.TheVariants.Transpose (tree e), low e)

  low_op : (p : Op) (t : Expr) (h : ℕ) → levels t ≤ h → levels (under_tree p t) ≤ max (op_height p) (weight p + h)
  low_op (joined a o m us) t h j =
      let H : ℕ = max (suc (height a)) (suc (count us) + h) in
      let u : Expr = under_signs us t in
      let v : max (levels (tree a)) (levels u) + 1 ≤ H = max_room (levels (tree a)) (levels u) 1 H (omega (arith, low a, le-max_left (suc (height a)) (suc (count us) + h))) (omega (arith, signs_levels us t, j, le-max_right (suc (height a)) (suc (count us) + h))) in
      omega (arith, at_node (kind.Binary o (tree a) u) m.place, at_binary o (tree a) u, v)
  low_op (signed m s) t h j = omega (arith, at_node (kind.Unary (un_of s) t) m.place, at_unary (un_of s) t, j, le-max_right 1 (1 + h))
  low_op (from a m) t h j =
      let H : ℕ = max (suc (height a)) (1 + h) in
      let w : max 0 (levels t) + 1 ≤ H = max_room 0 (levels t) 1 H (omega (arith, le-max_left (suc (height a)) (1 + h))) (omega (arith, j, le-max_right (suc (height a)) (1 + h))) in
      let v : max (levels (tree a)) (max 0 (levels t)) + 1 ≤ H = max_room (levels (tree a)) (max 0 (levels t)) 1 H (omega (arith, low a, le-max_left (suc (height a)) (1 + h))) w in
      omega (arith, at_node (kind.Range (tree a) None t) m.place, at_range (tree a) None t, v)
  low_op (stepped a m b n) t h j =
      let G : ℕ = max (height a) (height b) in
      let H : ℕ = max (suc G) (1 + h) in
      let w : max (levels (tree b)) (levels t) + 1 ≤ H = max_room (levels (tree b)) (levels t) 1 H (omega (arith, low b, le-max_right (height a) (height b), le-max_left (suc G) (1 + h))) (omega (arith, j, le-max_right (suc G) (1 + h))) in
      let v : max (levels (tree a)) (max (levels (tree b)) (levels t)) + 1 ≤ H = max_room (levels (tree a)) (max (levels (tree b)) (levels t)) 1 H (omega (arith, low a, le-max_left (height a) (height b), le-max_left (suc G) (1 + h))) w in
      omega (arith, at_node (kind.Range (tree a) (Some (tree b)) t) m.place, at_range (tree a) (Some (tree b)) t, v)

  pub low_args : (a : Args) → levels_all (arg_trees a) ≤ args_height a
  low_args no_args = omega arith
  low_args (listed es) = low_elements es

  low_elements : (es : Elements) → levels_all (trees es) ≤ elements_height es
  low_elements (one i) = let v : max (levels (item_tree i)) 0 + 0 ≤ item_height i = max_room (levels (item_tree i)) 0 0 (item_height i) (omega (arith, low_item i)) (omega arith) in omega (arith, v)
  low_elements (also es c i) = all_snoc levels (trees es) (item_tree i) (max (elements_height es) (item_height i)) (omega (arith, low_elements es, le-max_left (elements_height es) (item_height i))) (omega (arith, low_item i, le-max_right (elements_height es) (item_height i)))

  low_item : (i : Item) → levels (item_tree i) ≤ item_height i
  low_item (value e) = low e
  low_item (colon m) = omega (arith, at_node kind.Colon m.place, at_colon)

  low_rows : (rs : Rows) → most (map row_most (row_trees rs)) ≤ rows_height rs
  low_rows no_rows = omega arith
  low_rows (broken rs s) = low_rows rs
  low_rows (filled rs es t s) = rows_most (row_trees rs) (trees es) (max (rows_height rs) (elements_height es)) (omega (arith, low_rows rs, le-max_left (rows_height rs) (elements_height es))) (omega (arith, low_elements es, le-max_right (rows_height rs) (elements_height es)))
