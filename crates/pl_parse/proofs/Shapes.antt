-- Operands, elements and operators are the same for both machines.
use Rattle.std.proofs.Common.{◌≡◌, ◌∙◌, ℕ, suc, ◌+◌, Bool, true, false, List, [], ◌∷◌, ◌++◌, map, refl, ap, arith}
use Rattle.std.specs.Prelude.{max, nat_le, if◌then◌else◌}
use Rattle.pl_base.specs.declared.errors.Place.{Place}
use Rattle.pl_syntax.specs.declared.expr.Un.TheVariants as un
use Rattle.pl_syntax.specs.declared.expr.Expr.{Expr}
use Rattle.pl_syntax.specs.declared.expr.ExprKind as kind
use Rattle.pl_grammar.specs.Words as g
use Rattle.pl_grammar.specs.Derivations as d
use Rattle.pl_grammar.specs.Trees as t
use Rattle.pl_grammar.specs.Nesting as n
use Rattle.pl_grammar.specs.Sound as s
use Rattle.pl_grammar.specs.Machine as gm
use Rattle.pl_grammar.specs.Steps as gs
use Rattle.pl_frames.specs.declared.operand.Mark.{Mark}
use Rattle.pl_frames.specs.declared.operand.Form.{Form}
use Rattle.pl_frames.specs.declared.operand.Form.TheVariants as form
use Rattle.pl_frames.specs.declared.operand.Element.{Element}
use Rattle.pl_frames.specs.declared.operand.Operand.{Operand}
use Rattle.pl_frames.specs.declared.stack.Listed.{Listed}
use Rattle.pl_frames.specs.declared.stack.Cells.{Cells}
use Rattle.pl_frames.specs.declared.reducing.Held.{Held}
use Rattle.pl_frames.specs.Trees as ct
use Rattle.pl_frames.specs.Rows as cr
use Rattle.pl_frames.specs.Reduce as cd
use Rattle.pl_parse.specs.Image.{mark_of, cap, apart, form_of, callee_of, item_of, elements_of, operand_of, signs_of, op_of, frames_of, bottom_of, stack_of, listed_of, is_space, cells_of, rows_of}
use Rattle.pl_parse.proofs.Capped.{one_cap, max_cap}
use Rattle.pl_parse.proofs.Places.{count_cap}

-- ---- trees

negated_snoc : (ms : List Mark) (m : Mark) (e : Expr) → ct.negated (ms ++ m ∷ []) e ≡ ct.unary un.Not m.place (ct.negated ms e)
negated_snoc [] m e = refl
negated_snoc (x ∷ ms) m e = negated_snoc ms m (ct.unary un.Not x.place e)

skip_tree : (m : Mark) (f : Form) (gap : Bool) (p q : Place) → ct.form_tree (ct.skip m f gap p) q ≡ ct.unary un.Not m.place (ct.form_tree f p)
skip_tree m (form.Target x) true p q = refl
skip_tree m (form.Skips ms x) true p q = negated_snoc ms m (ct.target_tree x)
skip_tree m f gap p q = refl

call_same : (c : d.Callee) (es : List Expr) (p : Place) → ct.form_tree (ct.call_form (callee_of c) es) p ≡ t.call_tree (t.callee_name c) (t.callee_place c) es
call_same (d.head (d.alone x)) es p = refl
call_same (d.head (d.dotted h m x)) es p = refl
call_same (d.braced x m e z) es p = refl

element_same : (far : Bool) (f : Form) (p : Place) → ct.element_tree (cr.form_element far f p) ≡ ct.form_tree f p
element_same true (form.Target x) p = refl
element_same true (form.Skips ms x) p = refl
element_same far f p = refl

map_snoc : (es : List Element) (e : Element) → map ct.element_tree (es ++ e ∷ []) ≡ map ct.element_tree es ++ ct.element_tree e ∷ []
map_snoc [] e = refl
map_snoc (x ∷ es) e = ap (λ y. ct.element_tree x ∷ y) (map_snoc es e)

mutual
  pub tree_same : (e : d.Ex) → ct.form_tree (form_of e) (t.mark e).place ≡ t.tree e
  tree_same (d.bare (d.head (d.alone x))) = refl
  tree_same (d.bare (d.head (d.dotted h m x))) = refl
  tree_same (d.bare (d.braced x m e z)) = refl
  tree_same (d.call c m a z) = call_same c (t.arg_trees a) (t.mark (d.call c m a z)).place
  tree_same (d.rows m d.no_rows z) = refl
  tree_same (d.rows m (d.broken rs s) z) = refl
  tree_same (d.rows m (d.filled rs es x s) z) = refl
  tree_same (d.rows_to m d.no_rows es d.no_trail z) = ap (λ x. t.node (kind.Rows (x ∷ [])) m.place) (elements_same es)
  tree_same (d.rows_to m d.no_rows es (d.trail c) z) = refl
  tree_same (d.rows_to m (d.broken rs s) es x z) = refl
  tree_same (d.rows_to m (d.filled rs xs y s) es x z) = refl
  tree_same (d.under (d.signed m g.tilde) e) = skip_tree (mark_of m) (form_of e) (t.mark e).gap (t.mark e).place m.place ∙ ap (ct.unary un.Not m.place) (tree_same e)
  tree_same (d.under (d.signed m (g.additive a)) e) = refl
  tree_same (d.under (d.joined a o m us) e) = refl
  tree_same (d.under (d.from a m) e) = refl
  tree_same (d.under (d.stepped a m b z) e) = refl
  tree_same (d.number m z) = refl
  tree_same (d.chars m cs) = refl
  tree_same (d.state e q m) = refl
  tree_same (d.paren m e z) = refl
  tree_same (d.func m x) = refl
  tree_same (d.last m) = refl
  tree_same (d.transposed e m) = refl

  item_same : (far : Bool) (i : d.Item) → ct.element_tree (item_of far i) ≡ t.item_tree i
  item_same far (d.value e) = element_same far (form_of e) (t.mark e).place ∙ tree_same e
  item_same far (d.colon m) = refl

  pub elements_same : (es : d.Elements) → map ct.element_tree (elements_of es) ≡ t.trees es
  elements_same (d.one i) = ap (λ x. x ∷ []) (item_same true i)
  elements_same (d.also es c i) = map_snoc (elements_of es) (item_of (apart c i) i) ∙ (ap (λ x. x ++ ct.element_tree (item_of (apart c i) i) ∷ []) (elements_same es) ∙ ap (λ x. t.trees es ++ x ∷ []) (item_same (apart c i) i))

-- ---- operators

signs_same : (us : d.Signs) (e : Expr) → ct.under_signs (signs_of us) e ≡ t.under_signs us e
signs_same d.no_signs e = refl
signs_same (d.more_signs us m u) e = signs_same us (ct.unary (t.un_of u) m.place e)

abbrev operand_with : Form → Mark → ℕ → Operand
operand_with f m h = record { form = f; mark = m; height = h }

pub operands : (f f' : Form) (m : Mark) (h h' : ℕ) → f ≡ f' → h ≡ h' → operand_with f m h ≡ operand_with f' m h'
operands f f' m h h' e i = ap (λ x. operand_with x m h) e ∙ ap (λ x. operand_with f' m x) i

joined_cap : (a c e : ℕ) → max (ct.plus 1 (cap a)) (ct.plus (cap (suc c)) (cap e)) ≡ cap (max (suc a) (suc c + e))
joined_cap a c e = omega arith

signed_cap : (e : ℕ) → ct.plus 1 (cap e) ≡ cap (max 1 (1 + e))
signed_cap e = omega arith

from_cap : (a e : ℕ) → max (ct.plus 1 (max (cap a) 0)) (ct.plus 1 (cap e)) ≡ cap (max (suc a) (1 + e))
from_cap a e = omega arith

stepped_cap : (a b e : ℕ) → max (ct.plus 1 (max (cap a) (cap b))) (ct.plus 1 (cap e)) ≡ cap (max (suc (max a b)) (1 + e))
stepped_cap a b e = omega arith

pub under_same : (p : d.Op) (e : d.Ex) → ct.under (op_of p) (operand_of e) ≡ operand_of (d.under p e)
unfolding ct.under
under_same (d.joined a o m us) e = rw (tree_same a, tree_same e, signs_same us (t.tree e), count_cap us, joined_cap (n.height a) (n.count us) (n.height e))
under_same (d.signed m g.tilde) e = rw (signed_cap (n.height e))
under_same (d.signed m (g.additive g.plus)) e = rw (tree_same e, signed_cap (n.height e))
under_same (d.signed m (g.additive g.minus)) e = rw (tree_same e, signed_cap (n.height e))
under_same (d.from a m) e = rw (tree_same a, tree_same e, from_cap (n.height a) (n.height e))
under_same (d.stepped a m b z) e = rw (tree_same a, tree_same b, tree_same e, stepped_cap (n.height a) (n.height b) (n.height e))

pub strength_same : (p : d.Op) → cd.strength (op_of p) ≡ s.strength p
strength_same (d.joined a o m us) = refl
strength_same (d.signed m u) = refl
strength_same (d.from a m) = refl
strength_same (d.stepped a m b z) = refl

abbrev pub held_of : gs.Held → Held
held_of h = record { operand = operand_of h.operand; stack = stack_of h.stack }

pub reduce_same : (l : ℕ) (e : d.Ex) (S : gm.Stack) → cd.reduce l (operand_of e) (stack_of S) ≡ held_of (gs.reduce l e S)
unfolding cd.reduce
reduce_same l e (gm.op_of p S) = rw (strength_same p, under_same p e) (by_test (nat_le l (s.strength p)) (reduce_same l (d.under p e) S))
  where
    by_test : (x : Bool) → cd.reduce_on l (operand_of (d.under p e)) (frames_of S) (bottom_of S) ≡ held_of (gs.reduce l (d.under p e) S)
        → (if x then cd.reduce_on l (operand_of (d.under p e)) (frames_of S) (bottom_of S) else held_of (record { operand = e; stack = gm.op_of p S })) ≡ held_of (if x then gs.reduce l (d.under p e) S else record { operand = e; stack = gm.op_of p S })
    by_test true i = i
    by_test false i = refl
reduce_same l e (gm.goal_of x site b) = refl
reduce_same l e (gm.lead_of x spot) = refl
reduce_same l e (gm.inner_of i spot) = refl
reduce_same l e (gm.outputs_of m p site b) = refl
reduce_same l e (gm.paren_of m S) = refl
reduce_same l e (gm.args_of c m p S) = refl
reduce_same l e (gm.brace_of x m S) = refl
reduce_same l e (gm.row_of m rs p S) = refl

-- ---- lists of arguments, rows

-- arguments that are all there
abbrev pub args_listed : d.Args → Listed
args_listed a = record { trees = t.arg_trees a; height = cap (n.args_height a) }

pub argument_same : (p : gm.Pending) (e : d.Ex) → cr.argument (listed_of p) (operand_of e) ≡ args_listed (d.listed (gm.put p (d.value e)))
argument_same gm.fresh e = rw (tree_same e)
argument_same (gm.behind es c) e = rw (tree_same e, max_cap (n.elements_height es) (n.height e))

pub colon_same : (p : gm.Pending) (m : g.Mark) → cr.listed (listed_of p) (t.node kind.Colon m.place) 0 ≡ args_listed (d.listed (gm.put p (d.colon m)))
colon_same gm.fresh m = refl
colon_same (gm.behind es c) m = rw (max_cap (n.elements_height es) 0)

-- the elements of a row with one more, and a comma or white space behind it
pub celled_same : (p : gm.Pending) (e : d.Ex) (c : d.Comma) → cr.celled (cells_of p) (operand_of e) (is_space c) ≡ record { elements = elements_of (gm.put p (d.value e)); height = cap (n.elements_height (gm.put p (d.value e))); space = is_space c }
celled_same gm.fresh e c = refl
celled_same (gm.behind es (d.written m)) e c = rw (max_cap (n.elements_height es) (n.height e))
celled_same (gm.behind es d.space) e c = rw (max_cap (n.elements_height es) (n.height e))

abbrev pub cells : d.Elements → Bool → Cells
cells es space = record { elements = elements_of es; height = cap (n.elements_height es); space = space }

pub broken_same : (rs : d.Rows) (z : g.Sep) → cr.broken (rows_of rs) ≡ rows_of (d.broken rs z)
broken_same rs z = refl

pub filled_same : (rs : d.Rows) (es : d.Elements) (space : Bool) (x : d.Trail) (z : g.Sep) → cr.filled (rows_of rs) (cells es space) ≡ rows_of (d.filled rs es x z)
filled_same rs es space x z = rw (elements_same es, max_cap (n.rows_height rs) (n.elements_height es))

-- `[ rows ]`
pub bracket_same : (m : g.Mark) (rs : d.Rows) (z : g.Mark) → cr.bracket (mark_of m) (rows_of rs) ≡ operand_of (d.rows m rs z)
bracket_same m d.no_rows z = refl
bracket_same m (d.broken rs s) z = rw (one_cap (n.rows_height rs))
bracket_same m (d.filled rs es x s) z = rw (one_cap (n.rows_height (d.filled rs es x s)))

row_cap : (r e : ℕ) → ct.plus 1 (max (cap r) (cap e)) ≡ cap (suc (max r e))
row_cap r e = omega arith

-- with a row at their end, and a comma behind it
pub trailed_same : (m : g.Mark) (rs : d.Rows) (es : d.Elements) (space : Bool) (c z : g.Mark) → cr.bracketed (mark_of m) (cr.filled (rows_of rs) (cells es space)) ≡ operand_of (d.rows_to m rs es (d.trail c) z)
trailed_same m d.no_rows es space c z = rw (elements_same es, row_cap 0 (n.elements_height es))
trailed_same m (d.broken rs s) es space c z = rw (elements_same es, row_cap (n.rows_height rs) (n.elements_height es))
trailed_same m (d.filled rs xs x s) es space c z = rw (elements_same es, row_cap (n.rows_height (d.filled rs xs x s)) (n.elements_height es))

-- and with none
pub shut_same : (m : g.Mark) (rs : d.Rows) (es : d.Elements) (space : Bool) (z : g.Mark) → cr.row_bracket (mark_of m) (rows_of rs) (cells es space) ≡ operand_of (d.rows_to m rs es d.no_trail z)
shut_same m d.no_rows es space z = rw (row_cap 0 (n.elements_height es))
shut_same m (d.broken rs s) es space z = rw (elements_same es, row_cap (n.rows_height rs) (n.elements_height es))
shut_same m (d.filled rs xs x s) es space z = rw (elements_same es, row_cap (n.rows_height (d.filled rs xs x s)) (n.elements_height es))
