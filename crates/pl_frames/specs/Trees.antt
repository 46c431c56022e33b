-- The trees and heights of operands, and what an operator makes of its last operand.
use Rattle.std.specs.Prelude.{ℕ, ◌+◌, min, max, Bool, true, Option, Some, None, List, [], ◌∷◌, ◌++◌, map, length}
use Rattle.pl_base.specs.declared.errors.Place.{Place}
use Rattle.pl_syntax.specs.declared.expr.Bin.{Bin}
use Rattle.pl_syntax.specs.declared.expr.Un.{Un}
use Rattle.pl_syntax.specs.declared.expr.Un.TheVariants as un
use Rattle.pl_syntax.specs.declared.expr.Expr.{Expr}
use Rattle.pl_syntax.specs.declared.expr.ExprKind as kind
use Rattle.pl_syntax.specs.declared.stmt.Target.{Target}
use Rattle.pl_syntax.specs.declared.stmt.Target.TheVariants as target
use Rattle.pl_grammar.specs.Trees.{node}
use Rattle.pl_frames.specs.declared.operand.Mark.{Mark}
use Rattle.pl_frames.specs.declared.operand.Form.{Form}
use Rattle.pl_frames.specs.declared.operand.Form.TheVariants as form
use Rattle.pl_frames.specs.declared.operand.Element.{Element}
use Rattle.pl_frames.specs.declared.operand.Element.TheVariants as element
use Rattle.pl_frames.specs.declared.operand.Operand.{Operand}
use Rattle.pl_frames.specs.declared.operand.SignAt.{SignAt}
use Rattle.pl_frames.specs.declared.operand.Op.{Op}
use Rattle.pl_frames.specs.declared.operand.Op.TheVariants as op
use Rattle.pl_frames.specs.declared.operand.Callee.{Callee}
use Rattle.pl_frames.specs.declared.operand.Callee.TheVariants as callee

-- a sum that stops at 1000
abbrev pub plus : ℕ → ℕ → ℕ
plus a b = min (a + b) 1000

abbrev pub target_tree : Target → Expr
target_tree (target.Whole n) = node (kind.Var n) n.place
target_tree (target.Indexed n es) = node (kind.Apply n es) n.place
target_tree (target.Braced n e) = node (kind.Brace n e None) n.place

abbrev pub unary : Un → Place → Expr → Expr
unary u p e = node (kind.Unary u e) p

-- `~` once for each mark, the first innermost
abbrev pub negated : List Mark → Expr → Expr
negated [] e = e
negated (m ∷ ms) e = negated ms (unary un.Not m.place e)

abbrev pub element_tree : Element → Expr
element_tree (element.Outputs ms t) = negated ms (target_tree t)
element_tree (element.Tree e) = e

abbrev pub form_tree : Form → Place → Expr
form_tree (form.Target t) p = target_tree t
form_tree (form.Dotted n) p = target_tree (target.Whole n)
form_tree (form.Skips ms t) p = negated ms (target_tree t)
form_tree form.Nothing p = node (kind.Rows []) p
form_tree (form.Row es) p = node (kind.Rows (map element_tree es ∷ [])) p
form_tree (form.Tree e) p = e

abbrev pub tree : Operand → Expr
tree o = form_tree o.form o.mark.place

-- signs over an operand, the first innermost
abbrev pub under_signs : List SignAt → Expr → Expr
under_signs [] e = e
under_signs (s ∷ ss) e = under_signs ss (unary s.sign s.place e)

abbrev pub plain : Expr → Mark → ℕ → Operand
plain e m h = record { form = form.Tree e; mark = m; height = h }

-- `~` over an operand: where white space stands between, both may be outputs
abbrev pub skip : Mark → Form → Bool → Place → Form
skip m (form.Target t) true p = form.Skips (m ∷ []) t
skip m (form.Skips ms t) true p = form.Skips (ms ++ m ∷ []) t
skip m f gap p = form.Tree (unary un.Not m.place (form_tree f p))

abbrev pub sign_form : Mark → Un → Form → Bool → Place → Form
sign_form m un.Not f gap p = skip m f gap p
sign_form m un.Plus f gap p = form.Tree (unary un.Plus m.place (form_tree f p))
sign_form m un.Minus f gap p = form.Tree (unary un.Minus m.place (form_tree f p))
sign_form m un.Transpose f gap p = form.Tree (unary un.Transpose m.place (form_tree f p))

abbrev pub signed : Mark → Un → Operand → Operand
signed m u o = record { form = sign_form m u o.form o.mark.gap o.mark.place; mark = m; height = plus 1 o.height }

abbrev pub binary : Bin → Place → Expr → Expr → Expr
binary o p a b = node (kind.Binary o a b) p

abbrev pub range : Place → Expr → Option Expr → Expr → Expr
range p a b c = node (kind.Range a b c) p

abbrev pub joined : Operand → Bin → Place → List SignAt → Operand → Operand
joined a o p us e = plain (binary o p (tree a) (under_signs us (tree e))) a.mark (max (plus 1 a.height) (plus (plus 1 (length us)) e.height))

abbrev pub step_height : Option Operand → ℕ
step_height None = 0
step_height (Some b) = b.height

abbrev pub step_tree : Option Operand → Option Expr
step_tree None = None
step_tree (Some b) = Some (tree b)

abbrev pub ranged : Operand → Place → Option Operand → Operand → Operand
ranged a p b e = plain (range p (tree a) (step_tree b) (tree e)) a.mark (max (plus 1 (max a.height (step_height b))) (plus 1 e.height))

-- an operator and its last operand
unfoldable pub under : Op → Operand → Operand
under (op.Joined a o p us) e = joined a o p us e
under (op.Signed m u) e = signed m u e
under (op.From a p) e = ranged a p None e
under (op.Stepped a p b) e = ranged a p (Some b) e

abbrev pub call_form : Callee → List Expr → Form
call_form (callee.Alone n) es = form.Target (target.Indexed n es)
call_form (callee.Dotted n) es = form.Tree (node (kind.Apply n es) n.place)
call_form (callee.Braced n e) es = form.Tree (node (kind.Brace n e (Some es)) n.place)

abbrev pub call : Callee → Mark → ℕ → List Expr → Operand
call c m h es = record { form = call_form c es; mark = m; height = h }

abbrev pub name_at : List ℕ → Mark → Operand
name_at text m = record { form = form.Target (target.Whole (record { text = text; place = m.place })); mark = m; height = 0 }
