-- Lists of arguments and the rows of square brackets, as they grow.
use Rattle.std.specs.Prelude.{ℕ, max, Bool, true, false, not, ◌||◌, if◌then◌else◌, Option, Some, None, List, [], ◌∷◌, ◌++◌, map}
use Rattle.pl_base.specs.declared.errors.Place.{Place}
use Rattle.pl_syntax.specs.declared.expr.Expr.{Expr}
use Rattle.pl_syntax.specs.declared.expr.ExprKind as kind
use Rattle.pl_grammar.specs.Trees.{node}
use Rattle.pl_frames.specs.declared.operand.Mark.{Mark}
use Rattle.pl_frames.specs.declared.operand.Form.{Form}
use Rattle.pl_frames.specs.declared.operand.Form.TheVariants as form
use Rattle.pl_frames.specs.declared.operand.Element.{Element}
use Rattle.pl_frames.specs.declared.operand.Element.TheVariants as element
use Rattle.pl_frames.specs.declared.operand.Operand.{Operand}
use Rattle.pl_frames.specs.declared.stack.Listed.{Listed}
use Rattle.pl_frames.specs.declared.stack.Cells.{Cells}
use Rattle.pl_frames.specs.declared.stack.Rows.{Rows}
use Rattle.pl_frames.specs.Trees.{plus, form_tree, tree, plain, element_tree}

-- an argument behind those before
abbrev pub listed : Option Listed → Expr → ℕ → Listed
listed None e h = record { trees = e ∷ []; height = h }
listed (Some l) e h = record { trees = l.trees ++ e ∷ []; height = max l.height h }

abbrev pub argument : Option Listed → Operand → Listed
argument l o = listed l (tree o) o.height

-- an element may be outputs where white space alone doesn't separate it, or some stands before it
abbrev pub form_element : Bool → Form → Place → Element
form_element true (form.Target t) p = element.Outputs [] t
form_element true (form.Skips ms t) p = element.Outputs ms t
form_element apart f p = element.Tree (form_tree f p)

abbrev pub element_of : Bool → Operand → Element
element_of apart o = form_element apart o.form o.mark.place

-- an operand behind the elements before; white space alone separates what comes, or not
abbrev pub celled : Option Cells → Operand → Bool → Cells
celled None o space = record { elements = element_of true o ∷ []; height = o.height; space = space }
celled (Some c) o space = record { elements = c.elements ++ element_of (not c.space || o.mark.gap) o ∷ []; height = max c.height o.height; space = space }

abbrev pub broken : Rows → Rows
broken r = record { first = false; trees = r.trees; height = r.height }

abbrev pub filled : Rows → Cells → Rows
filled r c = record { first = false; trees = r.trees ++ map element_tree c.elements ∷ []; height = max r.height c.height }

abbrev pub bracketed : Mark → Rows → Operand
bracketed m r = plain (node (kind.Rows r.trees) m.place) m (plus 1 r.height)

abbrev pub nothing : Mark → ℕ → Operand
nothing m h = record { form = form.Nothing; mark = m; height = h }

abbrev pub one_row : List Element → Mark → ℕ → Operand
one_row es m h = record { form = form.Row es; mark = m; height = h }

-- square brackets with these rows, or with nothing
abbrev pub bracket : Mark → Rows → Operand
bracket m r = if r.first then nothing m (plus 1 r.height) else bracketed m r

-- square brackets with a row at their end
abbrev pub row_bracket : Mark → Rows → Cells → Operand
row_bracket m r c = if r.first then one_row c.elements m (plus 1 (max r.height c.height)) else bracketed m (filled r c)
