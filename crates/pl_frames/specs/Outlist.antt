-- Frames that turn out to be outputs of a statement.
use Rattle.std.specs.Prelude.{ℕ, Bool, true, false, not, ◌&&◌, ◌||◌, if◌then◌else◌, Option, Some, None, List, [], ◌∷◌, ◌++◌}
use Rattle.pl_syntax.specs.declared.expr.Un.TheVariants as un
use Rattle.pl_syntax.specs.declared.stmt.Target.{Target}
use Rattle.pl_frames.specs.declared.operand.Mark.{Mark}
use Rattle.pl_frames.specs.declared.operand.Element.{Element}
use Rattle.pl_frames.specs.declared.operand.Element.TheVariants as element
use Rattle.pl_frames.specs.declared.operand.Op.{Op}
use Rattle.pl_frames.specs.declared.operand.Op.TheVariants as op
use Rattle.pl_frames.specs.declared.stack.Site.{Site}
use Rattle.pl_frames.specs.declared.stack.Goal.{Goal}
use Rattle.pl_frames.specs.declared.stack.Goal.TheVariants as goal
use Rattle.pl_frames.specs.declared.stack.Bottom.{Bottom}
use Rattle.pl_frames.specs.declared.stack.Bottom.TheVariants as bottom
use Rattle.pl_frames.specs.declared.stack.Cells.{Cells}
use Rattle.pl_frames.specs.declared.stack.Rows.{Rows}
use Rattle.pl_frames.specs.declared.stack.Frame.{Frame}
use Rattle.pl_frames.specs.declared.stack.Frame.TheVariants as frame
use Rattle.pl_frames.specs.declared.outlist.Outlist.{Outlist}
use Rattle.pl_frames.specs.Trees.{plus}
use Rattle.pl_frames.specs.Piles.{is_empty}

-- a `~` for each mark
abbrev pub skips : List Mark → List (Option Target)
skips [] = []
skips (m ∷ ms) = None ∷ skips ms

-- the same, and the target
abbrev pub element_outputs : List Mark → Target → List (Option Target)
element_outputs ms t = skips ms ++ Some t ∷ []

abbrev pub with_element : List (Option Target) → Element → Option (List (Option Target))
with_element os (element.Outputs ms t) = Some (os ++ element_outputs ms t)
with_element os (element.Tree e) = None

-- outputs, and those that a row is
abbrev pub row_outputs : List (Option Target) → List Element → Option (List (Option Target))
row_outputs os [] = Some os
row_outputs os (element.Outputs ms t ∷ es) = row_outputs (os ++ element_outputs ms t) es
row_outputs os (element.Tree e ∷ es) = None

abbrev pub not_mark : Op → Option Mark
not_mark (op.Signed m un.Not) = Some m
not_mark (op.Signed m un.Plus) = None
not_mark (op.Signed m un.Minus) = None
not_mark (op.Signed m un.Transpose) = None
not_mark (op.Joined a o p us) = None
not_mark (op.From a p) = None
not_mark (op.Stepped a p b) = None

abbrev pub outlist : Mark → List (Option Target) → ℕ → Bool → Site → Outlist
outlist m os n space s = record { mark = m; outputs = os; run = n; space = space; site = s }

-- one more `~`, which white space alone separates only where it has some before it
abbrev pub skip_onto : Mark → Option Outlist → Option Outlist
skip_onto m None = None
skip_onto m (Some l) = if l.space && not m.gap then None else Some (outlist l.mark (l.outputs ++ None ∷ []) (plus 1 l.run) true l.site)

abbrev pub row_list : Mark → Option (List (Option Target)) → Bool → Site → Option Outlist
row_list m None space s = None
row_list m (Some os) space s = Some (outlist m os 0 space s)

abbrev pub cell_outputs : Mark → Option Cells → Site → Option Outlist
cell_outputs m None s = Some (outlist m [] 0 false s)
cell_outputs m (Some c) s = row_list m (row_outputs [] c.elements) c.space s

abbrev pub goal_site : Goal → Site → Option Site
goal_site goal.Shown s = Some s
goal_site (goal.Into t m) s = None
goal_site (goal.Spread m os) s = None

abbrev pub shown_site : Bottom → Option Site
shown_site (bottom.Goal g s) = goal_site g s
shown_site (bottom.Lead l s) = None
shown_site (bottom.Inner i s) = None
shown_site (bottom.Outputs m p s) = None

abbrev pub site_outputs : Mark → Option Cells → Option Site → Option Outlist
site_outputs m c None = None
site_outputs m c (Some s) = cell_outputs m c s

-- the outputs that a row is at a statement's start
abbrev pub row_outlist : Mark → Rows → Option Cells → List Frame → Bottom → Option Outlist
row_outlist m r c fs b = if not r.first || not (is_empty fs) then None else site_outputs m c (shown_site b)

abbrev pub on_mark : Option Mark → Option Outlist → Option Outlist
on_mark None l = None
on_mark (Some m) l = skip_onto m l

-- the outputs that frames may be: `[` at a statement's start, elements, and `~`
abbrev pub as_outputs : List Frame → Bottom → Option Outlist
as_outputs [] b = None
as_outputs (frame.Op p ∷ fs) b = on_mark (not_mark p) (as_outputs fs b)
as_outputs (frame.Row m r c ∷ fs) b = row_outlist m r c fs b
as_outputs (frame.Paren m ∷ fs) b = None
as_outputs (frame.Args c m h l ∷ fs) b = None
as_outputs (frame.Brace n m ∷ fs) b = None

abbrev pub is_op : Frame → Bool
is_op (frame.Op p) = true
is_op (frame.Row m r c) = false
is_op (frame.Paren m) = false
is_op (frame.Args c m h l) = false
is_op (frame.Brace n m) = false

abbrev pub has_op : List Frame → Bool
has_op [] = false
has_op (f ∷ fs) = is_op f

-- the same, where at least one `~` is on top
unfoldable pub skipped : List Frame → Bottom → Option Outlist
skipped fs b = if has_op fs then as_outputs fs b else None
