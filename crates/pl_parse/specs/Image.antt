-- What a state of the grammar's machine is for the parser: trees in the place of derivations.
use Rattle.std.specs.Prelude.{ℕ, min, Bool, true, false, Option, Some, None, Ok, Err, List, [], ◌∷◌, ◌++◌}
use Rattle.pl_syntax.specs.declared.expr.Name.{Name}
use Rattle.pl_syntax.specs.declared.stmt.Target.TheVariants as target
use Rattle.pl_syntax.specs.declared.stmt.StmtKind as what
use Rattle.pl_grammar.specs.Words as g
use Rattle.pl_grammar.specs.Derivations as d
use Rattle.pl_grammar.specs.Trees as t
use Rattle.pl_grammar.specs.Nesting as n
use Rattle.pl_grammar.specs.Sound as s
use Rattle.pl_grammar.specs.Machine as gm
use Rattle.pl_grammar.specs.Steps as gs
use Rattle.pl_frames.specs.declared.operand.Mark.{Mark}
use Rattle.pl_frames.specs.declared.operand.Form.{Form}
use Rattle.pl_frames.specs.declared.operand.Form.TheVariants as form
use Rattle.pl_frames.specs.declared.operand.Element.{Element}
use Rattle.pl_frames.specs.declared.operand.Element.TheVariants as element
use Rattle.pl_frames.specs.declared.operand.Operand.{Operand}
use Rattle.pl_frames.specs.declared.operand.SignAt.{SignAt}
use Rattle.pl_frames.specs.declared.operand.Op.{Op}
use Rattle.pl_frames.specs.declared.operand.Op.TheVariants as op
use Rattle.pl_frames.specs.declared.operand.Callee.{Callee}
use Rattle.pl_frames.specs.declared.operand.Callee.TheVariants as callee
use Rattle.pl_frames.specs.declared.stack.Top.{Top}
use Rattle.pl_frames.specs.declared.stack.Title.{Title}
use Rattle.pl_frames.specs.declared.stack.Root.{Root}
use Rattle.pl_frames.specs.declared.stack.Root.TheVariants as root
use Rattle.pl_frames.specs.declared.stack.Opened.{Opened}
use Rattle.pl_frames.specs.declared.stack.Level.{Level}
use Rattle.pl_frames.specs.declared.stack.Site.{Site}
use Rattle.pl_frames.specs.declared.stack.Spot.{Spot}
use Rattle.pl_frames.specs.declared.stack.Spot.TheVariants as at
use Rattle.pl_frames.specs.declared.stack.Goal.{Goal}
use Rattle.pl_frames.specs.declared.stack.Goal.TheVariants as goal
use Rattle.pl_frames.specs.declared.stack.Lead.{Lead}
use Rattle.pl_frames.specs.declared.stack.Lead.TheVariants as lead
use Rattle.pl_frames.specs.declared.stack.Inner.{Inner}
use Rattle.pl_frames.specs.declared.stack.Inner.TheVariants as inner
use Rattle.pl_frames.specs.declared.stack.Heading.{Heading}
use Rattle.pl_frames.specs.declared.stack.Heading.TheVariants as heading
use Rattle.pl_frames.specs.declared.stack.Outgoing.{Outgoing}
use Rattle.pl_frames.specs.declared.stack.Bottom.{Bottom}
use Rattle.pl_frames.specs.declared.stack.Bottom.TheVariants as bottom
use Rattle.pl_frames.specs.declared.stack.Listed.{Listed}
use Rattle.pl_frames.specs.declared.stack.Cells.{Cells}
use Rattle.pl_frames.specs.declared.stack.Rows.{Rows}
use Rattle.pl_frames.specs.declared.stack.Frame.{Frame}
use Rattle.pl_frames.specs.declared.stack.Frame.TheVariants as frame
use Rattle.pl_frames.specs.declared.stack.Stack.{Stack}
use Rattle.pl_frames.specs.declared.stack.Done.{Done}
use Rattle.pl_frames.specs.declared.state.Additive.{Additive}
use Rattle.pl_frames.specs.declared.state.Additive.TheVariants as additive
use Rattle.pl_frames.specs.declared.state.Titling.{Titling}
use Rattle.pl_frames.specs.declared.state.Titling.TheVariants as titling
use Rattle.pl_frames.specs.declared.state.State.{State}
use Rattle.pl_frames.specs.declared.state.State.TheVariants as state
use Rattle.pl_frames.specs.Trees as ct
use Rattle.pl_frames.specs.Rows as cr
use Rattle.pl_steps.specs.Steps as st
use Rattle.pl_states.specs.Run as ru

abbrev pub mark_of : g.Mark → Mark
mark_of m = record { gap = m.gap; place = m.place }

-- heights stop at 1000
abbrev pub cap : ℕ → ℕ
cap h = min h 1000

-- ---- operands

abbrev pub item_gap : d.Item → Bool
item_gap (d.value e) = (t.mark e).gap
item_gap (d.colon m) = m.gap

-- an element may be outputs where a comma separates it, or white space stands before it
abbrev pub apart : d.Comma → d.Item → Bool
apart (d.written m) i = true
apart d.space i = item_gap i

abbrev mutual
  -- what the terminals behind an operand may ask for
  pub form_of : d.Ex → Form
  form_of (d.bare c) = callee_form c
  form_of (d.call c m a z) = ct.call_form (callee_of c) (t.arg_trees a)
  form_of (d.rows m d.no_rows z) = form.Nothing
  form_of (d.rows_to m d.no_rows es d.no_trail z) = form.Row (elements_of es)
  form_of (d.under (d.signed m g.tilde) e) = ct.skip (mark_of m) (form_of e) (t.mark e).gap (t.mark e).place
  form_of e = form.Tree (t.tree e)

  pub callee_form : d.Callee → Form
  callee_form (d.head (d.alone x)) = form.Target (target.Whole (t.name_of x))
  callee_form (d.head (d.dotted h m x)) = form.Dotted (t.head_name (d.dotted h m x))
  callee_form (d.braced x m e z) = form.Target (target.Braced (t.name_of x) (t.tree e))

  pub callee_of : d.Callee → Callee
  callee_of (d.head (d.alone x)) = callee.Alone (t.name_of x)
  callee_of (d.head (d.dotted h m x)) = callee.Dotted (t.head_name (d.dotted h m x))
  callee_of (d.braced x m e z) = callee.Braced (t.name_of x) (t.tree e)

  pub item_of : Bool → d.Item → Element
  item_of far (d.value e) = cr.form_element far (form_of e) (t.mark e).place
  item_of far (d.colon m) = element.Tree (t.item_tree (d.colon m))

  pub elements_of : d.Elements → List Element
  elements_of (d.one i) = item_of true i ∷ []
  elements_of (d.also es c i) = elements_of es ++ item_of (apart c i) i ∷ []

abbrev pub operand_of : d.Ex → Operand
operand_of e = record { form = form_of e; mark = mark_of (t.mark e); height = cap (n.height e) }

-- the signs of a power's operand, the innermost first
abbrev pub signs_of : d.Signs → List SignAt
signs_of d.no_signs = []
signs_of (d.more_signs us m u) = record { sign = t.un_of u; place = m.place } ∷ signs_of us

abbrev pub op_of : d.Op → Op
op_of (d.joined a o m us) = op.Joined (operand_of a) o m.place (signs_of us)
op_of (d.signed m u) = op.Signed (mark_of m) (t.un_of u)
op_of (d.from a m) = op.From (operand_of a) m.place
op_of (d.stepped a m b k) = op.Stepped (operand_of a) m.place (operand_of b)

-- ---- where a statement stands

abbrev pub top_of : d.Top → Top
top_of x = record { body = t.body_of x; functions = t.functions_of x }

abbrev pub title_of : d.Title → Title
title_of (d.title m o x y) = record { name = t.name_of x; params = t.given_names y; outs = t.out_names o }

abbrev pub opened_of : d.Opened → Opened
opened_of o = record { owner = t.owner o; word = s.opened_word o; mark = mark_of (t.opened_mark o) }

abbrev pub root_of : gm.Site → Root
root_of gm.main = root.Script
root_of (gm.body x l z) = root.Function (top_of x) (title_of l)
root_of (gm.within o site b) = root_of site

abbrev pub levels_of : gm.Site → List Level
levels_of gm.main = []
levels_of (gm.body x l z) = []
levels_of (gm.within o site b) = record { opened = opened_of o; before = t.stmts b } ∷ levels_of site

abbrev pub site_of : gm.Site → d.Block → Site
site_of site b = record { root = root_of site; levels = levels_of site; block = t.stmts b }

abbrev pub spot_of : gm.Spot → Spot
spot_of (gm.here site b) = at.Here (site_of site b)
spot_of (gm.linked o b site before) = at.Linked (opened_of o) (t.stmts b) (site_of site before)

abbrev pub goal_of : d.Goal → Goal
goal_of d.shown = goal.Shown
goal_of (d.into x q) = goal.Into (t.tgt_tree x) (mark_of (t.tgt_mark x))
goal_of (d.spread m os z q) = goal.Spread (mark_of m) (t.output_trees os)

abbrev pub lead_of : d.Lead → Lead
lead_of (d.test word m) = lead.Test word (mark_of m)
lead_of (d.each word m x q) = lead.Each word (mark_of m) (t.name_of x)

abbrev pub inner_of : d.Inner → Inner
inner_of (d.each_in word m o x q) = inner.EachIn word (mark_of m) (t.name_of x)
inner_of (d.bound m o x q e c) = inner.Bound (mark_of m) (t.name_of x) (t.tree e)
inner_of (d.workers m o) = inner.Workers (mark_of m)

abbrev pub heading_of : d.Heading → Heading
heading_of (d.upto l e) = heading.Upto (lead_of l) (t.tree e)
heading_of (d.shut i e z) = heading.Shut (inner_of i) (t.tree e)
heading_of (d.no_value word m) = heading.NoValue word (mark_of m)

-- ---- frames

abbrev pub outgoing_of : gm.Outgoing → Outgoing
outgoing_of gm.fresh_outs = record { outputs = []; run = 0 }
outgoing_of (gm.behind_outs os c) = record { outputs = t.output_trees os; run = cap (n.across c (n.run_of os)) }

abbrev pub listed_of : gm.Pending → Option Listed
listed_of gm.fresh = None
listed_of (gm.behind es c) = Some (record { trees = t.trees es; height = cap (n.elements_height es) })

abbrev pub is_space : d.Comma → Bool
is_space (d.written m) = false
is_space d.space = true

abbrev pub cells_of : gm.Pending → Option Cells
cells_of gm.fresh = None
cells_of (gm.behind es c) = Some (record { elements = elements_of es; height = cap (n.elements_height es); space = is_space c })

abbrev pub is_first : d.Rows → Bool
is_first d.no_rows = true
is_first rs = false

abbrev pub rows_of : d.Rows → Rows
rows_of rs = record { first = is_first rs; trees = t.row_trees rs; height = cap (n.rows_height rs) }

abbrev pub frames_of : gm.Stack → List Frame
frames_of (gm.goal_of x site b) = []
frames_of (gm.lead_of l spot) = []
frames_of (gm.inner_of i spot) = []
frames_of (gm.outputs_of m p site b) = []
frames_of (gm.op_of p S) = frame.Op (op_of p) ∷ frames_of S
frames_of (gm.paren_of m S) = frame.Paren (mark_of m) ∷ frames_of S
frames_of (gm.args_of c m p S) = frame.Args (callee_of c) (mark_of (t.callee_mark c)) (cap (n.callee_height c)) (listed_of p) ∷ frames_of S
frames_of (gm.brace_of x m S) = frame.Brace (t.name_of x) (mark_of x.mark) ∷ frames_of S
frames_of (gm.row_of m rs p S) = frame.Row (mark_of m) (rows_of rs) (cells_of p) ∷ frames_of S

abbrev pub bottom_of : gm.Stack → Bottom
bottom_of (gm.goal_of x site b) = bottom.Goal (goal_of x) (site_of site b)
bottom_of (gm.lead_of l spot) = bottom.Lead (lead_of l) (spot_of spot)
bottom_of (gm.inner_of i spot) = bottom.Inner (inner_of i) (spot_of spot)
bottom_of (gm.outputs_of m p site b) = bottom.Outputs (mark_of m) (outgoing_of p) (site_of site b)
bottom_of (gm.op_of p S) = bottom_of S
bottom_of (gm.paren_of m S) = bottom_of S
bottom_of (gm.args_of c m p S) = bottom_of S
bottom_of (gm.brace_of x m S) = bottom_of S
bottom_of (gm.row_of m rs p S) = bottom_of S

abbrev pub stack_of : gm.Stack → Stack
stack_of S = record { frames = frames_of S; bottom = bottom_of S }

-- ---- states

abbrev pub done_of : d.Smt → Done
done_of (d.simple x e) = record { kind = t.goal_tree x (t.tree e); mark = mark_of (t.goal_mark x e) }
done_of (d.delete x m a z q o y) = record { kind = what.Delete (t.name_of x) (t.arg_trees a); mark = mark_of x.mark }
done_of (d.leave word m) = record { kind = t.leave_tree word; mark = mark_of m }
done_of (d.compound o b m) = record { kind = t.closed (t.owner o) (t.stmts b); mark = mark_of (t.opened_mark o) }

abbrev pub additive_of : g.Additive → Additive
additive_of g.plus = additive.Plus
additive_of g.minus = additive.Minus

abbrev pub outs_waiting : gm.Waiting → Option (List Name)
outs_waiting gm.fresh_params = None
outs_waiting (gm.behind_params ps c) = Some (t.kept (t.param_names ps))

abbrev pub params_waiting : gm.Waiting → Option (List (Option Name))
params_waiting gm.fresh_params = None
params_waiting (gm.behind_params ps c) = Some (t.param_names ps)

abbrev pub titling_of : gm.Titling → Titling
titling_of (gm.begun_title m) = titling.Begun
titling_of (gm.worded m x) = titling.Worded (t.name_of x)
titling_of (gm.outs_of m o p) = titling.OutsOf (outs_waiting p)
titling_of (gm.out_of m o ps) = titling.OutOf (t.kept (t.param_names ps))
titling_of (gm.outs_shut m o l z) = titling.OutsShut (t.kept (t.listed_names l))
titling_of (gm.naming m o) = titling.Naming (t.out_names o)
titling_of (gm.entitled m o x) = titling.Entitled (t.out_names o) (t.name_of x)
titling_of (gm.params_of m o x z p) = titling.ParamsOf (t.out_names o) (t.name_of x) (params_waiting p)
titling_of (gm.param_of m o x z ps) = titling.ParamOf (t.out_names o) (t.name_of x) (t.param_names ps)
titling_of (gm.titled l) = titling.Titled (title_of l)

abbrev pub output_mark : d.Output → g.Mark
output_mark (d.to x) = t.tgt_mark x
output_mark (d.skip m) = m

-- a state of the grammar's machine, for the parser
abbrev pub state_of : gm.State → State
state_of (gm.start site b) = state.Start (site_of site b)
state_of (gm.finished x site b) = state.Finished (done_of x) (site_of site b)
state_of (gm.operand S) = state.Operand (stack_of S)
state_of (gm.after e S) = state.After (operand_of e) (stack_of S)
state_of (gm.coloned m S) = state.Coloned (mark_of m) (stack_of S)
state_of (gm.torn e a m S) = state.Torn (operand_of e) (additive_of a) (mark_of m) (stack_of S)
state_of (gm.at_sign m S) = state.AtSign (mark_of m) (stack_of S)
state_of (gm.stemmed h S) = state.Stemmed (operand_of (d.bare (d.head h))) (stack_of S)
state_of (gm.dot e m S) = state.Dot (operand_of e) (stack_of S)
state_of (gm.output m p site b) = state.Output (mark_of m) (outgoing_of p) (site_of site b)
state_of (gm.output_read m p o site b) = state.OutputRead (mark_of m) (outgoing_of p) (mark_of (output_mark o)) (t.output_tree o) (site_of site b)
state_of (gm.outputs_shut m os z site b) = state.OutputsShut (mark_of m) (t.output_trees os) (site_of site b)
state_of (gm.loop word m spot) = state.Loop word (mark_of m) (spot_of spot)
state_of (gm.loop_in word m o spot) = state.LoopIn word (mark_of m) (spot_of spot)
state_of (gm.index word m x spot) = state.Index word (mark_of m) (t.name_of x) (spot_of spot)
state_of (gm.index_in word m o x spot) = state.IndexIn word (mark_of m) (t.name_of x) (spot_of spot)
state_of (gm.ready h spot) = state.Ready (heading_of h) (spot_of spot)
state_of (gm.titling x l) = state.Titling (top_of x) (titling_of l)
state_of (gm.between x) = state.Between (top_of x)

-- a step, and an answer
abbrev pub step_of : gs.Step → st.Step
step_of (Ok x) = Ok (state_of x)
step_of (Err kind) = Err kind

abbrev pub answer_of : gs.Answer → ru.Answer
answer_of (Ok p) = Ok (t.program_of p)
answer_of (Err f) = Err (record { kind = f.kind; left = f.left })
