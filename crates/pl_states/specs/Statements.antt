-- Where a statement may come, and the headers of compound statements.
use Rattle.std.specs.Prelude.{◌≡◌, ℕ, max, Bool, true, false, not, ◌&&◌, if◌then◌else◌, Option, Some, None, Result, Ok, Err, List, [], ◌∷◌, ◌++◌, codes}
use Rattle.pl_base.specs.declared.memory.Or.{Or}
use Rattle.pl_base.specs.declared.memory.Or.TheVariants as or
use Rattle.pl_base.specs.declared.errors.Place.{Place}
use Rattle.pl_syntax.specs.declared.expr.Name.{Name}
use Rattle.pl_syntax.specs.declared.expr.Bin.{Bin}
use Rattle.pl_syntax.specs.declared.expr.Bin.TheVariants as bin
use Rattle.pl_syntax.specs.declared.expr.Un.{Un}
use Rattle.pl_syntax.specs.declared.expr.Un.TheVariants as un
use Rattle.pl_syntax.specs.declared.expr.Expr.{Expr}
use Rattle.pl_syntax.specs.declared.expr.ExprKind as kind
use Rattle.pl_syntax.specs.declared.stmt.Stmt.{Stmt}
use Rattle.pl_syntax.specs.declared.stmt.StmtKind as what
use Rattle.pl_syntax.specs.declared.stmt.Target.{Target}
use Rattle.pl_syntax.specs.declared.stmt.Target.TheVariants as target
use Rattle.pl_syntax.specs.declared.stmt.Function.{Function}
use Rattle.pl_grammar.specs.declared.fault.FaultKind.{FaultKind}
use Rattle.pl_grammar.specs.declared.fault.FaultKind.TheVariants.{Unexpected, TooDeep}
use Rattle.pl_grammar.specs.declared.terminal.Word.{Word}
use Rattle.pl_grammar.specs.declared.terminal.Word.TheVariants as w
use Rattle.pl_grammar.specs.declared.terminal.Keyword.{Keyword}
use Rattle.pl_grammar.specs.declared.terminal.Keyword.TheVariants as k
use Rattle.pl_grammar.specs.Words.{level, is_power, is_link, follows, is_state}
use Rattle.pl_grammar.specs.Trees.{node, stmt, leave_tree, closed}
use Rattle.pl_frames.specs.declared.operand.Mark.{Mark}
use Rattle.pl_frames.specs.declared.operand.Form.{Form}
use Rattle.pl_frames.specs.declared.operand.Form.TheVariants as form
use Rattle.pl_frames.specs.declared.operand.Operand.{Operand}
use Rattle.pl_frames.specs.declared.operand.SignAt.{SignAt}
use Rattle.pl_frames.specs.declared.operand.Op.{Op}
use Rattle.pl_frames.specs.declared.operand.Op.TheVariants as op
use Rattle.pl_frames.specs.declared.operand.Callee.{Callee}
use Rattle.pl_frames.specs.declared.operand.Callee.TheVariants as callee
use Rattle.pl_frames.specs.declared.stack.Top.{Top}
use Rattle.pl_frames.specs.declared.stack.Title.{Title}
use Rattle.pl_frames.specs.declared.stack.Root.{Root}
use Rattle.pl_frames.specs.declared.stack.Root.TheVariants as root
use Rattle.pl_frames.specs.declared.stack.Level.{Level}
use Rattle.pl_frames.specs.declared.stack.Site.{Site}
use Rattle.pl_frames.specs.declared.stack.Spot.{Spot}
use Rattle.pl_frames.specs.declared.stack.Spot.TheVariants as spot
use Rattle.pl_frames.specs.declared.stack.Goal.{Goal}
use Rattle.pl_frames.specs.declared.stack.Goal.TheVariants as goal
use Rattle.pl_frames.specs.declared.stack.Lead.TheVariants as lead
use Rattle.pl_frames.specs.declared.stack.Inner.{Inner}
use Rattle.pl_frames.specs.declared.stack.Inner.TheVariants as inner
use Rattle.pl_frames.specs.declared.stack.Heading.{Heading}
use Rattle.pl_frames.specs.declared.stack.Heading.TheVariants as heading
use Rattle.pl_frames.specs.declared.stack.Part.TheVariants as part
use Rattle.pl_frames.specs.declared.stack.Outgoing.{Outgoing}
use Rattle.pl_frames.specs.declared.stack.Bottom.{Bottom}
use Rattle.pl_frames.specs.declared.stack.Bottom.TheVariants as bottom
use Rattle.pl_frames.specs.declared.stack.Listed.{Listed}
use Rattle.pl_frames.specs.declared.stack.Cells.{Cells}
use Rattle.pl_frames.specs.declared.stack.Rows.{Rows}
use Rattle.pl_frames.specs.declared.stack.Frame.{Frame}
use Rattle.pl_frames.specs.declared.stack.Frame.TheVariants as frame
use Rattle.pl_frames.specs.declared.stack.Stack.{Stack}
use Rattle.pl_frames.specs.declared.stack.Done.{Done}
use Rattle.pl_frames.specs.declared.state.Additive.{Additive}
use Rattle.pl_frames.specs.declared.state.Additive.TheVariants as additive
use Rattle.pl_frames.specs.declared.state.Titling.TheVariants as titling
use Rattle.pl_frames.specs.declared.state.State.{State}
use Rattle.pl_frames.specs.declared.state.State.TheVariants as state
use Rattle.pl_frames.specs.declared.reducing.Held.{Held}
use Rattle.pl_frames.specs.declared.outlist.Outlist.{Outlist}
use Rattle.pl_states.specs.declared.statements.Use.{Use}
use Rattle.pl_states.specs.declared.statements.Use.TheVariants as use_
use Rattle.pl_steps.specs.declared.names.Dots.{Dots}
use Rattle.pl_steps.specs.declared.names.Dots.TheVariants as dots_
use Rattle.pl_steps.specs.Names.{dots}
use Rattle.pl_frames.specs.Piles.{is_empty}
use Rattle.pl_frames.specs.Trees.{plus, tree, plain, call, name_at}
use Rattle.pl_frames.specs.Below.{has_room, site_room, spot_room, outgoing_room, has_base_room, in_row, in_index, holds, allows}
use Rattle.pl_frames.specs.Parts.{enter}
use Rattle.pl_frames.specs.Rows as rows
use Rattle.pl_frames.specs.Reduce.{reduce}
use Rattle.pl_frames.specs.Outlist.{row_outputs, skipped, shown_site}
use Rattle.pl_steps.specs.Steps.{Step, refused, roomy, stack_of, read_operand, done, ended, named}

-- ---- statements

abbrev pub use_of : Keyword → Use
use_of k.If = use_.Tests
use_of k.While = use_.Tests
use_of k.Switch = use_.Tests
use_of k.Elseif = use_.Tests
use_of k.Case = use_.Tests
use_of k.For = use_.Loops
use_of k.Parfor = use_.Loops
use_of k.Else = use_.Direct
use_of k.Otherwise = use_.Direct
use_of k.Try = use_.Direct
use_of k.Catch = use_.Plain
use_of k.Spmd = use_.Plain
use_of k.Break = use_.Leaves
use_of k.Continue = use_.Leaves
use_of k.Return = use_.Leaves
use_of k.End = use_.Ends
use_of k.Function = use_.Defines
use_of k.Classdef = use_.Unused
use_of k.Global = use_.Unused
use_of k.Persistent = use_.Unused

abbrev pub site_of : Root → List Level → List Stmt → Site
site_of r ls b = record { root = r; levels = ls; block = b }

abbrev pub link_on : Keyword → Root → List Level → List Stmt → Option Spot
link_on word r [] b = None
link_on word r (l ∷ ls) b = if follows l.opened.word word then Some (spot.Linked l.opened b (site_of r ls l.before)) else None

-- where a part stands that goes on with the compound statement at hand
abbrev pub link_spot : Keyword → Site → Option Spot
link_spot word s = link_on word s.root s.levels s.block

abbrev pub spot_of : Keyword → Site → Option Spot
spot_of word s = if is_link word then link_spot word s else (if allows s word then Some (spot.Here s) else None)

abbrev pub part_state : Use → Keyword → Mark → Spot → State
part_state use_.Loops word m spot = state.Loop word m spot
part_state use_.Direct word m spot = state.Start (enter (part.Unheaded word m) spot)
part_state use_.Plain word m spot = state.Ready (heading.NoValue word m) spot
part_state use_.Tests word m spot = state.Operand (stack_of [] (bottom.Lead (lead.Test word m) spot))
part_state use_.Leaves word m spot = state.Operand (stack_of [] (bottom.Lead (lead.Test word m) spot))
part_state use_.Ends word m spot = state.Operand (stack_of [] (bottom.Lead (lead.Test word m) spot))
part_state use_.Defines word m spot = state.Operand (stack_of [] (bottom.Lead (lead.Test word m) spot))
part_state use_.Unused word m spot = state.Operand (stack_of [] (bottom.Lead (lead.Test word m) spot))

abbrev pub on_spot : Use → Keyword → Mark → Spot → Step
on_spot u word m spot = roomy (spot_room spot) (Ok (part_state u word m spot))

abbrev pub part_at : Use → Keyword → Mark → Option Spot → Step
part_at u word m None = refused
part_at u word m (Some spot) = on_spot u word m spot

abbrev pub part_word : Use → Keyword → Mark → Site → Step
part_word u word m s = part_at u word m (spot_of word s)

unfoldable pub leaving : Keyword → Mark → Site → Step
leaving word m s = if allows s word then roomy (site_room 1 s) (Ok (state.Finished (done (leave_tree word) m) s)) else refused

abbrev pub close_level : Level → Root → List Level → List Stmt → Step
close_level l r ls b = Ok (state.Finished (done (closed l.opened.owner b) l.opened.mark) (site_of r ls l.before))

abbrev pub function_of : Title → List Stmt → Function
function_of t b = record { name = t.name; params = t.params; outs = t.outs; body = b }

abbrev pub close_root : Root → List Stmt → Step
close_root root.Script b = refused
close_root (root.Function t l) b = Ok (state.Between (record { body = t.body; functions = t.functions ++ function_of l b ∷ [] }))

abbrev pub ending_on : Root → List Level → List Stmt → Step
ending_on r [] b = close_root r b
ending_on r (l ∷ ls) b = close_level l r ls b

-- `end` where a statement may come
unfoldable pub ending : Site → Step
ending s = ending_on s.root s.levels s.block

abbrev pub define_root : Root → List Stmt → Step
define_root root.Script b = Ok (state.Titling (record { body = b; functions = [] }) titling.Begun)
define_root (root.Function t l) b = refused

unfoldable pub defining : Site → Step
defining s = if not (is_empty s.levels) then refused else define_root s.root s.block

-- a keyword where a statement may come
unfoldable pub by_use : Use → Keyword → Mark → Site → Step
by_use use_.Tests word m s = part_word use_.Tests word m s
by_use use_.Loops word m s = part_word use_.Loops word m s
by_use use_.Direct word m s = part_word use_.Direct word m s
by_use use_.Plain word m s = part_word use_.Plain word m s
by_use use_.Leaves word m s = leaving word m s
by_use use_.Ends word m s = ending s
by_use use_.Defines word m s = defining s
by_use use_.Unused word m s = refused

-- an expression begins a statement
unfoldable pub begin : Word → Mark → Site → Step
begin word m s = if holds s then roomy (site_room 1 s) (read_operand word m (stack_of [] (bottom.Goal goal.Shown s))) else refused

unfoldable pub read_start : Word → Mark → Site → Step
read_start w.Comma m s = Ok (state.Start s)
read_start w.Semicolon m s = Ok (state.Start s)
read_start w.LineEnd m s = Ok (state.Start s)
read_start (w.Key word) m s = by_use (use_of word) word m s
read_start word m s = begin word m s

-- a separator, and whether it shows the value of what stands before it
abbrev pub shows : Word → Option Bool
shows w.Comma = Some true
shows w.LineEnd = Some true
shows w.Semicolon = Some false
shows word = None

abbrev pub separated : Option Bool → Done → Site → Step
separated None d s = refused
separated (Some show) d s = Ok (state.Start (ended d show s))

unfoldable pub behind_statement : Word → Done → Site → Step
behind_statement word d s = separated (shows word) d s

-- ---- headers

unfoldable pub behind_loop : Word → Mark → Keyword → Mark → Spot → Step
behind_loop (w.Name n) m word o spot = Ok (state.Index word o (named n m.place) spot)
behind_loop w.Open m word o spot = Ok (state.LoopIn word o spot)
behind_loop other m word o spot = refused

unfoldable pub behind_loop_in : Word → Mark → Keyword → Mark → Spot → Step
behind_loop_in (w.Name n) m word o spot = Ok (state.IndexIn word o (named n m.place) spot)
behind_loop_in other m word o spot = refused

abbrev pub behind_index : Word → Bottom → Step
behind_index w.Equal b = Ok (state.Operand (stack_of [] b))
behind_index other b = refused

-- `spmd` may have its count of workers in parentheses
abbrev pub count_of : Heading → Spot → Step
count_of (heading.NoValue k.Spmd m) spot = Ok (state.Operand (stack_of [] (bottom.Inner (inner.Workers m) spot)))
count_of (heading.NoValue word m) spot = refused
count_of (heading.Upto l e) spot = refused
count_of (heading.Shut i e) spot = refused

abbrev pub headed : Option Bool → Heading → Spot → Step
headed None h spot = refused
headed (Some show) h spot = Ok (state.Start (enter (part.Headed h) spot))

unfoldable pub behind_heading : Word → Heading → Spot → Step
behind_heading w.Open h spot = count_of h spot
behind_heading word h spot = headed (shows word) h spot
