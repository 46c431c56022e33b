-- What a terminal does to a state of the parser, by the word: the machine of the grammar over the parser's own
-- states, in which trees stand in the place of derivations.
use Rattle.std.specs.Prelude.{◌≡◌, ℕ, max, Bool, true, false, not, ◌&&◌, if◌then◌else◌, Option, Some, None, Result, Ok, Err, List, [], ◌∷◌, ◌++◌, codes}
use Rattle.pl_base.specs.declared.memory.Or.{Or}
use Rattle.pl_base.specs.declared.memory.Or.TheVariants as or
use Rattle.pl_base.specs.declared.errors.Place.{Place}
use Rattle.pl_syntax.specs.declared.expr.Name.{Name}
use Rattle.pl_syntax.specs.declared.expr.Bin.{Bin}
use Rattle.pl_syntax.specs.declared.expr.Bin.TheVariants as bin
use Rattle.pl_syntax.specs.declared.expr.Un.{Un}
use Rattle.pl_syntax.specs.declared.expr.Un.TheVariants as un
use Rattle.pl_syntax.specs.declared.expr.Expr.{Expr}
use Rattle.pl_syntax.specs.declared.expr.ExprKind as kind
use Rattle.pl_syntax.specs.declared.stmt.Stmt.{Stmt}
use Rattle.pl_syntax.specs.declared.stmt.StmtKind as what
use Rattle.pl_syntax.specs.declared.stmt.Target.{Target}
use Rattle.pl_syntax.specs.declared.stmt.Target.TheVariants as target
use Rattle.pl_syntax.specs.declared.stmt.Function.{Function}
use Rattle.pl_grammar.specs.declared.fault.FaultKind.{FaultKind}
use Rattle.pl_grammar.specs.declared.fault.FaultKind.TheVariants.{Unexpected, TooDeep}
use Rattle.pl_grammar.specs.declared.terminal.Word.{Word}
use Rattle.pl_grammar.specs.declared.terminal.Word.TheVariants as w
use Rattle.pl_grammar.specs.declared.terminal.Keyword.{Keyword}
use Rattle.pl_grammar.specs.declared.terminal.Keyword.TheVariants as k
use Rattle.pl_grammar.specs.Words.{level, is_power, is_link, follows, is_state}
use Rattle.pl_grammar.specs.Trees.{node, stmt, leave_tree, closed}
use Rattle.pl_frames.specs.declared.operand.Mark.{Mark}
use Rattle.pl_frames.specs.declared.operand.Form.{Form}
use Rattle.pl_frames.specs.declared.operand.Form.TheVariants as form
use Rattle.pl_frames.specs.declared.operand.Operand.{Operand}
use Rattle.pl_frames.specs.declared.operand.SignAt.{SignAt}
use Rattle.pl_frames.specs.declared.operand.Op.{Op}
use Rattle.pl_frames.specs.declared.operand.Op.TheVariants as op
use Rattle.pl_frames.specs.declared.operand.Callee.{Callee}
use Rattle.pl_frames.specs.declared.operand.Callee.TheVariants as callee
use Rattle.pl_frames.specs.declared.stack.Top.{Top}
use Rattle.pl_frames.specs.declared.stack.Title.{Title}
use Rattle.pl_frames.specs.declared.stack.Root.{Root}
use Rattle.pl_frames.specs.declared.stack.Root.TheVariants as root
use Rattle.pl_frames.specs.declared.stack.Level.{Level}
use Rattle.pl_frames.specs.declared.stack.Site.{Site}
use Rattle.pl_frames.specs.declared.stack.Spot.{Spot}
use Rattle.pl_frames.specs.declared.stack.Spot.TheVariants as spot
use Rattle.pl_frames.specs.declared.stack.Goal.{Goal}
use Rattle.pl_frames.specs.declared.stack.Goal.TheVariants as goal
use Rattle.pl_frames.specs.declared.stack.Lead.TheVariants as lead
use Rattle.pl_frames.specs.declared.stack.Inner.{Inner}
use Rattle.pl_frames.specs.declared.stack.Inner.TheVariants as inner
use Rattle.pl_frames.specs.declared.stack.Heading.{Heading}
use Rattle.pl_frames.specs.declared.stack.Heading.TheVariants as heading
use Rattle.pl_frames.specs.declared.stack.Part.TheVariants as part
use Rattle.pl_frames.specs.declared.stack.Outgoing.{Outgoing}
use Rattle.pl_frames.specs.declared.stack.Bottom.{Bottom}
use Rattle.pl_frames.specs.declared.stack.Bottom.TheVariants as bottom
use Rattle.pl_frames.specs.declared.stack.Listed.{Listed}
use Rattle.pl_frames.specs.declared.stack.Cells.{Cells}
use Rattle.pl_frames.specs.declared.stack.Rows.{Rows}
use Rattle.pl_frames.specs.declared.stack.Frame.{Frame}
use Rattle.pl_frames.specs.declared.stack.Frame.TheVariants as frame
use Rattle.pl_frames.specs.declared.stack.Stack.{Stack}
use Rattle.pl_frames.specs.declared.stack.Done.{Done}
use Rattle.pl_frames.specs.declared.state.Additive.{Additive}
use Rattle.pl_frames.specs.declared.state.Additive.TheVariants as additive
use Rattle.pl_frames.specs.declared.state.Titling.TheVariants as titling
use Rattle.pl_frames.specs.declared.state.State.{State}
use Rattle.pl_frames.specs.declared.state.State.TheVariants as state
use Rattle.pl_frames.specs.declared.reducing.Held.{Held}
use Rattle.pl_frames.specs.declared.outlist.Outlist.{Outlist}
use Rattle.pl_steps.specs.declared.names.Dots.{Dots}
use Rattle.pl_steps.specs.declared.names.Dots.TheVariants as dots_
use Rattle.pl_steps.specs.Names.{dots}
use Rattle.pl_frames.specs.Piles.{is_empty}
use Rattle.pl_frames.specs.Trees.{plus, tree, plain, call, name_at}
use Rattle.pl_frames.specs.Below.{has_room, site_room, spot_room, outgoing_room, has_base_room, in_row, in_index, holds, allows}
use Rattle.pl_frames.specs.Parts.{enter}
use Rattle.pl_frames.specs.Rows as rows
use Rattle.pl_frames.specs.Reduce.{reduce}
use Rattle.pl_frames.specs.Outlist.{row_outputs, skipped, shown_site}

abbrev pub Step : Type 0
Step = Result State FaultKind

abbrev pub refused : Step
refused = Err Unexpected

-- a function took the step, or memory was wanting
abbrev pub Gives : Result State (Or FaultKind) → Step → Type 0
Gives (Ok st) s = s ≡ Ok st
Gives (Err or.Memory) s = Unit {0}
Gives (Err (or.Is kind)) s = s ≡ Err kind

-- the step, where there is room for it
abbrev pub roomy : Bool → Step → Step
roomy fits (Ok st) = if fits then Ok st else Err TooDeep
roomy fits (Err kind) = Err kind

-- ---- an operand has to come

abbrev pub stack_of : List Frame → Bottom → Stack
stack_of fs b = record { frames = fs; bottom = b }

abbrev pub laid : Frame → Stack → Stack
laid f s = stack_of (f ∷ s.frames) s.bottom

abbrev pub atom : kind.ExprKind → Mark → Operand
atom what m = plain (node what m.place) m 0

abbrev pub sign_of : Bin → Option Un
sign_of bin.Add = Some un.Plus
sign_of bin.Sub = Some un.Minus
sign_of o = None

abbrev pub op_takes_signs : Op → Bool
op_takes_signs (op.Joined a o p us) = is_power o
op_takes_signs (op.Signed m u) = false
op_takes_signs (op.From a p) = false
op_takes_signs (op.Stepped a p b) = false

abbrev pub frame_takes_signs : Frame → Bool
frame_takes_signs (frame.Op p) = op_takes_signs p
frame_takes_signs (frame.Paren m) = false
frame_takes_signs (frame.Args c m h l) = false
frame_takes_signs (frame.Brace n m) = false
frame_takes_signs (frame.Row m r c) = false

-- the operator on top is a power
abbrev pub takes_signs : List Frame → Bool
takes_signs [] = false
takes_signs (f ∷ fs) = frame_takes_signs f

abbrev pub with_sign : SignAt → Op → Op
with_sign s (op.Joined a o p us) = op.Joined a o p (s ∷ us)
with_sign s (op.Signed m u) = op.Signed m u
with_sign s (op.From a p) = op.From a p
with_sign s (op.Stepped a p b) = op.Stepped a p b

abbrev pub frame_with_sign : SignAt → Frame → Frame
frame_with_sign s (frame.Op p) = frame.Op (with_sign s p)
frame_with_sign s (frame.Paren m) = frame.Paren m
frame_with_sign s (frame.Args c m h l) = frame.Args c m h l
frame_with_sign s (frame.Brace n m) = frame.Brace n m
frame_with_sign s (frame.Row m r c) = frame.Row m r c

abbrev pub frames_with_sign : SignAt → List Frame → List Frame
frames_with_sign s [] = []
frames_with_sign s (f ∷ fs) = frame_with_sign s f ∷ fs

abbrev pub signed_top : SignAt → Stack → Stack
signed_top at s = stack_of (frames_with_sign at s.frames) s.bottom

-- a sign before an operand; a power's operand has its signs with it
unfoldable pub sign : Un → Mark → Stack → Step
sign u m s = if takes_signs s.frames then roomy (has_room 1 s) (Ok (state.Operand (signed_top (record { sign = u; place = m.place }) s))) else roomy (has_room 1 s) (Ok (state.Operand (laid (frame.Op (op.Signed m u)) s)))

abbrev pub sign_by : Option Un → Mark → Stack → Step
sign_by None m s = refused
sign_by (Some u) m s = sign u m s

unfoldable pub sign_operator : Bin → Mark → Stack → Step
sign_operator o m s = sign_by (sign_of o) m s

abbrev pub form_done : Form → Mark → ℕ → Mark → Outgoing → Site → List Frame → Step
form_done (form.Target t) own h m p site fs = Ok (state.OutputRead m p own (Some t) site)
form_done f own h m p site fs = Ok (state.After (record { form = f; mark = own; height = h }) (stack_of fs (bottom.Outputs m p site)))

abbrev pub output_done : Operand → Mark → Outgoing → Site → List Frame → Step
output_done e m p site fs = form_done e.form e.mark e.height m p site fs

abbrev pub answered_on : Operand → List Frame → Bottom → Step
answered_on e [] (bottom.Outputs m p site) = output_done e m p site []
answered_on e [] (bottom.Goal g site) = Ok (state.After e (stack_of [] (bottom.Goal g site)))
answered_on e [] (bottom.Lead l spot) = Ok (state.After e (stack_of [] (bottom.Lead l spot)))
answered_on e [] (bottom.Inner i spot) = Ok (state.After e (stack_of [] (bottom.Inner i spot)))
answered_on e (f ∷ fs) b = Ok (state.After e (stack_of (f ∷ fs) b))

-- an operand that ends with its own list or braces: an output where no expression stands
unfoldable pub answered : Operand → Stack → Step
answered e s = answered_on e s.frames s.bottom

abbrev pub called : Callee → Mark → ℕ → Listed → Stack → Step
called c m h l s = answered (call c m (max h (plus 1 l.height)) l.trees) s

abbrev pub empty_list : Listed
empty_list = record { trees = []; height = 0 }

abbrev pub close_empty_on : List Frame → Bottom → Step
close_empty_on (frame.Args c m h None ∷ fs) b = called c m h empty_list (stack_of fs b)
close_empty_on (frame.Args c m h (Some l) ∷ fs) b = refused
close_empty_on (frame.Op p ∷ fs) b = refused
close_empty_on (frame.Paren m ∷ fs) b = refused
close_empty_on (frame.Brace n m ∷ fs) b = refused
close_empty_on (frame.Row m r c ∷ fs) b = refused
close_empty_on [] b = refused

-- `)` where an operand has to come: the list is empty
unfoldable pub close_empty : Stack → Step
close_empty s = close_empty_on s.frames s.bottom

-- `]` there
abbrev pub square_row : Mark → Rows → Option Cells → Stack → Step
square_row m r None s = Ok (state.After (rows.bracket m r) s)
square_row m r (Some c) s = if c.space then refused else Ok (state.After (rows.bracketed m (rows.filled r c)) s)

abbrev pub shut_outlist : Option Outlist → Step
shut_outlist None = refused
shut_outlist (Some l) = Ok (state.OutputsShut l.mark l.outputs l.site)

abbrev pub square_on : List Frame → Bottom → Step
square_on (frame.Row m r c ∷ fs) b = square_row m r c (stack_of fs b)
square_on (frame.Op p ∷ fs) b = shut_outlist (skipped (frame.Op p ∷ fs) b)
square_on (frame.Paren m ∷ fs) b = shut_outlist (skipped (frame.Paren m ∷ fs) b)
square_on (frame.Args c m h l ∷ fs) b = shut_outlist (skipped (frame.Args c m h l ∷ fs) b)
square_on (frame.Brace n m ∷ fs) b = shut_outlist (skipped (frame.Brace n m ∷ fs) b)
square_on [] b = refused

unfoldable pub square_empty : Stack → Step
square_empty s = square_on s.frames s.bottom

abbrev pub next_row : Mark → Rows → Stack → Step
next_row m r s = Ok (state.Operand (laid (frame.Row m r None) s))

-- a row's end there
abbrev pub break_row : Mark → Rows → Option Cells → Stack → Step
break_row m r None s = next_row m (rows.broken r) s
break_row m r (Some c) s = if c.space then refused else next_row m (rows.filled r c) s

abbrev pub break_on : List Frame → Bottom → Step
break_on (frame.Row m r c ∷ fs) b = break_row m r c (stack_of fs b)
break_on (frame.Op p ∷ fs) b = refused
break_on (frame.Paren m ∷ fs) b = refused
break_on (frame.Args c m h l ∷ fs) b = refused
break_on (frame.Brace n m ∷ fs) b = refused
break_on [] b = refused

unfoldable pub break_empty : Stack → Step
break_empty s = break_on s.frames s.bottom

-- a comma there: it can only follow a `~` that is an output
abbrev pub comma_outlist : Option Outlist → Step
comma_outlist None = refused
comma_outlist (Some l) = Ok (state.Output l.mark (record { outputs = l.outputs; run = 0 }) l.site)

unfoldable pub comma_empty : Stack → Step
comma_empty s = comma_outlist (skipped s.frames s.bottom)

abbrev pub is_args : Frame → Bool
is_args (frame.Args c m h l) = true
is_args (frame.Op p) = false
is_args (frame.Paren m) = false
is_args (frame.Brace n m) = false
is_args (frame.Row m r c) = false

abbrev pub in_args : List Frame → Bool
in_args [] = false
in_args (f ∷ fs) = is_args f

unfoldable pub colon_arg : Mark → Stack → Step
colon_arg m s = if in_args s.frames then Ok (state.Coloned m s) else refused

abbrev pub opening : Frame → Stack → Step
opening f s = roomy (has_room 1 s) (Ok (state.Operand (laid f s)))

abbrev pub end_word : Keyword → Bool
end_word k.End = true
end_word word = false

unfoldable pub last : Keyword → Mark → Stack → Step
last word m s = if end_word word && in_index s.frames then Ok (state.After (atom kind.End m) s) else refused

abbrev pub no_rows : Rows
no_rows = record { first = true; trees = []; height = 0 }

-- a terminal where an operand has to come
unfoldable pub read_operand : Word → Mark → Stack → Step
read_operand (w.Name n) m s = Ok (state.After (name_at n m) s)
read_operand (w.Chars cs) m s = Ok (state.After (atom (kind.Chars cs) m) s)
read_operand (w.Number z) m s = Ok (state.After (atom (kind.Number z) m) s)
read_operand (w.Binary o) m s = sign_operator o m s
read_operand w.Not m s = sign un.Not m s
read_operand w.Quote m s = refused
read_operand w.Equal m s = refused
read_operand w.Colon m s = colon_arg m s
read_operand w.Comma m s = comma_empty s
read_operand w.Semicolon m s = break_empty s
read_operand w.LineEnd m s = break_empty s
read_operand w.Open m s = opening (frame.Paren m) s
read_operand w.Close m s = close_empty s
read_operand w.OpenSquare m s = opening (frame.Row m no_rows None) s
read_operand w.CloseSquare m s = square_empty s
read_operand w.OpenBrace m s = refused
read_operand w.CloseBrace m s = refused
read_operand w.At m s = Ok (state.AtSign m s)
read_operand w.Dot m s = refused
read_operand (w.Key word) m s = last word m s

-- ---- an operand has come

abbrev pub joining : Bin → Mark → Operand → Stack → Stack
joining o m e s = laid (frame.Op (op.Joined e o m.place [])) s

unfoldable pub join : Bin → Mark → Held → Step
join o m h = roomy (has_room (plus 1 h.operand.height) h.stack) (Ok (state.Operand (joining o m h.operand h.stack)))

-- behind white space in a row a `+` or `-` may belong to what comes
abbrev pub tear : Operand → Additive → Mark → Stack → Step
tear e a m s = roomy (has_base_room s) (Ok (state.Torn e a m s))

abbrev pub additive_of : Bin → Option Additive
additive_of bin.Add = Some additive.Plus
additive_of bin.Sub = Some additive.Minus
additive_of o = None

abbrev pub bin_of : Additive → Bin
bin_of additive.Plus = bin.Add
bin_of additive.Minus = bin.Sub

abbrev pub un_of : Additive → Un
un_of additive.Plus = un.Plus
un_of additive.Minus = un.Minus

abbrev pub operator_by : Option Additive → Bin → Mark → Operand → Stack → Step
operator_by None o m e s = join o m (reduce (level o) e s)
operator_by (Some a) o m e s = if in_row s.frames && m.gap then tear e a m s else join o m (reduce (level o) e s)

unfoldable pub operator : Bin → Mark → Operand → Stack → Step
operator o m e s = operator_by (additive_of o) o m e s

abbrev pub transposed : Mark → Operand → Operand
transposed m e = plain (node (kind.Unary un.Transpose (tree e)) m.place) e.mark (plus 1 e.height)

unfoldable pub transpose : Mark → Held → Step
transpose m h = roomy (has_room (plus 1 h.operand.height) h.stack) (Ok (state.After (transposed m h.operand) h.stack))

abbrev pub range_from : Mark → Operand → Stack → Step
range_from m e s = roomy (has_room (plus 1 e.height) s) (Ok (state.Operand (laid (frame.Op (op.From e m.place)) s)))

abbrev pub range_op : Mark → Operand → Op → Stack → Step
range_op m e (op.From a p) s = Ok (state.Operand (laid (frame.Op (op.Stepped a p e)) s))
range_op m e (op.Stepped a p b) s = refused
range_op m e (op.Joined a o p us) s = range_from m e (laid (frame.Op (op.Joined a o p us)) s)
range_op m e (op.Signed n u) s = range_from m e (laid (frame.Op (op.Signed n u)) s)

abbrev pub range_on : Mark → Operand → List Frame → Bottom → Step
range_on m e (frame.Op p ∷ fs) b = range_op m e p (stack_of fs b)
range_on m e (frame.Paren n ∷ fs) b = range_from m e (stack_of (frame.Paren n ∷ fs) b)
range_on m e (frame.Args c n h l ∷ fs) b = range_from m e (stack_of (frame.Args c n h l ∷ fs) b)
range_on m e (frame.Brace x n ∷ fs) b = range_from m e (stack_of (frame.Brace x n ∷ fs) b)
range_on m e (frame.Row n r c ∷ fs) b = range_from m e (stack_of (frame.Row n r c ∷ fs) b)
range_on m e [] b = range_from m e (stack_of [] b)

-- a colon: the first or the second of a range
unfoldable pub range : Mark → Held → Step
range m h = range_on m h.operand h.stack.frames h.stack.bottom

abbrev pub goal_step : Goal → Site → List Frame → Step
goal_step g site fs = Ok (state.Operand (stack_of fs (bottom.Goal g site)))

abbrev pub spread_to : Option (List (Option Target)) → Mark → Site → List Frame → Step
spread_to None m site fs = refused
spread_to (Some os) m site fs = goal_step (goal.Spread m os) site fs

abbrev pub assign_form : Form → Mark → Site → List Frame → Step
assign_form (form.Target t) m site fs = goal_step (goal.Into t m) site fs
assign_form (form.Row es) m site fs = spread_to (row_outputs [] es) m site fs
assign_form (form.Dotted n) m site fs = refused
assign_form (form.Skips ms t) m site fs = refused
assign_form form.Nothing m site fs = refused
assign_form (form.Tree e) m site fs = refused

abbrev pub assign_to : Operand → Site → List Frame → Step
assign_to e site fs = assign_form e.form e.mark site fs

abbrev pub assign_at : Operand → Option Site → List Frame → Step
assign_at e None fs = refused
assign_at e (Some site) fs = assign_to e site fs

-- `=` behind an operand
unfoldable pub assign : Operand → Stack → Step
assign e s = if not (is_empty s.frames) then refused else assign_at e (shown_site s.bottom) s.frames

abbrev pub is_nothing : Form → Bool
is_nothing form.Nothing = true
is_nothing (form.Target t) = false
is_nothing (form.Dotted n) = false
is_nothing (form.Skips ms t) = false
is_nothing (form.Row es) = false
is_nothing (form.Tree e) = false

-- an assignment that is done: `name(list) = []` is a deletion
abbrev pub assigned : Target → Operand → what.StmtKind
assigned (target.Indexed n es) e = if is_nothing e.form then what.Delete n es else what.Assign (target.Indexed n es) (tree e)
assigned (target.Whole n) e = what.Assign (target.Whole n) (tree e)
assigned (target.Braced n i) e = what.Assign (target.Braced n i) (tree e)

abbrev pub done : what.StmtKind → Mark → Done
done what m = record { kind = what; mark = m }

abbrev pub settle : Goal → Operand → Done
settle goal.Shown e = done (what.Eval (tree e)) e.mark
settle (goal.Into t m) e = done (assigned t e) m
settle (goal.Spread m os) e = done (what.AssignList os (tree e)) m

-- a statement behind those of its block
abbrev pub ended : Done → Bool → Site → Site
ended d show s = record { root = s.root; levels = s.levels; block = s.block ++ stmt d.kind d.mark.place show ∷ [] }

-- a separator behind a statement's or a header's expression
abbrev pub end_bottom : Bool → Operand → Bottom → Step
end_bottom show e (bottom.Goal g site) = Ok (state.Start (ended (settle g e) show site))
end_bottom show e (bottom.Lead l spot) = Ok (state.Start (enter (part.Headed (heading.Upto l (tree e))) spot))
end_bottom show e (bottom.Inner i spot) = refused
end_bottom show e (bottom.Outputs m p site) = refused

abbrev pub end_row_on : Bool → Operand → List Frame → Bottom → Step
end_row_on show e [] b = end_bottom show e b
end_row_on show e (frame.Row m r c ∷ fs) b = Ok (state.Operand (laid (frame.Row m (rows.filled r (rows.celled c e false)) None) (stack_of fs b)))
end_row_on show e (frame.Op p ∷ fs) b = refused
end_row_on show e (frame.Paren m ∷ fs) b = refused
end_row_on show e (frame.Args c m h l ∷ fs) b = refused
end_row_on show e (frame.Brace n m ∷ fs) b = refused

-- a semicolon or a line end
unfoldable pub end_row : Bool → Held → Step
end_row show h = end_row_on show h.operand h.stack.frames h.stack.bottom

-- behind a range: the bound of a `parfor` has to come
abbrev pub bound_by : Expr → Bottom → Step
bound_by r (bottom.Inner (inner.EachIn k.Parfor m n) spot) = Ok (state.Operand (stack_of [] (bottom.Inner (inner.Bound m n r) spot)))
bound_by r b = refused

abbrev pub end_inner : Inner → Spot → Operand → Step
end_inner (inner.EachIn k.Parfor m n) spot e = Ok (state.Operand (stack_of [] (bottom.Inner (inner.Bound m n (tree e)) spot)))
end_inner (inner.EachIn word m n) spot e = refused
end_inner (inner.Bound m n r) spot e = refused
end_inner (inner.Workers m) spot e = refused

abbrev pub end_header : Operand → Bottom → Step
end_header e (bottom.Inner i spot) = end_inner i spot e
end_header e (bottom.Goal g site) = end_bottom true e (bottom.Goal g site)
end_header e (bottom.Lead l spot) = end_bottom true e (bottom.Lead l spot)
end_header e (bottom.Outputs m p site) = end_bottom true e (bottom.Outputs m p site)

abbrev pub end_comma_on : Operand → List Frame → Bottom → Step
end_comma_on e [] b = end_header e b
end_comma_on e (frame.Args c m h l ∷ fs) b = Ok (state.Operand (laid (frame.Args c m h (Some (rows.argument l e))) (stack_of fs b)))
end_comma_on e (frame.Row m r c ∷ fs) b = Ok (state.Operand (laid (frame.Row m r (Some (rows.celled c e false))) (stack_of fs b)))
end_comma_on e (frame.Op p ∷ fs) b = refused
end_comma_on e (frame.Paren m ∷ fs) b = refused
end_comma_on e (frame.Brace n m ∷ fs) b = refused

unfoldable pub end_comma : Held → Step
end_comma h = end_comma_on h.operand h.stack.frames h.stack.bottom

-- a header with its expression
abbrev pub shut_by : Expr → Bottom → Step
shut_by v (bottom.Inner i spot) = Ok (state.Ready (heading.Shut i v) spot)
shut_by v (bottom.Goal g site) = refused
shut_by v (bottom.Lead l spot) = refused
shut_by v (bottom.Outputs m p site) = refused

abbrev pub close_header : Operand → Bottom → Step
close_header e b = shut_by (tree e) b

abbrev pub close_on : Operand → List Frame → Bottom → Step
close_on e [] b = close_header e b
close_on e (frame.Paren m ∷ fs) b = Ok (state.After (plain (tree e) m (plus 1 e.height)) (stack_of fs b))
close_on e (frame.Args c m h l ∷ fs) b = called c m h (rows.argument l e) (stack_of fs b)
close_on e (frame.Op p ∷ fs) b = refused
close_on e (frame.Brace n m ∷ fs) b = refused
close_on e (frame.Row m r c ∷ fs) b = refused

-- `)`, `]`, `}` behind an operand
unfoldable pub close : Held → Step
close h = close_on h.operand h.stack.frames h.stack.bottom

abbrev pub close_square_on : Operand → List Frame → Bottom → Step
close_square_on e (frame.Row m r c ∷ fs) b = Ok (state.After (rows.row_bracket m r (rows.celled c e false)) (stack_of fs b))
close_square_on e (frame.Op p ∷ fs) b = refused
close_square_on e (frame.Paren m ∷ fs) b = refused
close_square_on e (frame.Args c m h l ∷ fs) b = refused
close_square_on e (frame.Brace n m ∷ fs) b = refused
close_square_on e [] b = refused

unfoldable pub close_square : Held → Step
close_square h = close_square_on h.operand h.stack.frames h.stack.bottom

abbrev pub braced : Name → Mark → Operand → Operand
braced n m e = record { form = form.Target (target.Braced n (tree e)); mark = m; height = plus 1 e.height }

abbrev pub close_brace_on : Operand → List Frame → Bottom → Step
close_brace_on e (frame.Brace n m ∷ fs) b = answered (braced n m e) (stack_of fs b)
close_brace_on e (frame.Op p ∷ fs) b = refused
close_brace_on e (frame.Paren m ∷ fs) b = refused
close_brace_on e (frame.Args c m h l ∷ fs) b = refused
close_brace_on e (frame.Row m r c ∷ fs) b = refused
close_brace_on e [] b = refused

unfoldable pub close_brace : Held → Step
close_brace h = close_brace_on h.operand h.stack.frames h.stack.bottom

abbrev pub target_callee : Target → Option Callee
target_callee (target.Whole n) = Some (callee.Alone n)
target_callee (target.Braced n i) = Some (callee.Braced n i)
target_callee (target.Indexed n es) = None

-- what a list may stand behind
abbrev pub callee_of : Form → Option Callee
callee_of (form.Target t) = target_callee t
callee_of (form.Dotted n) = Some (callee.Dotted n)
callee_of (form.Skips ms t) = None
callee_of form.Nothing = None
callee_of (form.Row es) = None
callee_of (form.Tree e) = None

abbrev pub list_by : Option Callee → Mark → ℕ → Stack → Step
list_by None m h s = refused
list_by (Some c) m h s = roomy (has_room 1 s) (Ok (state.Operand (laid (frame.Args c m h None) s)))

unfoldable pub list_of : Operand → Stack → Step
list_of e s = list_by (callee_of e.form) e.mark e.height s

abbrev pub target_name : Target → Option Name
target_name (target.Whole n) = Some n
target_name (target.Braced n i) = None
target_name (target.Indexed n es) = None

-- a name alone
abbrev pub name_of : Form → Option Name
name_of (form.Target t) = target_name t
name_of (form.Dotted n) = None
name_of (form.Skips ms t) = None
name_of form.Nothing = None
name_of (form.Row es) = None
name_of (form.Tree e) = None

abbrev pub brace_by : Option Name → Mark → Stack → Step
brace_by None m s = refused
brace_by (Some n) m s = roomy (has_room 1 s) (Ok (state.Operand (laid (frame.Brace n m) s)))

unfoldable pub brace : Operand → Stack → Step
brace e s = brace_by (name_of e.form) e.mark s

abbrev pub target_has_state : Target → Bool
target_has_state (target.Whole n) = true
target_has_state (target.Indexed n es) = true
target_has_state (target.Braced n i) = false

-- a name without dots, or a call of one
abbrev pub has_state : Form → Bool
has_state (form.Target t) = target_has_state t
has_state (form.Dotted n) = false
has_state (form.Skips ms t) = false
has_state form.Nothing = false
has_state (form.Row es) = false
has_state (form.Tree e) = false

abbrev pub dot_behind : Operand → Stack → Step
dot_behind e s = if has_state e.form then Ok (state.Dot e s) else refused

-- a terminal that goes on with an expression, or ends it
unfoldable pub go_on : Word → Mark → Operand → Stack → Step
go_on (w.Binary o) m e s = operator o m e s
go_on w.Quote m e s = transpose m (reduce 10 e s)
go_on w.Colon m e s = range m (reduce 7 e s)
go_on w.Equal m e s = assign e s
go_on w.Comma m e s = end_comma (reduce 0 e s)
go_on w.Semicolon m e s = end_row false (reduce 0 e s)
go_on w.LineEnd m e s = end_row true (reduce 0 e s)
go_on w.Open m e s = list_of e s
go_on w.Close m e s = close (reduce 0 e s)
go_on w.CloseSquare m e s = close_square (reduce 0 e s)
go_on w.OpenBrace m e s = brace e s
go_on w.CloseBrace m e s = close_brace (reduce 0 e s)
go_on w.Dot m e s = dot_behind e s
go_on w.OpenSquare m e s = refused
go_on (w.Name n) m e s = refused
go_on (w.Chars cs) m e s = refused
go_on (w.Number z) m e s = refused
go_on w.Not m e s = refused
go_on w.At m e s = refused
go_on (w.Key word) m e s = refused

-- a word that begins an element of a row behind white space; `+` and `-` are another matter
abbrev pub begins_element : Word → Stack → Bool
begins_element (w.Name n) s = true
begins_element (w.Chars cs) s = true
begins_element (w.Number z) s = true
begins_element w.Not s = true
begins_element w.Open s = true
begins_element w.OpenSquare s = true
begins_element w.At s = true
begins_element (w.Key word) s = end_word word && in_index s.frames
begins_element word s = false

abbrev pub apart_on : Operand → List Frame → Bottom → Option Stack
apart_on e (frame.Row m r c ∷ fs) b = Some (laid (frame.Row m r (Some (rows.celled c e true))) (stack_of fs b))
apart_on e (frame.Op p ∷ fs) b = None
apart_on e (frame.Paren m ∷ fs) b = None
apart_on e (frame.Args c m h l ∷ fs) b = None
apart_on e (frame.Brace n m ∷ fs) b = None
apart_on e [] b = None

-- the element is done, and white space separates what comes
abbrev pub apart : Held → Option Stack
apart h = apart_on h.operand h.stack.frames h.stack.bottom

abbrev pub element_in : Option Stack → Word → Mark → Step
element_in None word m = refused
element_in (Some row) word m = read_operand word m row

unfoldable pub read_after : Word → Mark → Operand → Stack → Step
read_after word m e s = if not (begins_element word s && in_row s.frames && m.gap) then go_on word m e s else element_in (apart (reduce 0 e s)) word m

-- behind a `+` or `-` that had white space before it: it stands between operands, or before one
unfoldable pub untear_between : Bin → Mark → Held → Word → Mark → Step
untear_between o at h word m = roomy (has_room (plus 1 h.operand.height) h.stack) (read_operand word m (joining o at h.operand h.stack))

abbrev pub signed_in : Un → Mark → Option Stack → Word → Mark → Step
signed_in u at None word m = refused
signed_in u at (Some row) word m = read_operand word m (laid (frame.Op (op.Signed at u)) row)

unfoldable pub untear_before : Un → Mark → Held → Word → Mark → Step
untear_before u at h word m = signed_in u at (apart h) word m

unfoldable pub untear : Operand → Additive → Mark → Stack → Word → Mark → Step
untear e a at s word m = if m.gap then untear_between (bin_of a) at (reduce 7 e s) word m else untear_before (un_of a) at (reduce 0 e s) word m

-- ---- lists of arguments with a colon, names

abbrev pub colon_tree : Mark → Expr
colon_tree m = node kind.Colon m.place

abbrev pub colon_word : Word → Callee → Mark → ℕ → Listed → Stack → Step
colon_word w.Comma c m h l s = Ok (state.Operand (laid (frame.Args c m h (Some l)) s))
colon_word w.Close c m h l s = called c m h l s
colon_word word c m h l s = refused

abbrev pub colon_on : Word → Mark → List Frame → Bottom → Step
colon_on word n (frame.Args c m h l ∷ fs) b = colon_word word c m h (rows.listed l (colon_tree n) 0) (stack_of fs b)
colon_on word n (frame.Op p ∷ fs) b = refused
colon_on word n (frame.Paren m ∷ fs) b = refused
colon_on word n (frame.Brace x m ∷ fs) b = refused
colon_on word n (frame.Row m r c ∷ fs) b = refused
colon_on word n [] b = refused

unfoldable pub behind_colon : Word → Mark → Stack → Step
behind_colon word n s = colon_on word n s.frames s.bottom

abbrev pub named : List ℕ → Place → Name
named text p = record { text = text; place = p }

unfoldable pub behind_at : Word → Mark → Mark → Stack → Step
behind_at (w.Name n) m a s = Ok (state.After (plain (node (kind.Func (named n m.place)) m.place) a 0) s)
behind_at word m a s = refused

abbrev pub state_of : Operand → Operand
state_of e = plain (node (kind.StateOf (tree e)) e.mark.place) e.mark e.height

abbrev pub dotted_name : Form → Option Name
dotted_name (form.Target t) = target_name t
dotted_name (form.Dotted n) = Some n
dotted_name (form.Skips ms t) = None
dotted_name form.Nothing = None
dotted_name (form.Row es) = None
dotted_name (form.Tree e) = None

abbrev pub longer_name : Name → List ℕ → Name
longer_name n more = named (n.text ++ codes "." ++ more) n.place

abbrev pub dotted : Name → Mark → Operand
dotted n m = record { form = form.Dotted n; mark = m; height = 0 }

abbrev pub dot_by : Dots → Operand → Stack → Step
dot_by dots_.Whole e s = Ok (state.After e s)
dot_by dots_.Stem e s = Ok (state.Stemmed e s)
dot_by dots_.Neither e s = refused

abbrev pub dot_or : Name → Mark → Stack → Step
dot_or n m s = dot_by (dots n.text) (dotted n m) s

abbrev pub longer_by : Option Name → Mark → List ℕ → Stack → Step
longer_by None m more s = refused
longer_by (Some n) m more s = dot_or (longer_name n more) m s

abbrev pub longer : Operand → List ℕ → Stack → Step
longer e more s = longer_by (dotted_name e.form) e.mark more s

unfoldable pub behind_dot : Word → Operand → Stack → Step
behind_dot (w.Name n) e s = if is_state n then (if has_state e.form then Ok (state.After (state_of e) s) else refused) else longer e n s
behind_dot word e s = refused

abbrev pub behind_stem : Word → Operand → Stack → Step
behind_stem w.Dot e s = Ok (state.Dot e s)
behind_stem word e s = refused

-- ---- outputs that are no expressions

unfoldable pub read_output : Word → Mark → Mark → Outgoing → Site → Step
read_output (w.Name n) m o p site = Ok (state.OutputRead o p m (Some (target.Whole (named n m.place))) site)
read_output w.Not m o p site = roomy (outgoing_room p site) (Ok (state.OutputRead o p m None site))
read_output word m o p site = refused

abbrev pub with_output : Outgoing → Option Target → Outgoing
with_output p (Some t) = record { outputs = p.outputs ++ Some t ∷ []; run = 0 }
with_output p None = record { outputs = p.outputs ++ None ∷ []; run = plus 1 p.run }

abbrev pub output_frame : Bool → Mark → Name → Frame
output_frame true m n = frame.Brace n m
output_frame false m n = frame.Args (callee.Alone n) m 0 None

abbrev pub open_output : Bool → Mark → Name → Mark → Outgoing → Site → Step
open_output b m n o p site = roomy (outgoing_room p site) (Ok (state.Operand (stack_of (output_frame b m n ∷ []) (bottom.Outputs o p site))))

abbrev pub output_name : Option Target → Option Name
output_name None = None
output_name (Some t) = target_name t

abbrev pub bracket_by : Bool → Mark → Option Name → Mark → Outgoing → Site → Step
bracket_by b m None o p site = refused
bracket_by b m (Some n) o p site = open_output b m n o p site

abbrev pub bracket_output : Bool → Mark → Option Target → Mark → Outgoing → Site → Step
bracket_output b m t o p site = bracket_by b m (output_name t) o p site

unfoldable pub next_output : Word → Mark → Mark → Outgoing → Site → Step
next_output word m o p site = if m.gap then read_output word m o p site else refused

abbrev pub comma_output : Mark → Outgoing → Option Target → Site → Step
comma_output o p t site = Ok (state.Output o (record { outputs = (with_output p t).outputs; run = 0 }) site)

unfoldable pub behind_output : Word → Mark → Mark → Outgoing → Mark → Option Target → Site → Step
behind_output w.Comma m o p own t site = comma_output o p t site
behind_output w.CloseSquare m o p own t site = Ok (state.OutputsShut o (with_output p t).outputs site)
behind_output w.Open m o p own t site = if m.gap then refused else bracket_output false own t o p site
behind_output w.OpenBrace m o p own t site = bracket_output true own t o p site
behind_output word m o p own t site = next_output word m o (with_output p t) site

abbrev pub behind_outputs : Word → Mark → List (Option Target) → Site → Step
behind_outputs w.Equal o os site = Ok (state.Operand (stack_of [] (bottom.Goal (goal.Spread o os) site)))
behind_outputs word o os site = refused
