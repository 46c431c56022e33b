-- What a terminal does to a state. A terminal that no program has there is refused as Unexpected; one that only
-- room is wanting for as TooDeep; so whether there is room is asked last.
use Rattle.std.specs.Prelude.{ℕ, suc, ◌+◌, nat_le, Bool, true, false, not, ◌&&◌, if◌then◌else◌, Option, Some, None, Result, Ok, Err, List, [], ◌∷◌, length}
use Rattle.pl_syntax.specs.declared.expr.Bin.{Bin}
use Rattle.pl_grammar.specs.declared.fault.FaultKind.{FaultKind}
use Rattle.pl_grammar.specs.declared.fault.FaultKind.TheVariants.{Unexpected, MissingEnd, TooDeep, FunctionTwice}
use Rattle.pl_grammar.specs.declared.terminal.Terminal.{Terminal}
use Rattle.pl_grammar.specs.declared.terminal.Word.{Word}
use Rattle.pl_grammar.specs.declared.terminal.Word.TheVariants as w
use Rattle.pl_grammar.specs.declared.terminal.Keyword.{Keyword}
use Rattle.pl_grammar.specs.declared.terminal.Keyword.TheVariants as k
use Rattle.pl_grammar.specs.Words.{Mark, mark_of, Named, Additive, bin_of, Sign, additive, tilde, SepKind, comma, semicolon, line, Sep, additive_of, level, is_power, Use, tests, loops, direct, plain, leaves, ends, defines, unused, use_of, is_link, follows, Dots, whole, stem, neither, dots, is_state}
use Rattle.pl_grammar.specs.Derivations.{Head, alone, dotted, no_signs, more_signs, Comma, written, space, no_trail, trail, Ex, number, chars, bare, call, state, paren, rows, rows_to, func, last, under, transposed, joined, signed, from, stepped, Callee, head, braced, Args, no_args, listed, Elements, one, also, Item, value, colon, Rows, no_rows, broken, filled, Tgt, entire, indexed, in_braces, Output, to, skip, Outputs, only, beside, Goal, shown, into, spread, test, each, each_in, bound, workers, Heading, upto, shut, no_value, headed, unheaded, Smt, simple, delete, leave, compound, Block, empty, blank, statement, taken, ignored, Params, Listing, no_params, params, Outs, no_outs, single, several, no_list, given, Title, title, fun, Top, script, define, spaced, Prog, whole_of, unended}
use Rattle.pl_grammar.specs.Trees.{head_text, tgt_mark}
use Rattle.pl_grammar.specs.Nesting.{height}
use Rattle.pl_grammar.specs.Sound.{has_state, strength, may, opened_word, has_function}
use Rattle.pl_grammar.specs.Programs.{Rules}
use Rattle.pl_grammar.specs.Machine.{Pending, fresh, behind, Outgoing, fresh_outs, behind_outs, Waiting, fresh_params, behind_params, put, put_out, put_param, Site, main, body, within, Spot, here, linked, Stack, goal_of, lead_of, inner_of, outputs_of, op_of, paren_of, args_of, brace_of, row_of, Titling, begun_title, worded, outs_of, out_of, outs_shut, naming, entitled, params_of, param_of, titled, State, start, finished, operand, after, coloned, torn, at_sign, stemmed, dot, output, output_read, outputs_shut, loop, loop_in, index, index_in, ready, titling, between, site_nests, spot_site, outgoing_run, nests, in_row, in_index, scene, enter, is_open}

abbrev pub Step : Type 0
Step = Result State FaultKind

abbrev pub refused : Step
refused = Err Unexpected

-- the step, where there is room for it
abbrev pub roomy : Bool → Step → Step
roomy true s = s
roomy false (Ok st) = Err TooDeep
roomy false (Err f) = Err f

abbrev pub room : Rules → ℕ → Bool
room r n = nat_le n r.limit

-- ---- operators that are done

-- an operand, and the frames below it
pub record Held : Type 0 where
  pub operand : Ex
  pub stack : Stack

-- the operators on top that hold at least so strongly take the operand
abbrev pub reduce : ℕ → Ex → Stack → Held
reduce l e (op_of p S) = if nat_le l (strength p) then reduce l (under p e) S else record { operand = e; stack = op_of p S }
reduce l e (goal_of g site b) = record { operand = e; stack = goal_of g site b }
reduce l e (lead_of h spot) = record { operand = e; stack = lead_of h spot }
reduce l e (inner_of i spot) = record { operand = e; stack = inner_of i spot }
reduce l e (outputs_of m p site b) = record { operand = e; stack = outputs_of m p site b }
reduce l e (paren_of m S) = record { operand = e; stack = paren_of m S }
reduce l e (args_of c m p S) = record { operand = e; stack = args_of c m p S }
reduce l e (brace_of n m S) = record { operand = e; stack = brace_of n m S }
reduce l e (row_of m rs p S) = record { operand = e; stack = row_of m rs p S }

-- ---- targets and outputs

abbrev pub callee_tgt : Callee → Option Tgt
callee_tgt (head (alone n)) = Some (entire n)
callee_tgt (braced n m e z) = Some (in_braces n m e z)
callee_tgt c = None

-- the target that an expression may be
abbrev pub tgt_of : Ex → Option Tgt
tgt_of (bare c) = callee_tgt c
tgt_of (call (head (alone n)) m a z) = Some (indexed n m a z)
tgt_of e = None

-- an output behind others: white space alone separates it only where it has some before it
abbrev pub set_out : Outgoing → Bool → Output → Option Outputs
set_out fresh_outs gap o = Some (only o)
set_out (behind_outs os (written c)) gap o = Some (beside os (written c) o)
set_out (behind_outs os space) true o = Some (beside os space o)
set_out (behind_outs os space) false o = None

abbrev pub set_tgt : Outgoing → Option Tgt → Option Outputs
set_tgt p None = None
set_tgt p (Some t) = set_out p (tgt_mark t).gap (to t)

-- outputs, of which the last is `~` with white space alone behind it
abbrev pub pass : Option Outputs → (Outgoing → Option Outputs) → Option Outputs
pass None more = None
pass (Some os) more = more (behind_outs os space)

-- the outputs that an element of a row may be, behind others: `~ x` may be two
abbrev pub element_outputs : Outgoing → Ex → Option Outputs
element_outputs p (under (signed m tilde) e) = pass (set_out p m.gap (skip m)) (λ q. element_outputs q e)
element_outputs p e = set_tgt p (tgt_of e)

abbrev pub item_outputs : Outgoing → Item → Option Outputs
item_outputs p (value e) = element_outputs p e
item_outputs p (colon m) = None

abbrev pub behind_all : Option Outputs → Comma → (Outgoing → Option Outputs) → Option Outputs
behind_all None c more = None
behind_all (Some os) c more = more (behind_outs os c)

abbrev pub row_outputs : Elements → Option Outputs
row_outputs (one i) = item_outputs fresh_outs i
row_outputs (also es c i) = behind_all (row_outputs es) c (λ p. item_outputs p i)

abbrev pub pending_outputs : Pending → Option Outgoing
pending_outputs fresh = Some fresh_outs
pending_outputs (behind es c) = behind_now (row_outputs es) c
  where
    behind_now : Option Outputs → Comma → Option Outgoing
    behind_now None c = None
    behind_now (Some os) c = Some (behind_outs os c)

-- outputs behind `[`, and where their statement stands
pub record Outlist : Type 0 where
  pub mark : Mark
  pub outputs : Outgoing
  pub site : Site
  pub block : Block

abbrev pub outlist : Mark → Site → Block → Option Outgoing → Option Outlist
outlist m site b None = None
outlist m site b (Some p) = Some (record { mark = m; outputs = p; site = site; block = b })

abbrev pub skip_in : Mark → Outlist → Option Outputs → Option Outlist
skip_in m l None = None
skip_in m l (Some os) = Some (record { mark = l.mark; outputs = behind_outs os space; site = l.site; block = l.block })

abbrev pub skip_onto : Mark → Option Outlist → Option Outlist
skip_onto m None = None
skip_onto m (Some l) = skip_in m l (set_out l.outputs m.gap (skip m))

-- the outputs that frames may be: `[` at a statement's start, elements, and `~`
abbrev pub as_outputs : Stack → Option Outlist
as_outputs (row_of m no_rows p (goal_of shown site b)) = outlist m site b (pending_outputs p)
as_outputs (op_of (signed m tilde) S) = skip_onto m (as_outputs S)
as_outputs S = None

-- the same, where at least one `~` is on top
abbrev pub skipped : Stack → Option Outlist
skipped (op_of p S) = as_outputs (op_of p S)
skipped S = None

abbrev pub outputs_then : Option Outlist → (Mark → Outputs → Site → Block → State) → Step
outputs_then None go = refused
outputs_then (Some l) go = with_outputs l.outputs
  where
    with_outputs : Outgoing → Step
    with_outputs fresh_outs = refused
    with_outputs (behind_outs os c) = Ok (go l.mark os l.site l.block)

-- ---- an operand has to come

abbrev pub raise : Rules → Sign → Mark → Stack → Step
raise r s m S = roomy (room r (suc (nests S))) (Ok (operand (op_of (signed m s) S)))

-- a sign before an operand; a power's operand has its signs with it
abbrev pub sign : Rules → Sign → Mark → Stack → Step
sign r s m (op_of (joined a o n us) S) = if is_power o then roomy (room r (suc (nests (op_of (joined a o n us) S)))) (Ok (operand (op_of (joined a o n (more_signs us m s)) S))) else raise r s m (op_of (joined a o n us) S)
sign r s m S = raise r s m S

abbrev pub sign_of : Rules → Option Additive → Mark → Stack → Step
sign_of r None m S = refused
sign_of r (Some a) m S = sign r (additive a) m S

-- an operand that ends with this list: an output where the frames are those
abbrev pub called : Callee → Mark → Args → Mark → Stack → Step
called (head (alone n)) m a z (outputs_of o p site b) = Ok (output_read o p (to (indexed n m a z)) site b)
called c m a z S = Ok (after (call c m a z) S)

-- the same with braces
abbrev pub embraced : Named → Mark → Ex → Mark → Stack → Step
embraced n m e z (outputs_of o p site b) = Ok (output_read o p (to (in_braces n m e z)) site b)
embraced n m e z S = Ok (after (bare (braced n m e z)) S)

-- `)` where an operand has to come: the list is empty
abbrev pub close_empty : Mark → Stack → Step
close_empty z (args_of c m fresh S) = called c m no_args z S
close_empty z S = refused

-- `]` there
abbrev pub square_row : Mark → Rows → Pending → Stack → Mark → Step
square_row m rs fresh S z = Ok (after (rows m rs z) S)
square_row m rs (behind es (written c)) S z = Ok (after (rows_to m rs es (trail c) z) S)
square_row m rs (behind es space) S z = refused

abbrev pub square_empty : Mark → Stack → Step
square_empty z (row_of m rs p S) = square_row m rs p S z
square_empty z S = outputs_then (skipped S) (λ m os site b. outputs_shut m os z site b)

-- a row's end there
abbrev pub break_row : Mark → Rows → Pending → Stack → Sep → Step
break_row m rs fresh S s = Ok (operand (row_of m (broken rs s) fresh S))
break_row m rs (behind es (written c)) S s = Ok (operand (row_of m (filled rs es (trail c) s) fresh S))
break_row m rs (behind es space) S s = refused

abbrev pub break_empty : Sep → Stack → Step
break_empty s (row_of m rs p S) = break_row m rs p S s
break_empty s S = refused

-- a comma there: it can only follow a `~` that is an output
abbrev pub comma_empty : Mark → Stack → Step
comma_empty c S = outputs_then (skipped S) (λ m os site b. output m (behind_outs os (written c)) site b)

abbrev pub colon_arg : Mark → Stack → Step
colon_arg m (args_of c n p S) = Ok (coloned m (args_of c n p S))
colon_arg m S = refused

abbrev pub end_word : Keyword → Bool
end_word k.End = true
end_word word = false

abbrev pub read_operand : Rules → Word → Mark → Stack → Step
read_operand r (w.Name n) m S = Ok (after (bare (head (alone (record { mark = m; text = n })))) S)
read_operand r (w.Chars cs) m S = Ok (after (chars m cs) S)
read_operand r (w.Number z) m S = Ok (after (number m z) S)
read_operand r (w.Binary o) m S = sign_of r (additive_of o) m S
read_operand r w.Not m S = sign r tilde m S
read_operand r w.Quote m S = refused
read_operand r w.Equal m S = refused
read_operand r w.Colon m S = colon_arg m S
read_operand r w.Comma m S = comma_empty m S
read_operand r w.Semicolon m S = break_empty (record { kind = semicolon; mark = m }) S
read_operand r w.LineEnd m S = break_empty (record { kind = line; mark = m }) S
read_operand r w.Open m S = roomy (room r (suc (nests S))) (Ok (operand (paren_of m S)))
read_operand r w.Close m S = close_empty m S
read_operand r w.OpenSquare m S = roomy (room r (suc (nests S))) (Ok (operand (row_of m no_rows fresh S)))
read_operand r w.CloseSquare m S = square_empty m S
read_operand r w.OpenBrace m S = refused
read_operand r w.CloseBrace m S = refused
read_operand r w.At m S = Ok (at_sign m S)
read_operand r w.Dot m S = refused
read_operand r (w.Key word) m S = if end_word word && in_index S then Ok (after (last m) S) else refused

-- ---- an operand has come

abbrev pub join : Rules → Ex → Stack → Bin → Mark → Step
join r e S o m = roomy (room r (suc (height e + nests S))) (Ok (operand (op_of (joined e o m no_signs) S)))

-- behind white space in a row a `+` or `-` may belong to what comes
abbrev pub tear : Rules → Ex → Additive → Mark → Stack → Stack → Step
tear r e a m S row = roomy (room r (suc (nests row))) (Ok (torn e a m S))

abbrev pub operator : Rules → Bin → Option Additive → Mark → Ex → Stack → Step
operator r o None m e S = join r (reduce (level o) e S).operand (reduce (level o) e S).stack o m
operator r o (Some a) m e S = if in_row S && m.gap then tear r e a m S (reduce 0 e S).stack else join r (reduce (level o) e S).operand (reduce (level o) e S).stack o m

abbrev pub transpose : Rules → Mark → Ex → Stack → Step
transpose r m e S = roomy (room r (suc (height e + nests S))) (Ok (after (transposed e m) S))

-- a colon: the first or the second of a range
abbrev pub range : Rules → Mark → Ex → Stack → Step
range r m e (op_of (from a n) S) = Ok (operand (op_of (stepped a n e m) S))
range r m e (op_of (stepped a n b o) S) = refused
range r m e S = roomy (room r (suc (height e + nests S))) (Ok (operand (op_of (from e m) S)))

-- `=` behind a row at a statement's start: its elements are outputs
abbrev pub spread_to : Mark → Mark → Mark → Option Outputs → Site → Block → Step
spread_to m z q None site b = refused
spread_to m z q (Some os) site b = Ok (operand (goal_of (spread m os z q) site b))

abbrev pub assign_to : Mark → Option Tgt → Ex → Site → Block → Step
assign_to q (Some t) e site b = Ok (operand (goal_of (into t q) site b))
assign_to q None (rows_to m no_rows es no_trail z) site b = spread_to m z q (row_outputs es) site b
assign_to q None e site b = refused

abbrev pub assign : Mark → Ex → Stack → Step
assign q e (goal_of shown site b) = assign_to q (tgt_of e) e site b
assign q e S = refused

-- a simple statement that is done: `name(list) = []` is a deletion
abbrev pub settle : Goal → Ex → Smt
settle (into (indexed n m a z) q) (rows o no_rows y) = delete n m a z q o y
settle g e = simple g e

-- a separator behind a statement's or a header's expression
abbrev pub end_simple : Sep → Ex → Stack → Step
end_simple s e (goal_of g site b) = Ok (start site (statement b (settle g e) s))
end_simple s e (lead_of l spot) = Ok (start (enter (headed (upto l e) s) spot) empty)
end_simple s e S = refused

-- a semicolon or a line end
abbrev pub end_row : Sep → Ex → Stack → Step
end_row s e (row_of m rs p S) = Ok (operand (row_of m (filled rs (put p (value e)) no_trail s) fresh S))
end_row s e S = end_simple s e S

abbrev pub is_parfor : Keyword → Bool
is_parfor k.Parfor = true
is_parfor word = false

abbrev pub bound_of : Bool → Mark → Mark → Named → Mark → Ex → Mark → Spot → Step
bound_of true m o n q e c spot = Ok (operand (inner_of (bound m o n q e c) spot))
bound_of false m o n q e c spot = refused

abbrev pub end_comma : Mark → Ex → Stack → Step
end_comma c e (args_of f m p S) = Ok (operand (args_of f m (behind (put p (value e)) (written c)) S))
end_comma c e (row_of m rs p S) = Ok (operand (row_of m rs (behind (put p (value e)) (written c)) S))
end_comma c e (inner_of (each_in word m o n q) spot) = bound_of (is_parfor word) m o n q e c spot
end_comma c e S = end_simple (record { kind = comma; mark = c }) e S

abbrev pub close : Mark → Ex → Stack → Step
close z e (paren_of m S) = Ok (after (paren m e z) S)
close z e (args_of c m p S) = called c m (listed (put p (value e))) z S
close z e (inner_of i spot) = Ok (ready (shut i e z) spot)
close z e S = refused

abbrev pub close_square : Mark → Ex → Stack → Step
close_square z e (row_of m rs p S) = Ok (after (rows_to m rs (put p (value e)) no_trail z) S)
close_square z e S = refused

abbrev pub close_brace : Mark → Ex → Stack → Step
close_brace z e (brace_of n m S) = embraced n m e z S
close_brace z e S = refused

abbrev pub list_of : Rules → Mark → Ex → Stack → Step
list_of r m (bare c) S = roomy (room r (suc (nests S))) (Ok (operand (args_of c m fresh S)))
list_of r m e S = refused

abbrev pub brace : Rules → Mark → Ex → Stack → Step
brace r m (bare (head (alone n))) S = roomy (room r (suc (nests S))) (Ok (operand (brace_of n m S)))
brace r m e S = refused

abbrev pub dot_behind : Mark → Ex → Stack → Step
dot_behind m e S = if has_state e then Ok (dot e m S) else refused

abbrev pub go_on : Rules → Word → Mark → Ex → Stack → Step
go_on r (w.Binary o) m e S = operator r o (additive_of o) m e S
go_on r w.Quote m e S = transpose r m (reduce 10 e S).operand (reduce 10 e S).stack
go_on r w.Colon m e S = range r m (reduce 7 e S).operand (reduce 7 e S).stack
go_on r w.Equal m e S = assign m e S
go_on r w.Comma m e S = end_comma m (reduce 0 e S).operand (reduce 0 e S).stack
go_on r w.Semicolon m e S = end_row (record { kind = semicolon; mark = m }) (reduce 0 e S).operand (reduce 0 e S).stack
go_on r w.LineEnd m e S = end_row (record { kind = line; mark = m }) (reduce 0 e S).operand (reduce 0 e S).stack
go_on r w.Open m e S = list_of r m e S
go_on r w.Close m e S = close m (reduce 0 e S).operand (reduce 0 e S).stack
go_on r w.CloseSquare m e S = close_square m (reduce 0 e S).operand (reduce 0 e S).stack
go_on r w.OpenBrace m e S = brace r m e S
go_on r w.CloseBrace m e S = close_brace m (reduce 0 e S).operand (reduce 0 e S).stack
go_on r w.Dot m e S = dot_behind m e S
go_on r word m e S = refused

-- a word that begins an element of a row behind white space; `+` and `-` are another matter
abbrev pub begins_element : Word → Stack → Bool
begins_element (w.Name n) S = true
begins_element (w.Chars cs) S = true
begins_element (w.Number z) S = true
begins_element w.Not S = true
begins_element w.Open S = true
begins_element w.OpenSquare S = true
begins_element w.At S = true
begins_element (w.Key word) S = end_word word && in_index S
begins_element word S = false

-- the element is done, and white space separates what comes
abbrev pub apart : Ex → Stack → (Stack → Step) → Step
apart e (row_of m rs p S) go = go (row_of m rs (behind (put p (value e)) space) S)
apart e S go = refused

abbrev pub read_after : Rules → Word → Mark → Ex → Stack → Step
read_after r word m e S = if begins_element word S && (in_row S && m.gap) then apart (reduce 0 e S).operand (reduce 0 e S).stack (λ row. read_operand r word m row) else go_on r word m e S

-- behind a `+` or `-` that had white space before it
abbrev pub untear : Rules → Ex → Additive → Mark → Stack → Word → Mark → Step
untear r e a n S word m =
    if m.gap
    then roomy (room r (suc (height (reduce 7 e S).operand + nests (reduce 7 e S).stack))) (read_operand r word m (op_of (joined (reduce 7 e S).operand (bin_of a) n no_signs) (reduce 7 e S).stack))
    else apart (reduce 0 e S).operand (reduce 0 e S).stack (λ row. read_operand r word m (op_of (signed n (additive a)) row))

-- ---- lists of arguments with a colon, names

abbrev pub behind_colon : Word → Mark → Mark → Stack → Step
behind_colon w.Comma c m (args_of f n p S) = Ok (operand (args_of f n (behind (put p (colon m)) (written c)) S))
behind_colon w.Close z m (args_of f n p S) = called f n (listed (put p (colon m))) z S
behind_colon word c m S = refused

abbrev pub behind_at : Word → Mark → Mark → Stack → Step
behind_at (w.Name n) m a S = Ok (after (func a (record { mark = m; text = n })) S)
behind_at word m a S = refused

abbrev pub dot_or : Dots → Head → Stack → Step
dot_or whole h S = Ok (after (bare (head h)) S)
dot_or stem h S = Ok (stemmed h S)
dot_or neither h S = refused

abbrev pub longer : Ex → Mark → Named → Stack → Step
longer (bare (head h)) d n S = dot_or (dots (head_text (dotted h d n))) (dotted h d n) S
longer e d n S = refused

abbrev pub dot_name : Ex → Mark → Named → Stack → Step
dot_name e d n S = if is_state n.text then (if has_state e then Ok (after (state e d n.mark) S) else refused) else longer e d n S

abbrev pub behind_dot : Word → Mark → Ex → Mark → Stack → Step
behind_dot (w.Name n) m e d S = dot_name e d (record { mark = m; text = n }) S
behind_dot word m e d S = refused

abbrev pub behind_stem : Word → Mark → Head → Stack → Step
behind_stem w.Dot m h S = Ok (dot (bare (head h)) m S)
behind_stem word m h S = refused

-- ---- outputs that are no expressions

abbrev pub read_output : Rules → Word → Mark → Mark → Outgoing → Site → Block → Step
read_output r (w.Name n) m o p site b = Ok (output_read o p (to (entire (record { mark = m; text = n }))) site b)
read_output r w.Not m o p site b = roomy (room r (suc (outgoing_run p + suc (suc (site_nests site))))) (Ok (output_read o p (skip m) site b))
read_output r word m o p site b = refused

abbrev pub output_list : Rules → Mark → Mark → Outgoing → Output → Site → Block → Step
output_list r m o p (to (entire n)) site b = roomy (room r (suc (nests (outputs_of o p site b)))) (Ok (operand (args_of (head (alone n)) m fresh (outputs_of o p site b))))
output_list r m o p t site b = refused

abbrev pub output_brace : Rules → Mark → Mark → Outgoing → Output → Site → Block → Step
output_brace r m o p (to (entire n)) site b = roomy (room r (suc (nests (outputs_of o p site b)))) (Ok (operand (brace_of n m (outputs_of o p site b))))
output_brace r m o p t site b = refused

abbrev pub next_output : Rules → Word → Mark → Mark → Outputs → Site → Block → Step
next_output r word m o os site b = if m.gap then read_output r word m o (behind_outs os space) site b else refused

abbrev pub behind_output : Rules → Word → Mark → Mark → Outgoing → Output → Site → Block → Step
behind_output r w.Comma m o p t site b = Ok (output o (behind_outs (put_out p t) (written m)) site b)
behind_output r w.CloseSquare m o p t site b = Ok (outputs_shut o (put_out p t) m site b)
behind_output r w.Open m o p t site b = if m.gap then refused else output_list r m o p t site b
behind_output r w.OpenBrace m o p t site b = output_brace r m o p t site b
behind_output r word m o p t site b = next_output r word m o (put_out p t) site b

abbrev pub behind_outputs : Word → Mark → Mark → Outputs → Mark → Site → Block → Step
behind_outputs w.Equal q m os z site b = Ok (operand (goal_of (spread m os z q) site b))
behind_outputs word q m os z site b = refused

-- ---- statements

-- a word that separates statements
abbrev pub sep_kind : Word → Option SepKind
sep_kind w.Comma = Some comma
sep_kind w.Semicolon = Some semicolon
sep_kind w.LineEnd = Some line
sep_kind word = None

abbrev pub on_sep : Option SepKind → Mark → (Sep → Step) → Step
on_sep None m go = refused
on_sep (Some s) m go = go (record { kind = s; mark = m })

-- where a part with this keyword stands
abbrev pub link_spot : Keyword → Site → Block → Option Spot
link_spot word (within o site before) b = if follows (opened_word o) word then Some (linked o b site before) else None
link_spot word site b = None

abbrev pub spot_of : Keyword → Site → Block → Option Spot
spot_of word site b = if is_link word then link_spot word site b else (if (scene site).holds && may (scene site) word then Some (here site b) else None)

abbrev pub on_spot : Rules → Option Spot → (Spot → Step) → Step
on_spot r None go = refused
on_spot r (Some spot) go = roomy (room r (suc (site_nests (spot_site spot)))) (go spot)

abbrev pub leaving : Rules → Keyword → Mark → Site → Block → Step
leaving r word m site b = if (scene site).holds && may (scene site) word then roomy (room r (suc (site_nests site))) (Ok (finished (leave word m) site b)) else refused

-- `end` at a statement's place
abbrev pub ending : Mark → Site → Block → Step
ending m main b = refused
ending m (body t l s) b = Ok (between (define t (fun l s b m)))
ending m (within o site before) b = Ok (finished (compound o b m) site before)

abbrev pub defining : Mark → Site → Block → Step
defining m main b = Ok (titling (script b) (begun_title m))
defining m site b = refused

abbrev pub by_use : Rules → Use → Keyword → Mark → Site → Block → Step
by_use r tests word m site b = on_spot r (spot_of word site b) (λ spot. Ok (operand (lead_of (test word m) spot)))
by_use r loops word m site b = on_spot r (spot_of word site b) (λ spot. Ok (loop word m spot))
by_use r direct word m site b = on_spot r (spot_of word site b) (λ spot. Ok (start (enter (unheaded word m) spot) empty))
by_use r plain word m site b = on_spot r (spot_of word site b) (λ spot. Ok (ready (no_value word m) spot))
by_use r leaves word m site b = leaving r word m site b
by_use r ends word m site b = ending m site b
by_use r defines word m site b = defining m site b
by_use r unused word m site b = refused

-- an expression begins a statement
abbrev pub begin : Rules → Word → Mark → Site → Block → Step
begin r word m site b = if (scene site).holds then roomy (room r (suc (site_nests site))) (read_operand r word m (goal_of shown site b)) else refused

abbrev pub read_start : Rules → Word → Mark → Site → Block → Step
read_start r w.Comma m site b = Ok (start site (blank b (record { kind = comma; mark = m })))
read_start r w.Semicolon m site b = Ok (start site (blank b (record { kind = semicolon; mark = m })))
read_start r w.LineEnd m site b = Ok (start site (blank b (record { kind = line; mark = m })))
read_start r (w.Key word) m site b = by_use r (use_of word) word m site b
read_start r word m site b = begin r word m site b

-- ---- headers

abbrev pub behind_loop : Word → Mark → Keyword → Mark → Spot → Step
behind_loop (w.Name n) m word o spot = Ok (index word o (record { mark = m; text = n }) spot)
behind_loop w.Open m word o spot = Ok (loop_in word o m spot)
behind_loop other m word o spot = refused

abbrev pub behind_loop_in : Word → Mark → Keyword → Mark → Mark → Spot → Step
behind_loop_in (w.Name n) m word o p spot = Ok (index_in word o p (record { mark = m; text = n }) spot)
behind_loop_in other m word o p spot = refused

abbrev pub behind_index : Word → Mark → (Mark → State) → Step
behind_index w.Equal q go = Ok (go q)
behind_index other q go = refused

-- `spmd` may have its count of workers in parentheses
abbrev pub count_of : Mark → Heading → Spot → Step
count_of o (no_value k.Spmd m) spot = Ok (operand (inner_of (workers m o) spot))
count_of o h spot = refused

abbrev pub behind_heading : Word → Mark → Heading → Spot → Step
behind_heading w.Open m h spot = count_of m h spot
behind_heading word m h spot = on_sep (sep_kind word) m (λ s. Ok (start (enter (headed h s) spot) empty))

-- ---- functions

-- the function's name is known: it stands once
abbrev pub unique : Rules → List ℕ → Top → Step → Step
unique r text t s = if not r.twice && has_function text t then Err FunctionTwice else s

abbrev pub titled_end : Word → Mark → Top → Title → Step
titled_end word m t l = on_sep (sep_kind word) m (λ s. Ok (start (body t l s) empty))

abbrev pub behind_title : Word → Mark → Top → Mark → Outs → Named → Step
behind_title w.Open m t f o n = Ok (titling t (params_of f o n m fresh_params))
behind_title word m t f o n = titled_end word m t (title f o n no_list)

-- the fault of a name that stands twice, where the terminal goes on with the title
abbrev pub unless_twice : Rules → List ℕ → Top → Step → Step
unless_twice r text t (Err f) = Err f
unless_twice r text t (Ok st) = unique r text t (Ok st)

abbrev pub behind_word : Rules → Word → Mark → Top → Mark → Named → Step
behind_word r w.Equal m t f n = Ok (titling t (naming f (single n m)))
behind_word r word m t f n = unless_twice r n.text t (behind_title word m t f no_outs n)

abbrev pub read_title : Word → Mark → Top → Mark → Step
read_title (w.Name n) m t f = Ok (titling t (worded f (record { mark = m; text = n })))
read_title w.OpenSquare m t f = Ok (titling t (outs_of f m fresh_params))
read_title word m t f = refused

abbrev pub close_outs : Waiting → Mark → Top → Mark → Mark → Step
close_outs fresh_params z t f o = Ok (titling t (outs_shut f o no_params z))
close_outs p z t f o = refused

abbrev pub read_out : Word → Mark → Top → Mark → Mark → Waiting → Step
read_out (w.Name n) m t f o p = Ok (titling t (out_of f o (put_param p (taken (record { mark = m; text = n })))))
read_out w.CloseSquare m t f o p = close_outs p m t f o
read_out word m t f o p = refused

abbrev pub behind_out : Word → Mark → Top → Mark → Mark → Params → Step
behind_out w.Comma m t f o ps = Ok (titling t (outs_of f o (behind_params ps m)))
behind_out w.CloseSquare m t f o ps = Ok (titling t (outs_shut f o (params ps) m))
behind_out word m t f o ps = refused

abbrev pub behind_outs_shut : Word → Mark → Top → Mark → Mark → Listing → Mark → Step
behind_outs_shut w.Equal q t f o l z = Ok (titling t (naming f (several o l z q)))
behind_outs_shut word q t f o l z = refused

abbrev pub read_name : Rules → Word → Mark → Top → Mark → Outs → Step
read_name r (w.Name n) m t f o = unique r n t (Ok (titling t (entitled f o (record { mark = m; text = n }))))
read_name r word m t f o = refused

abbrev pub close_params : Waiting → Mark → Top → Mark → Outs → Named → Mark → Step
close_params fresh_params z t f o n m = Ok (titling t (titled (title f o n (given m no_params z))))
close_params p z t f o n m = refused

abbrev pub read_param : Word → Mark → Top → Mark → Outs → Named → Mark → Waiting → Step
read_param (w.Name x) m t f o n z p = Ok (titling t (param_of f o n z (put_param p (taken (record { mark = m; text = x })))))
read_param w.Not m t f o n z p = Ok (titling t (param_of f o n z (put_param p (ignored m))))
read_param w.Close m t f o n z p = close_params p m t f o n z
read_param word m t f o n z p = refused

abbrev pub behind_param : Word → Mark → Top → Mark → Outs → Named → Mark → Params → Step
behind_param w.Comma m t f o n z ps = Ok (titling t (params_of f o n z (behind_params ps m)))
behind_param w.Close m t f o n z ps = Ok (titling t (titled (title f o n (given z (params ps) m))))
behind_param word m t f o n z ps = refused

abbrev pub read_titling : Rules → Word → Mark → Top → Titling → Step
read_titling r word m t (begun_title f) = read_title word m t f
read_titling r word m t (worded f n) = behind_word r word m t f n
read_titling r word m t (outs_of f o p) = read_out word m t f o p
read_titling r word m t (out_of f o ps) = behind_out word m t f o ps
read_titling r word m t (outs_shut f o l z) = behind_outs_shut word m t f o l z
read_titling r word m t (naming f o) = read_name r word m t f o
read_titling r word m t (entitled f o n) = behind_title word m t f o n
read_titling r word m t (params_of f o n z p) = read_param word m t f o n z p
read_titling r word m t (param_of f o n z ps) = behind_param word m t f o n z ps
read_titling r word m t (titled l) = titled_end word m t l

abbrev pub behind_function : Word → Mark → Top → Step
behind_function (w.Key k.Function) m t = Ok (titling t (begun_title m))
behind_function word m t = on_sep (sep_kind word) m (λ s. Ok (between (spaced t s)))

-- ---- a step, and a run

abbrev pub on_word : Rules → State → Word → Mark → Step
on_word r (start site b) word m = read_start r word m site b
on_word r (finished s site b) word m = on_sep (sep_kind word) m (λ e. Ok (start site (statement b s e)))
on_word r (operand S) word m = read_operand r word m S
on_word r (after e S) word m = read_after r word m e S
on_word r (coloned c S) word m = behind_colon word m c S
on_word r (torn e a n S) word m = untear r e a n S word m
on_word r (at_sign a S) word m = behind_at word m a S
on_word r (stemmed h S) word m = behind_stem word m h S
on_word r (dot e d S) word m = behind_dot word m e d S
on_word r (output o p site b) word m = read_output r word m o p site b
on_word r (output_read o p t site b) word m = behind_output r word m o p t site b
on_word r (outputs_shut o os z site b) word m = behind_outputs word m o os z site b
on_word r (loop key o spot) word m = behind_loop word m key o spot
on_word r (loop_in key o p spot) word m = behind_loop_in word m key o p spot
on_word r (index key o n spot) word m = behind_index word m (λ q. operand (lead_of (each key o n q) spot))
on_word r (index_in key o p n spot) word m = behind_index word m (λ q. operand (inner_of (each_in key o p n q) spot))
on_word r (ready h spot) word m = behind_heading word m h spot
on_word r (titling t l) word m = read_titling r word m t l
on_word r (between t) word m = behind_function word m t

abbrev pub step : Rules → State → Terminal → Step
step r st t = on_word r st t.word (mark_of t)

-- why terminals are no program, and how many are left where the first stands that no program has there; none
-- where they end too early
pub record Refusal : Type 0 where
  pub kind : FaultKind
  pub left : ℕ

abbrev pub Answer : Type 0
Answer = Result Prog Refusal

-- the terminals end here
abbrev pub unfinished : State → Answer
unfinished st = Err (record { kind = if is_open st then MissingEnd else Unexpected; left = 0 })

abbrev pub end_after : Ex → Stack → Option Prog
end_after e (goal_of g main b) = Some (unended b (settle g e))
end_after e S = None

abbrev pub ended : State → Option Prog
ended (start main b) = Some (whole_of (script b))
ended (finished s main b) = Some (unended b s)
ended (after e S) = end_after (reduce 0 e S).operand (reduce 0 e S).stack
ended (between t) = Some (whole_of t)
ended st = None

abbrev pub finish_with : State → Option Prog → Answer
finish_with st (Some p) = Ok p
finish_with st None = unfinished st

abbrev pub finish : State → Answer
finish st = finish_with st (ended st)

abbrev pub onward : Step → (State → Answer) → ℕ → Answer
onward (Ok st) more left = more st
onward (Err kind) more left = Err (record { kind = kind; left = left })

-- the answer of a list of terminals, from a state on
abbrev pub run : Rules → State → List Terminal → Answer
run r st [] = finish st
run r st (t ∷ ts) = onward (step r st t) (λ next. run r next ts) (suc (length ts))
