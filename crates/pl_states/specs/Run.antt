-- A terminal by the state, the end of the terminals, and whole runs of the parser.
use Rattle.std.specs.Prelude.{◌≡◌, ℕ, suc, Bool, true, false, not, if◌then◌else◌, Option, Some, None, Result, Ok, Err, List, [], ◌∷◌, length}
use Rattle.pl_base.specs.declared.memory.Or.{Or}
use Rattle.pl_base.specs.declared.memory.Or.TheVariants as or
use Rattle.pl_syntax.specs.declared.stmt.Stmt.{Stmt}
use Rattle.pl_syntax.specs.declared.stmt.Program.{Program}
use Rattle.pl_grammar.specs.declared.fault.FaultKind.{FaultKind}
use Rattle.pl_grammar.specs.declared.fault.FaultKind.TheVariants.{Unexpected, MissingEnd}
use Rattle.pl_grammar.specs.declared.terminal.Terminal.{Terminal}
use Rattle.pl_grammar.specs.declared.terminal.Word.{Word}
use Rattle.pl_frames.specs.declared.operand.Mark.{Mark}
use Rattle.pl_frames.specs.declared.operand.Operand.{Operand}
use Rattle.pl_frames.specs.declared.stack.Root.{Root}
use Rattle.pl_frames.specs.declared.stack.Root.TheVariants as root
use Rattle.pl_frames.specs.declared.stack.Site.{Site}
use Rattle.pl_frames.specs.declared.stack.Lead.TheVariants as lead
use Rattle.pl_frames.specs.declared.stack.Inner.TheVariants as inner
use Rattle.pl_frames.specs.declared.stack.Bottom.{Bottom}
use Rattle.pl_frames.specs.declared.stack.Bottom.TheVariants as bottom
use Rattle.pl_frames.specs.declared.stack.Done.{Done}
use Rattle.pl_frames.specs.declared.state.State.{State}
use Rattle.pl_frames.specs.declared.state.State.TheVariants as state
use Rattle.pl_frames.specs.declared.reducing.Held.{Held}
use Rattle.pl_states.specs.declared.parser.Refusal.{Refusal}
use Rattle.pl_frames.specs.Piles.{is_empty}
use Rattle.pl_frames.specs.Below.{site_open, stack_open}
use Rattle.pl_frames.specs.Reduce.{reduce}
use Rattle.pl_steps.specs.Steps.{Step, refused, read_operand, read_after, behind_colon, untear, behind_at, behind_stem, behind_dot, read_output, behind_output, behind_outputs, settle, ended as ended_statement}
use Rattle.pl_states.specs.Statements.{read_start, behind_statement, behind_loop, behind_loop_in, behind_index, behind_heading, site_of}
use Rattle.pl_states.specs.Titles.{read_titling, behind_function}

-- in a header or between functions
unfoldable pub on_rest : State → Word → Mark → Step
on_rest (state.Loop key o spot) word m = behind_loop word m key o spot
on_rest (state.LoopIn key o spot) word m = behind_loop_in word m key o spot
on_rest (state.Index key o n spot) word m = behind_index word (bottom.Lead (lead.Each key o n) spot)
on_rest (state.IndexIn key o n spot) word m = behind_index word (bottom.Inner (inner.EachIn key o n) spot)
on_rest (state.Ready h spot) word m = behind_heading word h spot
on_rest (state.Titling t l) word m = read_titling word m t l
on_rest (state.Between t) word m = behind_function word t
on_rest st word m = refused

-- a terminal, by the state
unfoldable pub on_word : State → Word → Mark → Step
on_word (state.Start site) word m = read_start word m site
on_word (state.Finished d site) word m = behind_statement word d site
on_word (state.Operand s) word m = read_operand word m s
on_word (state.After e s) word m = read_after word m e s
on_word (state.Coloned c s) word m = behind_colon word c s
on_word (state.Torn e a o s) word m = untear e a o s word m
on_word (state.AtSign a s) word m = behind_at word m a s
on_word (state.Stemmed e s) word m = behind_stem word e s
on_word (state.Dot e s) word m = behind_dot word e s
on_word (state.Output o p site) word m = read_output word m o p site
on_word (state.OutputRead o p own t site) word m = behind_output word m o p own t site
on_word (state.OutputsShut o os site) word m = behind_outputs word o os site
on_word (state.Loop key o spot) word m = on_rest (state.Loop key o spot) word m
on_word (state.LoopIn key o spot) word m = on_rest (state.LoopIn key o spot) word m
on_word (state.Index key o n spot) word m = on_rest (state.Index key o n spot) word m
on_word (state.IndexIn key o n spot) word m = on_rest (state.IndexIn key o n spot) word m
on_word (state.Ready h spot) word m = on_rest (state.Ready h spot) word m
on_word (state.Titling t l) word m = on_rest (state.Titling t l) word m
on_word (state.Between t) word m = on_rest (state.Between t) word m

abbrev pub step : State → Terminal → Step
step st t = on_word st t.word (record { gap = t.gap; place = t.place })

-- an `end` has to come
unfoldable pub is_open : State → Bool
is_open (state.Start site) = site_open site
is_open (state.Finished d site) = site_open site
is_open (state.Operand s) = stack_open s
is_open (state.After e s) = stack_open s
is_open (state.Coloned c s) = stack_open s
is_open (state.Torn e a o s) = stack_open s
is_open (state.AtSign a s) = stack_open s
is_open (state.Stemmed e s) = stack_open s
is_open (state.Dot e s) = stack_open s
is_open (state.Output o p site) = site_open site
is_open (state.OutputRead o p own t site) = site_open site
is_open (state.OutputsShut o os site) = site_open site
is_open (state.Between t) = false
is_open st = true

-- ---- the end of the terminals

abbrev pub script_of : Root → List Stmt → Option Program
script_of root.Script b = Some (record { body = b; functions = [] })
script_of (root.Function t l) b = None

-- the program of a script without functions, if no statement is open
abbrev pub script : Site → Option Program
script s = if not (is_empty s.levels) then None else script_of s.root s.block

abbrev pub unended : Done → Site → Option Program
unended d s = script (ended_statement d true s)

abbrev pub end_bottom : Operand → Bottom → Option Program
end_bottom e (bottom.Goal g site) = unended (settle g e) site
end_bottom e (bottom.Lead l spot) = None
end_bottom e (bottom.Inner i spot) = None
end_bottom e (bottom.Outputs m p site) = None

abbrev pub end_after : Held → Option Program
end_after h = if not (is_empty h.stack.frames) then None else end_bottom h.operand h.stack.bottom

-- the program, where the terminals may end
unfoldable pub ended : State → Option Program
ended (state.Start site) = script site
ended (state.Finished d site) = unended d site
ended (state.After e s) = end_after (reduce 0 e s)
ended (state.Between t) = Some (record { body = t.body; functions = t.functions })
ended st = None

abbrev pub Answer : Type 0
Answer = Result Program Refusal

abbrev pub finish_with : Bool → Option Program → Answer
finish_with inside (Some p) = Ok p
finish_with inside None = Err (record { kind = (if inside then MissingEnd else Unexpected); left = 0 })

-- the terminals end here
abbrev pub finish : State → Answer
finish st = finish_with (is_open st) (ended st)

abbrev pub onward : Step → (State → Answer) → ℕ → Answer
onward (Ok st) more left = more st
onward (Err kind) more left = Err (record { kind = kind; left = left })

-- the answer of terminals, from a state on
abbrev pub run : State → List Terminal → Answer
run st [] = finish st
run st (t ∷ ts) = onward (step st t) (λ next. run next ts) (suc (length ts))

abbrev pub beginning : State
beginning = state.Start (site_of root.Script [] [])

-- a call found the answer, or memory was wanting
abbrev pub Answers : Result Program (Or Refusal) → Answer → Type 0
Answers (Ok p) a = a ≡ Ok p
Answers (Err or.Memory) a = Unit {0}
Answers (Err (or.Is r)) a = a ≡ Err r
