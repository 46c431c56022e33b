-- What a loop over workers means. Each of its iterations is a run of the body by itself, from the workspace before the loop;
-- what they come to together is what each of them wrote, put into the variables one after another.
use Rattle.std.specs.Prelude.{ℕ, zero, suc, ◌+◌, ◌==◌, nat_le, nat_eq, ℤ, pos, ◌+ℤ◌, int_lt, List, [], ◌∷◌, ◌++◌, codes, slice_get, unwrap_or, Bool, true, false, not, ◌&&◌, is_some, Option, Some, None, Result, Ok, Err, if◌then◌else◌}
use Rattle.std.specs.List.{list_all, list_any, fold}
use Rattle.std.specs.Cmp.Lexicographic.{pointwise}
use Rattle.std.specs.Fmt.{signed_decimal}
use Rattle.pl_base.specs.declared.choice.Choice.{Choice}
use Rattle.pl_base.specs.declared.choice.Choice.TheVariants as choice
use Rattle.pl_base.specs.declared.errors.ErrKind.{ErrKind}
use Rattle.pl_base.specs.declared.errors.ErrKind.TheVariants.{MixedClass, WrongPlace}
use Rattle.pl_base.specs.declared.errors.ScriptError.{ScriptError}
use Rattle.pl_array.specs.declared.class.Class.{Class}
use Rattle.pl_array.specs.Arrays.{class_number}
use Rattle.pl_syntax.specs.declared.expr.Name.{Name}
use Rattle.pl_values.specs.declared.value.Value.{Value, out-Value}
use Rattle.pl_values.specs.declared.value.Value.TheOpen.{Value-F}
use Rattle.pl_values.specs.Workspaces.{value_at}
use Rattle.pl_operators.specs.declared.argument.Argument.{Argument}
use Rattle.pl_operators.specs.declared.argument.Argument.TheVariants.{Given}
use Rattle.pl_operators.specs.Operands.{and_then}
use Rattle.pl_operators.specs.Bracketing.{number_of}
use Rattle.pl_operators.specs.Picking.{select_value, assign_value}
use Rattle.pl_errors.specs.Errors.{message_of}
use Rattle.pl_resolve.specs.declared.resolved.Resolved.{Resolved}
use Rattle.pl_meaning.specs.declared.event.Answer.{Answer}
use Rattle.pl_meaning.specs.declared.event.Answer.TheVariants as answer
use Rattle.pl_meaning.specs.declared.event.ExtraAnswer.{ExtraAnswer}
use Rattle.pl_meaning.specs.declared.event.Output.{Output}
use Rattle.pl_meaning.specs.declared.event.Clash.{Clash}
use Rattle.pl_meaning.specs.declared.frame.Frame.{Frame}
use Rattle.pl_meaning.specs.Logs.{Workspace, Trace, Byte, LoopQuestion, Asked, OfLoop, OfExtra, Reply, Rules}
use Rattle.pl_meaning.specs.Names.{names_in, slot_of}
use Rattle.pl_meaning.specs.Running.{Outcome, Ending, Done, Raised, Asks}
use Rattle.pl_meaning.specs.Parts.{with_slot, written_in}
use Rattle.pl_meaning.specs.Runs.{run_of}

-- ## One iteration

-- where the statements of a body stand: away from the client
abbrev pub body_frame : LoopQuestion → Frame
body_frame q = record { client = false; scope = q.scope; given = 0; wanted = 0; ends = None }

-- an iteration asks no question that is answered
abbrev pub no_rules : Rules
no_rules = record { kept = []; reply = λ kept q env choices. None }

-- the workspace in which it begins: that before the loop, with its own value of the index
abbrev pub start_of : Resolved → LoopQuestion → Workspace → ℤ → Workspace
start_of program q env i = with_slot env (slot_of program (body_frame q) q.index.text) (number_of i)

-- the body by itself, with turns and levels of its own
unfoldable pub Iter : Resolved → ℕ → ℕ → LoopQuestion → Workspace → ℤ → Outcome
Iter program turns depth q env i = run_of program (body_frame q) q.body (start_of program q env i) turns depth no_rules []

-- the workspace at its end, where it doesn't raise
abbrev pub end_of : Ending → Option Workspace
end_of (Done env left) = Some env
end_of ending = None

-- the bytes that it prints
abbrev pub text_of : List Trace → List ℕ
text_of [] = []
text_of (Byte b ∷ ts) = b ∷ text_of ts

-- ## What it wrote

-- the places that were written, and what stands there behind the last assignment
pub record Write : Type 0 where
  pub at : List Argument
  pub value : Value

-- the places of an iteration: those that its value of the index names
abbrev pub own_places : ℤ → List Argument
own_places i = Given (number_of i) ∷ []

abbrev pub kept_at : List Argument → Result Value ErrKind → List Write
kept_at at (Ok v) = record { at = at; value = v } ∷ []
kept_at at (Err kind) = []

abbrev pub standing_at : List Argument → Option Value → List Write
standing_at at None = []
standing_at at (Some v) = kept_at at (select_value v at)

-- what an iteration with this end wrote to a variable
abbrev pub wrote : ℕ → ℤ → Option Workspace → List Write
wrote slot i None = []
wrote slot i (Some env) = standing_at (own_places i) (value_at env slot)

-- ## What all of them come to

-- an array of one class and another
abbrev pub is_mixed_with : Value-F Value → Value-F Value → Bool
is_mixed_with (Value-F.Array a) (Value-F.Array b) = not (class_number a.class == class_number b.class)
is_mixed_with a b = false

abbrev pub is_mixed : Option Value → Value → Bool
is_mixed None v = false
is_mixed (Some old) v = is_mixed_with (out-Value old) (out-Value v)

-- a variable after a write; one that is new with the loop takes cells of one class alone
abbrev pub put_in : Bool → Option Value → Write → Result Value ErrKind
put_in new old w = if new && is_mixed old w.value then Err MixedClass else assign_value old w.at w.value

abbrev pub put_all : Bool → Option Value → List Write → Result (Option Value) ErrKind
put_all new old [] = Ok old
put_all new old (w ∷ ws) = and_then (put_in new old w) (λ v. put_all new (Some v) ws)

-- a variable after all writes of a loop: what it had before, and what the iterations wrote, one after another
abbrev pub merged : Option Value → List Write → Result (Option Value) ErrKind
merged old ws = put_all (not (is_some old)) old ws

-- the values of the index, from one on
abbrev pub indices : ℤ → ℕ → List ℤ
indices first zero = []
indices first (suc n) = first ∷ indices (first +ℤ pos 1) n

-- the slots of these variables, each once
abbrev pub with_one : List ℕ → Option ℕ → List ℕ
with_one done None = done
with_one done (Some slot) = if list_any (λ s. s == slot) done then done else done ++ slot ∷ []

abbrev pub slots_from : Resolved → Frame → List ℕ → List Name → List ℕ
slots_from program f done [] = done
slots_from program f done (n ∷ more) = slots_from program f (with_one done (slot_of program f n.text)) more

abbrev pub written_slots : Resolved → LoopQuestion → List ℕ
written_slots program q = slots_from program (body_frame q) [] (written_in q.body)

-- a variable that came to this, before others: all of them, or the first of which the writes don't go together
abbrev pub output_of : ℕ → Result (Option Value) ErrKind → Result (List Output) Clash → Result (List Output) Clash
output_of slot (Err kind) more = Err (record { slot = slot; kind = kind })
output_of slot (Ok None) more = more
output_of slot (Ok (Some v)) (Err other) = Err other
output_of slot (Ok (Some v)) (Ok outs) = Ok (record { slot = slot; value = v } ∷ outs)

-- ## The answer under a choice

-- a bracketing of all iterations: runs that aren't empty, of pieces that aren't
abbrev pub is_run : List ℕ → Bool
is_run [] = false
is_run (n ∷ ns) = list_all (λ m. nat_le 1 m) (n ∷ ns)

abbrev pub counted_in : List (List ℕ) → ℕ
counted_in runs = fold (λ n run. fold (λ m k. m + k) n run) 0 runs

abbrev pub covers : List (List ℕ) → ℕ → Bool
covers runs count = list_all is_run runs && counted_in runs == count

-- a value of the loop's index
abbrev pub is_index : LoopQuestion → ℤ → Bool
is_index q i = not (int_lt i q.first) && int_lt i (q.first +ℤ pos q.count)

-- an error of an iteration, headed by its value of the index
abbrev pub headed : ℤ → ScriptError → ScriptError
headed i e = record e { text = codes "iteration " ++ signed_decimal i ++ codes ": " ++ e.text }

-- the error of writes that don't go together
abbrev pub name_at : Resolved → LoopQuestion → ℕ → List ℕ
name_at program q slot = unwrap_or (slice_get (names_in program q.scope) slot) []

abbrev pub clash_error : Resolved → LoopQuestion → Clash → ScriptError
clash_error program q c = record { kind = c.kind; place = q.place; text = codes "variable " ++ name_at program q c.slot ++ codes ": " ++ message_of c.kind }

-- the answer by an iteration that raised, if it did
abbrev pub by_fail : ℤ → Ending → Option Answer
by_fail i (Raised e left) = Some (answer.Raised (headed i e))
by_fail i ending = None

-- ## A loop

module _ (program : Resolved) (turns depth : ℕ) (q : LoopQuestion) (env : Workspace) where
  -- how an iteration ends
  abbrev pub ends_of : ℤ → Option Workspace
  ends_of i = end_of (Iter program turns depth q env i).ending

  abbrev pub all_done : List ℤ → Bool
  all_done is = list_all (λ i. is_some (ends_of i)) is

  -- the texts of iterations in order
  abbrev pub texts : List ℤ → List ℕ
  texts [] = []
  texts (i ∷ is) = text_of (Iter program turns depth q env i).shown ++ texts is

  -- what iterations wrote to a variable, in order
  abbrev pub writes : ℕ → List ℤ → List Write
  writes slot [] = []
  writes slot (i ∷ is) = wrote slot i (ends_of i) ++ writes slot is

  -- a variable after the loop
  abbrev pub after : List ℤ → ℕ → Result (Option Value) ErrKind
  after is slot = merged (value_at env slot) (writes slot is)

  abbrev pub outputs : List ℤ → List ℕ → Result (List Output) Clash
  outputs is [] = Ok []
  outputs is (slot ∷ slots) = output_of slot (after is slot) (outputs is slots)

  abbrev pub by_runs : Result (List Output) Clash → Option Answer
  by_runs (Ok outs) = Some (answer.Looped (record { text = texts (indices q.first q.count); outputs = outs }))
  by_runs (Err clash) = None

  abbrev pub by_merge : List ℕ → Result (List Output) Clash → Option Answer
  by_merge name (Ok outs) = None
  by_merge name (Err c) = if pointwise nat_eq name (name_at program q c.slot) then Some (answer.Raised (clash_error program q c)) else None

  abbrev pub come_to : Result (List Output) Clash
  come_to = outputs (indices q.first q.count) (written_slots program q)

  -- legal are: a bracketing, where no iteration raises and every variable's writes go together; an iteration that raises; and
  -- where none does, the first variable whose writes don't go together
  abbrev pub loop_answer : Choice → Option Answer
  loop_answer (choice.Runs b) = if covers b.runs q.count && all_done (indices q.first q.count) then by_runs come_to else None
  loop_answer (choice.Fail i) = if is_index q i then by_fail i (Iter program turns depth q env i).ending else None
  loop_answer (choice.Merge name) = if all_done (indices q.first q.count) then by_merge name come_to else None
  loop_answer c = None

-- ## The plain run: the body as one loop over one whole workspace, each pass from where the one before it left it, in an order
-- of the index's values. None where a pass raises

module _ (program : Resolved) (turns depth : ℕ) (q : LoopQuestion) where
  abbrev pub plain_on : (Workspace → Option Workspace) → Option Workspace → Option Workspace
  plain_on more None = None
  plain_on more (Some env) = more env

  abbrev pub plain : List ℤ → Workspace → Option Workspace
  plain [] env = Some env
  plain (i ∷ is) env = plain_on (plain is) (end_of (Iter program turns depth q env i).ending)

-- ## The rules of a session

abbrev pub reply_of : List Value → List Choice → Option Answer → Option Reply
reply_of kept more None = None
reply_of kept more (Some a) = Some (record { answer = a; kept = kept; left = more })

-- a loop is answered by its iterations, under the next choice
abbrev pub loop_reply : Resolved → ℕ → ℕ → List Value → LoopQuestion → Workspace → List Choice → Option Reply
loop_reply program turns depth kept q env [] = None
loop_reply program turns depth kept q env (c ∷ more) = reply_of kept more (loop_answer program turns depth q env c)

-- an extra is refused: nothing that is built so far brings one, and it takes no choice
abbrev pub no_extra : Answer
no_extra = answer.Extra (ExtraAnswer.Raised WrongPlace (message_of WrongPlace) None) [] 0

abbrev pub session_reply : Resolved → ℕ → ℕ → List Value → Asked → Workspace → List Choice → Option Reply
session_reply program turns depth kept (OfLoop q) env choices = loop_reply program turns depth kept q env choices
session_reply program turns depth kept (OfExtra number operands outputs) env choices = Some (record { answer = no_extra; kept = kept; left = choices })

unfoldable pub loop_rules : Resolved → ℕ → ℕ → Rules
loop_rules program turns depth = record { kept = []; reply = session_reply program turns depth }
