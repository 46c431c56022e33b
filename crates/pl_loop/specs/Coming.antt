-- What a loop over workers has come to so far: its variables, each with the writes that are in it, and what the iterations to
-- come make of them.
use Rattle.std.specs.Prelude.{◌≡◌, ℕ, ◌==◌, ◌++◌, ℤ, List, [], ◌∷◌, Bool, not, is_some, Option, Some, None, Result, Ok, Err, if◌then◌else◌}
use Rattle.pl_base.specs.declared.choice.Choice.TheVariants as choice
use Rattle.pl_base.specs.declared.errors.ErrKind.{ErrKind}
use Rattle.pl_base.specs.declared.errors.ScriptError.{ScriptError}
use Rattle.pl_base.specs.declared.memory.NoMemory.{NoMemory}
use Rattle.pl_values.specs.declared.value.Value.{Value}
use Rattle.pl_values.specs.Workspaces.{value_at}
use Rattle.pl_operators.specs.Operands.{and_then}
use Rattle.pl_resolve.specs.declared.resolved.Resolved.{Resolved}
use Rattle.pl_syntax.specs.declared.expr.Name.{Name}
use Rattle.pl_meaning.specs.declared.event.Answer.TheVariants as answer
use Rattle.pl_meaning.specs.declared.event.Output.{Output}
use Rattle.pl_meaning.specs.declared.event.Clash.{Clash}
use Rattle.pl_meaning.specs.Logs.{Workspace, LoopQuestion}
use Rattle.pl_meaning.specs.Running.{Outcome, Done as Ended, Raised}
use Rattle.pl_meaning.specs.Loops.{Write, own_places, put_in, put_all, wrote, writes, text_of, texts, all_done, output_of, name_at, clash_error}
use Rattle.pl_loop.specs.declared.variables.Variable.{Variable}
use Rattle.pl_loop.specs.declared.running.Done.{Done}

-- the name, if there is one, as a list
abbrev pub maybe : Option Name → List Name
maybe None = []
maybe (Some n) = n ∷ []

-- ## Variables

-- a variable before the iterations
abbrev pub begun : Workspace → ℕ → Variable
begun env slot = record { slot = slot; fresh = not (is_some (value_at env slot)); come = Ok (value_at env slot) }

-- a variable behind one more write, where it has come to a value, or to none yet
abbrev pub put_one : Bool → Option Value → Write → Result (Option Value) ErrKind
put_one fresh old w = and_then (put_in fresh old w) (λ v. Ok (Some v))

-- a variable behind more writes
abbrev pub put_more : Bool → Result (Option Value) ErrKind → List Write → Result (Option Value) ErrKind
put_more fresh come ws = and_then come (λ old. put_all fresh old ws)

-- the write of what stands at an iteration's own place, if something does
abbrev pub option_writes : ℤ → Option Value → List Write
option_writes i None = []
option_writes i (Some v) = record { at = own_places i; value = v } ∷ []

-- a variable behind one more iteration, which ended with this workspace
abbrev pub joined : ℤ → Workspace → Variable → Variable
joined i end v = record { slot = v.slot; fresh = v.fresh; come = put_more v.fresh v.come (wrote v.slot i (Some end)) }

-- what variables come to by the writes that are still to come: all of them, or the first of which the writes don't go together
abbrev pub outputs_by : (ℕ → List Write) → List Variable → Result (List Output) Clash
outputs_by more [] = Ok []
outputs_by more (v ∷ vs) = output_of v.slot (put_more v.fresh v.come (more v.slot)) (outputs_by more vs)

-- nothing is written any more
abbrev pub no_writes : ℕ → List Write
no_writes slot = []

-- variables that are done, before others
abbrev pub outputs_before : List Output → Result (List Output) Clash → Result (List Output) Clash
outputs_before outs (Ok more) = Ok (outs ++ more)
outputs_before outs (Err clash) = Err clash

-- ## Iterations

-- an iteration that is done, or that raised; the text so far grew by what it printed
abbrev pub Ran : Outcome → Result (Result Workspace ScriptError) NoMemory → List ℕ → List ℕ → Type 0
Ran o (Ok (Ok end)) old new = (o.ending ≡ Ended end []) × (new ≡ old ++ text_of o.shown)
Ran o (Ok (Err e)) old new = o.ending ≡ Raised e []
Ran o (Err e) old new = Unit {0}

module _ (program : Resolved) (turns depth : ℕ) (q : LoopQuestion) (env : Workspace) where
  -- of all iterations some are to come still: what all come to is what these come to behind the text and the variables so far
  pub record Stands (all rest : List ℤ) (first : List Variable) (text : List ℕ) (now : List Variable) : Type 0 where
    pub done : all_done program turns depth q env all ≡ all_done program turns depth q env rest
    pub told : texts program turns depth q env all ≡ text ++ texts program turns depth q env rest
    pub put : outputs_by (λ slot. writes program turns depth q env slot all) first ≡ outputs_by (λ slot. writes program turns depth q env slot rest) now

-- ## The answer

-- all iterations as one run of one piece
abbrev pub whole : ℕ → List (List ℕ)
whole count = if count == 0 then [] else (count ∷ []) ∷ []

-- a loop of which no iteration raised
abbrev pub ending_of : Resolved → LoopQuestion → List ℕ → Result (List Output) Clash → Done
ending_of program q text (Ok outs) = record { choice = choice.Runs (record { runs = whole q.count }); answer = answer.Looped (record { text = text; outputs = outs }) }
ending_of program q text (Err c) = record { choice = choice.Merge (name_at program q c.slot); answer = answer.Raised (clash_error program q c) }
