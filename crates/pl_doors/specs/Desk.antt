-- The rules of a desk: a world that answers two extras.
use Rattle.std.specs.Prelude.{◌≡◌, ℕ, zero, suc, ◌+◌, List, [], ◌∷◌, length, map, codes, pos, Bool, Option, Some, None, Result, Ok, Err}
use Rattle.pl_base.specs.declared.choice.Choice.{Choice}
use Rattle.pl_base.specs.declared.errors.Place.{Place}
use Rattle.pl_base.specs.declared.errors.ErrKind.TheVariants.{User}
use Rattle.pl_base.specs.declared.errors.ScriptError.{ScriptError}
use Rattle.pl_base.specs.declared.memory.NoMemory.{NoMemory}
use Rattle.pl_values.specs.declared.value.Value.{Value}
use Rattle.pl_operators.specs.Bracketing.{number_of}
use Rattle.pl_meaning.specs.declared.event.Answer.{Answer}
use Rattle.pl_meaning.specs.declared.event.ExtraAnswer.{ExtraAnswer}
use Rattle.pl_meaning.specs.declared.frame.Frame.{Frame}
use Rattle.pl_meaning.specs.Logs.{Workspace, Asked, OfLoop, OfExtra, Reply, Rules, Byte}
use Rattle.pl_meaning.specs.Running.{Outcome, Ending, Done, Raised}
use Rattle.pl_doors.specs.declared.trying.Tried.{Tried}

-- the extra 0 makes a job, and says so; each job starts two calls
abbrev pub made : ℕ → Answer
made job = Answer.Extra (ExtraAnswer.Values (Value.Opaque 1 job ∷ [])) (codes "made\n") 2

-- a place far from any script
abbrev pub far : Place
far = record { line = 9; col = 9; at = 0 }

-- the extra 1 tells how many operands it has; one alone is an error that has a place
abbrev pub told : ℕ → Answer
told (suc zero) = Answer.Extra (ExtraAnswer.Raised User (codes "alone") (Some far)) [] 0
told count = Answer.Extra (ExtraAnswer.Values (number_of (pos count) ∷ [])) [] 0

-- what is kept has a value for each job that was made
abbrev pub reply_at : List Value → ℕ → List Value → List Choice → Option Reply
reply_at kept zero operands choices = Some (record { answer = made (length kept + 1); kept = Value.Pool ∷ kept; left = choices })
reply_at kept (suc zero) operands choices = Some (record { answer = told (length operands); kept = kept; left = choices })
reply_at kept (suc (suc number)) operands choices = None

-- it answers no loop
abbrev pub desk_reply : List Value → Asked → Workspace → List Choice → Option Reply
desk_reply kept (OfLoop q) env choices = None
desk_reply kept (OfExtra number operands outputs) env choices = reply_at kept number operands choices

abbrev pub desk_rules : List Value → Rules
desk_rules kept = record { kept = kept; reply = desk_reply }

-- where the statements of a script stand, on the client or away from it
abbrev pub place_of : Bool → Frame
place_of client = record { client = client; scope = 0; given = 0; wanted = 0; ends = None }

-- how a run ends: with this error, if it has one
abbrev pub IsEnd : Ending → Option ScriptError → Type 0
IsEnd ending None = (env : Workspace) × (ending ≡ Done env [])
IsEnd ending (Some e) = ending ≡ Raised e []

-- a script that was tried: all that its run prints, and how the run ends
abbrev pub Tries : Outcome → Result Tried NoMemory → Type 0
Tries o (Ok t) = (map Byte t.text.items ≡ o.shown) × IsEnd o.ending t.error
Tries o (Err e) = Unit {0}
