-- The doors of the language: what its client asks the world for, though the language doesn't have it. A table of the program
-- has the texts of these extras.
use Rattle.std.specs.Prelude.{ℕ, ◌+◌, min, List, [], ◌∷◌, codes, Bool, true, false, not, ◌&&◌, ◌||◌, Option, Some, None, is_none, unwrap_or}
use Rattle.std.specs.List.{list_any}
use Rattle.pl_base.specs.declared.errors.Place.{Place}
use Rattle.pl_base.specs.declared.errors.ErrKind.TheVariants.{WrongPlace}
use Rattle.pl_values.specs.declared.value.Value.{Value, out-Value}
use Rattle.pl_values.specs.declared.value.Value.TheOpen.{Value-F}
use Rattle.pl_operators.specs.declared.argument.Argument.{Argument}
use Rattle.pl_operators.specs.declared.argument.Argument.TheVariants.{Colon, Given}
use Rattle.pl_resolve.specs.declared.resolved.Resolved.{Resolved}
use Rattle.pl_resolve.specs.Functions.{function_names, place_in}
use Rattle.pl_meaning.specs.declared.event.Answer.{Answer}
use Rattle.pl_meaning.specs.declared.event.ExtraAnswer.{ExtraAnswer}
use Rattle.pl_meaning.specs.declared.event.ExtraAnswer.TheVariants.{Values, Raised}
use Rattle.pl_meaning.specs.declared.event.Event.TheVariants.{Print}
use Rattle.pl_meaning.specs.declared.known.Known.{Known}
use Rattle.pl_meaning.specs.Known.{known_of}
use Rattle.pl_meaning.specs.Logs.{OfExtra}
use Rattle.pl_meaning.specs.Running.{Running, pure, raise, ◌>>=◌, tell, ask}
use Rattle.pl_meaning.specs.Accesses.{fail, take_turn}

-- ## Which operations ask

-- a value that lies outside of the client: a whole codistributed array, or a value that no other kind names
abbrev pub is_remote_at : Value-F Value → Bool
is_remote_at (Value-F.Whole parts) = true
is_remote_at (Value-F.Opaque kind number) = true
is_remote_at v = false

abbrev pub is_remote : Value → Bool
is_remote v = is_remote_at (out-Value v)

abbrev pub any_remote : List Value → Bool
any_remote vs = list_any is_remote vs

-- the number of the extra with this text
abbrev pub extra_of : Resolved → List ℕ → Option ℕ
extra_of program text = place_in program.extras text

-- a door is open where an operation asks
abbrev pub open_where : Bool → Option ℕ → Option ℕ
open_where true extra = extra
open_where false extra = None

-- an operator asks on the client, where an operand is remote and the table has its sign
abbrev pub operator_door : Resolved → Bool → List ℕ → List Value → Option ℕ
operator_door program client sign vs = open_where (client && any_remote vs) (extra_of program sign)

-- and so does a function of the language; one that stands in the table of extras alone asks on the client with any operands
abbrev pub is_lone : List ℕ → Option Known → Bool
is_lone name None = is_none (place_in function_names name)
is_lone name (Some f) = false

abbrev pub function_door : Resolved → Bool → List ℕ → List Value → Option ℕ
function_door program client name vs = open_where (client && (is_lone name (known_of name) || any_remote vs)) (extra_of program name)

-- so does an indexed read without a colon, whose operands are the variable's value and the positions
abbrev pub given_in : List Argument → List Value
given_in [] = []
given_in (Colon ∷ more) = given_in more
given_in (Given v ∷ more) = v ∷ given_in more

abbrev pub is_colon : Argument → Bool
is_colon Colon = true
is_colon (Given v) = false

abbrev pub read_operands : Option Value → List Argument → List Value
read_operands None list = given_in list
read_operands (Some v) list = v ∷ given_in list

abbrev pub is_remote_read : Value → List Argument → Bool
is_remote_read v list = not (list_any is_colon list) && any_remote (v ∷ given_in list)

abbrev pub read_door : Resolved → Bool → Option Value → List Argument → Option ℕ
read_door program client None list = None
read_door program client (Some v) list = open_where (client && is_remote_read v list) (extra_of program (codes "()"))

-- an operation by its door: it asks, by the number of the extra; or it does what the language says
abbrev pub by_door : {A : Type 0} → Option ℕ → (ℕ → Running A) → Running A → Running A
by_door None asks shut = shut
by_door (Some number) asks shut = asks number

-- ## What it is to ask

-- so many calls are counted with those that were started before; no more are counted than a session may start
abbrev pub counted : ℕ → ℕ → ℕ
counted calls more = min (calls + more) 100000

unfoldable pub count_calls : ℕ → Running (Unit {0})
count_calls more = λ k h s. k tt (record s { calls = counted s.calls more })

-- the outputs, or the error: at its own place, if it has one
abbrev pub replied : Place → ExtraAnswer → Running (List Value)
replied place (Values vs) = pure vs
replied place (Raised kind text at) = raise (record { kind = kind; place = unwrap_or at place; text = text })

-- an answer: its text is printed, then its calls are counted, and then its outputs are used
abbrev pub heard : Place → Answer → Running (List Value)
heard place (Answer.Extra reply text calls) = tell (Print text) >>= (λ u. count_calls calls >>= (λ w. replied place reply))
heard place answer = fail WrongPlace place

-- a turn, the question, and its answer
unfoldable pub extra : Place → ℕ → List Value → ℕ → Running (List Value)
extra place number vs nout = take_turn place >>= (λ u. ask (OfExtra number vs nout) >>= (λ a. heard place a))
