-- What a run shows on its way, and the log that a world keeps of it.
use Rattle.std.specs.Prelude.{◌≡◌, ℕ, ◌+◌, min, nat_le, List, ◌++◌, map, take, Bool, true, ℤ, Option, Some, option_map, Result, Ok, Err}
use Rattle.std.specs.Borrow.{GName}
use Rattle.pl_base.specs.declared.memory.Or.{Or}
use Rattle.pl_base.specs.declared.choice.Choice.{Choice}
use Rattle.pl_base.specs.declared.errors.Place.{Place}
use Rattle.pl_syntax.specs.declared.expr.Name.{Name}
use Rattle.pl_syntax.specs.declared.stmt.Stmt.{Stmt}
use Rattle.pl_values.specs.declared.value.Value.{Value}
use Rattle.pl_meaning.specs.declared.event.Event.{Event}
use Rattle.pl_meaning.specs.declared.event.Event.TheVariants.{Print}
use Rattle.pl_meaning.specs.declared.event.Loop.{Loop}
use Rattle.pl_meaning.specs.declared.event.Question.{Question}
use Rattle.pl_meaning.specs.declared.event.Answer.{Answer}
use Rattle.pl_meaning.specs.declared.halt.Stop.{Stop}

-- a workspace: the value of each slot, if it has one
abbrev pub Workspace : Type 0
Workspace = List (Option Value)

-- one thing that a run shows: a byte that it prints
pub data Trace : Type 0 where
  Byte : ℕ → Trace

-- a loop over workers that a run asks for: its scope, place, index and body, its index's first value and how many iterations
-- it has
pub record LoopQuestion : Type 0 where
  pub scope : ℕ
  pub place : Place
  pub index : Name
  pub body : List Stmt
  pub first : ℤ
  pub count : ℕ

-- a question of a run: a loop over workers; or an extra, by its number, with its operands and the count of its outputs
pub data Asked : Type 0 where
  OfLoop : LoopQuestion → Asked
  OfExtra : ℕ → List Value → ℕ → Asked

abbrev pub loop_question : Loop → LoopQuestion
loop_question l = record { scope = l.scope; place = l.place; index = l.index.now; body = l.body.now; first = l.first; count = l.count }

abbrev pub question_of : Question → Asked
question_of (Question.Loop l) = OfLoop (loop_question l)
question_of (Question.Extra number operands outputs) = OfExtra number operands outputs

-- what a question comes to: its answer, what the world keeps then for the questions that come, and the choices that are left
pub record Reply : Type 0 where
  pub answer : Answer
  pub kept : List Value
  pub left : List Choice

-- the rules of a run: what its world keeps, as values in an order of its own; and what answers a question of a run, from
-- what is kept, the workspace and the choices that are left. None where these choices aren't legal
pub record Rules : Type 0 where
  pub kept : List Value
  pub reply : List Value → Asked → Workspace → List Choice → Option Reply

-- the same rules, where this is kept
abbrev pub keeping : Rules → List Value → Rules
keeping rules kept = record rules { kept = kept }

-- what an event shows
abbrev pub shows : Event → List Trace
shows (Print text) = map Byte text

-- the choices under which a world answered; what it was shown, where it tells that; a count that rises where it answers
-- Stop; the reference through which it writes, if there is one; and the rules of its answers, with what it keeps for them
pub record Log : Type 0 where
  pub given : List Choice
  pub shown : Option (List Trace)
  pub stops : ℕ
  pub sink : Option GName
  pub rules : Rules

-- what was shown, and then more
abbrev pub grown : Option (List Trace) → List Trace → Option (List Trace)
grown told more = option_map (λ ts. ts ++ more) told

-- a count rose, or stands at the greatest of 64 bits, past which it can't be shown to rise
abbrev pub rose : ℕ → ℕ → Bool
rose old new = nat_le (min (old + 1) 18446744073709551615) new

-- a world that was told an event; one that stops may have taken a first part of it
abbrev pub Heard : Event → Result (Unit {0}) (Or Stop) → Log → Log → Type 0
Heard e (Ok u) old new = new ≡ record old { shown = grown old.shown (shows e) }
Heard e (Err (Or.Is s)) old new = (n : ℕ) × ((m : ℕ) × (rose old.stops m ≡ true) × (new ≡ record old { shown = grown old.shown (take n (shows e)); stops = m }))
Heard e (Err Or.Memory) old new = new ≡ old

-- a world that was asked a question: its answer is the one under these choices, whichever come behind them
abbrev pub Replies : Rules → Asked → Workspace → List Choice → Answer → List Value → Type 0
Replies rules q env taken a kept = (more : List Choice) → rules.reply rules.kept q env (taken ++ more) ≡ Some (record { answer = a; kept = kept; left = more })

abbrev pub Answered : Workspace → Asked → Result Answer (Or Stop) → Log → Log → Type 0
Answered env q (Ok a) old new = (taken : List Choice) × ((kept : List Value) × Replies old.rules q env taken a kept × (new ≡ record old { given = old.given ++ taken; rules = keeping old.rules kept }))
Answered env q (Err (Or.Is s)) old new = (m : ℕ) × (rose old.stops m ≡ true) × (new ≡ record old { stops = m })
Answered env q (Err Or.Memory) old new = new ≡ old
