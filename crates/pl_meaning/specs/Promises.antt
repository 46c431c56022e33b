-- What a function promises that carries out a part.
use Rattle.std.specs.Prelude.{◌≡◌, ℕ, Result, Ok, Err, IfOk, List, [], Bool, true, false, take, drop, length, Option, Some, None, option_map}
use Rattle.std.specs.Borrow.{GName}
use Rattle.pl_base.specs.declared.errors.ErrKind.{ErrKind}
use Rattle.pl_base.specs.declared.errors.ScriptError.{ScriptError}
use Rattle.pl_base.specs.declared.memory.Or.{Or}
use Rattle.pl_base.specs.declared.choice.Choice.{Choice}
use Rattle.pl_meaning.specs.declared.halt.Halt.{Halt}
use Rattle.pl_meaning.specs.declared.memory.Memory.{Memory}
use Rattle.pl_meaning.specs.Logs.{Workspace, Trace, Log, grown, rose}
use Rattle.pl_meaning.specs.Running.{Outcome, Ending, Done, Rest, Running}

-- where a part that is carried out stands
pub record At : Type 0 where
  pub env : Workspace
  pub turns : ℕ
  pub calls : ℕ
  pub log : Log

abbrev pub at : Memory → Log → At
at m l = record { env = m.env; turns = m.turns; calls = m.calls; log = l }

-- what is shown begins with what was told, or neither is told
abbrev pub Begins : Option (List Trace) → Option (List Trace) → Type 0
Begins None None = Unit {0}
Begins None (Some told) = ⊥
Begins (Some ts) None = ⊥
Begins (Some ts) (Some told) = take (length told) ts ≡ told

-- the choices taken are the first of all
abbrev pub Fits : List Choice → List Choice → Type 0
Fits all given = take (length given) all ≡ given

-- all that a run shows and comes to; what its world's count of stops is, and whether it rose; and where its world writes
pub record Seen : Type 0 where
  pub shown : Option (List Trace)
  pub ending : Ending
  pub stops : ℕ
  pub rose : Bool
  pub sink : Option GName

abbrev pub seen : Log → Outcome → Seen
seen l o = record { shown = grown l.shown o.shown; ending = o.ending; stops = l.stops; rose = false; sink = l.sink }

-- what a run comes to from here, where all these choices are taken in the whole run
abbrev pub from : List Choice → At → Rest → Seen
from all a rest = seen a.log (rest (record { env = a.env; turns = a.turns; calls = a.calls; choices = drop (length a.log.given) all; rules = a.log.rules }))

-- as much of what is shown as was told
abbrev pub front : Option (List Trace) → Option (List Trace) → Option (List Trace)
front None all = None
front (Some ts) all = option_map (take (length ts)) all

-- what is looked at of a run that didn't go on: all of it behind an error; where the world stopped it or memory was
-- wanting, what was shown, and that the count rose, or didn't
abbrev pub view : Halt → Log → Seen → Seen
view (Halt.Raise e) l o = o
view Halt.Stopped l o = record { shown = front l.shown o.shown; ending = Done [] []; stops = l.stops; rose = rose o.stops l.stops; sink = o.sink }
view Halt.Memory l o = record { shown = front l.shown o.shown; ending = Done [] []; stops = o.stops; rose = false; sink = o.sink }

abbrev pub cut_off : Bool → Log → Seen
cut_off r l = record { shown = l.shown; ending = Done [] []; stops = l.stops; rose = r; sink = l.sink }

abbrev pub viewed : Halt → Log → (ScriptError → Seen) → Seen
viewed (Halt.Raise e) l behind = behind e
viewed Halt.Stopped l behind = cut_off true l
viewed Halt.Memory l behind = cut_off false l

-- the part went on with this value
abbrev pub Went : {A : Type 0} → Running A → At → A → At → Type 0
Went {A} p old a new = (k : A → Rest) (h : ScriptError → Rest) (all : List Choice) → Fits all new.log.given → from all old (p k h) ≡ from all new (k a)

-- the part didn't go on
abbrev pub Halts : {A : Type 0} → Running A → At → Halt → At → Type 0
Halts {A} p old x new = (k : A → Rest) (h : ScriptError → Rest) (all : List Choice) → Fits all new.log.given → view x new.log (from all old (p k h)) ≡ viewed x new.log (λ e. from all new (h e))

-- the choices that were taken stay taken, and what was shown stays shown
abbrev pub Keeps : At → At → Type 0
Keeps old new = ((all : List Choice) → Fits all new.log.given → Fits all old.log.given) × ((ts : Option (List Trace)) → Begins ts new.log.shown → Begins ts old.log.shown)

-- a part that does nothing but fail didn't go on
abbrev pub Fails : ScriptError → Halt → Type 0
Fails e x = (env : Workspace) (turns calls : ℕ) (l : Log) (h : ScriptError → Rest) (all : List Choice) → view x l (from all (record { env = env; turns = turns; calls = calls; log = l }) (h e)) ≡ viewed x l (λ y. from all (record { env = env; turns = turns; calls = calls; log = l }) (h y))

-- a part has come so far: what is left of it from here is what it was from there
abbrev pub Comes : {A : Type 0} → Running A → At → Running A → At → Type 0
Comes {A} p old q new = (k : A → Rest) (h : ScriptError → Rest) (all : List Choice) → Fits all new.log.given → from all old (p k h) ≡ from all new (q k h)

-- an operation that may want memory answers as its definition does
abbrev pub Answers : {A : Type 0} → Result A (Or ErrKind) → Result A ErrKind → Type 0
Answers r d = IfOk r (λ a. d ≡ Ok a) × ((kind : ErrKind) → r ≡ Err (Or.Is kind) → d ≡ Err kind)
