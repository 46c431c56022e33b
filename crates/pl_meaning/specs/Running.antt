-- How parts of a run are put together. A part is given what the run comes to behind it, with its value or
-- with its error, and says what the run comes to in front of it. So a part is read from left to right, and
-- nothing has to be said of parts that are not reached.
use Rattle.std.specs.Prelude.{ℕ, List, [], ◌++◌, Bool, true, false, if◌then◌else◌, Option, Some, None}
use Rattle.pl_base.specs.declared.errors.ErrKind.{ErrKind}
use Rattle.pl_base.specs.declared.errors.ErrKind.TheVariants.{Spent, TooDeep}
use Rattle.pl_base.specs.declared.errors.ScriptError.{ScriptError}
use Rattle.pl_meaning.specs.declared.event.Event.{Event}
use Rattle.pl_base.specs.declared.choice.Choice.{Choice}
use Rattle.pl_meaning.specs.declared.event.Answer.{Answer}
use Rattle.pl_meaning.specs.Logs.{Workspace, Trace, Asked, Reply, Rules, keeping, shows}

-- where a run stands: its workspace, the turns that are left, how many calls were started so far, the choices that it hasn't
-- used, and the rules by which choices answer a question
pub record State : Type 0 where
  pub env : Workspace
  pub turns : ℕ
  pub calls : ℕ
  pub choices : List Choice
  pub rules : Rules

-- how a run ends: done or by an error, with the choices that are left over; or at a question that the next choices don't
-- answer
pub data Ending : Type 0 where
  Done : Workspace → List Choice → Ending
  Raised : ScriptError → List Choice → Ending
  Asks : Asked → Workspace → Ending

-- what a run shows, and how it ends
pub record Outcome : Type 0 where
  pub shown : List Trace
  pub ending : Ending

abbrev pub before : List Trace → Outcome → Outcome
before ts o = record { shown = ts ++ o.shown; ending = o.ending }

-- what a run comes to from where it stands
abbrev pub Rest : Type 0
Rest = State → Outcome

-- a part that gives a value
abbrev pub Running : Type 0 → Type 0
Running A = (A → Rest) → (ScriptError → Rest) → Rest

-- nothing happens
abbrev pub pure : {A : Type 0} → A → Running A
pure a = λ k h. k a

abbrev pub raise : {A : Type 0} → ScriptError → Running A
raise e = λ k h. h e

-- one part and then another, which is given the value of the first
infixl 10 ◌>>=◌
abbrev pub ◌>>=◌ : {A B : Type 0} → Running A → (A → Running B) → Running B
p >>= f = λ k h. p (λ a. f a k h) h

-- a part, and another in the place of what an error cut off, unless no `try` catches that error
abbrev pub is_fatal : ErrKind → Bool
is_fatal Spent = true
is_fatal TooDeep = true
is_fatal k = false

abbrev pub recover : {A : Type 0} → ScriptError → Running A → Running A
recover e q = λ k h. if is_fatal e.kind then h e else q k h

abbrev pub attempt : {A : Type 0} → Running A → Running A → Running A
attempt p q = λ k h. p k (λ e. recover e q k h)

-- a part in a workspace of its own
abbrev pub inside : {A : Type 0} → Workspace → Running A → Running A
inside env p = λ k h s. p (λ a t. k a (record t { env = s.env })) (λ e t. h e (record t { env = s.env })) (record s { env = env })

-- an event
unfoldable pub tell : Event → Running (Unit {0})
tell e = λ k h s. before (shows e) (k tt s)

-- a question: the answer under the next choices, or the end of what is known
abbrev pub waits : {A : Type 0} → Asked → Running A
waits q = λ k h s. record { shown = []; ending = Asks q s.env }

abbrev pub answered_by : Asked → Option Reply → Running Answer
answered_by q None = waits q
answered_by q (Some r) = λ k h s. k r.answer (record s { choices = r.left; rules = keeping s.rules r.kept })

unfoldable pub ask : Asked → Running Answer
ask q = λ k h s. answered_by q (s.rules.reply s.rules.kept q s.env s.choices) k h s
