-- The laws of a loop over workers and of an ordinary `for` in its place.
use Rattle.std.specs.Prelude.{◌≡◌, ℕ, zero, suc, ◌+◌, pos, ◌+ℤ◌, List, Bool, true, Some, None, Ok}
use Rattle.pl_base.specs.declared.choice.Choice.{Choice}
use Rattle.pl_base.specs.declared.errors.Place.{Place}
use Rattle.pl_base.specs.declared.errors.ScriptError.{ScriptError}
use Rattle.pl_syntax.specs.declared.expr.Expr.{Expr}
use Rattle.pl_syntax.specs.declared.stmt.StmtKind.TheOpen.{StmtKind-F}
use Rattle.pl_values.specs.declared.value.Value.{Value}
use Rattle.pl_resolve.specs.declared.resolved.Resolved.{Resolved}
use Rattle.pl_meaning.specs.declared.event.Answer.TheVariants as answer
use Rattle.pl_meaning.specs.declared.event.Looped.{Looped}
use Rattle.pl_meaning.specs.declared.frame.Exit.{Exit}
use Rattle.pl_meaning.specs.declared.frame.Frame.{Frame}
use Rattle.pl_meaning.specs.Bounds.{bounds_of}
use Rattle.pl_meaning.specs.Logs.{Workspace, LoopQuestion, OfLoop, Reply, Trace}
use Rattle.pl_meaning.specs.Running.{State, Rest, before}
use Rattle.pl_meaning.specs.Parts.{below, level_at, ends_in, compound_at, answered}
use Rattle.pl_meaning.specs.Forms.{is_form}
use Rattle.pl_meaning.specs.Loops.{body_frame, start_of, indices, all_done, loop_answer}
use Rattle.pl_frame.specs.Seeing.{Course, course_keeping, standing}
use Rattle.pl_frame.specs.Ordering.{HasSlot, IsReady}

-- behind so many passes of an ordinary loop its index has the last value, if there was a pass
abbrev pub with_last : Resolved → LoopQuestion → ℕ → Workspace → Workspace
with_last program q zero env = env
with_last program q (suc n) env = start_of program q env (q.first +ℤ pos n)

-- what comes behind a loop over workers, from a workspace in which the index has its last value, too
abbrev pub from_last : Resolved → LoopQuestion → (Exit → Rest) → Exit → Rest
from_last program q k x s = k x (record s { env = with_last program q q.count s.env })

-- the frame of a statement in the loop's scope, on the client or away from it: a function was called with so many arguments and
-- outputs
abbrev pub statement_frame : LoopQuestion → Bool → ℕ → ℕ → Frame
statement_frame q client given wanted = record { client = client; scope = q.scope; given = given; wanted = wanted; ends = None }

-- with these levels the two ends of a range come to these values: this was shown, and the run stands here
abbrev pub EndsAt : Resolved → ℕ → Frame → Expr → State → List Trace → Value → Value → State → Type 0
EndsAt program levels f e here shown x y there =
    (k : Value × Value → Rest) (h : ScriptError → Rest) → ends_in program (below program levels) f e k h here ≡ before shown (k (x, y) there)

-- a loop over workers, whose range comes to two ends between which its index goes, and which the next choices answer: it takes
-- a turn and these choices, and goes on as the answer does
abbrev pub AnsweredLaw : Type 0
AnsweredLaw = (program : Resolved) (levels : ℕ) (q : LoopQuestion) (env : Workspace)
    → IsReady program q env
    → (client : Bool) (given wanted : ℕ) (e : Expr) (x y : Value) (here : State) (shown : List Trace) (left : ℕ) (choices : List Choice) (co : Course) (r : Reply)
    → co.rules.reply co.rules.kept (OfLoop q) env choices ≡ Some r
    → EndsAt program levels (statement_frame q client given wanted) e here shown x y (standing env (suc left) choices co)
    → bounds_of x y ≡ Ok (record { first = q.first; count = q.count })
    → (k : Exit → Rest) (h : ScriptError → Rest)
    → compound_at program (level_at program (below program levels)) (statement_frame q client given wanted) q.place (StmtKind-F.Parfor q.index e None q.body) k h here ≡ before shown (answered q.place r.answer k h (standing env left r.left (course_keeping co r.kept)))

-- where the definition answers a loop over workers with variables, and each iteration would also end with the levels that are
-- left to the body of the statement `for` with the same index, range and body: that statement, in the loop's place and with
-- a turn for each pass, goes on as the answer does. It prints the same, and the workspace is the same, but for the index,
-- which has its last value
abbrev pub OrdinaryLaw : Type 0
OrdinaryLaw = (program : Resolved) (turns depth levels : ℕ) (q : LoopQuestion) (env : Workspace) (c : Choice) (l : Looped)
    → is_form program (body_frame q) q.index q.body ≡ true
    → HasSlot program q env
    → IsReady program q env
    → loop_answer program turns depth q env c ≡ Some (answer.Looped l)
    → all_done program turns levels q env (indices q.first q.count) ≡ true
    → (client : Bool) (given wanted : ℕ) (e : Expr) (x y : Value) (here : State) (shown : List Trace) (left : ℕ) (choices : List Choice) (co : Course)
    → EndsAt program levels (statement_frame q client given wanted) e here shown x y (standing env (q.count + left) choices co)
    → bounds_of x y ≡ Ok (record { first = q.first; count = q.count })
    → (place : Place) (k : Exit → Rest) (h : ScriptError → Rest)
    → compound_at program (level_at program (below program levels)) (statement_frame q client given wanted) place (StmtKind-F.For q.index e q.body) k h here ≡ before shown (answered q.place (answer.Looped l) (from_last program q k) h (standing env left choices co))
