-- The laws of a loop over workers of which a run asks: it meets what the laws of such loops suppose, and an ordinary `for` does the same.
use Rattle.std.specs.Prelude.{◌≡◌, ℕ, ◌+◌, length, List, Bool, true, Some, None, Ok}
use Rattle.pl_base.specs.declared.choice.Choice.{Choice}
use Rattle.pl_base.specs.declared.errors.Place.{Place}
use Rattle.pl_base.specs.declared.errors.ScriptError.{ScriptError}
use Rattle.pl_syntax.specs.declared.expr.Expr.{Expr}
use Rattle.pl_syntax.specs.declared.stmt.StmtKind.TheOpen.{StmtKind-F}
use Rattle.pl_array.specs.Arrays.{Array}
use Rattle.pl_syntax.specs.declared.expr.Name.{Name}
use Rattle.pl_values.specs.declared.value.Value.{Value}
use Rattle.pl_values.specs.declared.value.Value.TheVariants as value
use Rattle.pl_values.specs.Workspaces.{value_at}
use Rattle.pl_resolve.specs.declared.resolved.Resolved.{Resolved}
use Rattle.pl_meaning.specs.declared.event.Answer.TheVariants as answer
use Rattle.pl_meaning.specs.declared.event.Looped.{Looped}
use Rattle.pl_meaning.specs.declared.frame.Exit.{Exit}
use Rattle.pl_meaning.specs.Bounds.{bounds_of}
use Rattle.pl_meaning.specs.Logs.{Workspace, LoopQuestion, OfLoop, Trace, Rules}
use Rattle.pl_meaning.specs.Forms.{is_among, is_form}
use Rattle.pl_meaning.specs.Loops.{body_frame, indices, all_done, loop_answer}
use Rattle.pl_meaning.specs.Names.{names_in, slot_of}
use Rattle.pl_meaning.specs.Parts.{written_in, below, level_at, compound_at, answered}
use Rattle.pl_meaning.specs.Running.{State, Rest, Asks, before}
use Rattle.pl_meaning.specs.Runs.{Run}
use Rattle.pl_unbuilt.specs.Unbuilt.{unbuilt_of}
use Rattle.pl_frame.specs.Ordering.{HasSlot, IsFull, IsReady}
use Rattle.pl_frame.specs.Ordinary.{EndsAt, from_last, statement_frame}
use Rattle.pl_frame.specs.Seeing.{Course, standing}

-- a run, by whatever rules under whatever choices, that began in a workspace with a slot for each name of the script stops at
-- the question of this loop
pub record IsAsked (program : Resolved) (q : LoopQuestion) (env : Workspace) : Type 0 where
  pub start : Workspace
  pub turns : ℕ
  pub depth : ℕ
  pub rules : Rules
  pub choices : List Choice
  pub begun : length start ≡ length (names_in program 0)
  pub stops : (Run program start turns depth rules choices).ending ≡ Asks (OfLoop q) env

-- the arrays that the loop's body writes are full, as all arrays of a session are
abbrev pub AreFull : Resolved → LoopQuestion → Workspace → Type 0
AreFull program q env = (n : Name) (slot : ℕ) (a : Array) → is_among (written_in q.body) n ≡ true → slot_of program (body_frame q) n.text ≡ Some slot → value_at env slot ≡ Some (value.Array a) → IsFull a

-- in a program of which nothing isn't built, a loop of which a run asks, and which writes into full arrays alone, meets what the
-- laws of loops over workers suppose: its body is of the form, its index has a slot, and each variable that the body writes has an
-- array or is new, since the run checked that before it asked
abbrev pub ReadyLaw : Type 0
ReadyLaw = (program : Resolved)
    → unbuilt_of program ≡ None
    → (q : LoopQuestion) (env : Workspace)
    → IsAsked program q env
    → AreFull program q env
    → (is_form program (body_frame q) q.index q.body ≡ true) × HasSlot program q env × IsReady program q env

-- and where the definition answers it with variables, and each iteration would also end with the levels that are left to the body
-- of the statement `for` with the same index, range and body: that statement, in the loop's place and with a turn for each pass,
-- goes on as the answer does, but that the index has its last value
abbrev pub AskedOrdinaryLaw : Type 0
AskedOrdinaryLaw = (program : Resolved)
    → unbuilt_of program ≡ None
    → (q : LoopQuestion) (env : Workspace)
    → IsAsked program q env
    → AreFull program q env
    → (turns depth levels : ℕ) (c : Choice) (l : Looped)
    → loop_answer program turns depth q env c ≡ Some (answer.Looped l)
    → all_done program turns levels q env (indices q.first q.count) ≡ true
    → (client : Bool) (given wanted : ℕ) (e : Expr) (x y : Value) (here : State) (shown : List Trace) (left : ℕ) (choices : List Choice) (co : Course)
    → EndsAt program levels (statement_frame q client given wanted) e here shown x y (standing env (q.count + left) choices co)
    → bounds_of x y ≡ Ok (record { first = q.first; count = q.count })
    → (place : Place) (k : Exit → Rest) (h : ScriptError → Rest)
    → compound_at program (level_at program (below program levels)) (statement_frame q client given wanted) place (StmtKind-F.For q.index e q.body) k h here ≡ before shown (answered q.place (answer.Looped l) (from_last program q k) h (standing env left choices co))
