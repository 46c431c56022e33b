-- What it means that a part only reads its workspace, and when two workspaces look the same to an iteration of a loop.
use Rattle.std.specs.Prelude.{◌≡◌, ℕ, ℤ, List, [], ◌∷◌, Bool, true, false, ◌&&◌, Option, Some, None, Result, Ok, Err}
use Rattle.pl_base.specs.declared.choice.Choice.{Choice}
use Rattle.pl_base.specs.declared.errors.ScriptError.{ScriptError}
use Rattle.pl_syntax.specs.declared.expr.Name.{Name}
use Rattle.pl_values.specs.declared.value.Value.{Value}
use Rattle.pl_values.specs.Workspaces.{value_at}
use Rattle.pl_operators.specs.Bracketing.{number_of}
use Rattle.pl_operators.specs.Picking.{select_value}
use Rattle.pl_resolve.specs.declared.resolved.Resolved.{Resolved}
use Rattle.pl_meaning.specs.declared.frame.Frame.{Frame}
use Rattle.pl_meaning.specs.declared.frame.Ends.{Ends}
use Rattle.pl_meaning.specs.Logs.{Workspace, Trace, Rules, keeping}
use Rattle.pl_meaning.specs.Names.{slot_of}
use Rattle.pl_meaning.specs.Running.{State, Rest, Running, before}
use Rattle.pl_meaning.specs.Loops.{no_rules, own_places}
use Rattle.pl_meaning.specs.Forms.{is_among}

-- what a run comes to behind a part that came to this
abbrev pub onward : {A : Type 0} → (A → Rest) → (ScriptError → Rest) → Result A ScriptError → Rest
onward k h (Ok a) = k a
onward k h (Err e) = h e

-- what else a run has: how many calls were started so far, and the rules by which choices answer a question
pub record Course : Type 0 where
  pub calls : ℕ
  pub rules : Rules

-- an iteration's own
abbrev pub no_course : Course
no_course = record { calls = 0; rules = no_rules }

-- where the world keeps this
abbrev pub course_keeping : Course → List Value → Course
course_keeping co kept = record co { rules = keeping co.rules kept }

-- a run stands here
abbrev pub standing : Workspace → ℕ → List Choice → Course → State
standing env turns choices co = record { env = env; turns = turns; calls = co.calls; choices = choices; rules = co.rules }

abbrev pub has_some : List (List ℕ) → Bool
has_some [] = false
has_some (text ∷ more) = true

-- operations of this frame may ask for an extra: it is on the client, and the program has extras
abbrev pub has_doors : Resolved → Frame → Bool
has_doors program f = f.client && has_some program.extras

-- from a workspace a part shows this and comes to this: it leaves the workspace as it is, takes no turn, starts no call and
-- asks nothing
abbrev pub Comes_to : {A : Type 0} → Running A → Workspace → List Trace → Result A ScriptError → Type 0
Comes_to {A} p env shown gives = (k : A → Rest) (h : ScriptError → Rest) (turns : ℕ) (choices : List Choice) (co : Course) → p k h (standing env turns choices co) ≡ before shown (onward k h gives (standing env turns choices co))

-- a part only reads: it shows something and comes to something, and where that is a value it shows the same and has the same
-- value from the other workspace
pub record Framed (one other : Workspace) {A : Type 0} (p : Running A) : Type 0 where
  pub shown : List Trace
  pub gives : Result A ScriptError
  pub here : Comes_to p one shown gives
  pub there : (a : A) → gives ≡ Ok a → Comes_to p other shown (Ok a)

-- two workspaces look the same to an iteration with this value of the index: in each variable that the body doesn't write; at
-- the index; and at the iteration's own place of each that it writes, as far as the first has a value there
pub record Alike (program : Resolved) (f : Frame) (index : Name) (written : List Name) (i : ℤ) (one other : Workspace) : Type 0 where
  pub unwritten : (n : Name) (slot : ℕ) → is_among written n ≡ false → slot_of program f n.text ≡ Some slot → value_at one slot ≡ value_at other slot
  pub index_here : (slot : ℕ) → slot_of program f index.text ≡ Some slot → value_at one slot ≡ Some (number_of i)
  pub index_there : (slot : ℕ) → slot_of program f index.text ≡ Some slot → value_at other slot ≡ Some (number_of i)
  pub parts : (n : Name) (slot : ℕ) (v x : Value) → is_among written n ≡ true → slot_of program f n.text ≡ Some slot → value_at one slot ≡ Some v → select_value v (own_places i) ≡ Ok x
      → (w : Value) × (value_at other slot ≡ Some w) × (select_value w (own_places i) ≡ Ok x)

-- what `end` stands for is the same in both
abbrev pub same_end : Workspace → Workspace → Option Ends → Type 0
same_end one other None = Unit {0}
same_end one other (Some ends) = value_at one ends.slot ≡ value_at other ends.slot

-- a frame with another innermost index
abbrev pub inside_of : Frame → Option Ends → Frame
inside_of f ends = record f { ends = ends }
