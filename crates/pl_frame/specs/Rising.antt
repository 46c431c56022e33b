-- The run of a loop over workers on one workspace, in rising order of its index, and the law that it is the loop.
use Rattle.std.specs.Prelude.{◌≡◌, ℕ, zero, suc, ℤ, pos, ◌+ℤ◌, length, List, [], ◌∷◌, ◌++◌, slice_get, slice_set, Bool, true, false, not, ◌&&◌, Option, Some, None, Ok}
use Rattle.pl_syntax.specs.declared.expr.Name.{Name}
use Rattle.pl_syntax.specs.declared.expr.Expr.{Expr}
use Rattle.pl_syntax.specs.declared.stmt.Stmt.{Stmt, out-Stmt}
use Rattle.pl_syntax.specs.declared.stmt.StmtKind.{out-StmtKind}
use Rattle.pl_syntax.specs.declared.stmt.StmtKind.TheOpen.{StmtKind-F}
use Rattle.pl_syntax.specs.declared.stmt.Target.TheVariants.{Indexed}
use Rattle.pl_values.specs.declared.value.Value.{Value, out-Value}
use Rattle.pl_values.specs.declared.value.Value.TheOpen.{Value-F}
use Rattle.pl_values.specs.Workspaces.{value_at}
use Rattle.pl_operators.specs.Picking.{assign_value}
use Rattle.pl_resolve.specs.declared.resolved.Resolved.{Resolved}
use Rattle.pl_meaning.specs.declared.event.Output.{Output}
use Rattle.pl_meaning.specs.Logs.{Workspace, LoopQuestion, Trace}
use Rattle.pl_meaning.specs.Names.{slot_of}
use Rattle.pl_meaning.specs.Parts.{value_in, below}
use Rattle.pl_meaning.specs.Forms.{is_form}
use Rattle.pl_meaning.specs.Loops.{body_frame, start_of, own_places, is_mixed, indices, all_done, come_to, texts, text_of, written_slots}
use Rattle.pl_frame.specs.Seeing.{Comes_to}
use Rattle.pl_frame.specs.Ordering.{HasSlot, IsReady}

abbrev pub is_array : Value-F Value → Bool
is_array (Value-F.Array a) = true
is_array layer = false

-- a value may go into a variable, by what that had before the loop and has now: where the variable is new with the loop,
-- only an array of the class of what stands there
abbrev pub suits : Option Value → Option Value → Value → Bool
suits (Some old) now v = true
suits None now v = is_array (out-Value v) && not (is_mixed now v)

module _ (program : Resolved) (depth : ℕ) (q : LoopQuestion) (env : Workspace) where
  -- a statement of the body on a workspace: its expression shows something and has a value, and that was assigned to the
  -- variable's own place
  pub record Assigns (i : ℤ) (s : Stmt) (now : Workspace) (shown : List Trace) (next : Workspace) : Type 0 where
    pub name : Name
    pub list : List Expr
    pub expr : Expr
    pub kind : out-StmtKind (out-Stmt s).kind ≡ StmtKind-F.Assign (Indexed name list) expr
    pub slot : ℕ
    pub slot_is : slot_of program (body_frame q) name.text ≡ Some slot
    pub gained : Value
    pub comes : Comes_to (value_in program (below program depth) (body_frame q) expr) now shown (Ok gained)
    pub may : suits (value_at env slot) (value_at now slot) gained ≡ true
    pub made : Value
    pub makes : assign_value (value_at now slot) (own_places i) gained ≡ Ok made
    pub leaves : next ≡ slice_set now slot (Some made)

  -- one statement more, behind so many of a pass
  pub record Further (i : ℤ) (n : ℕ) (before : Workspace → List ℕ → Type 0) (next : Workspace) (text : List ℕ) : Type 0 where
    pub now : Workspace
    pub told : List ℕ
    pub come : before now told
    pub stmt : Stmt
    pub is : slice_get q.body n ≡ Some stmt
    pub shown : List Trace
    pub assigns : Assigns i stmt now shown next
    pub grown : text ≡ told ++ text_of shown

  -- so many statements of a pass are done: they led from a workspace to another one, and from a text to another one
  abbrev pub Passing : ℤ → Workspace → List ℕ → ℕ → Workspace → List ℕ → Type 0
  Passing i start told zero now text = (now ≡ start) × (text ≡ told)
  Passing i start told (suc n) now text = Further i n (Passing i start told n) now text

  -- a whole pass, which puts its value of the index into the workspace first
  abbrev pub Pass : ℤ → Workspace → List ℕ → Workspace → List ℕ → Type 0
  Pass i before told now text = Passing i (start_of program q before i) told (length q.body) now text

  -- one pass more
  pub record Higher (i : ℤ) (before : Workspace → List ℕ → Type 0) (next : Workspace) (text : List ℕ) : Type 0 where
    pub now : Workspace
    pub told : List ℕ
    pub come : before now told
    pub pass : Pass i now told next text

  -- so many passes are done, one after another from the workspace before the loop
  abbrev pub Risen : ℕ → Workspace → List ℕ → Type 0
  Risen zero now text = (now ≡ env) × (text ≡ [])
  Risen (suc n) now text = Higher (q.first +ℤ pos n) (Risen n) now text

-- the variables of these slots that have a value
abbrev pub output_with : ℕ → Option Value → List Output → List Output
output_with slot None more = more
output_with slot (Some v) more = record { slot = slot; value = v } ∷ more

abbrev pub outputs_in : Workspace → List ℕ → List Output
outputs_in end [] = []
outputs_in end (slot ∷ slots) = output_with slot (value_at end slot) (outputs_in end slots)

-- where all passes are done, each iteration is done by itself, they print what the passes printed, and the loop comes to the
-- variables as they stand in the workspace
abbrev pub RisingLaw : Type 0
RisingLaw = (program : Resolved) (turns depth : ℕ) (q : LoopQuestion) (env end : Workspace) (text : List ℕ)
    → is_form program (body_frame q) q.index q.body ≡ true
    → HasSlot program q env
    → IsReady program q env
    → Risen program depth q env q.count end text
    → (all_done program turns depth q env (indices q.first q.count) ≡ true) × (texts program turns depth q env (indices q.first q.count) ≡ text) × (come_to program turns depth q env ≡ Ok (outputs_in end (written_slots program q)))
