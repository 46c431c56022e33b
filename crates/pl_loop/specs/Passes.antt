-- What the passes of a loop over one workspace rest on, and what a statement of one did.
use Rattle.std.specs.Prelude.{◌≡◌, ◌==◌, ℕ, ℤ, map, List, [], ◌∷◌, slice_set, true, false, Some, None, Ok}
use Rattle.std.specs.List.{list_any}
use Rattle.pl_syntax.specs.declared.expr.Name.{Name}
use Rattle.pl_syntax.specs.declared.expr.Expr.{Expr}
use Rattle.pl_syntax.specs.declared.stmt.Stmt.{Stmt, out-Stmt}
use Rattle.pl_syntax.specs.declared.stmt.StmtKind.{out-StmtKind}
use Rattle.pl_syntax.specs.declared.stmt.StmtKind.TheOpen.{StmtKind-F}
use Rattle.pl_syntax.specs.declared.stmt.Target.TheVariants.{Indexed}
use Rattle.pl_values.specs.declared.value.Value.{Value}
use Rattle.pl_values.specs.Workspaces.{value_at}
use Rattle.pl_operators.specs.Picking.{assign_value}
use Rattle.pl_resolve.specs.declared.resolved.Resolved.{Resolved}
use Rattle.pl_meaning.specs.Logs.{Workspace, LoopQuestion, Log, Byte}
use Rattle.pl_meaning.specs.Names.{slot_of}
use Rattle.pl_meaning.specs.Parts.{value_in, below}
use Rattle.pl_meaning.specs.Promises.{At, Went}
use Rattle.pl_meaning.specs.Forms.{is_form}
use Rattle.pl_meaning.specs.Loops.{body_frame, own_places, no_rules}
use Rattle.pl_frame.specs.Ordering.{HasSlot, IsReady}
use Rattle.pl_frame.specs.Rising.{suits}

-- the body has the form, the index has a slot, and each variable that is written has an array or is new with the loop
pub record Founded (program : Resolved) (q : LoopQuestion) (env : Workspace) : Type 0 where
  pub form : is_form program (body_frame q) q.index q.body ≡ true
  pub index : HasSlot program q env
  pub ready : IsReady program q env

-- the log of a world that keeps this text
abbrev pub printer_log : List ℕ → Log
printer_log text = record { given = []; shown = Some (map Byte text); stops = 0; sink = None; rules = no_rules }

-- a value went into an iteration's own place of a variable, which had a value before the loop or takes the value's class
pub record Put (env : Workspace) (slot : ℕ) (i : ℤ) (v : Value) (old new : Workspace) : Type 0 where
  pub may : suits (value_at env slot) (value_at old slot) v ≡ true
  pub made : Value
  pub makes : assign_value (value_at old slot) (own_places i) v ≡ Ok made
  pub leaves : new ≡ slice_set old slot (Some made)

-- a variable of this name was assigned this expression's value: that is what the expression went on with
pub record Assigned (program : Resolved) (depth : ℕ) (q : LoopQuestion) (env : Workspace) (i : ℤ) (name : Name) (expr : Expr) (old new : At) : Type 0 where
  pub slot : ℕ
  pub slot_is : slot_of program (body_frame q) name.text ≡ Some slot
  pub gained : Value
  pub between : At
  pub went : Went (value_in program (below program depth) (body_frame q) expr) old gained between
  pub put : Put env slot i gained between.env new.env
  pub log : new.log ≡ between.log

-- a statement of a pass was carried out
pub record Stepped (program : Resolved) (depth : ℕ) (q : LoopQuestion) (env : Workspace) (i : ℤ) (s : Stmt) (old new : At) : Type 0 where
  pub name : Name
  pub list : List Expr
  pub expr : Expr
  pub kind : out-StmtKind (out-Stmt s).kind ≡ StmtKind-F.Assign (Indexed name list) expr
  pub assigned : Assigned program depth q env i name expr old new

-- each number of a list stands there once
abbrev pub EachOnce : List ℕ → Type 0
EachOnce [] = Unit {0}
EachOnce (x ∷ xs) = (list_any (λ y. y == x) xs ≡ false) × EachOnce xs
