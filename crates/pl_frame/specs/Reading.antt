-- The laws of the expressions of a loop's body.
use Rattle.std.specs.Prelude.{◌≡◌, ℕ, ℤ, List, length, true, false, Some, Ok}
use Rattle.pl_syntax.specs.declared.expr.Name.{Name}
use Rattle.pl_syntax.specs.declared.expr.Expr.{Expr}
use Rattle.pl_values.specs.declared.value.Value.{Value}
use Rattle.pl_values.specs.Workspaces.{value_at}
use Rattle.pl_operators.specs.Bracketing.{number_of}
use Rattle.pl_resolve.specs.declared.resolved.Resolved.{Resolved}
use Rattle.pl_meaning.specs.declared.frame.Frame.{Frame}
use Rattle.pl_meaning.specs.Logs.{Workspace, Trace, grown}
use Rattle.pl_meaning.specs.Names.{slot_of}
use Rattle.pl_meaning.specs.Parts.{value_in, below}
use Rattle.pl_meaning.specs.Forms.{read_of}
use Rattle.pl_meaning.specs.Promises.{At, Went}
use Rattle.pl_frame.specs.Seeing.{Comes_to, Framed, Alike, same_end, has_doors}

-- in a frame in which no operation asks for an extra, an expression of the form only reads, and shows the same and has the same
-- value from two workspaces that look the same to the iteration
abbrev pub FrameLaw : Type 0
FrameLaw = (program : Resolved) (f : Frame) (index : Name) (written : List Name) (i : ℤ) (one other : Workspace) (at depth : ℕ) (e : Expr)
    → has_doors program f ≡ false
    → slot_of program f index.text ≡ Some at
    → Alike program f index written i one other
    → same_end one other f.ends
    → (read_of program f index written e).fits ≡ true
    → Framed one other (value_in program (below program depth) f e)

-- where in such a frame an expression of the form went on with a value, with the iteration's value of the index in its
-- workspace, it left the workspace, the turns, the calls and what the world keeps as they were and took no choice; what it
-- showed and its value are what it comes to from there
abbrev pub WentLaw : Type 0
WentLaw = (program : Resolved) (f : Frame) (index : Name) (written : List Name) (i : ℤ) (at depth : ℕ) (e : Expr) (old new : At) (v : Value)
    → has_doors program f ≡ false
    → slot_of program f index.text ≡ Some at
    → value_at old.env at ≡ Some (number_of i)
    → (read_of program f index written e).fits ≡ true
    → Went (value_in program (below program depth) f e) old v new
    → (shown : List Trace) × Comes_to (value_in program (below program depth) f e) old.env shown (Ok v) × (new.env ≡ old.env) × (new.turns ≡ old.turns) × (length new.log.given ≡ length old.log.given) × (new.log.shown ≡ grown old.log.shown shown) × (new.calls ≡ old.calls) × (new.log.rules.kept ≡ old.log.rules.kept)
