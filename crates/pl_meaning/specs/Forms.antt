-- The form of a loop over workers that is built so far: a body of assignments to parts of variables, each by the loop's index
-- alone. A variable that the body writes occurs in it only at that place, and no function of the script is called.
use Rattle.std.specs.Prelude.{List, [], ◌∷◌, map, Bool, true, false, not, ◌&&◌, ◌||◌, is_some, is_none, if◌then◌else◌, Option, Some, None}
use Rattle.std.specs.List.{list_all, list_any}
use Rattle.pl_syntax.specs.declared.expr.Name.{Name}
use Rattle.pl_syntax.specs.declared.expr.Expr.{Expr, Expr-F, fold-Expr, out-Expr}
use Rattle.pl_syntax.specs.declared.expr.ExprKind.{ExprKind, out-ExprKind}
use Rattle.pl_syntax.specs.declared.expr.ExprKind.TheOpen.{ExprKind-F}
use Rattle.pl_syntax.specs.declared.stmt.Stmt.{Stmt, out-Stmt}
use Rattle.pl_syntax.specs.declared.stmt.StmtKind.{StmtKind, out-StmtKind}
use Rattle.pl_syntax.specs.declared.stmt.StmtKind.TheOpen.{StmtKind-F}
use Rattle.pl_syntax.specs.declared.stmt.Arm.{Arm}
use Rattle.pl_syntax.specs.declared.stmt.Target.{Target}
use Rattle.pl_syntax.specs.declared.stmt.Target.TheVariants.{Whole, Indexed, Braced}
use Rattle.pl_resolve.specs.declared.resolved.Resolved.{Resolved}
use Rattle.pl_meaning.specs.declared.known.Known.{Known}
use Rattle.pl_meaning.specs.declared.frame.Frame.{Frame}
use Rattle.pl_meaning.specs.Known.{same, known_of, is_feval}
use Rattle.pl_meaning.specs.Names.{slot_of, function_of}
use Rattle.pl_meaning.specs.Parts.{written_in}

abbrev pub is_among : List Name → Name → Bool
is_among names n = list_any (λ m. same m.text n.text) names

-- what is known of an expression of a body: that it has the form; and that it is the loop's index alone
pub record Read : Type 0 where
  pub fits : Bool
  pub is_index : Bool

-- some other expression
abbrev pub other : Bool → Read
other fits = record { fits = fits; is_index = false }

abbrev pub all_fit : List Read → Bool
all_fit rs = list_all (λ (r : Read). r.fits) rs

abbrev pub only_index : List Read → Bool
only_index [] = false
only_index (r ∷ []) = r.is_index
only_index (r ∷ s ∷ more) = false

abbrev pub step_fits : Option Read → Bool
step_fits None = true
step_fits (Some r) = r.fits

-- a function of the library, but for the one that calls what it is given
abbrev pub is_plain : Option Known → Bool
is_plain None = false
is_plain (Some f) = not (is_feval f)

module _ (program : Resolved) (f : Frame) where
  -- a name that stands for a variable or for a function of the library
  abbrev pub stands : Name → Bool
  stands n = is_some (slot_of program f n.text) || (is_none (function_of program n.text) && is_plain (known_of n.text))

  -- an expression, given its parts: an element of a variable that the body writes is read at the loop's index alone
  abbrev pub read_kind : Name → List Name → ExprKind-F Read Read → Read
  read_kind index written (ExprKind-F.Number z) = other true
  read_kind index written (ExprKind-F.Chars t) = other true
  read_kind index written (ExprKind-F.Var n) = record { fits = stands n && not (is_among written n); is_index = same n.text index.text }
  read_kind index written (ExprKind-F.Apply n list) = other (stands n && (if is_among written n then only_index list else all_fit list))
  read_kind index written (ExprKind-F.Brace n k list) = other false
  read_kind index written (ExprKind-F.Unary op a) = other a.fits
  read_kind index written (ExprKind-F.Binary op a b) = other (a.fits && b.fits)
  read_kind index written (ExprKind-F.Range a s b) = other (a.fits && (step_fits s && b.fits))
  read_kind index written (ExprKind-F.Rows rows) = other (list_all all_fit rows)
  read_kind index written (ExprKind-F.Func n) = other false
  read_kind index written ExprKind-F.End = other true
  read_kind index written ExprKind-F.Colon = other true
  read_kind index written (ExprKind-F.StateOf a) = other false

  abbrev pub read_layer : Expr-F Read Read → Read
  read_layer e = e.kind

  abbrev pub read_of : Name → List Name → Expr → Read
  read_of index written = fold-Expr Read Read (read_kind index written) read_layer

  -- an assignment to a part of a variable by the loop's index, which is not shown
  abbrev pub is_own_place : Name → List Name → List Expr → Bool
  is_own_place index written list = only_index (map (read_of index written) list)

  abbrev pub is_item_at : Name → List Name → Bool → StmtKind-F StmtKind Arm Stmt → Bool
  is_item_at index written show (StmtKind-F.Assign (Indexed n list) e) =
      not show && (is_some (slot_of program f n.text) && (not (same n.text index.text) && (is_own_place index written list && (read_of index written e).fits)))
  is_item_at index written show kind = false

  abbrev pub is_item : Name → List Name → Stmt → Bool
  is_item index written s = is_item_at index written (out-Stmt s).show (out-StmtKind (out-Stmt s).kind)

  -- the body of such a loop, whose index is this variable
  abbrev pub is_form : Name → List Stmt → Bool
  is_form index body = is_some (slot_of program f index.text) && list_all (is_item index (written_in body)) body
