-- A body of the form: its statements, and the names that they write.
use Rattle.std.specs.Prelude.{◌&&◌, ◌||◌, not, is_some, slice_set}
use Rattle.std.specs.List.{list_any}
use Rattle.std.proofs.Common.{◌≡◌, ◌∙◌, ℕ, ℤ, List, [], ◌∷◌, ◌++◌, map, Bool, true, false, Option, Some, None, Result, Ok, Err, refl, ap}
use Rattle.std.proofs.lemmas.Bool.{eq-eqb}
use Rattle.pl_base.specs.declared.choice.Choice.{Choice}
use Rattle.pl_base.specs.declared.errors.ErrKind.{ErrKind}
use Rattle.pl_base.specs.declared.errors.ScriptError.{ScriptError}
use Rattle.pl_errors.specs.Errors.{error_of}
use Rattle.pl_syntax.specs.declared.expr.Name.{Name}
use Rattle.pl_syntax.specs.declared.expr.Expr.{Expr}
use Rattle.pl_syntax.specs.declared.stmt.Arm.{Arm}
use Rattle.pl_syntax.specs.declared.stmt.Stmt.{Stmt, out-Stmt}
use Rattle.pl_syntax.specs.declared.stmt.StmtKind.{StmtKind, out-StmtKind}
use Rattle.pl_syntax.specs.declared.stmt.StmtKind.TheOpen.{StmtKind-F}
use Rattle.pl_syntax.specs.declared.stmt.Target.TheVariants.{Indexed}
use Rattle.pl_values.specs.declared.value.Value.{Value}
use Rattle.pl_values.specs.Workspaces.{value_at}
use Rattle.pl_operators.specs.Picking.{assign_value}
use Rattle.pl_resolve.specs.declared.resolved.Resolved.{Resolved}
use Rattle.pl_meaning.specs.declared.frame.Frame.{Frame}
use Rattle.pl_meaning.specs.declared.frame.Exit.{Exit}
use Rattle.pl_meaning.specs.declared.frame.Exit.TheVariants.{Onward}
use Rattle.pl_meaning.specs.Accesses.{put, write_part}
use Rattle.pl_meaning.specs.Known.{same}
use Rattle.pl_meaning.specs.Logs.{Workspace, Trace}
use Rattle.pl_meaning.specs.Names.{slot_of}
use Rattle.pl_meaning.specs.Running.{Rest, before, pure, ◌>>=◌}
use Rattle.pl_meaning.specs.Parts.{Level, value_in, places, assigned, assigned_part, shown_target, assignment, stmt_in, stmt_at, written_by, written_in}
use Rattle.pl_meaning.specs.Forms.{is_among, is_item, is_item_at, is_own_place, only_index, read_of}
use Rattle.pl_meaning.specs.Loops.{own_places}
use Rattle.pl_frame.specs.Seeing.{Course, standing, Comes_to}
use Rattle.pl_frame.proofs.Values.{and_first, and_second, not_true}

pub same_self : (t : List ℕ) → same t t ≡ true
same_self [] = refl
same_self (x ∷ t) = ap (λ (b : Bool). b && same t t) (eq-eqb x x refl) ∙ same_self t

pub among_alike : (names : List Name) (t u : List ℕ) → t ≡ u → list_any (λ (m : Name). same m.text t) names ≡ list_any (λ (m : Name). same m.text u) names
among_alike names t u e = ap (λ (x : List ℕ). list_any (λ (m : Name). same m.text x) names) e

module _ (program : Resolved) (f : Frame) (index : Name) (written : List Name) where
  -- a statement of the form, taken apart
  pub record Item (s : Stmt) : Type 0 where
    pub name : Name
    pub list : List Expr
    pub value : Expr
    pub slot : ℕ
    pub kind : out-StmtKind (out-Stmt s).kind ≡ StmtKind-F.Assign (Indexed name list) value
    pub hidden : (out-Stmt s).show ≡ false
    pub slot_is : slot_of program f name.text ≡ Some slot
    pub no_index : same name.text index.text ≡ false
    pub own : only_index (map (read_of program f index written) list) ≡ true
    pub fits : (read_of program f index written value).fits ≡ true

  some_slot : (o : Option ℕ) → is_some o ≡ true → (s : ℕ) × (o ≡ Some s)
  some_slot (Some s) h = (s, refl)
  some_slot None h = absurd (cc)

  item_by : (s : Stmt) (kind : StmtKind-F StmtKind Arm Stmt) → out-StmtKind (out-Stmt s).kind ≡ kind → is_item_at program f index written (out-Stmt s).show kind ≡ true → Item s
  item_by s (StmtKind-F.Assign (Indexed n list) e) is h =
      let one : (is_some (slot_of program f n.text) && (not (same n.text index.text) && (is_own_place program f index written list && (read_of program f index written e).fits))) ≡ true = and_second (not (out-Stmt s).show) _ h in
      let two : (not (same n.text index.text) && (is_own_place program f index written list && (read_of program f index written e).fits)) ≡ true = and_second (is_some (slot_of program f n.text)) _ one in
      let three : (is_own_place program f index written list && (read_of program f index written e).fits) ≡ true = and_second (not (same n.text index.text)) _ two in
      let slot = some_slot (slot_of program f n.text) (and_first (is_some (slot_of program f n.text)) _ one) in
      record {
        name = n;
        list = list;
        value = e;
        slot = slot.0;
        kind = is;
        hidden = not_true (out-Stmt s).show (and_first (not (out-Stmt s).show) _ h);
        slot_is = slot.1;
        no_index = not_true (same n.text index.text) (and_first (not (same n.text index.text)) _ two);
        own = and_first (is_own_place program f index written list) _ three;
        fits = and_second (is_own_place program f index written list) _ three;
      }
  item_by s kind is h = absurd (cc)

  pub item_of : (s : Stmt) → is_item program f index written s ≡ true → Item s
  item_of s h = item_by s (out-StmtKind (out-Stmt s).kind) refl h

  -- the names that a statement and those behind it write
  pub among_more : (s : Stmt) (more : List Stmt) (I : Item s) (m : Name) → is_among (written_in (s ∷ more)) m ≡ (same I.name.text m.text || is_among (written_in more) m)
  among_more s more I m = ap (λ (k : StmtKind-F StmtKind Arm Stmt). is_among (written_by k ++ written_in more) m) I.kind

  pub stmt_is : (l : Option Level) (s : Stmt) (I : Item s) → stmt_in program l f s ≡ assignment program l f false (Indexed I.name I.list) I.value
  unfolding stmt_in
  stmt_is l s I =
      ap (λ (k : StmtKind-F StmtKind Arm Stmt). stmt_at program l f s (out-Stmt s).place (out-Stmt s).show k) I.kind
      ∙ ap (λ (b : Bool). assignment program l f b (Indexed I.name I.list) I.value) I.hidden

  -- ## An assignment to a part, as it goes

  pub goes : (l : Option Level) (i : ℤ) (n : Name) (es : List Expr) (e : Expr) (slot : ℕ) → slot_of program f n.text ≡ Some slot → (W : Workspace) (ts : List Trace) (v a : Value) → Comes_to (value_in program l f e) W ts (Ok v) → Comes_to (places (value_in program l) f slot es) W [] (Ok (own_places i)) → assign_value (value_at W slot) (own_places i) v ≡ Ok a
      → (k : Exit → Rest) (h : ScriptError → Rest) (t : ℕ) (c : List Choice) (r : Course) → assignment program l f false (Indexed n es) e k h (standing W t c r) ≡ before ts (k Onward (standing (slice_set W slot (Some a)) t c r))
  unfolding assignment assigned shown_target write_part
  goes l i n es e slot is W ts v a V P A k h t c r =
      V (λ x. (assigned program l f (Indexed n es) x >>= (λ u. shown_target program false f (Indexed n es) >>= (λ w. pure Onward))) k h) h t c r
      ∙ ap (before ts) (
      ap (λ (o : Option ℕ). assigned_part program l f o n es v (λ u. k Onward) h (standing W t c r)) is
      ∙ P (λ list. write_part slot n.place list v (λ u. k Onward) h) h t c r
      ∙ ap (λ (z : Result Value ErrKind). put slot n.place z (λ u. k Onward) h (standing W t c r)) A)

  pub fails_value : (l : Option Level) (n : Name) (es : List Expr) (e : Expr) (W : Workspace) (ts : List Trace) (x : ScriptError) → Comes_to (value_in program l f e) W ts (Err x)
      → (k : Exit → Rest) (h : ScriptError → Rest) (t : ℕ) (c : List Choice) (r : Course) → assignment program l f false (Indexed n es) e k h (standing W t c r) ≡ before ts (h x (standing W t c r))
  unfolding assignment
  fails_value l n es e W ts x V k h t c r = V (λ x. (assigned program l f (Indexed n es) x >>= (λ u. shown_target program false f (Indexed n es) >>= (λ w. pure Onward))) k h) h t c r

  pub fails_put : (l : Option Level) (i : ℤ) (n : Name) (es : List Expr) (e : Expr) (slot : ℕ) → slot_of program f n.text ≡ Some slot → (W : Workspace) (ts : List Trace) (v : Value) (kind : ErrKind) → Comes_to (value_in program l f e) W ts (Ok v) → Comes_to (places (value_in program l) f slot es) W [] (Ok (own_places i)) → assign_value (value_at W slot) (own_places i) v ≡ Err kind
      → (k : Exit → Rest) (h : ScriptError → Rest) (t : ℕ) (c : List Choice) (r : Course) → assignment program l f false (Indexed n es) e k h (standing W t c r) ≡ before ts (h (error_of kind n.place) (standing W t c r))
  unfolding assignment assigned shown_target write_part
  fails_put l i n es e slot is W ts v kind V P A k h t c r =
      V (λ x. (assigned program l f (Indexed n es) x >>= (λ u. shown_target program false f (Indexed n es) >>= (λ w. pure Onward))) k h) h t c r
      ∙ ap (before ts) (
      ap (λ (o : Option ℕ). assigned_part program l f o n es v (λ u. k Onward) h (standing W t c r)) is
      ∙ P (λ list. write_part slot n.place list v (λ u. k Onward) h) h t c r
      ∙ ap (λ (z : Result Value ErrKind). put slot n.place z (λ u. k Onward) h (standing W t c r)) A)
