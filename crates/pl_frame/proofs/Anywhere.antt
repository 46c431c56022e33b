-- The body of an iteration that ends by itself goes the same in any run: whatever comes behind it, with any turns, choices and rules,
-- with more levels, on the client too, and in a function that was called with any counts.
use Rattle.std.specs.Prelude.{slice_set}
use Rattle.std.specs.List.{list_all}
use Rattle.std.proofs.Common.{◌≡◌, ◌∙◌, ℕ, ℤ, List, [], ◌∷◌, ◌++◌, length, true, false, Some, None, Result, Ok, Err, refl, sym, ap, subst, ◌≤◌, Bool}
use Rattle.std.proofs.lemmas.List.{length-set}
use Rattle.pl_base.specs.declared.choice.Choice.{Choice}
use Rattle.pl_base.specs.declared.errors.ErrKind.{ErrKind}
use Rattle.pl_base.specs.declared.errors.ScriptError.{ScriptError}
use Rattle.pl_errors.specs.Errors.{error_of}
use Rattle.pl_syntax.specs.declared.expr.Name.{Name}
use Rattle.pl_syntax.specs.declared.stmt.Arm.{Arm}
use Rattle.pl_syntax.specs.declared.stmt.Stmt.{Stmt, out-Stmt}
use Rattle.pl_syntax.specs.declared.stmt.StmtKind.{StmtKind}
use Rattle.pl_syntax.specs.declared.stmt.StmtKind.TheOpen.{StmtKind-F}
use Rattle.pl_syntax.specs.declared.stmt.Target.TheVariants.{Indexed}
use Rattle.pl_values.specs.declared.value.Value.{Value}
use Rattle.pl_values.specs.Workspaces.{value_at}
use Rattle.pl_operators.specs.Bracketing.{number_of}
use Rattle.pl_operators.specs.Picking.{assign_value}
use Rattle.pl_resolve.specs.declared.resolved.Resolved.{Resolved}
use Rattle.pl_meaning.specs.declared.frame.Frame.{Frame}
use Rattle.pl_meaning.specs.declared.frame.Exit.{Exit}
use Rattle.pl_meaning.specs.declared.frame.Exit.TheVariants.{Onward}
use Rattle.pl_meaning.specs.Logs.{Workspace, LoopQuestion, Trace}
use Rattle.pl_meaning.specs.Names.{slot_of}
use Rattle.pl_meaning.specs.Running.{Rest, Outcome, Done, before}
use Rattle.pl_meaning.specs.Runs.{finished, failed}
use Rattle.pl_meaning.specs.Parts.{below, block_from, sequel, value_in, assignment, stmt_in, stmt_at}
use Rattle.pl_meaning.specs.Forms.{is_item}
use Rattle.pl_meaning.specs.Loops.{own_places, body_frame}
use Rattle.pl_frame.specs.Seeing.{Course, standing, Comes_to}
use Rattle.pl_frame.specs.Ordinary.{statement_frame}
use Rattle.pl_frame.proofs.Framed.{Both, shown_twice}
use Rattle.pl_frame.proofs.Values.{both_framed, there_own_list, own_list, and_first, and_second}
use Rattle.pl_frame.proofs.Slots.{set_elsewhere}
use Rattle.pl_frame.proofs.Bodies.{Item, item_of, goes, fails_value, fails_put}
use Rattle.pl_frame.proofs.Keeping.{no_end, done_same, itself, frames, apart}

module _ (program : Resolved) (q : LoopQuestion) (depth : ℕ) (names : List Name) (i : ℤ) (at : ℕ) (at_is : slot_of program (body_frame q) q.index.text ≡ Some at) (levels : ℕ) (as_deep : depth ≤ levels) (client : Bool) (given wanted : ℕ) where
  abbrev f : Frame
  f = body_frame q

  -- the frame of the bigger run
  abbrev g : Frame
  g = statement_frame q client given wanted

  -- statements lead from one workspace to another by themselves and in a bigger run, and keep the index and how many slots there are
  pub record Leads (ss : List Stmt) (E one : Workspace) : Type 0 where
    pub shown : List Trace
    pub by_itself : (k : Exit → Rest) (h : ScriptError → Rest) (t : ℕ) (c : List Choice) (r : Course) → block_from program (below program depth) f ss k h (standing E t c r) ≡ before shown (k Onward (standing one t c r))
    pub goes_on : (k : Exit → Rest) (h : ScriptError → Rest) (t : ℕ) (c : List Choice) (r : Course) → block_from program (below program levels) g ss k h (standing E t c r) ≡ before shown (k Onward (standing one t c r))
    pub index : value_at one at ≡ Some (number_of i)
    pub long : length one ≡ length E

  abbrev pub Leading : List Stmt → Type 0
  Leading ss = (E one : Workspace) → value_at E at ≡ Some (number_of i) → (t : ℕ) (c d : List Choice) (r : Course) → (block_from program (below program depth) f ss finished failed (standing E t c r)).ending ≡ Done one d → Leads ss E one

  module _ (s : Stmt) (more : List Stmt) (I : Item program f q.index names s) where
    -- an assignment and then the others
    abbrev assigning : ℕ → Frame → (Exit → Rest) → (ScriptError → Rest) → Rest
    assigning n F k h = assignment program (below program n) F false (Indexed I.name I.list) I.value (λ x. sequel program x (block_from program (below program n) F more) k h) h

    any_run_is : (n : ℕ) (F : Frame) (k : Exit → Rest) (h : ScriptError → Rest) (W : Workspace) (t : ℕ) (c : List Choice) (r : Course) → block_from program (below program n) F (s ∷ more) k h (standing W t c r) ≡ assigning n F k h (standing W t c r)
    unfolding stmt_in
    any_run_is n F k h W t c r =
        ap (λ (x : StmtKind-F StmtKind Arm Stmt). stmt_at program (below program n) F s (out-Stmt s).place (out-Stmt s).show x (λ x. sequel program x (block_from program (below program n) F more) k h) h (standing W t c r)) I.kind
        ∙ ap (λ (b : Bool). assignment program (below program n) F b (Indexed I.name I.list) I.value (λ x. sequel program x (block_from program (below program n) F more) k h) h (standing W t c r)) I.hidden

    by_assign : (rest : Leading more) (E one : Workspace) (ei : value_at E at ≡ Some (number_of i)) (ts : List Trace) (v : Value) → Comes_to (value_in program (below program depth) f I.value) E ts (Ok v) → Comes_to (value_in program (below program levels) g I.value) E ts (Ok v) → (x : Result Value ErrKind) → assign_value (value_at E I.slot) (own_places i) v ≡ x → (t : ℕ) (c d : List Choice) (r : Course) → (block_from program (below program depth) f (s ∷ more) finished failed (standing E t c r)).ending ≡ Done one d → Leads (s ∷ more) E one
    by_assign rest E one ei ts v V V' (Ok a) A t c d r h =
        let places = own_list program f q.index names i E E (itself program q depth names i at at_is E ei) at at_is (value_in program (below program depth)) (frames program q depth names i at at_is E ei) None I.slot I.list I.own E ei in
        let there = there_own_list program f q.index names i E E (itself program q depth names i at at_is E ei) at at_is client given wanted refl depth levels as_deep None I.slot I.list I.own E ei in
        let next : Workspace = slice_set E I.slot (Some a) in
        let run : (k : Exit → Rest) (h : ScriptError → Rest) (t : ℕ) (c : List Choice) (r : Course) → block_from program (below program depth) f (s ∷ more) k h (standing E t c r) ≡ before ts (block_from program (below program depth) f more k h (standing next t c r)) =
        λ k h t c r. any_run_is depth f k h E t c r ∙ goes program f q.index names (below program depth) i I.name I.list I.value I.slot I.slot_is E ts v a V places A (λ x. sequel program x (block_from program (below program depth) f more) k h) h t c r in
        let R : Leads more next one = rest next one (set_elsewhere E I.slot at (Some a) (apart program q depth names i at at_is s more I) ∙ ei) t c d r (sym (ap (λ (x : Outcome). x.ending) (run finished failed t c r)) ∙ h) in
        record {
          shown = ts ++ R.shown;
          by_itself = λ k h t c r. run k h t c r ∙ ap (before ts) (R.by_itself k h t c r) ∙ shown_twice ts R.shown (k Onward (standing one t c r));
          goes_on = λ k h t c r.
              any_run_is levels g k h E t c r
              ∙ goes program g q.index names (below program levels) i I.name I.list I.value I.slot I.slot_is E ts v a V' there A (λ x. sequel program x (block_from program (below program levels) g more) k h) h t c r
              ∙ ap (before ts) (R.goes_on k h t c r)
              ∙ shown_twice ts R.shown (k Onward (standing one t c r));
          index = R.index;
          long = R.long ∙ length-set E I.slot (Some a);
        }
    by_assign rest E one ei ts v V V' (Err kind) A t c d r h =
        let places = own_list program f q.index names i E E (itself program q depth names i at at_is E ei) at at_is (value_in program (below program depth)) (frames program q depth names i at at_is E ei) None I.slot I.list I.own E ei in
        let run = any_run_is depth f finished failed E t c r ∙ fails_put program f q.index names (below program depth) i I.name I.list I.value I.slot I.slot_is E ts v kind V places A _ failed t c r in
        absurd (no_end (error_of kind I.name.place) c d one (sym (ap (λ (x : Outcome). x.ending) run) ∙ h))

    by_value : (rest : Leading more) (E one : Workspace) (ei : value_at E at ≡ Some (number_of i)) (P : Both E E (value_in program (below program depth) f I.value) (value_in program (below program levels) g I.value)) (x : Result Value ScriptError) → P.gives ≡ x → (t : ℕ) (c d : List Choice) (r : Course) → (block_from program (below program depth) f (s ∷ more) finished failed (standing E t c r)).ending ≡ Done one d → Leads (s ∷ more) E one
    by_value rest E one ei P (Ok v) is t c d r h =
        by_assign rest E one ei P.shown v (subst (λ (x : Result Value ScriptError). Comes_to (value_in program (below program depth) f I.value) E P.shown x) is P.here) (P.there v is) (assign_value (value_at E I.slot) (own_places i) v) refl t c d r h
    by_value rest E one ei P (Err e) is t c d r h =
        let run = any_run_is depth f finished failed E t c r ∙ fails_value program f q.index names (below program depth) I.name I.list I.value E P.shown e (subst (λ (x : Result Value ScriptError). Comes_to (value_in program (below program depth) f I.value) E P.shown x) is P.here) _ failed t c r in
        absurd (no_end e c d one (sym (ap (λ (x : Outcome). x.ending) run) ∙ h))

    next : Leading more → Leading (s ∷ more)
    next rest E one ei t c d r h =
        let P : Both E E (value_in program (below program depth) f I.value) (value_in program (below program levels) g I.value) = (both_framed program f q.index names i E E (itself program q depth names i at at_is E ei) at at_is client given wanted refl depth levels as_deep).only_reads None tt I.value I.fits in
        by_value rest E one ei P P.gives refl t c d r h

  pub leads : (ss : List Stmt) → list_all (is_item program f q.index names) ss ≡ true → Leading ss
  leads [] items = λ E one ei t c d r h.
      let same : E ≡ one = done_same E one c d h in
      record {
        shown = [];
        by_itself = λ k h t c r. ap (λ (W : Workspace). k Onward (standing W t c r)) same;
        goes_on = λ k h t c r. ap (λ (W : Workspace). k Onward (standing W t c r)) same;
        index = ap (λ (W : Workspace). value_at W at) (sym same) ∙ ei;
        long = ap (λ (W : Workspace). length W) (sym same);
      }
  leads (s ∷ more) items =
      next s more (item_of program f q.index names s (and_first (is_item program f q.index names s) (list_all (is_item program f q.index names) more) items)) (leads more (and_second (is_item program f q.index names s) (list_all (is_item program f q.index names) more) items))
