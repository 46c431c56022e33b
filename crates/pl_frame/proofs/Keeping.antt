-- A body of the form keeps what has a value: arrays stay arrays of their class, and nothing else becomes one.
use Rattle.std.specs.Prelude.{slice_set}
use Rattle.std.specs.List.{list_all}
use Rattle.std.proofs.Common.{◌≡◌, ◌∙◌, ℕ, ◌==◌, ℤ, List, [], ◌∷◌, Bool, true, false, Option, Some, None, Result, Ok, Err, refl, sym, ap, subst}
use Rattle.std.proofs.lemmas.Bool.{eqb-true, eqb-false}
use Rattle.pl_base.specs.declared.choice.Choice.{Choice}
use Rattle.pl_base.specs.declared.errors.ErrKind.{ErrKind}
use Rattle.pl_base.specs.declared.errors.ScriptError.{ScriptError}
use Rattle.pl_errors.specs.Errors.{error_of}
use Rattle.pl_syntax.specs.declared.expr.Name.{Name}
use Rattle.pl_syntax.specs.declared.stmt.Stmt.{Stmt}
use Rattle.pl_syntax.specs.declared.stmt.Target.TheVariants.{Indexed}
use Rattle.pl_values.specs.declared.value.Value.{Value, out-Value}
use Rattle.pl_values.specs.Workspaces.{value_at}
use Rattle.pl_operators.specs.Bracketing.{number_of}
use Rattle.pl_operators.specs.Picking.{assign_value}
use Rattle.pl_resolve.specs.declared.resolved.Resolved.{Resolved}
use Rattle.pl_meaning.specs.declared.frame.Frame.{Frame}
use Rattle.pl_meaning.specs.Known.{same}
use Rattle.pl_meaning.specs.Logs.{Workspace, LoopQuestion, Trace}
use Rattle.pl_meaning.specs.Names.{names_in, slot_of}
use Rattle.pl_meaning.specs.Running.{Done, Raised, Outcome}
use Rattle.pl_meaning.specs.Runs.{finished, failed}
use Rattle.pl_meaning.specs.Parts.{below, block_from, sequel, value_in, assignment}
use Rattle.pl_meaning.specs.Forms.{is_item}
use Rattle.pl_meaning.specs.Loops.{own_places, body_frame}
use Rattle.pl_frame.specs.Seeing.{Course, standing, Comes_to, Framed, Alike}
use Rattle.pl_frame.proofs.Values.{Framing, all_framed, own_list, and_first, and_second}
use Rattle.pl_frame.proofs.Own.{class_in, keeps_class}
use Rattle.pl_frame.proofs.Slots.{set_here, set_elsewhere, has_slot, one_name}
use Rattle.pl_frame.proofs.Bodies.{same_self, Item, item_of, stmt_is, goes, fails_value, fails_put}

some_same : {A : Type 0} (a b : A) → Some a ≡ Some b → a ≡ b
some_same a b e = cc

pub no_end : (e : ScriptError) (c d : List Choice) (one : Workspace) → Raised e c ≡ Done one d → ⊥
no_end e c d one h = cc

pub done_same : (a b : Workspace) (c d : List Choice) → Done a c ≡ Done b d → a ≡ b
done_same a b c d h = cc

module _ (program : Resolved) (q : LoopQuestion) (depth : ℕ) (names : List Name) (i : ℤ) (at : ℕ) (at_is : slot_of program (body_frame q) q.index.text ≡ Some at) where
  abbrev f : Frame
  f = body_frame q

  at_slot : (E : Workspace) → value_at E at ≡ Some (number_of i) → (s : ℕ) → slot_of program f q.index.text ≡ Some s → value_at E s ≡ Some (number_of i)
  at_slot E h s is = ap (value_at E) (some_same s at (sym is ∙ at_is)) ∙ h

  -- a workspace looks like itself
  pub itself : (E : Workspace) → value_at E at ≡ Some (number_of i) → Alike program f q.index names i E E
  itself E h = record {
    unwritten = λ n s among is. refl;
    index_here = at_slot E h;
    index_there = at_slot E h;
    parts = λ n s v x among is held picked. (v, held, picked);
  }

  pub frames : (E : Workspace) (h : value_at E at ≡ Some (number_of i)) → Framing program f q.index names i E E (itself E h) at at_is (value_in program (below program depth))
  frames E h = all_framed program f q.index names i E E (itself E h) at at_is refl depth

  -- what a variable has at the end of a value that it had
  abbrev pub Like : Workspace → ℕ → Value → Type 0
  Like one s v = (w : Value) × (value_at one s ≡ Some w) × (class_in (out-Value w) ≡ class_in (out-Value v))

  abbrev pub Keeps : List Stmt → Type 0
  Keeps ss = (E one : Workspace) → value_at E at ≡ Some (number_of i) → (t : ℕ) (c d : List Choice) (r : Course) → (block_from program (below program depth) f ss finished failed (standing E t c r)).ending ≡ Done one d → (s : ℕ) (v : Value) → value_at E s ≡ Some v → Like one s v

  module _ (s : Stmt) (more : List Stmt) (I : Item program f q.index names s) where
    pub apart : I.slot ≡ at → ⊥
    apart e =
        let texts : I.name.text ≡ q.index.text = one_name (names_in program q.scope) I.name.text q.index.text I.slot I.slot_is (at_is ∙ ap Some (sym e)) in
        let yes_same : same I.name.text q.index.text ≡ true = ap (λ (x : List ℕ). same I.name.text x) (sym texts) ∙ same_self I.name.text in
        let no_same : same I.name.text q.index.text ≡ false = I.no_index in
        cc

    pub run_is : (W : Workspace) (t : ℕ) (c : List Choice) (r : Course) → block_from program (below program depth) f (s ∷ more) finished failed (standing W t c r) ≡ assignment program (below program depth) f false (Indexed I.name I.list) I.value (λ x. sequel program x (block_from program (below program depth) f more) finished failed) failed (standing W t c r)
    run_is W t c r = ap (λ p. p (λ x. sequel program x (block_from program (below program depth) f more) finished failed) failed (standing W t c r)) (stmt_is program f q.index names (below program depth) s I)

    by_slot : (E one : Workspace) (a v : Value) → assign_value (value_at E I.slot) (own_places i) v ≡ Ok a → ((j : ℕ) (u : Value) → value_at (slice_set E I.slot (Some a)) j ≡ Some u → Like one j u) → (j : ℕ) (b : Bool) → (I.slot == j) ≡ b → (u : Value) → value_at E j ≡ Some u → Like one j u
    by_slot E one a v A rest j true e u held =
        let here : value_at E I.slot ≡ Some u = ap (value_at E) (eqb-true I.slot j e) ∙ held in
        let R : Like one j a = rest j a (ap (value_at (slice_set E I.slot (Some a))) (sym (eqb-true I.slot j e)) ∙ set_here E I.slot a (has_slot E I.slot u here)) in
        (R.0, R.1, R.2 ∙ keeps_class u v a i (sym (ap (λ (x : Option Value). assign_value x (own_places i) v) here) ∙ A))
    by_slot E one a v A rest j false e u held = rest j u (set_elsewhere E I.slot j (Some a) (eqb-false I.slot j e) ∙ held)

    by_assign : (rest : Keeps more) (E one : Workspace) (ei : value_at E at ≡ Some (number_of i)) (ts : List Trace) (v : Value) → Comes_to (value_in program (below program depth) f I.value) E ts (Ok v) → (x : Result Value ErrKind) → assign_value (value_at E I.slot) (own_places i) v ≡ x → (t : ℕ) (c d : List Choice) (r : Course) → (block_from program (below program depth) f (s ∷ more) finished failed (standing E t c r)).ending ≡ Done one d → (j : ℕ) (u : Value) → value_at E j ≡ Some u → Like one j u
    by_assign rest E one ei ts v V (Ok a) A t c d r h j u held =
        let run = run_is E t c r ∙ goes program f q.index names (below program depth) i I.name I.list I.value I.slot I.slot_is E ts v a V
        (own_list program f q.index names i E E (itself E ei) at at_is (value_in program (below program depth)) (frames E ei) None I.slot I.list I.own E ei) A _ failed t c r in
        by_slot E one a v A (rest (slice_set E I.slot (Some a)) one (set_elsewhere E I.slot at (Some a) apart ∙ ei) t c d r (sym (ap (λ (x : Outcome). x.ending) run) ∙ h)) j (I.slot == j) refl u held
    by_assign rest E one ei ts v V (Err kind) A t c d r h j u held =
        let run = run_is E t c r ∙ fails_put program f q.index names (below program depth) i I.name I.list I.value I.slot I.slot_is E ts v kind V
        (own_list program f q.index names i E E (itself E ei) at at_is (value_in program (below program depth)) (frames E ei) None I.slot I.list I.own E ei) A _ failed t c r in
        absurd (no_end (error_of kind I.name.place) c d one (sym (ap (λ (x : Outcome). x.ending) run) ∙ h))

    by_value : (rest : Keeps more) (E one : Workspace) (ei : value_at E at ≡ Some (number_of i)) (P : Framed E E (value_in program (below program depth) f I.value)) (g : Result Value ScriptError) → P.gives ≡ g → (t : ℕ) (c d : List Choice) (r : Course) → (block_from program (below program depth) f (s ∷ more) finished failed (standing E t c r)).ending ≡ Done one d → (j : ℕ) (u : Value) → value_at E j ≡ Some u → Like one j u
    by_value rest E one ei P (Ok v) is t c d r h j u held =
        by_assign rest E one ei P.shown v (P.there v is) (assign_value (value_at E I.slot) (own_places i) v) refl t c d r h j u held
    by_value rest E one ei P (Err x) is t c d r h j u held =
        let run = run_is E t c r ∙ fails_value program f q.index names (below program depth) I.name I.list I.value E P.shown x (subst (λ (g : Result Value ScriptError). Comes_to (value_in program (below program depth) f I.value) E P.shown g) is P.here) _ failed t c r in
        absurd (no_end x c d one (sym (ap (λ (x : Outcome). x.ending) run) ∙ h))

    next : Keeps more → Keeps (s ∷ more)
    next rest E one ei t c d r h j u held =
        let P : Framed E E (value_in program (below program depth) f I.value) = (frames E ei).only_reads None tt I.value I.fits in
        by_value rest E one ei P P.gives refl t c d r h j u held

  pub keeps : (ss : List Stmt) → list_all (is_item program f q.index names) ss ≡ true → Keeps ss
  keeps [] items = λ E one ei t c d r h j u held. (u, ap (λ (W : Workspace). value_at W j) (sym (done_same E one c d h)) ∙ held, refl)
  keeps (s ∷ more) items =
      next s more (item_of program f q.index names s (and_first (is_item program f q.index names s) (list_all (is_item program f q.index names) more) items)) (keeps more (and_second (is_item program f q.index names s) (list_all (is_item program f q.index names) more) items))
