-- The run on one workspace: each variable that is new with the loop gets cells of the class that it has at the end.
use Rattle.std.specs.Prelude.{◌&&◌, not, slice_set}
use Rattle.std.proofs.Common.{◌≡◌, ◌∙◌, ℕ, zero, suc, ◌<◌, ◌==◌, ℤ, List, length, Bool, true, false, Option, Some, None, Result, Ok, Err, refl, sym, ap, subst}
use Rattle.std.proofs.lemmas.Bool.{eqb-true, eqb-false}
use Rattle.pl_base.specs.declared.errors.ErrKind.{ErrKind}
use Rattle.pl_base.specs.declared.errors.ErrKind.TheVariants.{BadKind}
use Rattle.pl_array.specs.declared.class.Class.{Class}
use Rattle.pl_array.specs.Arrays.{Array, class_number}
use Rattle.pl_index.specs.Writing.{nothing}
use Rattle.pl_syntax.specs.declared.expr.Name.{Name}
use Rattle.pl_syntax.specs.declared.stmt.Stmt.{Stmt}
use Rattle.pl_values.specs.declared.value.Value.{Value, out-Value}
use Rattle.pl_values.specs.declared.value.Value.TheOpen.{Value-F}
use Rattle.pl_values.specs.declared.value.Value.TheVariants as value
use Rattle.pl_values.specs.Workspaces.{value_at}
use Rattle.pl_operators.specs.Bracketing.{number_of}
use Rattle.pl_operators.specs.Picking.{assign_to_futures, assign_at, assign_value}
use Rattle.pl_resolve.specs.declared.resolved.Resolved.{Resolved}
use Rattle.pl_meaning.specs.Logs.{Workspace, LoopQuestion, Trace}
use Rattle.pl_meaning.specs.Names.{slot_of}
use Rattle.pl_meaning.specs.Parts.{written_in, with_slot}
use Rattle.pl_meaning.specs.Forms.{is_among}
use Rattle.pl_meaning.specs.Loops.{body_frame, start_of, own_places, is_mixed_with, is_mixed}
use Rattle.pl_frame.specs.Rising.{is_array, suits, Assigns, Passing}
use Rattle.pl_frame.proofs.Values.{and_first, and_second, not_true}
use Rattle.pl_frame.proofs.Own.{class_in, class_of_array, keeps_class, assigns_new}
use Rattle.pl_frame.proofs.Slots.{set_here, set_elsewhere, has_slot}
use Rattle.pl_frame.proofs.Fresh.{one_class, not_false}

-- the class of a value that is there
abbrev pub class_there : Option Value → Option Class
class_there None = None
class_there (Some v) = class_in (out-Value v)

no_made : (kind : ErrKind) (a : Value) → ◌≡◌ {A = Result Value ErrKind} (Err kind) (Ok a) → ⊥
no_made kind a e = cc

-- a value that suits a variable that is new is an array
array_of : (v : Value) → is_array (out-Value v) ≡ true → (y : Array) × (out-Value v ≡ Value-F.Array y)
array_of v h = by_layer (out-Value v) refl h
  where
    by_layer : (layer : Value-F Value) → out-Value v ≡ layer → is_array layer ≡ true → (y : Array) × (out-Value v ≡ Value-F.Array y)
    by_layer (Value-F.Array y) is h = (y, is)
    by_layer layer is h = absurd (cc)

-- the class of what stands there, where an array of its class was assigned to
old_class : (u v a : Value) (y : Array) (i : ℤ) → out-Value v ≡ Value-F.Array y → assign_value (Some u) (own_places i) v ≡ Ok a → is_mixed (Some u) v ≡ false → class_in (out-Value u) ≡ Some y.class
old_class u v a y i is A m = by_layer (out-Value u) A (sym (ap (is_mixed_with (out-Value u)) is) ∙ m)
  where
    by_layer : (layer : Value-F Value) → assign_at layer (own_places i) v ≡ Ok a → is_mixed_with layer (Value-F.Array y) ≡ false → class_in layer ≡ Some y.class
    by_layer (Value-F.Array b) A m = ap Some (one_class b.class y.class (eqb-true (class_number b.class) (class_number y.class) (not_false (class_number b.class == class_number y.class) m)))
    by_layer (Value-F.Futures calls) A m = absurd (no_made BadKind a (sym (ap (assign_to_futures calls (own_places i)) is) ∙ A))
    by_layer layer A m = absurd (cc)

made_class : (o : Option Value) (v a : Value) (y : Array) (i : ℤ) → out-Value v ≡ Value-F.Array y → assign_value o (own_places i) v ≡ Ok a → is_mixed o v ≡ false → class_in (out-Value a) ≡ Some y.class
made_class None v a y i is A m = keeps_class (value.Array (nothing y.class)) v a i (sym (assigns_new y i v is) ∙ A) ∙ class_of_array (nothing y.class)
made_class (Some u) v a y i is A m = keeps_class u v a i A ∙ old_class u v a y i is A m

module _ (program : Resolved) (depth : ℕ) (q : LoopQuestion) (env : Workspace) (k : ℕ → Option Class) where
  -- a slot that the body writes
  abbrev pub Target : ℕ → Type 0
  Target s = (n : Name) × (is_among (written_in q.body) n ≡ true) × (slot_of program (body_frame q) n.text ≡ Some s)

  -- each variable that is new has its class, where it has a value
  abbrev pub Classed : Workspace → Type 0
  Classed W = (s : ℕ) → Target s → value_at env s ≡ None → (u : Value) → value_at W s ≡ Some u → class_in (out-Value u) ≡ k s

  -- they have it in front of an assignment, where they have it behind it
  pub classed_before : (i : ℤ) (s : Stmt) (now : Workspace) (shown : List Trace) (next : Workspace) → Assigns program depth q env i s now shown next → Classed next → Classed now
  classed_before i s now shown next A C j w none u held = by_slot (A.slot == j) refl
    where
      by_slot : (b : Bool) → (A.slot == j) ≡ b → class_in (out-Value u) ≡ k j
      by_slot true e =
          let same : A.slot ≡ j = eqb-true A.slot j e in
          let here : value_at now A.slot ≡ Some u = ap (value_at now) same ∙ held in
          let there : value_at next j ≡ Some A.made = ap (λ (W : Workspace). value_at W j) A.leaves ∙ ap (value_at (slice_set now A.slot (Some A.made))) (sym same) ∙ set_here now A.slot A.made (has_slot now A.slot u here) in
          sym (keeps_class u A.gained A.made i (sym (ap (λ (x : Option Value). assign_value x (own_places i) A.gained) here) ∙ A.makes)) ∙ C j w none A.made there
      by_slot false e = C j w none u (ap (λ (W : Workspace). value_at W j) A.leaves ∙ set_elsewhere now A.slot j (Some A.made) (eqb-false A.slot j e) ∙ held)

  pub classed_start : (i : ℤ) (start : Workspace) (told : List ℕ) (n : ℕ) (now : Workspace) (text : List ℕ) → Passing program depth q env i start told n now text → Classed now → Classed start
  classed_start i start told zero now text P C = subst Classed P.0 C
  classed_start i start told (suc n) now text F C = classed_start i start told n F.now F.told F.come (classed_before i F.stmt F.now F.shown now F.assigns C)

  -- the index has another slot
  pub classed_pass : (at : ℕ) → slot_of program (body_frame q) q.index.text ≡ Some at → ((s : ℕ) → Target s → s ≡ at → ⊥) → (i : ℤ) (before : Workspace) → Classed (start_of program q before i) → Classed before
  classed_pass at at_is apart i before C s w none u held =
      C s w none u (ap (λ (o : Option ℕ). value_at (with_slot before o (number_of i)) s) at_is ∙ set_elsewhere before at s (Some (number_of i)) (λ e. apart s w (sym e)) ∙ held)

  -- what is assigned to a variable that is new is an array of its class
  pub gained_class : (i : ℤ) (s : Stmt) (now : Workspace) (shown : List Trace) (next : Workspace) (A : Assigns program depth q env i s now shown next) → Classed next → Target A.slot → A.slot < length now → value_at env A.slot ≡ None → (y : Array) × (out-Value A.gained ≡ Value-F.Array y) × (Some y.class ≡ k A.slot)
  gained_class i s now shown next A C w within none =
      let may : (is_array (out-Value A.gained) && not (is_mixed (value_at now A.slot) A.gained)) ≡ true = sym (ap (λ (o : Option Value). suits o (value_at now A.slot) A.gained) none) ∙ A.may in
      let y = array_of A.gained (and_first (is_array (out-Value A.gained)) _ may) in
      let unmixed : is_mixed (value_at now A.slot) A.gained ≡ false = not_true (is_mixed (value_at now A.slot) A.gained) (and_second (is_array (out-Value A.gained)) _ may) in
      let there : value_at next A.slot ≡ Some A.made = ap (λ (W : Workspace). value_at W A.slot) A.leaves ∙ set_here now A.slot A.made within in
      (y.0, y.1, sym (made_class (value_at now A.slot) A.gained A.made y.0 i y.1 A.makes unmixed) ∙ C A.slot w none A.made there)
