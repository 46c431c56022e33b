-- The variables that are new with a loop: their classes, which the merge of what the iterations wrote tells.
use Rattle.std.specs.Prelude.{◌||◌, not, is_some, if◌then◌else◌}
use Rattle.std.specs.List.{list_all, list_any}
use Rattle.std.specs.Cmp.Lexicographic.{same_text}
use Rattle.std.proofs.Common.{◌≡◌, ◌∙◌, ℕ, ◌<◌, ◌==◌, ℤ, pos, List, [], ◌∷◌, ◌++◌, length, get_or, Bool, true, false, Option, Some, None, Result, Ok, Err, refl, sym, ap, subst}
use Rattle.std.proofs.lemmas.Bool.{eqb-true, eq-eqb}
use Rattle.pl_base.specs.declared.errors.ErrKind.{ErrKind}
use Rattle.pl_base.specs.declared.errors.ErrKind.TheVariants.{MixedClass}
use Rattle.pl_array.specs.declared.class.Class.{Class}
use Rattle.pl_array.specs.declared.class.Class.TheVariants.{Logical, Int, Char}
use Rattle.pl_array.specs.Arrays.{Array, class_number}
use Rattle.pl_index.specs.Places.{place_of}
use Rattle.pl_index.specs.Writing.{nothing}
use Rattle.pl_syntax.specs.declared.expr.Name.{Name}
use Rattle.pl_values.specs.declared.value.Value.{Value, out-Value}
use Rattle.pl_values.specs.declared.value.Value.TheOpen.{Value-F}
use Rattle.pl_values.specs.declared.value.Value.TheVariants as value
use Rattle.pl_values.specs.declared.value.Value.TheVariants.{outs-Array}
use Rattle.pl_values.specs.Workspaces.{value_at}
use Rattle.pl_operators.specs.Operands.{and_then}
use Rattle.pl_operators.specs.Picking.{assign_value}
use Rattle.pl_resolve.specs.declared.resolved.Resolved.{Resolved}
use Rattle.pl_meaning.specs.declared.event.Output.{Output}
use Rattle.pl_meaning.specs.Known.{same}
use Rattle.pl_meaning.specs.Logs.{Workspace, LoopQuestion}
use Rattle.pl_meaning.specs.Names.{slot_of}
use Rattle.pl_meaning.specs.Parts.{written_in}
use Rattle.pl_meaning.specs.Forms.{is_among, is_item}
use Rattle.pl_meaning.specs.declared.event.Clash.{Clash}
use Rattle.pl_meaning.specs.Loops.{Write, body_frame, own_places, wrote, is_mixed_with, is_mixed, put_in, put_all, merged, indices, with_one, slots_from, written_slots, ends_of, writes, after, output_of, outputs, come_to}
use Rattle.pl_frame.specs.Ordering.{IsReady, Each}
use Rattle.pl_frame.proofs.Own.{cell_alone, class_in, class_of_array, keeps_class, assigns_new}
use Rattle.pl_frame.proofs.Iteration.{Laid, array_or, array_there}
use Rattle.pl_frame.proofs.Turns.{Good, good, Done_well, All_done}
use Rattle.pl_frame.proofs.Orders.{written_value, wrote_is}

pub some_slot : (o : Option ℕ) → is_some o ≡ true → (s : ℕ) × (o ≡ Some s)
some_slot (Some s) h = (s, refl)
some_slot None h = absurd (cc)

pub some_end : {A : Type 0} (o : Option A) → is_some o ≡ true → (x : A) × (o ≡ Some x)
some_end (Some x) h = (x, refl)
some_end None h = absurd (cc)

some_same : {A : Type 0} (a b : A) → Some a ≡ Some b → a ≡ b
some_same a b e = cc

-- ## Classes

pub one_class : (a b : Class) → class_number a ≡ class_number b → a ≡ b
one_class Logical Logical h = refl
one_class Int Int h = refl
one_class Char Char h = refl
one_class Logical Int h = absurd (cc)
one_class Logical Char h = absurd (cc)
one_class Int Logical h = absurd (cc)
one_class Int Char h = absurd (cc)
one_class Char Logical h = absurd (cc)
one_class Char Int h = absurd (cc)

pub not_false : (b : Bool) → not b ≡ false → b ≡ true
not_false true h = refl
not_false false h = absurd (cc)

-- an array that isn't refused as mixed has the class of what stands there
unmixed : (v : Value) (y : Array) (k : Class) → class_in (out-Value v) ≡ Some k → is_mixed (Some v) (value.Array y) ≡ false → y.class ≡ k
unmixed v y k h m = by_layer (out-Value v) h (sym (ap (is_mixed_with (out-Value v)) (outs-Array y)) ∙ m)
  where
    by_layer : (layer : Value-F Value) → class_in layer ≡ Some k → is_mixed_with layer (Value-F.Array y) ≡ false → y.class ≡ k
    by_layer (Value-F.Array a) h m = sym (one_class a.class y.class (eqb-true (class_number a.class) (class_number y.class) (not_false (class_number a.class == class_number y.class) m))) ∙ some_same a.class k h
    by_layer layer h m = absurd (cc)

-- what stands there after an array was put in
put_class : (v u : Value) (y : Array) (k : Class) (i : ℤ) → class_in (out-Value v) ≡ Some k → put_in true (Some v) (record { at = own_places i; value = value.Array y }) ≡ Ok u → (y.class ≡ k) × (class_in (out-Value u) ≡ Some k)
put_class v u y k i h p = by_test (is_mixed (Some v) (value.Array y)) refl p
  where
    by_test : (t : Bool) → is_mixed (Some v) (value.Array y) ≡ t → (if t then Err MixedClass else assign_value (Some v) (own_places i) (value.Array y)) ≡ Ok u → (y.class ≡ k) × (class_in (out-Value u) ≡ Some k)
    by_test true e p = absurd (cc)
    by_test false e p = (unmixed v y k h e, keeps_class v (value.Array y) u i p ∙ h)

module _ (program : Resolved) (q : LoopQuestion) (env : Workspace) (turns depth : ℕ) where
  abbrev end_at : ℤ → Option Workspace
  end_at = ends_of program turns depth q env

  -- an iteration wrote an array to a variable, of the class that the variable has at its end
  record One_array (s : ℕ) (i : ℤ) : Type 0 where
    array : Array
    wrote_it : wrote s i (end_at i) ≡ record { at = own_places i; value = value.Array array } ∷ []
    one : Workspace
    ends : end_at i ≡ Some one
    last : Array
    there : value_at one s ≡ Some (value.Array last)
    class : last.class ≡ array.class

  -- the array at the iteration's end has this class
  abbrev Classed : ℕ → Class → ℤ → Type 0
  Classed s k i = (one : Workspace) → end_at i ≡ Some one → (b : Array) × (value_at one s ≡ Some (value.Array b)) × (b.class ≡ k)

  classed : (s : ℕ) (i : ℤ) (k : Class) (O : One_array s i) → O.array.class ≡ k → Classed s k i
  classed s i k O e = λ one ends. (O.last, ap (λ (W : Workspace). value_at W s) (some_same one O.one (sym ends ∙ O.ends)) ∙ O.there, O.class ∙ e)

  same_classes : (s : ℕ) (is : List ℤ) → Each (One_array s) is → (v : Value) (k : Class) → class_in (out-Value v) ≡ Some k → (r : Option Value) → put_all true (Some v) (writes program turns depth q env s is) ≡ Ok r → Each (Classed s k) is
  same_classes s [] all v k h r p = tt
  same_classes s (i ∷ is) all v k h r p =
      by_put (λ u e g. same_classes s is all.1 u k e r g) (put_in true (Some v) (record { at = own_places i; value = value.Array all.0.array })) refl (sym (ap (λ (us : List Write). put_all true (Some v) (us ++ writes program turns depth q env s is)) all.0.wrote_it) ∙ p)
    where
      by_put : ((u : Value) → class_in (out-Value u) ≡ Some k → put_all true (Some u) (writes program turns depth q env s is) ≡ Ok r → Each (Classed s k) is) → (x : Result Value ErrKind) → put_in true (Some v) (record { at = own_places i; value = value.Array all.0.array }) ≡ x → and_then x (λ u. put_all true (Some u) (writes program turns depth q env s is)) ≡ Ok r → Each (Classed s k) (i ∷ is)
      by_put rest (Err kind) e g = absurd (cc)
      by_put rest (Ok u) e g =
          let c = put_class v u all.0.array k i h e in
          (classed s i k all.0 c.0, rest u c.1 g)

  -- the class of a variable at the end of the first iteration
  abbrev pub value_in : Option Workspace → ℕ → Option Value
  value_in None s = None
  value_in (Some one) s = value_at one s

  abbrev pub class_at : ℤ → ℕ → Class
  class_at i s = (array_or Int (value_in (end_at i) s)).class

  abbrev pub class_by : List ℤ → ℕ → Class
  class_by [] s = Int
  class_by (i ∷ is) s = class_at i s

  class_there : (s : ℕ) (i : ℤ) (one : Workspace) (b : Array) → end_at i ≡ Some one → value_at one s ≡ Some (value.Array b) → class_at i s ≡ b.class
  class_there s i one b e h =
      ap (λ (x : Option Workspace). (array_or Int (value_in x s)).class) e
      ∙ ap (λ (x : Option Value). (array_or Int x).class) h
      ∙ ap (λ (a : Array). a.class) (array_there b)

  all_classes : (s : ℕ) (is : List ℤ) → Each (One_array s) is → (r : Option Value) → put_all true None (writes program turns depth q env s is) ≡ Ok r → Each (Classed s (class_by is s)) is
  all_classes s [] all r p = tt
  all_classes s (i ∷ is) all r p =
      by_put (assign_value None (own_places i) (value.Array all.0.array)) refl (sym (ap (λ (us : List Write). put_all true None (us ++ writes program turns depth q env s is)) all.0.wrote_it) ∙ p)
    where
      first : all.0.array.class ≡ class_at i s
      first = sym all.0.class ∙ sym (class_there s i all.0.one all.0.last all.0.ends all.0.there)

      by_put : (x : Result Value ErrKind) → assign_value None (own_places i) (value.Array all.0.array) ≡ x → and_then x (λ u. put_all true (Some u) (writes program turns depth q env s is)) ≡ Ok r → Each (Classed s (class_at i s)) (i ∷ is)
      by_put (Err kind) e g = absurd (cc)
      by_put (Ok u) e g =
          let y : Array = all.0.array in
          let made : class_in (out-Value u) ≡ Some y.class = keeps_class (value.Array (nothing y.class)) (value.Array y) u i (sym (assigns_new y i (value.Array y) (outs-Array y)) ∙ e) ∙ class_of_array (nothing y.class) in
          (classed s i (class_at i s) all.0 first, same_classes s is all.1 u (class_at i s) (made ∙ ap Some first) r g)

  -- ## Every variable that the body writes is merged

  abbrev pub Is_ok : List ℤ → ℕ → Type 0
  Is_ok is s = (r : Option Value) × (after program turns depth q env is s ≡ Ok r)

  no_outputs : (c : Clash) (outs : List Output) → ◌≡◌ {A = Result (List Output) Clash} (Err c) (Ok outs) → ⊥
  no_outputs c outs e = cc

  pub all_ok : (is : List ℤ) (slots : List ℕ) (outs : List Output) → outputs program turns depth q env is slots ≡ Ok outs → Each (Is_ok is) slots
  all_ok is [] outs h = tt
  all_ok is (s ∷ slots) outs h = by_parts (after program turns depth q env is s) refl (outputs program turns depth q env is slots) (λ more e. all_ok is slots more e) h
    where
      by_parts : (x : Result (Option Value) ErrKind) → after program turns depth q env is s ≡ x → (m : Result (List Output) Clash) → ((more : List Output) → m ≡ Ok more → Each (Is_ok is) slots) → output_of s x m ≡ Ok outs → Each (Is_ok is) (s ∷ slots)
      by_parts (Err kind) e m em h = absurd (cc)
      by_parts (Ok None) e (Err c) em h = absurd (no_outputs c outs h)
      by_parts (Ok None) e (Ok more) em h = ((None, e), em more refl)
      by_parts (Ok (Some v)) e (Err c) em h = absurd (no_outputs c outs h)
      by_parts (Ok (Some v)) e (Ok more) em h = ((Some v, e), em more refl)

  pub each_any : (P : ℕ → Type 0) (slots : List ℕ) (s : ℕ) → Each P slots → list_any (λ (x : ℕ). x == s) slots ≡ true → P s
  each_any P [] s all h = absurd (cc)
  each_any P (x ∷ slots) s all h = by_test (λ g. each_any P slots s all.1 g) (x == s) refl h
    where
      by_test : (list_any (λ (x : ℕ). x == s) slots ≡ true → P s) → (t : Bool) → (x == s) ≡ t → (t || list_any (λ (x : ℕ). x == s) slots) ≡ true → P s
      by_test rest true e h = subst P (eqb-true x s e) all.0
      by_test rest false e h = rest h

  any_append : (xs ys : List ℕ) (s : ℕ) → list_any (λ (x : ℕ). x == s) xs ≡ true → list_any (λ (x : ℕ). x == s) (xs ++ ys) ≡ true
  any_append [] ys s h = absurd (cc)
  any_append (x ∷ xs) ys s h = by_test (λ g. any_append xs ys s g) (x == s) h
    where
      by_test : (list_any (λ (x : ℕ). x == s) xs ≡ true → list_any (λ (x : ℕ). x == s) (xs ++ ys) ≡ true) → (t : Bool) → (t || list_any (λ (x : ℕ). x == s) xs) ≡ true → (t || list_any (λ (x : ℕ). x == s) (xs ++ ys)) ≡ true
      by_test rest true h = refl
      by_test rest false h = rest h

  any_last : (xs : List ℕ) (s : ℕ) → list_any (λ (x : ℕ). x == s) (xs ++ s ∷ []) ≡ true
  any_last [] s = ap (λ (b : Bool). b || false) (eq-eqb s s refl)
  any_last (x ∷ xs) s = by_test (any_last xs s) (x == s)
    where
      by_test : list_any (λ (x : ℕ). x == s) (xs ++ s ∷ []) ≡ true → (t : Bool) → (t || list_any (λ (x : ℕ). x == s) (xs ++ s ∷ [])) ≡ true
      by_test rest true = refl
      by_test rest false = rest

  kept_slot : (done : List ℕ) (o : Option ℕ) (s : ℕ) → list_any (λ (x : ℕ). x == s) done ≡ true → list_any (λ (x : ℕ). x == s) (with_one done o) ≡ true
  kept_slot done None s h = h
  kept_slot done (Some n) s h = by_test (list_any (λ (x : ℕ). x == n) done)
    where
      by_test : (t : Bool) → list_any (λ (x : ℕ). x == s) (if t then done else done ++ n ∷ []) ≡ true
      by_test true = h
      by_test false = any_append done (n ∷ []) s h

  new_slot : (done : List ℕ) (s : ℕ) → list_any (λ (x : ℕ). x == s) (with_one done (Some s)) ≡ true
  new_slot done s = by_test (list_any (λ (x : ℕ). x == s) done) refl
    where
      by_test : (t : Bool) → list_any (λ (x : ℕ). x == s) done ≡ t → list_any (λ (x : ℕ). x == s) (if t then done else done ++ s ∷ []) ≡ true
      by_test true e = e
      by_test false e = any_last done s

  kept_slots : (done : List ℕ) (ns : List Name) (s : ℕ) → list_any (λ (x : ℕ). x == s) done ≡ true → list_any (λ (x : ℕ). x == s) (slots_from program (body_frame q) done ns) ≡ true
  kept_slots done [] s h = h
  kept_slots done (n ∷ ns) s h = kept_slots (with_one done (slot_of program (body_frame q) n.text)) ns s (kept_slot done (slot_of program (body_frame q) n.text) s h)

  pub all_slots : (done : List ℕ) (ns : List Name) (n : Name) (s : ℕ) → is_among ns n ≡ true → slot_of program (body_frame q) n.text ≡ Some s → list_any (λ (x : ℕ). x == s) (slots_from program (body_frame q) done ns) ≡ true
  all_slots done [] n s h is = absurd (cc)
  all_slots done (m ∷ ns) n s h is = by_test (λ g. all_slots (with_one done (slot_of program (body_frame q) m.text)) ns n s g is) (same m.text n.text) refl h
    where
      by_test : (is_among ns n ≡ true → list_any (λ (x : ℕ). x == s) (slots_from program (body_frame q) (with_one done (slot_of program (body_frame q) m.text)) ns) ≡ true) → (t : Bool) → same m.text n.text ≡ t → (t || is_among ns n) ≡ true → list_any (λ (x : ℕ). x == s) (slots_from program (body_frame q) (with_one done (slot_of program (body_frame q) m.text)) ns) ≡ true
      by_test rest true e h =
          kept_slots (with_one done (slot_of program (body_frame q) m.text)) ns s
          (subst (λ (o : Option ℕ). list_any (λ (x : ℕ). x == s) (with_one done o) ≡ true) (sym (ap (slot_of program (body_frame q)) (same_text m.text n.text (sym e)) ∙ is)) (new_slot done s))
      by_test rest false e h = rest h

  -- ## The loop

  module _ (at : ℕ) (at_is : slot_of program (body_frame q) q.index.text ≡ Some at) (at_within : at < length env) (ready : IsReady program q env) (items : list_all (is_item program (body_frame q) q.index (written_in q.body)) q.body ≡ true) where
    abbrev pub with_classes : (ℕ → Class) → Laid program q env
    with_classes classes = record {
      at = at;
      at_is = at_is;
      at_within = at_within;
      classes = classes;
      arrays = ready;
      items = items;
    }

    abbrev Target : ℕ → Type 0
    Target s = (n : Name) × (is_among (written_in q.body) n ≡ true) × (slot_of program (body_frame q) n.text ≡ Some s)

    -- an iteration leaves arrays in the variables that are new
    abbrev pub Leaves : ℤ → Type 0
    Leaves i = (s : ℕ) → Target s → value_at env s ≡ None → (end : Workspace) → end_at i ≡ Some end → (a : Array) × (value_at end s ≡ Some (value.Array a))

    each_swap : (P : ℕ → ℤ → Type 0) (is : List ℤ) → ((s : ℕ) → Target s → value_at env s ≡ None → Each (P s) is) → Each (λ (i : ℤ). (s : ℕ) → Target s → value_at env s ≡ None → P s i) is
    each_swap P [] h = tt
    each_swap P (i ∷ is) h = ((λ s w none. (h s w none).0), each_swap P is (λ s w none. (h s w none).1))

    -- an iteration, with the classes that the variables have at its own end
    own_well : (i : ℤ) → is_some (end_at i) ≡ true → Leaves i → Done_well program q env turns depth (with_classes (class_at i)) i
    own_well i h l = let e = some_end (end_at i) h in (e.0, e.1, λ s w none. let a = l s w none e.0 e.1 in (a.0, a.1, sym (class_there s i e.0 a.0 e.1 a.1)))

    one_array : (i : ℤ) → is_some (end_at i) ≡ true → Leaves i → (s : ℕ) → Target s → One_array s i
    unfolding written_value
    one_array i h l s w =
        let G : Good program q env turns depth (with_classes (class_at i)) i s = good program q env turns depth (with_classes (class_at i)) i (own_well i h l) s w in
        record {
          array = cell_alone G.array.class (get_or G.array.cells (place_of i) (pos 0));
          wrote_it = wrote_is program q env turns depth (with_classes (class_at i)) i s G;
          one = G.ends.0;
          ends = G.ends.1;
          last = G.array;
          there = G.ends.2;
          class = refl;
        }

    each_array : (s : ℕ) → Target s → (is : List ℤ) → Each (λ (i : ℤ). is_some (end_at i) ≡ true) is → Each Leaves is → Each (One_array s) is
    each_array s w [] h l = tt
    each_array s w (i ∷ is) h l = (one_array i h.0 l.0 s w, each_array s w is h.1 l.1)

    each_well : (k : ℕ → Class) (is : List ℤ) → Each (λ (i : ℤ). is_some (end_at i) ≡ true) is → Each (λ (i : ℤ). (s : ℕ) → Target s → value_at env s ≡ None → Classed s (k s) i) is → Each (Done_well program q env turns depth (with_classes k)) is
    each_well k [] h c = tt
    each_well k (i ∷ is) h c = ((let e = some_end (end_at i) h.0 in (e.0, e.1, λ s w none. c.0 s w none e.0 e.1)), each_well k is h.1 c.1)

    -- all iterations leave arrays of the classes that the first one leaves
    pub all_well : (outs : List Output) → Each (λ (i : ℤ). is_some (end_at i) ≡ true) (indices q.first q.count) → Each Leaves (indices q.first q.count) → come_to program turns depth q env ≡ Ok outs → All_done program q env turns depth (with_classes (class_by (indices q.first q.count))) (indices q.first q.count)
    all_well outs each_done left c =
        let is : List ℤ = indices q.first q.count in
        each_well (class_by is) is each_done (each_swap (λ s i. Classed s (class_by is s) i) is (λ s w none.
        let ok : Is_ok is s = each_any (Is_ok is) (written_slots program q) s (all_ok is (written_slots program q) outs c) (all_slots [] (written_in q.body) w.0 s w.1 w.2) in
        all_classes s is (each_array s w is each_done left) ok.0 (sym (ap (λ (x : Option Value). merged x (writes program turns depth q env s is)) none) ∙ ok.1)))
