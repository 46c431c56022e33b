-- One iteration of a loop from the workspace before the loop, and from one in which other iterations have written.
use Rattle.std.specs.Prelude.{◌||◌, int_lt, slice_set}
use Rattle.std.specs.List.{list_all}
use Rattle.std.proofs.Common.{◌≡◌, ◌∙◌, ℕ, ◌*◌, ◌<◌, ◌≤◌, ◌==◌, ◌⊎◌, inl, inr, max, ℤ, pos, List, [], ◌∷◌, ◌++◌, length, get_or, Bool, true, false, cond, Option, Some, None, Result, Ok, Err, arith, refl, sym, ap, subst}
use Rattle.std.specs.Cmp.Lexicographic.{same_text}
use Rattle.std.proofs.lemmas.List.{length-set}
use Rattle.std.proofs.lemmas.Bool.{eqb-true, eqb-false, eq-eqb}
use Rattle.pl_base.specs.declared.choice.Choice.{Choice}
use Rattle.pl_base.specs.declared.errors.ErrKind.{ErrKind}
use Rattle.pl_base.specs.declared.errors.ScriptError.{ScriptError}
use Rattle.pl_errors.specs.Errors.{error_of}
use Rattle.pl_array.specs.declared.class.Class.{Class}
use Rattle.pl_array.specs.declared.class.Class.TheVariants.{Logical, Int, Char}
use Rattle.pl_array.specs.Arrays.{Array, most}
use Rattle.pl_array.specs.Cellwise.{shape_of, is_true, truth}
use Rattle.pl_array.specs.Joining.{converted, is_no_char}
use Rattle.pl_index.specs.Places.{place_of}
use Rattle.pl_index.specs.Writing.{nothing, stored}
use Rattle.pl_syntax.specs.declared.expr.Name.{Name}
use Rattle.pl_syntax.specs.declared.stmt.Stmt.{Stmt}
use Rattle.pl_syntax.specs.declared.stmt.Target.TheVariants.{Indexed}
use Rattle.pl_values.specs.declared.value.Value.{Value, out-Value}
use Rattle.pl_values.specs.declared.value.Value.TheOpen.{Value-F}
use Rattle.pl_values.specs.declared.value.Value.TheVariants as value
use Rattle.pl_values.specs.declared.value.Value.TheVariants.{outs-Array}
use Rattle.pl_values.specs.Workspaces.{value_at}
use Rattle.pl_operators.specs.Bracketing.{number_of}
use Rattle.pl_operators.specs.Picking.{assign_value, select_value}
use Rattle.pl_resolve.specs.declared.resolved.Resolved.{Resolved}
use Rattle.pl_meaning.specs.declared.frame.Frame.{Frame}
use Rattle.pl_meaning.specs.Known.{same}
use Rattle.pl_meaning.specs.Logs.{Workspace, LoopQuestion, Trace}
use Rattle.pl_meaning.specs.Names.{names_in, slot_of}
use Rattle.pl_meaning.specs.Running.{Done, Raised, Outcome, before}
use Rattle.pl_meaning.specs.Runs.{finished, failed}
use Rattle.pl_meaning.specs.Parts.{below, block_from, written_in, sequel, value_in, assignment}
use Rattle.pl_meaning.specs.Forms.{is_among, is_item}
use Rattle.pl_meaning.specs.Loops.{own_places, body_frame}
use Rattle.pl_frame.specs.Seeing.{Course, standing, Comes_to, Framed, Alike}
use Rattle.pl_frame.specs.Ordering.{HasArray}
use Rattle.pl_frame.proofs.Values.{Framing, all_framed, own_list, and_first, and_second}
use Rattle.pl_frame.proofs.Growth.{Grown, from_line, to_line, reaches, either_grown, second_step, within_most}
use Rattle.pl_frame.proofs.Assigning.{tip, Converts, Succeeded, succeeds, last_of, top, Holding, last_of-append, top-append, holds_more}
use Rattle.pl_frame.proofs.Own.{cell_alone, selected, has_place, assigns, Assigned, assigned_how, class_in, class_of_array, assigns_new, made_new, holds_alike}
use Rattle.pl_frame.proofs.Slots.{set_here, set_elsewhere, has_slot, one_name}
use Rattle.pl_frame.proofs.Keeping.{keeps}
use Rattle.pl_frame.proofs.Bodies.{same_self, among_alike, Item, item_of, among_more, stmt_is, goes, fails_value, fails_put}

-- a loop of the form, before which each variable that its body writes has an array or nothing, and the class of each that is new
pub record Laid (program : Resolved) (q : LoopQuestion) (env : Workspace) : Type 0 where
  pub at : ℕ
  pub at_is : slot_of program (body_frame q) q.index.text ≡ Some at
  pub at_within : at < length env
  pub classes : ℕ → Class
  pub arrays : (n : Name) (s : ℕ) → is_among (written_in q.body) n ≡ true → slot_of program (body_frame q) n.text ≡ Some s → HasArray env s ⊎ ((s < length env) × (value_at env s ≡ None))
  pub items : list_all (is_item program (body_frame q) q.index (written_in q.body)) q.body ≡ true

-- the array of a value
abbrev pub array_layer : Value-F Value → Array
array_layer (Value-F.Array a) = a
array_layer layer = nothing Int

abbrev pub array_or : Class → Option Value → Array
array_or class None = nothing class
array_or class (Some v) = array_layer (out-Value v)

pub array_there : (a : Array) → array_layer (out-Value (value.Array a)) ≡ a
array_there a = ap array_layer (outs-Array a)

-- what an iteration wrote to a variable, if it did
abbrev pub own : ℤ → Option ℤ → List (ℕ × ℤ)
own i None = []
own i (Some z) = (place_of i, z) ∷ []

-- a cell of a class is converted to itself
pub converted_twice : (class : Class) (y z : ℤ) → is_no_char class y ≡ false → converted class y ≡ z → (is_no_char class z ≡ false) × (converted class z ≡ z)
converted_twice Int y z h e = (refl, refl)
converted_twice Char y z h e = (subst (λ (x : ℤ). is_no_char Char x ≡ false) e h, refl)
converted_twice Logical y z h e = (refl, subst (λ (x : ℤ). converted Logical x ≡ x) e (truth_twice (is_true y)))
  where
    truth_twice : (b : Bool) → truth (is_true (truth b)) ≡ truth b
    truth_twice true = refl
    truth_twice false = refl

pub own_twice : (ws : List (ℕ × ℤ)) (i : ℤ) (o : Option ℤ) (z : ℤ) → (top ((ws ++ own i o) ++ (place_of i, z) ∷ []) ≡ top (ws ++ own i (Some z))) × ((k : ℕ) (x : ℤ) → last_of ((ws ++ own i o) ++ (place_of i, z) ∷ []) k x ≡ last_of (ws ++ own i (Some z)) k x)
own_twice ws i o z = (tops o, cells o)
  where
    tops : (o : Option ℤ) → top ((ws ++ own i o) ++ (place_of i, z) ∷ []) ≡ top (ws ++ own i (Some z))
    tops None =
        let a : top ((ws ++ []) ++ (place_of i, z) ∷ []) ≡ max (top (ws ++ [])) (top ((place_of i, z) ∷ [])) = top-append (ws ++ []) ((place_of i, z) ∷ []) in
        let b : top (ws ++ []) ≡ max (top ws) 0 = top-append ws [] in
        let c : top (ws ++ (place_of i, z) ∷ []) ≡ max (top ws) (top ((place_of i, z) ∷ [])) = top-append ws ((place_of i, z) ∷ []) in
        omega arith
    tops (Some y) =
        let a : top ((ws ++ (place_of i, y) ∷ []) ++ (place_of i, z) ∷ []) ≡ max (top (ws ++ (place_of i, y) ∷ [])) (top ((place_of i, z) ∷ [])) = top-append (ws ++ (place_of i, y) ∷ []) ((place_of i, z) ∷ []) in
        let b : top (ws ++ (place_of i, y) ∷ []) ≡ max (top ws) (top ((place_of i, y) ∷ [])) = top-append ws ((place_of i, y) ∷ []) in
        let c : top (ws ++ (place_of i, z) ∷ []) ≡ max (top ws) (top ((place_of i, z) ∷ [])) = top-append ws ((place_of i, z) ∷ []) in
        omega arith

    over : (b : Bool) (y x : ℤ) → cond b z (cond b y x) ≡ cond b z x
    over true y x = refl
    over false y x = refl

    cells : (o : Option ℤ) (k : ℕ) (x : ℤ) → last_of ((ws ++ own i o) ++ (place_of i, z) ∷ []) k x ≡ last_of (ws ++ own i (Some z)) k x
    cells None k x =
        last_of-append (ws ++ []) ((place_of i, z) ∷ []) k x
        ∙ ap (λ (y : ℤ). cond (place_of i == k) z y) (last_of-append ws [] k x)
        ∙ sym (last_of-append ws ((place_of i, z) ∷ []) k x)
    cells (Some y) k x =
        last_of-append (ws ++ (place_of i, y) ∷ []) ((place_of i, z) ∷ []) k x
        ∙ ap (λ (u : ℤ). cond (place_of i == k) z u) (last_of-append ws ((place_of i, y) ∷ []) k x)
        ∙ over (place_of i == k) y (last_of ws k x)
        ∙ sym (last_of-append ws ((place_of i, z) ∷ []) k x)

some_same : {A : Type 0} (a b : A) → Some a ≡ Some b → a ≡ b
some_same a b e = cc

some_none : {A : Type 0} (a : A) → ◌≡◌ {A = Option A} (Some a) None → ⊥
some_none a e = cc

pub rest_empty : {A : Type 0} (us vs : List A) → us ++ vs ≡ [] → vs ≡ []
rest_empty [] vs h = h
rest_empty (u ∷ us) vs h = absurd (cc)

pub some_own : (i z : ℤ) → ◌≡◌ {A = List (ℕ × ℤ)} (own i (Some z)) [] → ⊥
some_own i z e = cc

module _ (program : Resolved) (q : LoopQuestion) (env : Workspace) (depth : ℕ) (L : Laid program q env) where
  abbrev f : Frame
  f = body_frame q

  abbrev names : List Name
  names = written_in q.body

  -- a slot that the body writes
  abbrev pub Written : ℕ → Type 0
  Written s = (n : Name) × (is_among names n ≡ true) × (slot_of program f n.text ≡ Some s)

  -- the array that is there before the loop; of a variable that is new with it, no cells
  abbrev pub base : ℕ → Array
  base s = array_or (L.classes s) (value_at env s)

  pub base_is : (s : ℕ) (a : Array) → value_at env s ≡ Some (value.Array a) → base s ≡ a
  base_is s a e = ap (array_or (L.classes s)) e ∙ array_there a

  pub base_new : (s : ℕ) → value_at env s ≡ None → base s ≡ nothing (L.classes s)
  base_new s e = ap (array_or (L.classes s)) e

  abbrev Bounded : Array → Type 0
  Bounded a = (length a.cells ≡ a.rows * a.cols) × (a.rows * a.cols ≤ most)

  pub base_bounded : (s : ℕ) → Written s → Bounded (base s)
  base_bounded s w = elim (L.arrays w.0 s w.1 w.2) [
    | inl a ↦ subst Bounded (sym (base_is s a.0 a.1)) (a.2.count, a.2.limit)
    | inr n ↦ subst Bounded (sym (base_new s n.1)) (refl, omega arith)
  ]

  pub holds_base : (s : ℕ) → Written s → (us : List (ℕ × ℤ)) → us ≡ [] → Holding (base s) us (base s)
  holds_base s w us e = subst (λ (ws : List (ℕ × ℤ)). Holding (base s) ws (base s)) (sym e) (record { class = refl; grown = Grown.stays (omega arith) refl; count = (base_bounded s w).0; cells = λ k. refl })

  -- a workspace has an array of a variable, which holds these writes
  pub record Filled (W : Workspace) (s : ℕ) (us : List (ℕ × ℤ)) : Type 0 where
    pub array : Array
    pub there : value_at W s ≡ Some (value.Array array)
    pub holds : Holding (base s) us array
    pub begun : us ≡ [] → value_at env s ≡ None → ⊥

  -- it has nothing of a variable that is new with the loop, as nothing was written
  pub record Empty (W : Workspace) (s : ℕ) (us : List (ℕ × ℤ)) : Type 0 where
    pub within : s < length W
    pub nothing_there : value_at W s ≡ None
    pub nothing_before : value_at env s ≡ None
    pub unwritten : us ≡ []

  abbrev pub Link : Workspace → ℕ → List (ℕ × ℤ) → Type 0
  Link W s us = Filled W s us ⊎ Empty W s us

  pub link_elsewhere : (W : Workspace) (j s : ℕ) (v : Option Value) (us : List (ℕ × ℤ)) → (j ≡ s → ⊥) → Link W s us → Link (slice_set W j v) s us
  link_elsewhere W j s v us apart (inl F) = inl (record { array = F.array; there = set_elsewhere W j s v apart ∙ F.there; holds = F.holds; begun = F.begun })
  link_elsewhere W j s v us apart (inr E) = inr (record {
    within = (let n : length (slice_set W j v) ≡ length W = length-set W j v in let m : s < length W = E.within in omega arith);
    nothing_there = set_elsewhere W j s v apart ∙ E.nothing_there;
    nothing_before = E.nothing_before;
    unwritten = E.unwritten;
  })

  pub link_within : (W : Workspace) (s : ℕ) (us : List (ℕ × ℤ)) → Link W s us → s < length W
  link_within W s us (inl F) = has_slot W s (value.Array F.array) F.there
  link_within W s us (inr E) = E.within

  pub link_filled : (W : Workspace) (s : ℕ) (us : List (ℕ × ℤ)) → (us ≡ [] → ⊥) → Link W s us → Filled W s us
  link_filled W s us some (inl F) = F
  link_filled W s us some (inr E) = absurd (some E.unwritten)

  -- a workspace in which the loop's variables hold these writes, and all else but the index is as before the loop
  pub record Between (ws : ℕ → List (ℕ × ℤ)) (W : Workspace) : Type 0 where
    pub wide : L.at < length W
    pub apart : (s : ℕ) → (Written s → ⊥) → (s ≡ L.at → ⊥) → value_at W s ≡ value_at env s
    pub held : (s : ℕ) → Written s → Link W s (ws s)

  -- each variable that is new with the loop has an array of its class
  abbrev pub Ends_in : Workspace → Type 0
  Ends_in one = (s : ℕ) → Written s → value_at env s ≡ None → (b : Array) × (value_at one s ≡ Some (value.Array b)) × (b.class ≡ L.classes s)

  pub not_written : (n : Name) (s : ℕ) → is_among names n ≡ false → slot_of program f n.text ≡ Some s → Written s → ⊥
  not_written n s h is w =
      let e : is_among names w.0 ≡ is_among names n = among_alike names w.0.text n.text (one_name (names_in program q.scope) w.0.text n.text s w.2 is) in
      let t : is_among names w.0 ≡ true = w.1 in
      cc

  -- two workspaces that hold the same at the own place look the same to the iteration
  module _ (i : ℤ) (vs : ℕ → List (ℕ × ℤ)) (avoids : (s : ℕ) → Written s → (z : ℤ) → last_of (vs s) (place_of i) z ≡ z) where
    abbrev pub mine : (ℕ → Option ℤ) → ℕ → List (ℕ × ℤ)
    mine o s = own i (o s)

    abbrev pub all_of : (ℕ → Option ℤ) → ℕ → List (ℕ × ℤ)
    all_of o s = vs s ++ own i (o s)

    seen_parts : (o : ℕ → Option ℤ) (E W : Workspace) → Between (mine o) E → Between (all_of o) W → (s : ℕ) → Written s → (v x : Value) → value_at E s ≡ Some v → select_value v (own_places i) ≡ Ok x → (w : Value) × (value_at W s ≡ Some w) × (select_value w (own_places i) ≡ Ok x)
    seen_parts o E W BE BW s w v x held picked = by_links (BE.held s w) (BW.held s w)
      where
        picks : (b c : Array) → Holding (base s) (own i (o s)) b → Holding (base s) (vs s ++ own i (o s)) c → (x : Value) → select_value (value.Array b) (own_places i) ≡ Ok x → select_value (value.Array c) (own_places i) ≡ Ok x
        picks b c H J x h =
            let there = has_place b i x h in
            let tops : top (vs s ++ own i (o s)) ≡ max (top (own i (o s))) (top (vs s)) = (let t : top (vs s ++ own i (o s)) ≡ max (top (vs s)) (top (own i (o s))) = top-append (vs s) (own i (o s)) in omega arith) in
            let step : Grown (shape_of b) (top (vs s)) (shape_of c) = second_step (shape_of (base s)) (top (own i (o s))) (top (vs s)) (shape_of b) (shape_of c) H.grown (subst (λ (t : ℕ). Grown (shape_of (base s)) t (shape_of c)) tops J.grown) in
            let more = reaches (shape_of b) (top (vs s)) (shape_of c) step in
            let inside : tip i ≤ c.rows * c.cols = omega (arith, there.1, more.1) in
            let class : c.class ≡ b.class = J.class ∙ sym H.class in
            let cell : get_or c.cells (place_of i) (pos 0) ≡ get_or b.cells (place_of i) (pos 0) =
            J.cells (place_of i) ∙ last_of-append (vs s) (own i (o s)) (place_of i) _ ∙ ap (last_of (own i (o s)) (place_of i)) (avoids s w _) ∙ sym (H.cells (place_of i)) in
            selected c i there.0 inside
            ∙ ap (λ (k : Class). Ok (value.Array (cell_alone k (get_or c.cells (place_of i) (pos 0))))) class
            ∙ ap (λ (z : ℤ). Ok (value.Array (cell_alone b.class z))) cell
            ∙ sym (selected b i there.0 there.1)
            ∙ h

        by_links : Link E s (mine o s) → Link W s (all_of o s) → (w : Value) × (value_at W s ≡ Some w) × (select_value w (own_places i) ≡ Ok x)
        by_links (inl e) (inl c) = (value.Array c.array, c.there, picks e.array c.array e.holds c.holds x (subst (λ (u : Value). select_value u (own_places i) ≡ Ok x) (some_same v (value.Array e.array) (sym held ∙ e.there)) picked))
        by_links (inl e) (inr n) = absurd (e.begun (rest_empty (vs s) (own i (o s)) n.unwritten) n.nothing_before)
        by_links (inr n) (inl c) = absurd (some_none v (sym held ∙ n.nothing_there))
        by_links (inr n) (inr m) = absurd (some_none v (sym held ∙ n.nothing_there))

    pub seen_apart : (o : ℕ → Option ℤ) (E W : Workspace) → Between (mine o) E → Between (all_of o) W → value_at E L.at ≡ Some (number_of i) → value_at W L.at ≡ Some (number_of i) → (n : Name) (s : ℕ) → is_among names n ≡ false → slot_of program f n.text ≡ Some s → (b : Bool) → (s == L.at) ≡ b → value_at E s ≡ value_at W s
    seen_apart o E W BE BW ei wi n s h is true e =
        let here : s ≡ L.at = eqb-true s L.at e in
        ap (value_at E) here ∙ ei ∙ sym wi ∙ ap (value_at W) (sym here)
    seen_apart o E W BE BW ei wi n s h is false e = BE.apart s (not_written n s h is) (eqb-false s L.at e) ∙ sym (BW.apart s (not_written n s h is) (eqb-false s L.at e))

    pub at_slot : (W : Workspace) → value_at W L.at ≡ Some (number_of i) → (s : ℕ) → slot_of program f q.index.text ≡ Some s → value_at W s ≡ Some (number_of i)
    at_slot W h s is = ap (value_at W) (some_same s L.at (sym is ∙ L.at_is)) ∙ h

    alike : (o : ℕ → Option ℤ) (E W : Workspace) → Between (mine o) E → Between (all_of o) W → value_at E L.at ≡ Some (number_of i) → value_at W L.at ≡ Some (number_of i) → Alike program f q.index names i E W
    alike o E W BE BW ei wi = record {
      unwritten = λ n s h is. seen_apart o E W BE BW ei wi n s h is (s == L.at) refl;
      index_here = at_slot E ei;
      index_there = at_slot W wi;
      parts = λ n s v x h is held picked. seen_parts o E W BE BW s (n, h, is) v x held picked;
    }

    frames : (o : ℕ → Option ℤ) (E W : Workspace) (BE : Between (mine o) E) (BW : Between (all_of o) W) (ei : value_at E L.at ≡ Some (number_of i)) (wi : value_at W L.at ≡ Some (number_of i)) → Framing program f q.index names i E W (alike o E W BE BW ei wi) L.at L.at_is (value_in program (below program depth))
    frames o E W BE BW ei wi = all_framed program f q.index names i E W (alike o E W BE BW ei wi) L.at L.at_is refl depth

    -- a value that an iteration wrote
    pub record Put (s : ℕ) (v : Option ℤ) : Type 0 where
      pub value : ℤ
      pub is : v ≡ Some value
      pub low : int_lt i (pos 1) ≡ false
      pub within : tip i ≤ most
      pub allowed : is_no_char (base s).class value ≡ false
      pub kept : converted (base s).class value ≡ value

    -- ## A slot that gets an array

    abbrev pub with_value : (ℕ → Option ℤ) → ℕ → ℤ → ℕ → Option ℤ
    with_value o slot z s = cond (slot == s) (Some z) (o s)

    pub put_array : (ws us : ℕ → List (ℕ × ℤ)) (W : Workspace) (slot : ℕ) (b : Array) → Between ws W → Written slot → (slot ≡ L.at → ⊥) → ((s : ℕ) → (slot == s) ≡ false → us s ≡ ws s) → Holding (base slot) (us slot) b → (us slot ≡ [] → ⊥) → Between us (slice_set W slot (Some (value.Array b)))
    put_array ws us W slot b B w apart same H some = record {
      wide = (let n : length (slice_set W slot (Some (value.Array b))) ≡ length W = length-set W slot (Some (value.Array b)) in let m : L.at < length W = B.wide in omega arith);
      apart = λ s none other. set_elsewhere W slot s (Some (value.Array b)) (λ e. none (subst Written e w)) ∙ B.apart s none other;
      held = λ s x. held s x (slot == s) refl;
    }
      where
        held : (s : ℕ) → Written s → (t : Bool) → (slot == s) ≡ t → Link (slice_set W slot (Some (value.Array b))) s (us s)
        held s x true e = subst (λ (j : ℕ). Link (slice_set W slot (Some (value.Array b))) j (us j)) (eqb-true slot s e)
            (inl (record { array = b; there = set_here W slot (value.Array b) (link_within W slot (ws slot) (B.held slot w)); holds = H; begun = λ none new. some none }))
        held s x false e = subst (λ (us : List (ℕ × ℤ)). Link (slice_set W slot (Some (value.Array b))) s us) (sym (same s e)) (link_elsewhere W slot s (Some (value.Array b)) (ws s) (eqb-false slot s e) (B.held s x))

    -- ## A body

    -- what an iteration comes to from both
    pub record Ran (ss : List Stmt) (o : ℕ → Option ℤ) (E W one : Workspace) (t : ℕ) (c : List Choice) (r : Course) : Type 0 where
      pub wrote : ℕ → Option ℤ
      pub whole : Workspace
      pub ends : (t : ℕ) (c : List Choice) (r : Course) → (block_from program (below program depth) f ss finished failed (standing W t c r)).ending ≡ Done whole c
      pub shows : (block_from program (below program depth) f ss finished failed (standing W t c r)).shown ≡ (block_from program (below program depth) f ss finished failed (standing E t c r)).shown
      pub here : Between (mine wrote) one
      pub there : Between (all_of wrote) whole
      pub touched : (n : Name) (s : ℕ) → is_among (written_in ss) n ≡ true → slot_of program f n.text ≡ Some s → Put s (wrote s)
      pub kept : (s : ℕ) → Put s (o s) → Put s (wrote s)

    no_end : (e : ScriptError) (c d : List Choice) (one : Workspace) → Raised e c ≡ Done one d → ⊥
    no_end e c d one h = cc

    done_same : (a b : Workspace) (c d : List Choice) → Done a c ≡ Done b d → a ≡ b
    done_same a b c d h = cc

    abbrev Fixed : List Stmt → (ℕ → Option ℤ) → Workspace → Workspace → Type 0
    Fixed ss o E W = Between (mine o) E → Between (all_of o) W → value_at E L.at ≡ Some (number_of i) → value_at W L.at ≡ Some (number_of i) → (t : ℕ) (c d : List Choice) (r : Course) (one : Workspace) → Ends_in one → (block_from program (below program depth) f ss finished failed (standing E t c r)).ending ≡ Done one d → Ran ss o E W one t c r

    abbrev Fits_in : List Stmt → Type 0
    Fits_in ss = (n : Name) → is_among (written_in ss) n ≡ true → is_among names n ≡ true

    -- a statement and those behind it
    module _ (s : Stmt) (more : List Stmt) (I : Item program f q.index names s) (fits : Fits_in (s ∷ more)) (behind : list_all (is_item program f q.index names) more ≡ true) where
      among : is_among names I.name ≡ true
      among = fits I.name (among_more program f q.index names s more I I.name ∙ ap (λ (b : Bool). b || is_among (written_in more) I.name) (same_self I.name.text))

      slot_written : Written I.slot
      slot_written = (I.name, among, I.slot_is)

      slot_apart : I.slot ≡ L.at → ⊥
      slot_apart e =
          let texts : I.name.text ≡ q.index.text = one_name (names_in program q.scope) I.name.text q.index.text I.slot I.slot_is (L.at_is ∙ ap Some (sym e)) in
          let yes_same : same I.name.text q.index.text ≡ true = ap (λ (x : List ℕ). same I.name.text x) (sym texts) ∙ same_self I.name.text in
          let no_same : same I.name.text q.index.text ≡ false = I.no_index in
          cc

      run_is : (W : Workspace) (t : ℕ) (c : List Choice) (r : Course) → block_from program (below program depth) f (s ∷ more) finished failed (standing W t c r) ≡ assignment program (below program depth) f false (Indexed I.name I.list) I.value (λ x. sequel program x (block_from program (below program depth) f more) finished failed) failed (standing W t c r)
      run_is W t c r = ap (λ p. p (λ x. sequel program x (block_from program (below program depth) f more) finished failed) failed (standing W t c r)) (stmt_is program f q.index names (below program depth) s I)

      -- both have assigned
      record Stepped (o : ℕ → Option ℤ) (E W : Workspace) (ts : List Trace) : Type 0 where
        z : ℤ
        one : Workspace
        whole : Workspace
        one_runs : (t : ℕ) (c : List Choice) (r : Course) → block_from program (below program depth) f (s ∷ more) finished failed (standing E t c r) ≡ before ts (block_from program (below program depth) f more finished failed (standing one t c r))
        whole_runs : (t : ℕ) (c : List Choice) (r : Course) → block_from program (below program depth) f (s ∷ more) finished failed (standing W t c r) ≡ before ts (block_from program (below program depth) f more finished failed (standing whole t c r))
        here : Between (mine (with_value o I.slot z)) one
        there : Between (all_of (with_value o I.slot z)) whole
        one_index : value_at one L.at ≡ Some (number_of i)
        whole_index : value_at whole L.at ≡ Some (number_of i)
        put : Put I.slot (Some z)

      this_slot : (o : ℕ → Option ℤ) (z : ℤ) → with_value o I.slot z I.slot ≡ Some z
      this_slot o z = ap (λ (t : Bool). cond t (Some z) (o I.slot)) (eq-eqb I.slot I.slot refl)

      own_full : (o : ℕ → Option ℤ) (z : ℤ) → own i (with_value o I.slot z I.slot) ≡ [] → ⊥
      own_full o z e = some_own i z (sym (ap (own i) (this_slot o z)) ∙ e)

      step : (o : ℕ → Option ℤ) (E W : Workspace) (ts : List Trace) (v a : Value) → Between (mine o) E → Between (all_of o) W → value_at E L.at ≡ Some (number_of i) → value_at W L.at ≡ Some (number_of i) → Comes_to (value_in program (below program depth) f I.value) E ts (Ok v) → Comes_to (value_in program (below program depth) f I.value) W ts (Ok v)
          → (eb wb : Array) → Holding (base I.slot) (own i (o I.slot)) eb → Holding (base I.slot) (all_of o I.slot) wb → assign_value (value_at E I.slot) (own_places i) v ≡ assign_value (Some (value.Array eb)) (own_places i) v → assign_value (value_at W I.slot) (own_places i) v ≡ assign_value (Some (value.Array wb)) (own_places i) v → assign_value (value_at E I.slot) (own_places i) v ≡ Ok a → Stepped o E W ts
      step o E W ts v a BE BW ei wi VE VW eb wb HE HW as_e as_w A =
          let D : Assigned eb i v = assigned_how eb i v a (sym as_e ∙ A) in
          let S : Succeeded eb D.cells i = D.how in
          let Bs : Array = base I.slot in
          let grow_one : Grown (shape_of eb) (tip i) S.shape = from_line (shape_of eb) (tip i) S.shape S.line in
          let new_one : Array = stored eb S.shape (place_of i ∷ []) (S.value ∷ []) in
          let held_one : Holding Bs (own i (o I.slot) ++ (place_of i, S.value) ∷ []) new_one = holds_more Bs eb (own i (o I.slot)) i S.value S.shape HE grow_one in
          let twice = own_twice [] i (o I.slot) S.value in
          let own_one : Holding Bs (own i (Some S.value)) new_one = holds_alike Bs new_one (own i (o I.slot) ++ (place_of i, S.value) ∷ []) (own i (Some S.value)) held_one twice.0 twice.1 in
          let tips : top (own i (Some S.value)) ≡ tip i = omega arith in
          let grow_base : Grown (shape_of Bs) (tip i) (shape_of new_one) = subst (λ (t : ℕ). Grown (shape_of Bs) t (shape_of new_one)) tips own_one.grown in
          let both = either_grown (shape_of Bs) (top (all_of o I.slot)) (tip i) (shape_of wb) (shape_of new_one) HW.grown grow_base in
          let grow_whole : Grown (shape_of wb) (tip i) both.0 = second_step (shape_of Bs) (top (all_of o I.slot)) (tip i) (shape_of wb) both.0 HW.grown both.1 in
          let new_whole : Array = stored wb both.0 (place_of i ∷ []) (S.value ∷ []) in
          let converts : Converts D.cells wb.class S.value = subst (λ (k : Class). Converts D.cells k S.value) (HE.class ∙ sym HW.class) S.converts in
          let held_whole : Holding Bs (all_of o I.slot ++ (place_of i, S.value) ∷ []) new_whole = holds_more Bs wb (all_of o I.slot) i S.value both.0 HW grow_whole in
          let again = own_twice (vs I.slot) i (o I.slot) S.value in
          let own_whole : Holding Bs (vs I.slot ++ own i (Some S.value)) new_whole = holds_alike Bs new_whole (all_of o I.slot ++ (place_of i, S.value) ∷ []) (vs I.slot ++ own i (Some S.value)) held_whole again.0 again.1 in
          let kept = converted_twice eb.class S.converts.cell S.value S.converts.allowed S.converts.is in
          record {
            z = S.value;
            one = slice_set E I.slot (Some (value.Array new_one));
            whole = slice_set W I.slot (Some (value.Array new_whole));
            one_runs = λ t c r. run_is E t c r ∙ goes program f q.index names (below program depth) i I.name I.list I.value I.slot I.slot_is E ts v (value.Array new_one) VE
                (own_list program f q.index names i E W (alike o E W BE BW ei wi) L.at L.at_is (value_in program (below program depth)) (frames o E W BE BW ei wi) None I.slot I.list I.own E ei)
                (as_e ∙ assigns eb D.cells new_one i v D.is (succeeds eb D.cells i S.value S.shape S.low S.line S.converts)) _ failed t c r;
            whole_runs = λ t c r. run_is W t c r ∙ goes program f q.index names (below program depth) i I.name I.list I.value I.slot I.slot_is W ts v (value.Array new_whole) VW
                (own_list program f q.index names i E W (alike o E W BE BW ei wi) L.at L.at_is (value_in program (below program depth)) (frames o E W BE BW ei wi) None I.slot I.list I.own W wi)
                (as_w ∙ assigns wb D.cells new_whole i v D.is (succeeds wb D.cells i S.value both.0 S.low (to_line (shape_of wb) (tip i) both.0 grow_whole) converts)) _ failed t c r;
            here = put_array (mine o) (mine (with_value o I.slot S.value)) E I.slot new_one BE slot_written slot_apart (λ j e. ap (λ (t : Bool). own i (cond t (Some S.value) (o j))) e)
                (subst (λ (u : Option ℤ). Holding Bs (own i u) new_one) (sym (this_slot o S.value)) own_one) (own_full o S.value);
            there = put_array (all_of o) (all_of (with_value o I.slot S.value)) W I.slot new_whole BW slot_written slot_apart (λ j e. ap (λ (t : Bool). vs j ++ own i (cond t (Some S.value) (o j))) e)
                (subst (λ (u : Option ℤ). Holding Bs (vs I.slot ++ own i u) new_whole) (sym (this_slot o S.value)) own_whole) (λ e. own_full o S.value (rest_empty (vs I.slot) (own i (with_value o I.slot S.value I.slot)) e));
            one_index = set_elsewhere E I.slot L.at (Some (value.Array new_one)) slot_apart ∙ ei;
            whole_index = set_elsewhere W I.slot L.at (Some (value.Array new_whole)) slot_apart ∙ wi;
            put = record {
              value = S.value;
              is = refl;
              low = S.low;
              within = within_most (shape_of Bs) (tip i) (shape_of new_one) (base_bounded I.slot slot_written).1 grow_base;
              allowed = subst (λ (k : Class). is_no_char k S.value ≡ false) HE.class kept.0;
              kept = subst (λ (k : Class). converted k S.value ≡ S.value) HE.class kept.1;
            };
          }

      -- no cells stand for a variable that has no value
      new_as : (X : Workspace) (v : Value) (y : Array) → out-Value v ≡ Value-F.Array y → y.class ≡ L.classes I.slot → value_at X I.slot ≡ None → value_at env I.slot ≡ None → assign_value (value_at X I.slot) (own_places i) v ≡ assign_value (Some (value.Array (base I.slot))) (own_places i) v
      new_as X v y is k none before =
          ap (λ (u : Option Value). assign_value u (own_places i) v) none
          ∙ assigns_new y i v is
          ∙ ap (λ (x : Array). assign_value (Some (value.Array x)) (own_places i) v) (ap nothing k ∙ sym (base_new I.slot before))

      -- what was assigned to a variable that had no value
      abbrev Made : Workspace → Value → Type 0
      Made E v = value_at env I.slot ≡ None → value_at E I.slot ≡ None → (y : Array) × (out-Value v ≡ Value-F.Array y) × (y.class ≡ L.classes I.slot)

      step_by : (o : ℕ → Option ℤ) (E W : Workspace) (ts : List Trace) (v a : Value) → Between (mine o) E → Between (all_of o) W → value_at E L.at ≡ Some (number_of i) → value_at W L.at ≡ Some (number_of i) → Comes_to (value_in program (below program depth) f I.value) E ts (Ok v) → Comes_to (value_in program (below program depth) f I.value) W ts (Ok v)
          → Link E I.slot (mine o I.slot) → Link W I.slot (all_of o I.slot) → Made E v → assign_value (value_at E I.slot) (own_places i) v ≡ Ok a → Stepped o E W ts
      step_by o E W ts v a BE BW ei wi VE VW (inl e) (inl w) made A =
          step o E W ts v a BE BW ei wi VE VW e.array w.array e.holds w.holds (ap (λ (u : Option Value). assign_value u (own_places i) v) e.there) (ap (λ (u : Option Value). assign_value u (own_places i) v) w.there) A
      step_by o E W ts v a BE BW ei wi VE VW (inl e) (inr n) made A = absurd (e.begun (rest_empty (vs I.slot) (own i (o I.slot)) n.unwritten) n.nothing_before)
      step_by o E W ts v a BE BW ei wi VE VW (inr n) (inl w) made A =
          let y = made n.nothing_before n.nothing_there in
          step o E W ts v a BE BW ei wi VE VW (base I.slot) w.array (holds_base I.slot slot_written (own i (o I.slot)) n.unwritten) w.holds (new_as E v y.0 y.1 y.2 n.nothing_there n.nothing_before) (ap (λ (u : Option Value). assign_value u (own_places i) v) w.there) A
      step_by o E W ts v a BE BW ei wi VE VW (inr n) (inr m) made A =
          let y = made n.nothing_before n.nothing_there in
          step o E W ts v a BE BW ei wi VE VW (base I.slot) (base I.slot) (holds_base I.slot slot_written (own i (o I.slot)) n.unwritten) (holds_base I.slot slot_written (all_of o I.slot) m.unwritten) (new_as E v y.0 y.1 y.2 n.nothing_there n.nothing_before) (new_as W v y.0 y.1 y.2 m.nothing_there m.nothing_before) A

      -- its class is that of the array at the iteration's end
      made_by : (E : Workspace) (v a : Value) (one : Workspace) (t : ℕ) (c d : List Choice) (r : Course) → value_at E L.at ≡ Some (number_of i) → I.slot < length E → Ends_in one → assign_value (value_at E I.slot) (own_places i) v ≡ Ok a → (block_from program (below program depth) f more finished failed (standing (slice_set E I.slot (Some a)) t c r)).ending ≡ Done one d → Made E v
      made_by E v a one t c d r ei within last A h before none =
          let K = keeps program q depth names i L.at L.at_is more behind (slice_set E I.slot (Some a)) one (set_elsewhere E I.slot L.at (Some a) slot_apart ∙ ei) t c d r h I.slot a (set_here E I.slot a within) in
          let b = last I.slot slot_written before in
          made_new v a i (L.classes I.slot) (sym (ap (λ (u : Option Value). assign_value u (own_places i) v) none) ∙ A)
          (sym K.2 ∙ ap (λ (x : Value). class_in (out-Value x)) (some_same K.0 (value.Array b.0) (sym K.1 ∙ b.1)) ∙ class_of_array b.0 ∙ ap Some b.2)

      put_again : (o : ℕ → Option ℤ) (z : ℤ) (j : ℕ) → Put I.slot (Some z) → (b : Bool) → (I.slot == j) ≡ b → Put j (o j) → Put j (with_value o I.slot z j)
      put_again o z j P true e Q = subst (λ (k : ℕ). Put k (with_value o I.slot z k)) (eqb-true I.slot j e) (subst (Put I.slot) (sym (this_slot o z)) P)
      put_again o z j P false e Q = subst (Put j) (sym (ap (λ (t : Bool). cond t (Some z) (o j)) e)) Q

      touched_by : (o : ℕ → Option ℤ) (E W one : Workspace) (t : ℕ) (c : List Choice) (r : Course) (z : ℤ) (R : Ran more (with_value o I.slot z) E W one t c r) → Put I.slot (Some z) → (n : Name) (j : ℕ) → slot_of program f n.text ≡ Some j → (b : Bool) → same I.name.text n.text ≡ b → (b || is_among (written_in more) n) ≡ true → Put j (R.wrote j)
      touched_by o E W one t c r z R P n j is true e h =
          let slots : I.slot ≡ j = some_same I.slot j (sym I.slot_is ∙ ap (slot_of program f) (same_text I.name.text n.text (sym e)) ∙ is) in
          subst (λ (k : ℕ). Put k (R.wrote k)) slots (R.kept I.slot (subst (Put I.slot) (sym (this_slot o z)) P))
      touched_by o E W one t c r z R P n j is false e h = R.touched n j h is

      joined : (o : ℕ → Option ℤ) (E W one : Workspace) (ts : List Trace) (t : ℕ) (c : List Choice) (r : Course) (S : Stepped o E W ts) → Ran more (with_value o I.slot S.z) S.one S.whole one t c r → Ran (s ∷ more) o E W one t c r
      joined o E W one ts t c r S R = record {
        wrote = R.wrote;
        whole = R.whole;
        ends = λ t c r. ap (λ (x : Outcome). x.ending) (S.whole_runs t c r) ∙ R.ends t c r;
        shows = ap (λ (x : Outcome). x.shown) (S.whole_runs t c r) ∙ ap (λ (x : List Trace). ts ++ x) R.shows ∙ sym (ap (λ (x : Outcome). x.shown) (S.one_runs t c r));
        here = R.here;
        there = R.there;
        touched = λ n j h is. touched_by o S.one S.whole one t c r S.z R S.put n j is (same I.name.text n.text) refl (sym (among_more program f q.index names s more I n) ∙ h);
        kept = λ j P. R.kept j (put_again o S.z j S.put (I.slot == j) refl P);
      }

      by_assign : (rest : (o : ℕ → Option ℤ) (E W : Workspace) → Fixed more o E W) (o : ℕ → Option ℤ) (E W : Workspace) (ts : List Trace) (v : Value) → (BE : Between (mine o) E) (BW : Between (all_of o) W) (ei : value_at E L.at ≡ Some (number_of i)) (wi : value_at W L.at ≡ Some (number_of i)) → Comes_to (value_in program (below program depth) f I.value) E ts (Ok v) → Comes_to (value_in program (below program depth) f I.value) W ts (Ok v) → (x : Result Value ErrKind) → assign_value (value_at E I.slot) (own_places i) v ≡ x → (t : ℕ) (c d : List Choice) (r : Course) (one : Workspace) → Ends_in one → (block_from program (below program depth) f (s ∷ more) finished failed (standing E t c r)).ending ≡ Done one d → Ran (s ∷ more) o E W one t c r
      by_assign rest o E W ts v BE BW ei wi VE VW (Ok a) A t c d r one last h =
          let run = run_is E t c r ∙ goes program f q.index names (below program depth) i I.name I.list I.value I.slot I.slot_is E ts v a VE
          (own_list program f q.index names i E W (alike o E W BE BW ei wi) L.at L.at_is (value_in program (below program depth)) (frames o E W BE BW ei wi) None I.slot I.list I.own E ei) A _ failed t c r in
          let made : Made E v = made_by E v a one t c d r ei (link_within E I.slot (mine o I.slot) (BE.held I.slot slot_written)) last A (sym (ap (λ (x : Outcome). x.ending) run) ∙ h) in
          let S : Stepped o E W ts = step_by o E W ts v a BE BW ei wi VE VW (BE.held I.slot slot_written) (BW.held I.slot slot_written) made A in
          joined o E W one ts t c r S (rest (with_value o I.slot S.z) S.one S.whole S.here S.there S.one_index S.whole_index t c d r one last (sym (ap (λ (x : Outcome). x.ending) (S.one_runs t c r)) ∙ h))
      by_assign rest o E W ts v BE BW ei wi VE VW (Err kind) A t c d r one last h =
          let run = run_is E t c r ∙ fails_put program f q.index names (below program depth) i I.name I.list I.value I.slot I.slot_is E ts v kind VE
          (own_list program f q.index names i E W (alike o E W BE BW ei wi) L.at L.at_is (value_in program (below program depth)) (frames o E W BE BW ei wi) None I.slot I.list I.own E ei) A _ failed t c r in
          absurd (no_end (error_of kind I.name.place) c d one (sym (ap (λ (x : Outcome). x.ending) run) ∙ h))

      by_value : (rest : (o : ℕ → Option ℤ) (E W : Workspace) → Fixed more o E W) (o : ℕ → Option ℤ) (E W : Workspace) → (BE : Between (mine o) E) (BW : Between (all_of o) W) (ei : value_at E L.at ≡ Some (number_of i)) (wi : value_at W L.at ≡ Some (number_of i)) → (P : Framed E W (value_in program (below program depth) f I.value)) (g : Result Value ScriptError) → P.gives ≡ g → (t : ℕ) (c d : List Choice) (r : Course) (one : Workspace) → Ends_in one → (block_from program (below program depth) f (s ∷ more) finished failed (standing E t c r)).ending ≡ Done one d → Ran (s ∷ more) o E W one t c r
      by_value rest o E W BE BW ei wi P (Ok v) is t c d r one last h =
          by_assign rest o E W P.shown v BE BW ei wi (subst (λ (g : Result Value ScriptError). Comes_to (value_in program (below program depth) f I.value) E P.shown g) is P.here) (P.there v is) (assign_value (value_at E I.slot) (own_places i) v) refl t c d r one last h
      by_value rest o E W BE BW ei wi P (Err x) is t c d r one last h =
          let run = run_is E t c r ∙ fails_value program f q.index names (below program depth) I.name I.list I.value E P.shown x (subst (λ (g : Result Value ScriptError). Comes_to (value_in program (below program depth) f I.value) E P.shown g) is P.here) _ failed t c r in
          absurd (no_end x c d one (sym (ap (λ (x : Outcome). x.ending) run) ∙ h))

      next : ((o : ℕ → Option ℤ) (E W : Workspace) → Fixed more o E W) → (o : ℕ → Option ℤ) (E W : Workspace) → Fixed (s ∷ more) o E W
      next rest o E W BE BW ei wi t c d r one last h =
          let P : Framed E W (value_in program (below program depth) f I.value) = (frames o E W BE BW ei wi).only_reads None tt I.value I.fits in
          by_value rest o E W BE BW ei wi P P.gives refl t c d r one last h

    pub iterate : (ss : List Stmt) → list_all (is_item program f q.index names) ss ≡ true → Fits_in ss → (o : ℕ → Option ℤ) (E W : Workspace) → Fixed ss o E W
    iterate [] items fits o E W = λ BE BW ei wi t c d r one last h. record {
      wrote = o;
      whole = W;
      ends = λ t c r. refl;
      shows = refl;
      here = subst (Between (mine o)) (done_same E one c d h) BE;
      there = BW;
      touched = λ n s none. absurd (cc);
      kept = λ s P. P;
    }
    iterate (s ∷ more) items fits o E W =
        let I : Item program f q.index names s = item_of program f q.index names s (and_first (is_item program f q.index names s) (list_all (is_item program f q.index names) more) items) in
        let later : Fits_in more = λ n h. fits n (among_more program f q.index names s more I n ∙ or_second (same I.name.text n.text) (is_among (written_in more) n) h) in
        let behind : list_all (is_item program f q.index names) more ≡ true = and_second (is_item program f q.index names s) (list_all (is_item program f q.index names) more) items in
        next s more I fits behind (iterate more behind later) o E W
      where
        or_second : (a b : Bool) → b ≡ true → (a || b) ≡ true
        or_second true b h = refl
        or_second false b h = h
