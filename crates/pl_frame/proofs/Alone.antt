-- One iteration by itself, whatever it leaves of a variable that is new: an array, or a row of one future, which only the index 1
-- can make.
use Rattle.std.specs.Prelude.{◌||◌, int_lt, nat_lt, negsuc, slice_set, if◌then◌else◌, ◌-◌}
use Rattle.std.specs.List.{list_all}
use Rattle.std.specs.Cmp.Lexicographic.{same_text}
use Rattle.std.proofs.Common.{◌≡◌, ◌∙◌, ℕ, ◌*◌, ◌<◌, ◌≤◌, ◌==◌, ◌⊎◌, inl, inr, ℤ, pos, List, [], ◌∷◌, ◌++◌, length, Bool, true, false, Option, Some, None, Result, Ok, Err, arith, refl, sym, ap, subst}
use Rattle.std.proofs.lemmas.List.{length-set}
use Rattle.std.proofs.lemmas.Bool.{eqb-true, eqb-false, ltb-false}
use Rattle.pl_base.specs.declared.choice.Choice.{Choice}
use Rattle.pl_base.specs.declared.errors.ErrKind.{ErrKind}
use Rattle.pl_base.specs.declared.errors.ErrKind.TheVariants.{BadIndex, IndexRange}
use Rattle.pl_base.specs.declared.errors.ScriptError.{ScriptError}
use Rattle.pl_errors.specs.Errors.{error_of}
use Rattle.pl_array.specs.declared.class.Class.{Class}
use Rattle.pl_array.specs.Arrays.{Array}
use Rattle.pl_array.specs.Cellwise.{shape_of}
use Rattle.pl_array.specs.Joining.{converted, is_no_char}
use Rattle.pl_index.specs.declared.index.Index.{Index}
use Rattle.pl_index.specs.Places.{place_of}
use Rattle.pl_index.specs.Writing.{nothing, stored}
use Rattle.pl_syntax.specs.declared.expr.Name.{Name}
use Rattle.pl_syntax.specs.declared.stmt.Stmt.{Stmt}
use Rattle.pl_values.specs.declared.value.Value.{Value, out-Value}
use Rattle.pl_values.specs.declared.value.Value.TheOpen.{Value-F}
use Rattle.pl_values.specs.declared.value.Value.TheVariants as value
use Rattle.pl_values.specs.declared.value.Value.TheVariants.{outs-Futures}
use Rattle.pl_values.specs.Workspaces.{value_at}
use Rattle.pl_operators.specs.Bracketing.{number_of}
use Rattle.pl_operators.specs.Operands.{and_then}
use Rattle.pl_operators.specs.Picking.{subscript, single_index, put_call, assign_future, assign_to_futures, assign_to_none, assign_at, assign_value}
use Rattle.pl_resolve.specs.declared.resolved.Resolved.{Resolved}
use Rattle.pl_meaning.specs.declared.frame.Frame.{Frame}
use Rattle.pl_meaning.specs.Known.{same}
use Rattle.pl_meaning.specs.Logs.{Workspace, LoopQuestion, Trace}
use Rattle.pl_meaning.specs.Names.{slot_of}
use Rattle.pl_meaning.specs.Running.{Done, Outcome}
use Rattle.pl_meaning.specs.Runs.{finished, failed}
use Rattle.pl_meaning.specs.Parts.{below, block_from, written_in, value_in}
use Rattle.pl_meaning.specs.Forms.{is_among, is_item}
use Rattle.pl_meaning.specs.Loops.{own_places, body_frame}
use Rattle.pl_frame.specs.Seeing.{Course, standing, Comes_to, Framed}
use Rattle.pl_frame.specs.Ordering.{HasArray}
use Rattle.pl_frame.proofs.Values.{own_list, and_first, and_second}
use Rattle.pl_frame.proofs.Growth.{Grown, from_line}
use Rattle.pl_frame.proofs.Assigning.{tip, Succeeded, succeeds, Holding, holds_more}
use Rattle.pl_frame.proofs.Own.{own_index, assigns, Assigned, assigned_how, assigns_new, holds_alike}
use Rattle.pl_frame.proofs.Slots.{set_here, set_elsewhere, has_slot}
use Rattle.pl_frame.proofs.Bodies.{same_self, Item, item_of, among_more, goes, fails_value, fails_put}
use Rattle.pl_frame.proofs.Keeping.{itself, frames, apart as not_index, run_is, no_end, done_same}
use Rattle.pl_frame.proofs.Iteration.{own, own_twice, converted_twice}

some_same : {A : Type 0} (a b : A) → Some a ≡ Some b → a ≡ b
some_same a b e = cc

same_made : (a b : Value) → ◌≡◌ {A = Result Value ErrKind} (Ok a) (Ok b) → a ≡ b
same_made a b e = cc

-- a future goes to the first place of nothing alone
first_only : (i : ℤ) (call : ℕ) (a : Value) → and_then (subscript (Some i)) (put_call [] call) ≡ Ok a → (a ≡ value.Futures (call ∷ [])) × (i ≡ pos 1)
first_only (negsuc n) call a h = absurd (cc)
first_only (pos n) call a h = by_low (nat_lt n 1) refl h
  where
    by_puts : 1 ≤ n → (u : Bool) → nat_lt 1 n ≡ u → (w : Bool) → nat_lt 0 n ≡ w → (if u then Err IndexRange else (if w then Ok (value.Futures (call ∷ [])) else Ok (value.Futures (slice_set [] (n - 1) call)))) ≡ Ok a → (a ≡ value.Futures (call ∷ [])) × (pos n ≡ pos 1)
    by_puts l true eu w ew g = absurd (cc)
    by_puts l false eu true ew g = let m : n ≤ 1 = ltb-false 1 n eu in (sym (same_made (value.Futures (call ∷ [])) a g), ap pos (omega arith))
    by_puts l false eu false ew g = let m : n ≤ 0 = ltb-false 0 n ew in absurd (omega arith)

    by_low : (t : Bool) → nat_lt n 1 ≡ t → and_then (if t then Err BadIndex else Ok n) (put_call [] call) ≡ Ok a → (a ≡ value.Futures (call ∷ [])) × (pos n ≡ pos 1)
    by_low true e g = absurd (cc)
    by_low false e g = by_puts (ltb-false n 1 e) (nat_lt 1 n) refl (nat_lt 0 n) refl g

itself_holds : (b : Array) → length b.cells ≡ b.rows * b.cols → Holding b [] b
itself_holds b c = record { class = refl; grown = Grown.stays (omega arith) refl; count = c; cells = λ k. refl }

module _ (program : Resolved) (q : LoopQuestion) (env : Workspace) (depth : ℕ) (i : ℤ) where
  abbrev f : Frame
  f = body_frame q

  abbrev names : List Name
  names = written_in q.body

  -- a slot that the body writes
  abbrev pub Named : ℕ → Type 0
  Named s = (n : Name) × (is_among names n ≡ true) × (slot_of program f n.text ≡ Some s)

  -- what it has before the loop
  abbrev pub First : ℕ → Type 0
  First s = HasArray env s ⊎ ((s < length env) × (value_at env s ≡ None))

  -- an array in which the iteration wrote its own place
  pub record Arr (u : Value) (s : ℕ) : Type 0 where
    pub base : Array
    pub before : (value_at env s ≡ Some (value.Array base)) ⊎ ((value_at env s ≡ None) × (base ≡ nothing base.class))
    pub array : Array
    pub is : u ≡ value.Array array
    pub z : ℤ
    pub holds : Holding base ((place_of i, z) ∷ []) array
    pub start : Holding base [] base
    pub low : int_lt i (pos 1) ≡ false
    pub allowed : is_no_char base.class z ≡ false
    pub kept : converted base.class z ≡ z

  -- a row of one future
  pub record Fut (u : Value) (s : ℕ) : Type 0 where
    pub call : ℕ
    pub is : u ≡ value.Futures (call ∷ [])
    pub before : value_at env s ≡ None
    pub one : i ≡ pos 1

  abbrev pub Had : Workspace → ℕ → Type 0
  Had E s = (u : Value) × (value_at E s ≡ Some u) × (Arr u s ⊎ Fut u s)

  abbrev pub State : Workspace → ℕ → Type 0
  State E s = (value_at E s ≡ value_at env s) ⊎ Had E s

  arr_made : (s : ℕ) (base b : Array) → (value_at env s ≡ Some (value.Array base)) ⊎ ((value_at env s ≡ None) × (base ≡ nothing base.class)) → Holding base [] base → (o : Option ℤ) → Holding base (own i o) b → (v a : Value) → assign_value (Some (value.Array b)) (own_places i) v ≡ Ok a → Arr a s
  arr_made s base b before start o H v a A =
      let D : Assigned b i v = assigned_how b i v a A in
      let S : Succeeded b D.cells i = D.how in
      let c : Array = stored b S.shape (place_of i ∷ []) (S.value ∷ []) in
      let made : assign_value (Some (value.Array b)) (own_places i) v ≡ Ok (value.Array c) = assigns b D.cells c i v D.is (succeeds b D.cells i S.value S.shape S.low S.line S.converts) in
      let more : Holding base (own i o ++ (place_of i, S.value) ∷ []) c = holds_more base b (own i o) i S.value S.shape H (from_line (shape_of b) (tip i) S.shape S.line) in
      let twice = own_twice [] i o S.value in
      let kept = converted_twice b.class S.converts.cell S.value S.converts.allowed S.converts.is in
      record {
        base = base;
        before = before;
        array = c;
        is = same_made a (value.Array c) (sym A ∙ made);
        z = S.value;
        holds = holds_alike base c (own i o ++ (place_of i, S.value) ∷ []) (own i (Some S.value)) more twice.0 twice.1;
        start = start;
        low = S.low;
        allowed = subst (λ (k : Class). is_no_char k S.value ≡ false) H.class kept.0;
        kept = subst (λ (k : Class). converted k S.value ≡ S.value) H.class kept.1;
      }

  fut_new : (s : ℕ) → value_at env s ≡ None → (more : List ℕ) (a : Value) → assign_future [] (own_places i) more ≡ Ok a → Fut a s
  fut_new s none [] a h = absurd (cc)
  fut_new s none (call ∷ []) a h =
      let first = first_only i call a (sym (ap (λ (r : Result Index ErrKind). and_then r (λ at. and_then (single_index at) (put_call [] call))) (own_index i)) ∙ h) in
      record { call = call; is = first.0; before = none; one = first.1 }
  fut_new s none (call ∷ other ∷ more) a h = absurd (cc)

  fut_more : (s c : ℕ) → value_at env s ≡ None → i ≡ pos 1 → (more : List ℕ) (a : Value) → assign_future (c ∷ []) (own_places i) more ≡ Ok a → Fut a s
  fut_more s c none one [] a h = absurd (cc)
  fut_more s c none one (call ∷ []) a h =
      let there : and_then (subscript (Some i)) (put_call (c ∷ []) call) ≡ Ok a = sym (ap (λ (r : Result Index ErrKind). and_then r (λ at. and_then (single_index at) (put_call (c ∷ []) call))) (own_index i)) ∙ h in
      let put : ◌≡◌ {A = Result Value ErrKind} (Ok (value.Futures (call ∷ []))) (Ok a) = ap (λ (j : ℤ). and_then (subscript (Some j)) (put_call (c ∷ []) call)) (sym one) ∙ there in
      record { call = call; is = sym (same_made (value.Futures (call ∷ [])) a put); before = none; one = one }
  fut_more s c none one (call ∷ other ∷ more) a h = absurd (cc)

  fut_again : (s c : ℕ) → value_at env s ≡ None → i ≡ pos 1 → (layer : Value-F Value) (a : Value) → assign_to_futures (c ∷ []) (own_places i) layer ≡ Ok a → Fut a s
  fut_again s c none one (Value-F.Futures more) a h = fut_more s c none one more a h
  fut_again s c none one layer a h = absurd (cc)

  new_made : (s : ℕ) → value_at env s ≡ None → (v a : Value) (layer : Value-F Value) → out-Value v ≡ layer → assign_value None (own_places i) v ≡ Ok a → assign_to_none (own_places i) layer ≡ Ok a → Arr a s ⊎ Fut a s
  new_made s none v a (Value-F.Array y) is A g = inl (arr_made s (nothing y.class) (nothing y.class) (inr (none, refl)) (itself_holds (nothing y.class) refl) None (itself_holds (nothing y.class) refl) v a (sym (assigns_new y i v is) ∙ A))
  new_made s none v a (Value-F.Futures more) is A g = inr (fut_new s none more a g)
  new_made s none v a layer is A g = absurd (cc)

  again : (s : ℕ) (u v a : Value) → Arr u s ⊎ Fut u s → assign_value (Some u) (own_places i) v ≡ Ok a → Arr a s ⊎ Fut a s
  again s u v a (inl r) A = inl (arr_made s r.base r.array r.before r.start (Some r.z) r.holds v a (sym (ap (λ (x : Value). assign_value (Some x) (own_places i) v) r.is) ∙ A))
  again s u v a (inr r) A =
      inr (fut_again s r.call r.before r.one (out-Value v) a (sym (ap (λ (layer : Value-F Value). assign_at layer (own_places i) v) (ap out-Value r.is ∙ outs-Futures (r.call ∷ []))) ∙ A))

  made : (E : Workspace) (s : ℕ) → First s → State E s → (v a : Value) → assign_value (value_at E s) (own_places i) v ≡ Ok a → Arr a s ⊎ Fut a s
  made E s (inl x) (inl e) v a A =
      let H : Holding x.0 [] x.0 = itself_holds x.0 x.2.count in
      inl (arr_made s x.0 x.0 (inl x.1) H None H v a (sym (ap (λ (u : Option Value). assign_value u (own_places i) v) (e ∙ x.1)) ∙ A))
  made E s (inr n) (inl e) v a A =
      let there : assign_value None (own_places i) v ≡ Ok a = sym (ap (λ (u : Option Value). assign_value u (own_places i) v) (e ∙ n.1)) ∙ A in
      new_made s n.1 v a (out-Value v) refl there there
  made E s x (inr h) v a A = again s h.0 v a h.2 (sym (ap (λ (u : Option Value). assign_value u (own_places i) v) h.1) ∙ A)

  first_within : (s : ℕ) → First s → s < length env
  first_within s (inl x) = has_slot env s (value.Array x.0) x.1
  first_within s (inr n) = n.0

  module _ (at : ℕ) (at_is : slot_of program f q.index.text ≡ Some at) (firsts : (s : ℕ) → Named s → First s) where
    pub record Reached (ss : List Stmt) (E one : Workspace) : Type 0 where
      pub touched : (n : Name) (s : ℕ) → is_among (written_in ss) n ≡ true → slot_of program f n.text ≡ Some s → Had one s
      pub stays : (s : ℕ) → Named s → Had E s → Had one s
      pub apart : (s : ℕ) → (Named s → ⊥) → (s ≡ at → ⊥) → value_at one s ≡ value_at E s

    abbrev pub Reaches : List Stmt → Type 0
    Reaches ss = (E one : Workspace) → value_at E at ≡ Some (number_of i) → length E ≡ length env → ((s : ℕ) → Named s → State E s) → (t : ℕ) (c d : List Choice) (r : Course) → (block_from program (below program depth) f ss finished failed (standing E t c r)).ending ≡ Done one d → Reached ss E one

    abbrev Fits_in : List Stmt → Type 0
    Fits_in ss = (n : Name) → is_among (written_in ss) n ≡ true → is_among names n ≡ true

    module _ (s : Stmt) (more : List Stmt) (I : Item program f q.index names s) (fits : Fits_in (s ∷ more)) where
      named : Named I.slot
      named = (I.name, fits I.name (among_more program f q.index names s more I I.name ∙ ap (λ (b : Bool). b || is_among (written_in more) I.name) (same_self I.name.text)), I.slot_is)

      -- behind the assignment
      had_after : (E : Workspace) (a : Value) → length E ≡ length env → Arr a I.slot ⊎ Fut a I.slot → (j : ℕ) (b : Bool) → (I.slot == j) ≡ b → Had E j → Had (slice_set E I.slot (Some a)) j
      had_after E a len x j true e h = subst (Had (slice_set E I.slot (Some a))) (eqb-true I.slot j e) (a, set_here E I.slot a (let w : I.slot < length env = first_within I.slot (firsts I.slot named) in omega arith), x)
      had_after E a len x j false e h = (h.0, set_elsewhere E I.slot j (Some a) (eqb-false I.slot j e) ∙ h.1, h.2)

      state_after : (E : Workspace) (a : Value) → length E ≡ length env → Arr a I.slot ⊎ Fut a I.slot → (j : ℕ) (b : Bool) → (I.slot == j) ≡ b → State E j → State (slice_set E I.slot (Some a)) j
      state_after E a len x j true e h = inr (subst (Had (slice_set E I.slot (Some a))) (eqb-true I.slot j e) (a, set_here E I.slot a (let w : I.slot < length env = first_within I.slot (firsts I.slot named) in omega arith), x))
      state_after E a len x j false e (inl g) = inl (set_elsewhere E I.slot j (Some a) (eqb-false I.slot j e) ∙ g)
      state_after E a len x j false e (inr h) = inr (h.0, set_elsewhere E I.slot j (Some a) (eqb-false I.slot j e) ∙ h.1, h.2)

      touched_by : (one : Workspace) → Had one I.slot → ((n : Name) (j : ℕ) → is_among (written_in more) n ≡ true → slot_of program f n.text ≡ Some j → Had one j) → (n : Name) (j : ℕ) → slot_of program f n.text ≡ Some j → (b : Bool) → same I.name.text n.text ≡ b → (b || is_among (written_in more) n) ≡ true → Had one j
      touched_by one here rest n j is true e h = subst (Had one) (some_same I.slot j (sym I.slot_is ∙ ap (slot_of program f) (same_text I.name.text n.text (sym e)) ∙ is)) here
      touched_by one here rest n j is false e h = rest n j h is

      reached : (E one : Workspace) (a : Value) → length E ≡ length env → Arr a I.slot ⊎ Fut a I.slot → Reached more (slice_set E I.slot (Some a)) one → Reached (s ∷ more) E one
      reached E one a len x R = record {
        touched = λ n j h is. touched_by one (R.stays I.slot named (a, set_here E I.slot a (let w : I.slot < length env = first_within I.slot (firsts I.slot named) in omega arith), x)) R.touched n j is (same I.name.text n.text) refl (sym (among_more program f q.index names s more I n) ∙ h);
        stays = λ j w h. R.stays j w (had_after E a len x j (I.slot == j) refl h);
        apart = λ j no other. R.apart j no other ∙ set_elsewhere E I.slot j (Some a) (λ e. no (subst Named e named));
      }

      by_assign : (rest : Reaches more) (E one : Workspace) (ei : value_at E at ≡ Some (number_of i)) → length E ≡ length env → ((s : ℕ) → Named s → State E s) → (ts : List Trace) (v : Value) → Comes_to (value_in program (below program depth) f I.value) E ts (Ok v) → (x : Result Value ErrKind) → assign_value (value_at E I.slot) (own_places i) v ≡ x → (t : ℕ) (c d : List Choice) (r : Course) → (block_from program (below program depth) f (s ∷ more) finished failed (standing E t c r)).ending ≡ Done one d → Reached (s ∷ more) E one
      by_assign rest E one ei len states ts v V (Ok a) A t c d r h =
          let run = run_is program q depth names i at at_is s more I E t c r ∙ goes program f q.index names (below program depth) i I.name I.list I.value I.slot I.slot_is E ts v a V
          (own_list program f q.index names i E E (itself program q depth names i at at_is E ei) at at_is (value_in program (below program depth)) (frames program q depth names i at at_is E ei) None I.slot I.list I.own E ei) A _ failed t c r in
          let x : Arr a I.slot ⊎ Fut a I.slot = made E I.slot (firsts I.slot named) (states I.slot named) v a A in
          reached E one a len x (rest (slice_set E I.slot (Some a)) one (set_elsewhere E I.slot at (Some a) (not_index program q depth names i at at_is s more I) ∙ ei) (length-set E I.slot (Some a) ∙ len) (λ j w. state_after E a len x j (I.slot == j) refl (states j w)) t c d r (sym (ap (λ (x : Outcome). x.ending) run) ∙ h))
      by_assign rest E one ei len states ts v V (Err kind) A t c d r h =
          let run = run_is program q depth names i at at_is s more I E t c r ∙ fails_put program f q.index names (below program depth) i I.name I.list I.value I.slot I.slot_is E ts v kind V
          (own_list program f q.index names i E E (itself program q depth names i at at_is E ei) at at_is (value_in program (below program depth)) (frames program q depth names i at at_is E ei) None I.slot I.list I.own E ei) A _ failed t c r in
          absurd (no_end (error_of kind I.name.place) c d one (sym (ap (λ (x : Outcome). x.ending) run) ∙ h))

      by_value : (rest : Reaches more) (E one : Workspace) (ei : value_at E at ≡ Some (number_of i)) → length E ≡ length env → ((s : ℕ) → Named s → State E s) → (P : Framed E E (value_in program (below program depth) f I.value)) (g : Result Value ScriptError) → P.gives ≡ g → (t : ℕ) (c d : List Choice) (r : Course) → (block_from program (below program depth) f (s ∷ more) finished failed (standing E t c r)).ending ≡ Done one d → Reached (s ∷ more) E one
      by_value rest E one ei len states P (Ok v) is t c d r h =
          by_assign rest E one ei len states P.shown v (P.there v is) (assign_value (value_at E I.slot) (own_places i) v) refl t c d r h
      by_value rest E one ei len states P (Err x) is t c d r h =
          let run = run_is program q depth names i at at_is s more I E t c r ∙ fails_value program f q.index names (below program depth) I.name I.list I.value E P.shown x (subst (λ (g : Result Value ScriptError). Comes_to (value_in program (below program depth) f I.value) E P.shown g) is P.here) _ failed t c r in
          absurd (no_end x c d one (sym (ap (λ (x : Outcome). x.ending) run) ∙ h))

      next : Reaches more → Reaches (s ∷ more)
      next rest E one ei len states t c d r h =
          let P : Framed E E (value_in program (below program depth) f I.value) = (frames program q depth names i at at_is E ei).only_reads None tt I.value I.fits in
          by_value rest E one ei len states P P.gives refl t c d r h

    pub reach : (ss : List Stmt) → list_all (is_item program f q.index names) ss ≡ true → Fits_in ss → Reaches ss
    reach [] items fits = λ E one ei len states t c d r h. record {
      touched = λ n s none. absurd (cc);
      stays = λ s w had. subst (λ (W : Workspace). Had W s) (done_same E one c d h) had;
      apart = λ s no other. ap (λ (W : Workspace). value_at W s) (sym (done_same E one c d h));
    }
    reach (s ∷ more) items fits =
        let I : Item program f q.index names s = item_of program f q.index names s (and_first (is_item program f q.index names s) (list_all (is_item program f q.index names) more) items) in
        let later : Fits_in more = λ n h. fits n (among_more program f q.index names s more I n ∙ or_second (same I.name.text n.text) (is_among (written_in more) n) h) in
        next s more I fits (reach more (and_second (is_item program f q.index names s) (list_all (is_item program f q.index names) more) items) later)
      where
        or_second : (a b : Bool) → b ≡ true → (a || b) ≡ true
        or_second true b h = refl
        or_second false b h = h
