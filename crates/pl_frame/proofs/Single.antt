-- A row of futures comes of a variable that is new only where the loop has one iteration; and what a loop of one iteration leaves.
use Rattle.std.specs.Prelude.{◌||◌, is_some, int_lt, slice_set, ◌<ℤ◌, ◌+ℤ◌, negsuc, if◌then◌else◌}
use Rattle.std.specs.List.{list_all}
use Rattle.std.specs.Cmp.Lexicographic.{same_text}
use Rattle.std.proofs.Common.{◌≡◌, ◌∙◌, ℕ, zero, suc, ◌*◌, ◌<◌, ◌≤◌, ◌⊎◌, inl, inr, ℤ, pos, List, [], ◌∷◌, ◌++◌, length, get_or, Bool, true, false, cond, Option, Some, None, Result, Ok, Err, arith, refl, sym, ap, subst}
use Rattle.std.proofs.lemmas.Int.{ints}
use Rattle.std.proofs.lemmas.List.{length-set}
use Rattle.std.proofs.lemmas.Bool.{eq-eqb, ltb-false}
use Rattle.pl_base.specs.declared.errors.ErrKind.{ErrKind}
use Rattle.pl_base.specs.declared.errors.ErrKind.TheVariants.{MixedClass, BadKind}
use Rattle.pl_array.specs.declared.class.Class.TheVariants.{Int}
use Rattle.pl_array.specs.Arrays.{Array}
use Rattle.pl_array.specs.Cellwise.{shape_of}
use Rattle.pl_index.specs.declared.index.Index.{Index}
use Rattle.pl_index.specs.Places.{place_of}
use Rattle.pl_index.specs.Writing.{nothing, stored}
use Rattle.pl_syntax.specs.declared.expr.Name.{Name}
use Rattle.pl_values.specs.declared.value.Value.{Value, out-Value}
use Rattle.pl_values.specs.declared.value.Value.TheOpen.{Value-F}
use Rattle.pl_values.specs.declared.value.Value.TheVariants as value
use Rattle.pl_values.specs.declared.value.Value.TheVariants.{outs-Array, outs-Futures}
use Rattle.pl_values.specs.Workspaces.{value_at}
use Rattle.pl_operators.specs.Bracketing.{number_of}
use Rattle.pl_operators.specs.Operands.{and_then}
use Rattle.pl_operators.specs.Picking.{subscript, single_index, pick_call, put_call, select_at, select_value, assign_to_futures, assign_to_none, assign_at, assign_value}
use Rattle.pl_resolve.specs.declared.resolved.Resolved.{Resolved}
use Rattle.pl_meaning.specs.declared.event.Output.{Output}
use Rattle.pl_meaning.specs.Known.{same}
use Rattle.pl_meaning.specs.Logs.{Workspace, LoopQuestion}
use Rattle.pl_meaning.specs.Names.{slot_of}
use Rattle.pl_meaning.specs.Running.{Outcome}
use Rattle.pl_meaning.specs.Parts.{written_in}
use Rattle.pl_meaning.specs.Forms.{is_among, is_item}
use Rattle.pl_meaning.specs.Loops.{Write, body_frame, own_places, standing_at, kept_at, wrote, is_mixed_with, put_in, put_all, merged, indices, written_slots, Iter, ends_of, all_done, writes, after, outputs, come_to, plain, plain_on, text_of, texts}
use Rattle.pl_frame.specs.Seeing.{no_course}
use Rattle.pl_frame.specs.Ordering.{IsReady, IsOther, Each, Reorders, texts_on, plain_texts, OrderLaw}
use Rattle.pl_frame.proofs.Values.{and_first, and_second}
use Rattle.pl_frame.proofs.Growth.{Grown, to_line, reaches}
use Rattle.pl_frame.proofs.Assigning.{tip, Converts, succeeds, top, Holding, holds_more}
use Rattle.pl_frame.proofs.Own.{own_index, cell_alone, selected, assigns, assigns_new, only_one}
use Rattle.pl_frame.proofs.Slots.{set_here, set_elsewhere}
use Rattle.pl_frame.proofs.Bodies.{same_self}
use Rattle.pl_frame.proofs.Iteration.{Laid}
use Rattle.pl_frame.proofs.Turns.{iter_is, done_of, not_index}
use Rattle.pl_frame.proofs.Orders.{each_moved, each_weaker, each_of, Merged, outputs_merged, slots_written, not_target, not_at, any_order}
use Rattle.pl_frame.proofs.Alone.{Arr, Fut, Had, Reached, reach}
use Rattle.pl_frame.proofs.Fresh.{some_slot, some_end, Is_ok, all_ok, all_slots, each_any, class_by, with_classes, Leaves, all_well}

some_same : {A : Type 0} (a b : A) → Some a ≡ Some b → a ≡ b
some_same a b e = cc

none_some : {A : Type 0} (a : A) → ◌≡◌ {A = Option A} None (Some a) → ⊥
none_some a e = cc

-- ## A future at the first place

select_future : (i : ℤ) (c : ℕ) → i ≡ pos 1 → select_value (value.Futures (c ∷ [])) (own_places i) ≡ Ok (value.Futures (c ∷ []))
select_future i c one =
    ap (λ (layer : Value-F Value). select_at layer (own_places i)) (outs-Futures (c ∷ []))
    ∙ ap (λ (r : Result Index ErrKind). and_then r (λ at. and_then (single_index at) (pick_call (c ∷ [])))) (own_index i)
    ∙ ap (λ (j : ℤ). and_then (subscript (Some j)) (pick_call (c ∷ []))) one

put_future : (i : ℤ) (c : ℕ) → i ≡ pos 1 → assign_value None (own_places i) (value.Futures (c ∷ [])) ≡ Ok (value.Futures (c ∷ []))
put_future i c one =
    ap (assign_to_none (own_places i)) (outs-Futures (c ∷ []))
    ∙ ap (λ (r : Result Index ErrKind). and_then r (λ at. and_then (single_index at) (put_call [] c))) (own_index i)
    ∙ ap (λ (j : ℤ). and_then (subscript (Some j)) (put_call [] c)) one

no_ok : (k : ErrKind) (r : Option Value) → ◌≡◌ {A = Result (Option Value) ErrKind} (Err k) (Ok r) → ⊥
no_ok k r e = cc

-- no array is put into a row of futures
refused : (c : ℕ) (y : Array) (i : ℤ) → put_in true (Some (value.Futures (c ∷ []))) (record { at = own_places i; value = value.Array y }) ≡ Err BadKind
refused c y i =
    ap (λ (layer : Value-F Value). if is_mixed_with layer (out-Value (value.Array y)) then Err MixedClass else assign_at layer (own_places i) (value.Array y)) (outs-Futures (c ∷ []))
    ∙ ap (λ (layer : Value-F Value). if is_mixed_with (Value-F.Futures (c ∷ [])) layer then Err MixedClass else assign_to_futures (c ∷ []) (own_places i) layer) (outs-Array y)

-- ## One iteration

module _ (program : Resolved) (q : LoopQuestion) (env : Workspace) (depth : ℕ) (i : ℤ) where
  abbrev Array_of : Value → ℕ → Type 0
  Array_of = Arr program q env depth i

  abbrev Future_of : Value → ℕ → Type 0
  Future_of = Fut program q env depth i

  pub own_cell : (u : Value) (s : ℕ) → Array_of u s → Array
  own_cell u s r = cell_alone r.array.class (get_or r.array.cells (place_of i) (pos 0))

  pub array_selected : (u : Value) (s : ℕ) (r : Array_of u s) → select_value u (own_places i) ≡ Ok (value.Array (own_cell u s r))
  unfolding own_cell
  array_selected u s r =
      let reached = reaches (shape_of r.base) (top ((place_of i, r.z) ∷ [])) (shape_of r.array) r.holds.grown in
      let inside : tip i ≤ r.array.rows * r.array.cols = omega (arith, reached.0) in
      ap (λ (x : Value). select_value x (own_places i)) r.is ∙ selected r.array i r.low inside

  array_put : (u : Value) (s : ℕ) (r : Array_of u s) → assign_value (Some (value.Array r.base)) (own_places i) (value.Array (own_cell u s r)) ≡ Ok (value.Array r.array)
  unfolding own_cell
  array_put u s r =
      let y : Array = cell_alone r.array.class (get_or r.array.cells (place_of i) (pos 0)) in
      let tips : top ((place_of i, r.z) ∷ []) ≡ tip i = omega arith in
      let grow : Grown (shape_of r.base) (tip i) (shape_of r.array) = subst (λ (t : ℕ). Grown (shape_of r.base) t (shape_of r.array)) tips r.holds.grown in
      let there : get_or r.array.cells (place_of i) (pos 0) ≡ r.z = r.holds.cells (place_of i) ∙ ap (λ (t : Bool). cond t r.z (get_or r.base.cells (place_of i) (pos 0))) (eq-eqb (place_of i) (place_of i) refl) in
      let converts : Converts y r.base.class r.z = record { cell = r.z; alone = ap (λ (x : ℤ). x ∷ []) there; allowed = r.allowed; is = r.kept } in
      let c : Array = stored r.base (shape_of r.array) (place_of i ∷ []) (r.z ∷ []) in
      let holds_c : Holding r.base ((place_of i, r.z) ∷ []) c = holds_more r.base r.base [] i r.z (shape_of r.array) r.start grow in
      assigns r.base y c i (value.Array y) (outs-Array y) (succeeds r.base y i r.z (shape_of r.array) r.low (to_line (shape_of r.base) (tip i) (shape_of r.array) grow) converts)
      ∙ ap (λ (x : Array). Ok (value.Array x)) (only_one r.base c r.array ((place_of i, r.z) ∷ []) holds_c r.holds)

  abbrev write_of : Value → Write
  write_of v = record { at = own_places i; value = v }

  pub wrote_value : (one : Workspace) (s : ℕ) (u v : Value) → value_at one s ≡ Some u → select_value u (own_places i) ≡ Ok v → wrote s i (Some one) ≡ write_of v ∷ []
  wrote_value one s u v there picks = ap (standing_at (own_places i)) there ∙ ap (kept_at (own_places i)) picks

  pub future_selected : (u : Value) (s : ℕ) (r : Future_of u s) → select_value u (own_places i) ≡ Ok (value.Futures (r.call ∷ []))
  future_selected u s r = ap (λ (x : Value). select_value x (own_places i)) r.is ∙ select_future i r.call r.one

  -- what the merge makes of its writes alone
  merged_one : (one : Workspace) (s : ℕ) (u : Value) → value_at one s ≡ Some u → Array_of u s ⊎ Future_of u s → merged (value_at env s) (wrote s i (Some one) ++ []) ≡ Ok (Some u)
  unfolding own_cell
  merged_one one s u there (inl r) =
      ap (λ (us : List Write). merged (value_at env s) (us ++ [])) (wrote_value one s u (value.Array (own_cell u s r)) there (array_selected u s r))
      ∙ by_before r.before
      ∙ ap (λ (x : Value). Ok (Some x)) (sym r.is)
    where
      by_before : (value_at env s ≡ Some (value.Array r.base)) ⊎ ((value_at env s ≡ None) × (r.base ≡ nothing r.base.class)) → merged (value_at env s) (write_of (value.Array (own_cell u s r)) ∷ []) ≡ Ok (Some (value.Array r.array))
      by_before (inl e) = ap (λ (o : Option Value). merged o (write_of (value.Array (own_cell u s r)) ∷ [])) e ∙ ap (λ (x : Result Value ErrKind). and_then x (λ v. Ok (Some v))) (array_put u s r)
      by_before (inr n) =
          let y : Array = own_cell u s r in
          ap (λ (o : Option Value). merged o (write_of (value.Array y) ∷ [])) n.0
          ∙ ap (λ (x : Result Value ErrKind). and_then x (λ v. Ok (Some v))) (assigns_new y i (value.Array y) (outs-Array y) ∙ ap (λ (x : Array). assign_value (Some (value.Array x)) (own_places i) (value.Array y)) (ap nothing r.holds.class ∙ sym n.1) ∙ array_put u s r)
  merged_one one s u there (inr r) =
      ap (λ (us : List Write). merged (value_at env s) (us ++ [])) (wrote_value one s u (value.Futures (r.call ∷ [])) there (future_selected u s r))
      ∙ ap (λ (o : Option Value). merged o (write_of (value.Futures (r.call ∷ [])) ∷ [])) r.before
      ∙ ap (λ (x : Result Value ErrKind). and_then x (λ v. Ok (Some v))) (put_future i r.call r.one)
      ∙ ap (λ (x : Value). Ok (Some x)) (sym r.is)

or_second : (a b : Bool) → b ≡ true → (a || b) ≡ true
or_second true b h = refl
or_second false b h = h

low_not : (i : ℤ) → int_lt i (pos 1) ≡ false → i <ℤ pos 1 → ⊥
low_not (pos a) h l = let m : 1 ≤ a = ltb-false a 1 h in absurd (omega (arith, ints))
low_not (negsuc a) h l = absurd (cc)

length_moved : {xs ys : List ℤ} → Reorders xs ys → length xs ≡ length ys
length_moved Reorders.none = refl
length_moved (Reorders.beside r) = ap suc (length_moved r)
length_moved Reorders.turned = refl
length_moved (Reorders.through r s) = length_moved r ∙ length_moved s

alone_in : (x : ℤ) (p : List ℤ) → 1 ≡ length p → Each (λ (j : ℤ). j ≡ x) p → p ≡ x ∷ []
alone_in x [] n all = absurd (omega arith)
alone_in x (y ∷ []) n all = ap (λ (z : ℤ). z ∷ []) all.0
alone_in x (y ∷ z ∷ p) n all = absurd (omega arith)

ok_some : (a b : Value) → ◌≡◌ {A = Result (Option Value) ErrKind} (Ok (Some a)) (Ok (Some b)) → a ≡ b
ok_some a b e = cc

-- ## A loop

module _ (program : Resolved) (q : LoopQuestion) (env : Workspace) (turns depth : ℕ) (at : ℕ) (at_is : slot_of program (body_frame q) q.index.text ≡ Some at) (at_within : at < length env) (ready : IsReady program q env) (items : list_all (is_item program (body_frame q) q.index (written_in q.body)) q.body ≡ true) where
  abbrev end_at : ℤ → Option Workspace
  end_at = ends_of program turns depth q env

  abbrev names : List Name
  names = written_in q.body

  abbrev Target : ℕ → Type 0
  Target s = (n : Name) × (is_among (written_in q.body) n ≡ true) × (slot_of program (body_frame q) n.text ≡ Some s)

  abbrev L : Laid program q env
  L = with_classes program q env turns depth at at_is at_within ready items (λ s. Int)

  abbrev begin : ℤ → Workspace
  begin i = slice_set env at (Some (number_of i))

  reached : (i : ℤ) (one : Workspace) → end_at i ≡ Some one → Reached program q env depth i at at_is (λ s w. ready w.0 s w.1 w.2) q.body (begin i) one
  reached i one e =
      let d = done_of (Iter program turns depth q env i).ending one e in
      reach program q env depth i at at_is (λ s w. ready w.0 s w.1 w.2) q.body items (λ n h. h) (begin i) one
      (set_here env at (number_of i) at_within)
      (length-set env at (Some (number_of i)))
      (λ s w. inl (set_elsewhere env at s (Some (number_of i)) (λ x. not_index program q env turns depth L s w (sym x))))
      turns [] d.0 no_course (sym (ap (λ (x : Outcome). x.ending) (iter_is program q env turns depth L env i)) ∙ d.1)

  pub there : (i : ℤ) (one : Workspace) → end_at i ≡ Some one → (s : ℕ) → Target s → Had program q env depth i one s
  there i one e s w = (reached i one e).touched w.0 s w.1 w.2

  -- an iteration leaves a row of futures
  record Future_at (i : ℤ) : Type 0 where
    one : Workspace
    ends : end_at i ≡ Some one
    slot : ℕ
    target : Target slot
    value : Value
    held : value_at one slot ≡ Some value
    future : Fut program q env depth i value slot

  -- these variables have arrays
  abbrev Arrays_in : Workspace → List Name → Type 0
  Arrays_in one ns = (n : Name) (s : ℕ) → is_among ns n ≡ true → slot_of program (body_frame q) n.text ≡ Some s → (a : Array) × (value_at one s ≡ Some (value.Array a))

  arrays_more : (one : Workspace) (m : Name) (ns : List Name) → ((s : ℕ) → slot_of program (body_frame q) m.text ≡ Some s → (a : Array) × (value_at one s ≡ Some (value.Array a))) → Arrays_in one ns → Arrays_in one (m ∷ ns)
  arrays_more one m ns first rest n s h is = by_test (same m.text n.text) refl h
    where
      by_test : (t : Bool) → same m.text n.text ≡ t → (t || is_among ns n) ≡ true → (a : Array) × (value_at one s ≡ Some (value.Array a))
      by_test true e h = first s (ap (slot_of program (body_frame q)) (same_text m.text n.text (sym e)) ∙ is)
      by_test false e h = rest n s h is

  by_value : (i : ℤ) (one : Workspace) → end_at i ≡ Some one → (m : Name) (ns : List Name) → is_among names m ≡ true → (j : ℕ) → slot_of program (body_frame q) m.text ≡ Some j → Arrays_in one ns → (u : Value) → value_at one j ≡ Some u → Arr program q env depth i u j ⊎ Fut program q env depth i u j → Arrays_in one (m ∷ ns) ⊎ Future_at i
  by_value i one e m ns h j is rest u held (inl r) = inl (arrays_more one m ns (λ s k. (r.array, ap (value_at one) (some_same s j (sym k ∙ is)) ∙ held ∙ ap Some r.is)) rest)
  by_value i one e m ns h j is rest u held (inr r) = inr (record { one = one; ends = e; slot = j; target = (m, h, is); value = u; held = held; future = r })

  by_slot : (i : ℤ) (one : Workspace) → end_at i ≡ Some one → (m : Name) (ns : List Name) → is_among names m ≡ true → (o : Option ℕ) → slot_of program (body_frame q) m.text ≡ o → Arrays_in one ns ⊎ Future_at i → Arrays_in one (m ∷ ns) ⊎ Future_at i
  by_slot i one e m ns h None is (inr x) = inr x
  by_slot i one e m ns h (Some j) is (inr x) = inr x
  by_slot i one e m ns h None is (inl rest) = inl (arrays_more one m ns (λ s k. absurd (none_some s (sym is ∙ k))) rest)
  by_slot i one e m ns h (Some j) is (inl rest) = let H = there i one e j (m, h, is) in by_value i one e m ns h j is rest H.0 H.1 H.2

  decide : (i : ℤ) (one : Workspace) → end_at i ≡ Some one → (ns : List Name) → ((n : Name) → is_among ns n ≡ true → is_among names n ≡ true) → Arrays_in one ns ⊎ Future_at i
  decide i one e [] within = inl (λ n s h is. absurd (cc))
  decide i one e (m ∷ ns) within =
      by_slot i one e m ns (within m (ap (λ (b : Bool). b || is_among ns m) (same_self m.text))) (slot_of program (body_frame q) m.text) refl
      (decide i one e ns (λ n h. within n (or_second (same m.text n.text) (is_among ns n) h)))

  abbrev Future_among : List ℤ → Type 0
  Future_among [] = ⊥
  Future_among (i ∷ is) = Future_at i ⊎ Future_among is

  abbrev Leave : ℤ → Type 0
  Leave = Leaves program q env turns depth at at_is at_within ready items

  join : (i : ℤ) (is : List ℤ) (one : Workspace) → end_at i ≡ Some one → Arrays_in one names ⊎ Future_at i → Each Leave is ⊎ Future_among is → Each Leave (i ∷ is) ⊎ Future_among (i ∷ is)
  join i is one e (inr x) r = inr (inl x)
  join i is one e (inl a) (inr x) = inr (inr x)
  join i is one e (inl a) (inl l) = inl ((λ s w none two k. let b = a w.0 s w.1 w.2 in (b.0, ap (λ (W : Workspace). value_at W s) (some_same two one (sym k ∙ e)) ∙ b.1)), l)

  scan : (is : List ℤ) → Each (λ (i : ℤ). is_some (end_at i) ≡ true) is → Each Leave is ⊎ Future_among is
  scan [] h = inl tt
  scan (i ∷ is) h = let e = some_end (end_at i) h.0 in join i is e.0 e.1 (decide i e.0 e.1 names (λ n among. among)) (scan is h.1)

  -- ## A row of futures, and another iteration

  future_low : (a : ℤ) (n : ℕ) → Future_among (indices a n) → a <ℤ pos 2
  future_low a zero x = absurd x
  future_low a (suc n) (inl x) = let e : a ≡ pos 1 = x.future.one in omega (arith, ints)
  future_low a (suc n) (inr x) = let l : (a +ℤ pos 1) <ℤ pos 2 = future_low (a +ℤ pos 1) n x in omega (arith, ints)

  target_of : (is : List ℤ) → Future_among is → (s : ℕ) × Target s
  target_of [] x = absurd x
  target_of (i ∷ is) (inl x) = (x.slot, x.target)
  target_of (i ∷ is) (inr x) = target_of is x

  is_low : (i : ℤ) (u : Value) (s : ℕ) → Arr program q env depth i u s ⊎ Fut program q env depth i u s → int_lt i (pos 1) ≡ false
  is_low i u s (inl r) = r.low
  is_low i u s (inr r) = subst (λ (j : ℤ). int_lt j (pos 1) ≡ false) (sym r.one) refl

  two_refused : (a b : ℤ) (is : List ℤ) (x : Future_at a) (one : Workspace) → end_at b ≡ Some one → (u : Value) → value_at one x.slot ≡ Some u → (y : Array) → select_value u (own_places b) ≡ Ok (value.Array y) → (r : Option Value) → after program turns depth q env (a ∷ b ∷ is) x.slot ≡ Ok r → ⊥
  two_refused a b is x one e u held y picks r ok =
      let s : ℕ = x.slot in
      let c : ℕ = x.future.call in
      let more : List Write = writes program turns depth q env s is in
      let wrote_a : wrote s a (end_at a) ≡ record { at = own_places a; value = value.Futures (c ∷ []) } ∷ [] = ap (wrote s a) x.ends ∙ wrote_value program q env depth a x.one s x.value (value.Futures (c ∷ [])) x.held (future_selected program q env depth a x.value s x.future) in
      let wrote_b : wrote s b (end_at b) ≡ record { at = own_places b; value = value.Array y } ∷ [] = ap (wrote s b) e ∙ wrote_value program q env depth b one s u (value.Array y) held picks in
      let one_by_one : after program turns depth q env (a ∷ b ∷ is) s ≡ Err BadKind =
      ap (λ (o : Option Value). merged o (wrote s a (end_at a) ++ (wrote s b (end_at b) ++ more))) x.future.before
      ∙ ap (λ (us : List Write). put_all true None (us ++ (wrote s b (end_at b) ++ more))) wrote_a
      ∙ ap (λ (us : List Write). put_all true None (record { at = own_places a; value = value.Futures (c ∷ []) } ∷ (us ++ more))) wrote_b
      ∙ ap (λ (z : Result Value ErrKind). and_then z (λ v. and_then (put_in true (Some v) (record { at = own_places b; value = value.Array y })) (λ w. put_all true (Some w) more))) (put_future a c x.future.one)
      ∙ ap (λ (z : Result Value ErrKind). and_then z (λ w. put_all true (Some w) more)) (refused c y b) in
      no_ok BadKind r (sym one_by_one ∙ ok)

  two_by : (a : ℤ) (is : List ℤ) (x : Future_at a) (one : Workspace) → end_at (a +ℤ pos 1) ≡ Some one → (u : Value) → value_at one x.slot ≡ Some u → Arr program q env depth (a +ℤ pos 1) u x.slot ⊎ Fut program q env depth (a +ℤ pos 1) u x.slot → (r : Option Value) → after program turns depth q env (a ∷ (a +ℤ pos 1) ∷ is) x.slot ≡ Ok r → ⊥
  two_by a is x one e u held (inl y) r ok = two_refused a (a +ℤ pos 1) is x one e u held (own_cell program q env depth (a +ℤ pos 1) u x.slot y) (array_selected program q env depth (a +ℤ pos 1) u x.slot y) r ok
  two_by a is x one e u held (inr y) r ok = let k : a ≡ pos 1 = x.future.one in let l : (a +ℤ pos 1) ≡ pos 1 = y.one in absurd (omega (arith, ints))

  is_ok : (is : List ℤ) (outs : List Output) → outputs program turns depth q env is (written_slots program q) ≡ Ok outs → (s : ℕ) → Target s → (r : Option Value) × (after program turns depth q env is s ≡ Ok r)
  is_ok is outs c s w = each_any program q env turns depth (Is_ok program q env turns depth is) (written_slots program q) s (all_ok program q env turns depth is (written_slots program q) outs c) (all_slots program q env turns depth [] (written_in q.body) w.0 s w.1 w.2)

  two : (a : ℤ) (n : ℕ) (outs : List Output) → Each (λ (i : ℤ). is_some (end_at i) ≡ true) (indices a (suc (suc n))) → outputs program turns depth q env (indices a (suc (suc n))) (written_slots program q) ≡ Ok outs → Future_among (indices a (suc (suc n))) → ⊥
  two a n outs done c (inl x) =
      let e = some_end (end_at (a +ℤ pos 1)) done.1.0 in
      let H = there (a +ℤ pos 1) e.0 e.1 x.slot x.target in
      let ok = is_ok (indices a (suc (suc n))) outs c x.slot x.target in
      two_by a (indices ((a +ℤ pos 1) +ℤ pos 1) n) x e.0 e.1 H.0 H.1 H.2 ok.0 ok.1
  two a n outs done c (inr x) =
      let e = some_end (end_at a) done.0 in
      let w = target_of (indices (a +ℤ pos 1) (suc n)) x in
      let H = there a e.0 e.1 w.0 w.1 in
      let l : (a +ℤ pos 1) <ℤ pos 2 = future_low (a +ℤ pos 1) (suc n) x in
      low_not a (is_low a H.0 w.0 H.2) (omega (arith, ints))

  -- ## A loop of one iteration

  abbrev Law : List Output → List ℤ → Type 0
  Law outs p = (end : Workspace) × (plain program turns depth q p env ≡ Some end) × Each (λ (o : Output). value_at end o.slot ≡ Some o.value) outs × ((slot : ℕ) → IsOther program q slot → value_at end slot ≡ value_at env slot) × (plain_texts program turns depth q p env ≡ texts program turns depth q env p)

  has_output : (x : ℤ) (one : Workspace) → end_at x ≡ Some one → (o : Output) → Merged program q env turns depth L (x ∷ []) o → value_at one o.slot ≡ Some o.value
  has_output x one e o M =
      let s : ℕ = o.slot in
      let H = there x one e s M.0 in
      let known : after program turns depth q env (x ∷ []) s ≡ Ok (Some H.0) = ap (λ (z : Option Workspace). merged (value_at env s) (wrote s x z ++ [])) e ∙ merged_one program q env depth x one s H.0 H.1 H.2 in
      H.1 ∙ ap Some (ok_some H.0 o.value (sym known ∙ M.1))

  single : (x : ℤ) (outs : List Output) → is_some (end_at x) ≡ true → outputs program turns depth q env (x ∷ []) (written_slots program q) ≡ Ok outs → Law outs (x ∷ [])
  single x outs h c =
      let e = some_end (end_at x) h in
      let all = outputs_merged program q env turns depth L (x ∷ []) (written_slots program q) (slots_written program q env turns depth L [] tt (written_in q.body) (λ n among. among)) outs c in (
        e.0,
        ap (plain_on program turns depth q (plain program turns depth q [])) e.1,
        each_weaker (Merged program q env turns depth L (x ∷ [])) (λ (o : Output). value_at e.0 o.slot ≡ Some o.value) (has_output x e.0 e.1) outs all,
        (λ slot other. (reached x e.0 e.1).apart slot (not_target program q env turns depth L slot other) (not_at program q env turns depth L slot other) ∙ set_elsewhere env at slot (Some (number_of x)) (λ z. not_at program q env turns depth L slot other (sym z))),
        ap (λ (z : Option Workspace). text_of (Iter program turns depth q env x).shown ++ texts_on program turns depth q (plain_texts program turns depth q []) z) e.1,
      )

  by_count : (a : ℤ) (n : ℕ) (outs : List Output) (p : List ℤ) → Each (λ (i : ℤ). is_some (end_at i) ≡ true) (indices a n) → outputs program turns depth q env (indices a n) (written_slots program q) ≡ Ok outs → Reorders (indices a n) p → Future_among (indices a n) → Law outs p
  by_count a zero outs p done c r x = absurd x
  by_count a (suc zero) outs p done c r x = subst (Law outs) (sym (alone_in a p (length_moved r) (each_moved (λ (j : ℤ). j ≡ a) r (refl, tt)))) (single a outs done.0 c)
  by_count a (suc (suc n)) outs p done c r x = absurd (two a n outs done c x)

  by_scan : (outs : List Output) (p : List ℤ) → Each (λ (i : ℤ). is_some (end_at i) ≡ true) (indices q.first q.count) → come_to program turns depth q env ≡ Ok outs → Reorders (indices q.first q.count) p → Each Leave (indices q.first q.count) ⊎ Future_among (indices q.first q.count) → Law outs p
  by_scan outs p done c r (inl left) =
      any_order program q env turns depth (with_classes program q env turns depth at at_is at_within ready items (class_by program q env turns depth (indices q.first q.count))) outs p
      (all_well program q env turns depth at at_is at_within ready items outs done left c) c r
  by_scan outs p done c r (inr x) = by_count q.first q.count outs p done c r x

  pub each_order : (outs : List Output) (p : List ℤ) → all_done program turns depth q env (indices q.first q.count) ≡ true → come_to program turns depth q env ≡ Ok outs → Reorders (indices q.first q.count) p → Law outs p
  each_order outs p h c r =
      let done : Each (λ (i : ℤ). is_some (end_at i) ≡ true) (indices q.first q.count) = each_of (λ (i : ℤ). is_some (end_at i)) (indices q.first q.count) h in
      by_scan outs p done c r (scan (indices q.first q.count) done)

pub every_order : OrderLaw
every_order program turns depth q env outs p form slots ready done c r =
    let at = some_slot (slot_of program (body_frame q) q.index.text) (and_first (is_some (slot_of program (body_frame q) q.index.text)) _ form) in
    each_order program q env turns depth at.0 at.1 (slots at.0 at.1) ready (and_second (is_some (slot_of program (body_frame q) q.index.text)) _ form) outs p done c r
