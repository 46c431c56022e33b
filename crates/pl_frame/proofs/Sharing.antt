-- One pass over a workspace that earlier passes have written: the iteration by itself does the same, as those wrote below its own
-- place.
use Rattle.std.specs.Prelude.{slice_set}
use Rattle.std.proofs.Common.{◌≡◌, ◌∙◌, ℕ, ◌*◌, ◌<◌, ◌≤◌, ◌==◌, inl, inr, max, ℤ, pos, List, [], ◌∷◌, ◌++◌, get_or, Bool, true, false, cond, Option, Some, None, Result, Ok, arith, refl, sym, ap, subst}
use Rattle.std.proofs.lemmas.Bool.{eq-eqb, ne_eqb}
use Rattle.pl_base.specs.declared.choice.Choice.{Choice}
use Rattle.pl_base.specs.declared.errors.ErrKind.{ErrKind}
use Rattle.pl_array.specs.declared.class.Class.{Class}
use Rattle.pl_array.specs.declared.class.Shape.{Shape}
use Rattle.pl_array.specs.Arrays.{Array}
use Rattle.pl_array.specs.Cellwise.{shape_of}
use Rattle.pl_array.specs.Joining.{converted, is_no_char}
use Rattle.pl_index.specs.Places.{place_of}
use Rattle.pl_index.specs.Choosing.{row_of, column_of}
use Rattle.pl_index.specs.Writing.{nothing, stored}
use Rattle.pl_syntax.specs.declared.expr.Name.{Name}
use Rattle.pl_syntax.specs.declared.expr.Expr.{Expr}
use Rattle.pl_syntax.specs.declared.stmt.Stmt.{Stmt}
use Rattle.pl_values.specs.declared.value.Value.{Value, out-Value}
use Rattle.pl_values.specs.declared.value.Value.TheOpen.{Value-F}
use Rattle.pl_values.specs.declared.value.Value.TheVariants as value
use Rattle.pl_values.specs.Workspaces.{value_at}
use Rattle.pl_operators.specs.Bracketing.{number_of}
use Rattle.pl_operators.specs.Picking.{select_value, assign_value}
use Rattle.pl_resolve.specs.declared.resolved.Resolved.{Resolved}
use Rattle.pl_meaning.specs.declared.frame.Frame.{Frame}
use Rattle.pl_meaning.specs.Logs.{Workspace, LoopQuestion, Trace}
use Rattle.pl_meaning.specs.Running.{before}
use Rattle.pl_meaning.specs.Runs.{finished, failed}
use Rattle.pl_meaning.specs.Parts.{below, block_from, written_in, value_in}
use Rattle.pl_meaning.specs.Forms.{read_of}
use Rattle.pl_meaning.specs.Loops.{own_places, body_frame}
use Rattle.pl_frame.specs.Seeing.{Course, standing, Comes_to, Framed, Alike}
use Rattle.pl_frame.proofs.Values.{all_framed, own_list}
use Rattle.pl_frame.proofs.Growth.{size, Grown, from_line, to_line, reaches, in_one, second_step, within_most}
use Rattle.pl_frame.proofs.Assigning.{tip, Converts, Succeeded, succeeds, last_of, top, Holding, last_of-append, top-append, holds_more}
use Rattle.pl_frame.proofs.Own.{cell_alone, selected, has_place, assigns, Assigned, assigned_how, assigns_new, holds_alike}
use Rattle.pl_frame.proofs.Slots.{set_elsewhere}
use Rattle.pl_frame.proofs.Bodies.{Item, goes}
use Rattle.pl_frame.proofs.Keeping.{itself, frames, apart as not_index, run_is}
use Rattle.pl_frame.proofs.Iteration.{Laid, own, own_twice, converted_twice, rest_empty, some_own, Written, base, base_new, base_bounded, holds_base, Link, Between, seen_apart, at_slot, Put, put_array}
use Rattle.pl_frame.proofs.Went.{comes_once}

same_made : (a b : Value) → ◌≡◌ {A = Result Value ErrKind} (Ok a) (Ok b) → a ≡ b
same_made a b e = cc

some_same : {A : Type 0} (a b : A) → Some a ≡ Some b → a ≡ b
some_same a b e = cc

some_none : {A : Type 0} (a : A) → ◌≡◌ {A = Option A} (Some a) None → ⊥
some_none a e = cc

-- writes below a place leave it
pub below_last : (ws : List (ℕ × ℤ)) (k : ℕ) → top ws ≤ k → (z : ℤ) → last_of ws k z ≡ z
below_last [] k h z = refl
below_last (w ∷ ws) k h z = ap (λ (b : Bool). last_of ws k (cond b w.1 z)) (ne_eqb w.0 k (λ e. omega arith)) ∙ below_last ws k (omega arith) z

-- what is past all that a shape grew for was there before
not_grown : (s : Shape) (t n : ℕ) (r : Shape) → Grown s t r → t < n → n ≤ size r → n ≤ size s
not_grown s t n r (Grown.stays h e) l m = subst (λ (q : Shape). n ≤ size q) e m
not_grown s t n r (Grown.row h k lie e) l m = let n_in : n ≤ size (row_of t) = subst (λ (q : Shape). n ≤ size q) e m in absurd (omega arith)
not_grown s t n r (Grown.column h k one up e) l m = let n_in : n ≤ size (column_of t) = subst (λ (q : Shape). n ≤ size q) e m in absurd (omega arith)

module _ (program : Resolved) (q : LoopQuestion) (env : Workspace) (depth : ℕ) (L : Laid program q env) (i : ℤ) (vs : ℕ → List (ℕ × ℤ)) (rises : (s : ℕ) → Written program q env depth L s → top (vs s) ≤ place_of i) where
  abbrev f : Frame
  f = body_frame q

  abbrev names : List Name
  names = written_in q.body

  abbrev Target : ℕ → Type 0
  Target = Written program q env depth L

  abbrev Amid : (ℕ → List (ℕ × ℤ)) → Workspace → Type 0
  Amid = Between program q env depth L

  abbrev Bound : Workspace → ℕ → List (ℕ × ℤ) → Type 0
  Bound = Link program q env depth L

  abbrev first_array : ℕ → Array
  first_array = base program q env depth L

  pub avoids : (s : ℕ) → Target s → (z : ℤ) → last_of (vs s) (place_of i) z ≡ z
  avoids s w z = below_last (vs s) (place_of i) (rises s w) z

  abbrev pub mine : (ℕ → Option ℤ) → ℕ → List (ℕ × ℤ)
  mine o s = own i (o s)

  abbrev pub all_of : (ℕ → Option ℤ) → ℕ → List (ℕ × ℤ)
  all_of o s = vs s ++ own i (o s)

  abbrev pub with_value : (ℕ → Option ℤ) → ℕ → ℤ → ℕ → Option ℤ
  with_value o slot z s = cond (slot == s) (Some z) (o s)

  -- ## What the iteration sees

  -- its own place is there by itself, where it is there behind the writes of others
  inside : (s : ℕ) → Target s → (o : Option ℤ) (b c : Array) → Holding (first_array s) (own i o) b → Holding (first_array s) (vs s ++ own i o) c → tip i ≤ c.rows * c.cols → tip i ≤ b.rows * b.cols
  inside s w (Some z) b c H J h = let r = reaches (shape_of (first_array s)) (top ((place_of i, z) ∷ [])) (shape_of b) H.grown in omega (arith, r.0)
  inside s w None b c H J h =
      let t : top (vs s ++ []) ≡ max (top (vs s)) (top []) = top-append (vs s) [] in
      let low : top (vs s) ≤ place_of i = rises s w in
      let first : tip i ≤ size (shape_of (first_array s)) = not_grown (shape_of (first_array s)) (top (vs s ++ [])) (tip i) (shape_of c) J.grown (omega arith) h in
      let more = reaches (shape_of (first_array s)) (top []) (shape_of b) H.grown in
      omega (arith, first, more.1)

  picks : (s : ℕ) → Target s → (o : Option ℤ) (b c : Array) → Holding (first_array s) (own i o) b → Holding (first_array s) (vs s ++ own i o) c → (x : Value) → select_value (value.Array c) (own_places i) ≡ Ok x → select_value (value.Array b) (own_places i) ≡ Ok x
  picks s w o b c H J x h =
      let there = has_place c i x h in
      let class : b.class ≡ c.class = H.class ∙ sym J.class in
      let cell : get_or b.cells (place_of i) (pos 0) ≡ get_or c.cells (place_of i) (pos 0) =
      H.cells (place_of i) ∙ sym (ap (last_of (own i o) (place_of i)) (avoids s w _)) ∙ sym (last_of-append (vs s) (own i o) (place_of i) _) ∙ sym (J.cells (place_of i)) in
      selected b i there.0 (inside s w o b c H J there.1)
      ∙ ap (λ (k : Class). Ok (value.Array (cell_alone k (get_or b.cells (place_of i) (pos 0))))) class
      ∙ ap (λ (z : ℤ). Ok (value.Array (cell_alone c.class z))) cell
      ∙ sym (selected c i there.0 there.1)
      ∙ h

  -- a new variable without a value has no place
  no_inside : (s : ℕ) → Target s → value_at env s ≡ None → (o : Option ℤ) → own i o ≡ [] → (c : Array) → Holding (first_array s) (vs s ++ own i o) c → tip i ≤ c.rows * c.cols → ⊥
  no_inside s w none o e c J h =
      let there : tip i ≤ (first_array s).rows * (first_array s).cols = inside s w o (first_array s) c (holds_base program q env depth L s w (own i o) e) J h in
      let nil : (first_array s).rows * (first_array s).cols ≡ 0 = ap (λ (a : Array). a.rows * a.cols) (base_new program q env depth L s none) in
      omega arith

  parts_back : (o : ℕ → Option ℤ) (E W : Workspace) → Amid (mine o) E → Amid (all_of o) W → (s : ℕ) → Target s → (v x : Value) → value_at W s ≡ Some v → select_value v (own_places i) ≡ Ok x → (w : Value) × (value_at E s ≡ Some w) × (select_value w (own_places i) ≡ Ok x)
  parts_back o E W BE BW s w v x held picked = by_links (BE.held s w) (BW.held s w)
    where
      there : (c : Array) → value_at W s ≡ Some (value.Array c) → select_value (value.Array c) (own_places i) ≡ Ok x
      there c e = subst (λ (u : Value). select_value u (own_places i) ≡ Ok x) (some_same v (value.Array c) (sym held ∙ e)) picked

      by_links : Bound E s (mine o s) → Bound W s (all_of o s) → (w : Value) × (value_at E s ≡ Some w) × (select_value w (own_places i) ≡ Ok x)
      by_links (inl e) (inl c) = (value.Array e.array, e.there, picks s w (o s) e.array c.array e.holds c.holds x (there c.array c.there))
      by_links (inr n) (inl c) = absurd (no_inside s w n.nothing_before (o s) n.unwritten c.array c.holds (has_place c.array i x (there c.array c.there)).1)
      by_links (inl e) (inr m) = absurd (some_none v (sym held ∙ m.nothing_there))
      by_links (inr n) (inr m) = absurd (some_none v (sym held ∙ m.nothing_there))

  alike_back : (o : ℕ → Option ℤ) (E W : Workspace) → Amid (mine o) E → Amid (all_of o) W → value_at E L.at ≡ Some (number_of i) → value_at W L.at ≡ Some (number_of i) → Alike program f q.index names i W E
  alike_back o E W BE BW ei wi = record {
    unwritten = λ n s h is. sym (seen_apart program q env depth L i vs avoids o E W BE BW ei wi n s h is (s == L.at) refl);
    index_here = at_slot program q env depth L i vs avoids W wi;
    index_there = at_slot program q env depth L i vs avoids E ei;
    parts = λ n s v x h is held picked. parts_back o E W BE BW s (n, h, is) v x held picked;
  }

  -- a value by itself is the value on the one workspace
  pub comes_alone : (o : ℕ → Option ℤ) (E W : Workspace) → Amid (mine o) E → Amid (all_of o) W → value_at E L.at ≡ Some (number_of i) → value_at W L.at ≡ Some (number_of i) → (e : Expr) → (read_of program f q.index names e).fits ≡ true → (ts : List Trace) (v : Value) → Comes_to (value_in program (below program depth) f e) W ts (Ok v) → Comes_to (value_in program (below program depth) f e) E ts (Ok v)
  comes_alone o E W BE BW ei wi e fits ts v C =
      let P : Framed W E (value_in program (below program depth) f e) = (all_framed program f q.index names i W E (alike_back o E W BE BW ei wi) L.at L.at_is refl depth).only_reads None tt e fits in
      let one = comes_once (value_in program (below program depth) f e) W ts P.shown v P.gives C P.here in
      subst (λ (us : List Trace). Comes_to (value_in program (below program depth) f e) E us (Ok v)) one.0 (P.there v one.1)

  -- ## One assignment

  module _ (s : Stmt) (more : List Stmt) (I : Item program f q.index names s) (target : Target I.slot) where
    slot_apart : I.slot ≡ L.at → ⊥
    slot_apart = not_index program q depth names i L.at L.at_is s more I

    -- the iteration by itself assigned, too
    pub record Followed (o : ℕ → Option ℤ) (E W : Workspace) (a : Value) (ts : List Trace) : Type 0 where
      pub z : ℤ
      pub one : Workspace
      pub runs : (t : ℕ) (c : List Choice) (r : Course) → block_from program (below program depth) f (s ∷ more) finished failed (standing E t c r) ≡ before ts (block_from program (below program depth) f more finished failed (standing one t c r))
      pub here : Amid (mine (with_value o I.slot z)) one
      pub there : Amid (all_of (with_value o I.slot z)) (slice_set W I.slot (Some a))
      pub one_index : value_at one L.at ≡ Some (number_of i)
      pub whole_index : value_at (slice_set W I.slot (Some a)) L.at ≡ Some (number_of i)
      pub put : Put program q env depth L i vs avoids I.slot (Some z)

    this_slot : (o : ℕ → Option ℤ) (z : ℤ) → with_value o I.slot z I.slot ≡ Some z
    this_slot o z = ap (λ (t : Bool). cond t (Some z) (o I.slot)) (eq-eqb I.slot I.slot refl)

    own_full : (o : ℕ → Option ℤ) (z : ℤ) → own i (with_value o I.slot z I.slot) ≡ [] → ⊥
    own_full o z e = some_own i z (sym (ap (own i) (this_slot o z)) ∙ e)

    follow : (o : ℕ → Option ℤ) (E W : Workspace) (ts : List Trace) (v a : Value) → Amid (mine o) E → Amid (all_of o) W → value_at E L.at ≡ Some (number_of i) → value_at W L.at ≡ Some (number_of i) → Comes_to (value_in program (below program depth) f I.value) E ts (Ok v)
        → (eb wb : Array) → Holding (first_array I.slot) (own i (o I.slot)) eb → Holding (first_array I.slot) (all_of o I.slot) wb → assign_value (value_at E I.slot) (own_places i) v ≡ assign_value (Some (value.Array eb)) (own_places i) v → assign_value (value_at W I.slot) (own_places i) v ≡ assign_value (Some (value.Array wb)) (own_places i) v → assign_value (value_at W I.slot) (own_places i) v ≡ Ok a → Followed o E W a ts
    follow o E W ts v a BE BW ei wi VE eb wb HE HW as_e as_w A =
        let D : Assigned wb i v = assigned_how wb i v a (sym as_w ∙ A) in
        let S : Succeeded wb D.cells i = D.how in
        let Bs : Array = first_array I.slot in
        let grow_whole : Grown (shape_of wb) (tip i) S.shape = from_line (shape_of wb) (tip i) S.shape S.line in
        let grow_all : Grown (shape_of Bs) (max (top (all_of o I.slot)) (tip i)) S.shape = in_one (shape_of Bs) (top (all_of o I.slot)) (tip i) (shape_of wb) S.shape HW.grown grow_whole in
        let tops : max (top (all_of o I.slot)) (tip i) ≡ max (top (own i (o I.slot))) (tip i) = same_tops (o I.slot) in
        let grow_base : Grown (shape_of Bs) (max (top (own i (o I.slot))) (tip i)) S.shape = subst (λ (t : ℕ). Grown (shape_of Bs) t S.shape) tops grow_all in
        let grow_one : Grown (shape_of eb) (tip i) S.shape = second_step (shape_of Bs) (top (own i (o I.slot))) (tip i) (shape_of eb) S.shape HE.grown grow_base in
        let new_one : Array = stored eb S.shape (place_of i ∷ []) (S.value ∷ []) in
        let new_whole : Array = stored wb S.shape (place_of i ∷ []) (S.value ∷ []) in
        let held_one : Holding Bs (own i (o I.slot) ++ (place_of i, S.value) ∷ []) new_one = holds_more Bs eb (own i (o I.slot)) i S.value S.shape HE grow_one in
        let twice = own_twice [] i (o I.slot) S.value in
        let own_one : Holding Bs (own i (Some S.value)) new_one = holds_alike Bs new_one (own i (o I.slot) ++ (place_of i, S.value) ∷ []) (own i (Some S.value)) held_one twice.0 twice.1 in
        let held_whole : Holding Bs (all_of o I.slot ++ (place_of i, S.value) ∷ []) new_whole = holds_more Bs wb (all_of o I.slot) i S.value S.shape HW grow_whole in
        let again = own_twice (vs I.slot) i (o I.slot) S.value in
        let own_whole : Holding Bs (vs I.slot ++ own i (Some S.value)) new_whole = holds_alike Bs new_whole (all_of o I.slot ++ (place_of i, S.value) ∷ []) (vs I.slot ++ own i (Some S.value)) held_whole again.0 again.1 in
        let converts : Converts D.cells eb.class S.value = subst (λ (k : Class). Converts D.cells k S.value) (HW.class ∙ sym HE.class) S.converts in
        let kept = converted_twice wb.class S.converts.cell S.value S.converts.allowed S.converts.is in
        let made : value.Array new_whole ≡ a = same_made (value.Array new_whole) a (sym (assigns wb D.cells new_whole i v D.is (succeeds wb D.cells i S.value S.shape S.low S.line S.converts)) ∙ sym as_w ∙ A) in
        let most_all = within_most (shape_of Bs) (max (top (own i (o I.slot))) (tip i)) S.shape (base_bounded program q env depth L I.slot target).1 grow_base in
        record {
          z = S.value;
          one = slice_set E I.slot (Some (value.Array new_one));
          runs = λ t c r. run_is program q depth names i L.at L.at_is s more I E t c r ∙ goes program f q.index names (below program depth) i I.name I.list I.value I.slot I.slot_is E ts v (value.Array new_one) VE
              (own_list program f q.index names i E E (itself program q depth names i L.at L.at_is E ei) L.at L.at_is (value_in program (below program depth)) (frames program q depth names i L.at L.at_is E ei) None I.slot I.list I.own E ei)
              (as_e ∙ assigns eb D.cells new_one i v D.is (succeeds eb D.cells i S.value S.shape S.low (to_line (shape_of eb) (tip i) S.shape grow_one) converts)) _ failed t c r;
          here = put_array program q env depth L i vs avoids (mine o) (mine (with_value o I.slot S.value)) E I.slot new_one BE target slot_apart (λ j e. ap (λ (t : Bool). own i (cond t (Some S.value) (o j))) e)
              (subst (λ (u : Option ℤ). Holding Bs (own i u) new_one) (sym (this_slot o S.value)) own_one) (own_full o S.value);
          there = subst (λ (u : Value). Amid (all_of (with_value o I.slot S.value)) (slice_set W I.slot (Some u))) made
              (put_array program q env depth L i vs avoids (all_of o) (all_of (with_value o I.slot S.value)) W I.slot new_whole BW target slot_apart (λ j e. ap (λ (t : Bool). vs j ++ own i (cond t (Some S.value) (o j))) e)
              (subst (λ (u : Option ℤ). Holding Bs (vs I.slot ++ own i u) new_whole) (sym (this_slot o S.value)) own_whole) (λ e. own_full o S.value (rest_empty (vs I.slot) (own i (with_value o I.slot S.value I.slot)) e)));
          one_index = set_elsewhere E I.slot L.at (Some (value.Array new_one)) slot_apart ∙ ei;
          whole_index = set_elsewhere W I.slot L.at (Some a) slot_apart ∙ wi;
          put = record {
            value = S.value;
            is = refl;
            low = S.low;
            within = omega (arith, most_all);
            allowed = subst (λ (k : Class). is_no_char k S.value ≡ false) HW.class kept.0;
            kept = subst (λ (k : Class). converted k S.value ≡ S.value) HW.class kept.1;
          };
        }
      where
        same_tops : (u : Option ℤ) → max (top (vs I.slot ++ own i u)) (tip i) ≡ max (top (own i u)) (tip i)
        same_tops u =
            let t : top (vs I.slot ++ own i u) ≡ max (top (vs I.slot)) (top (own i u)) = top-append (vs I.slot) (own i u) in
            let low : top (vs I.slot) ≤ place_of i = rises I.slot target in
            omega arith

    -- what is assigned to a variable that is new with the loop
    abbrev pub Fresh : Value → Type 0
    Fresh v = value_at env I.slot ≡ None → (y : Array) × (out-Value v ≡ Value-F.Array y) × (y.class ≡ L.classes I.slot)

    -- no cells stand for a variable that has no value
    new_as : (X : Workspace) (v : Value) → Fresh v → value_at X I.slot ≡ None → value_at env I.slot ≡ None → assign_value (value_at X I.slot) (own_places i) v ≡ assign_value (Some (value.Array (first_array I.slot))) (own_places i) v
    new_as X v fresh none first =
        let y = fresh first in
        ap (λ (u : Option Value). assign_value u (own_places i) v) none
        ∙ assigns_new y.0 i v y.1
        ∙ ap (λ (x : Array). assign_value (Some (value.Array x)) (own_places i) v) (ap nothing y.2 ∙ sym (base_new program q env depth L I.slot first))

    follow_by : (o : ℕ → Option ℤ) (E W : Workspace) (ts : List Trace) (v a : Value) → Amid (mine o) E → Amid (all_of o) W → value_at E L.at ≡ Some (number_of i) → value_at W L.at ≡ Some (number_of i) → Comes_to (value_in program (below program depth) f I.value) E ts (Ok v)
        → Bound E I.slot (mine o I.slot) → Bound W I.slot (all_of o I.slot) → Fresh v → assign_value (value_at W I.slot) (own_places i) v ≡ Ok a → Followed o E W a ts
    follow_by o E W ts v a BE BW ei wi VE (inl e) (inl w) fresh A =
        follow o E W ts v a BE BW ei wi VE e.array w.array e.holds w.holds (ap (λ (u : Option Value). assign_value u (own_places i) v) e.there) (ap (λ (u : Option Value). assign_value u (own_places i) v) w.there) A
    follow_by o E W ts v a BE BW ei wi VE (inl e) (inr n) fresh A = absurd (e.begun (rest_empty (vs I.slot) (own i (o I.slot)) n.unwritten) n.nothing_before)
    follow_by o E W ts v a BE BW ei wi VE (inr n) (inl w) fresh A =
        follow o E W ts v a BE BW ei wi VE (first_array I.slot) w.array (holds_base program q env depth L I.slot target (own i (o I.slot)) n.unwritten) w.holds (new_as E v fresh n.nothing_there n.nothing_before) (ap (λ (u : Option Value). assign_value u (own_places i) v) w.there) A
    follow_by o E W ts v a BE BW ei wi VE (inr n) (inr m) fresh A =
        follow o E W ts v a BE BW ei wi VE (first_array I.slot) (first_array I.slot) (holds_base program q env depth L I.slot target (own i (o I.slot)) n.unwritten) (holds_base program q env depth L I.slot target (all_of o I.slot) m.unwritten) (new_as E v fresh n.nothing_there n.nothing_before) (new_as W v fresh m.nothing_there m.nothing_before) A

    -- one assignment on the one workspace, and by itself
    pub followed : (o : ℕ → Option ℤ) (E W : Workspace) (ts : List Trace) (v a : Value) → Amid (mine o) E → Amid (all_of o) W → value_at E L.at ≡ Some (number_of i) → value_at W L.at ≡ Some (number_of i) → Comes_to (value_in program (below program depth) f I.value) W ts (Ok v) → Fresh v → assign_value (value_at W I.slot) (own_places i) v ≡ Ok a → Followed o E W a ts
    followed o E W ts v a BE BW ei wi VW fresh A = follow_by o E W ts v a BE BW ei wi (comes_alone o E W BE BW ei wi I.value I.fits ts v VW) (BE.held I.slot target) (BW.held I.slot target) fresh A
