-- Any order of a loop's iterations leaves what the merge of what they wrote makes.
use Rattle.std.specs.Prelude.{◌||◌, ◌&&◌, not, ◌<ℤ◌, ◌+ℤ◌, if◌then◌else◌}
use Rattle.std.specs.List.{list_all, list_any}
use Rattle.std.proofs.Common.{◌≡◌, ◌∙◌, ℕ, zero, suc, ◌+◌, ◌*◌, ◌<◌, ◌≤◌, ◌==◌, ◌⊎◌, inl, inr, max, ℤ, pos, List, [], ◌∷◌, ◌++◌, length, get_or, Bool, true, false, cond, Option, Some, None, Result, Ok, Err, arith, refl, sym, ap, subst, append_assoc}
use Rattle.std.proofs.lemmas.Int.{ints}
use Rattle.std.proofs.lemmas.List.{append-nil}
use Rattle.std.proofs.lemmas.Bool.{eqb-true, eq-eqb}
use Rattle.pl_base.specs.declared.errors.ErrKind.{ErrKind}
use Rattle.pl_base.specs.declared.errors.ErrKind.TheVariants.{MixedClass}
use Rattle.pl_array.specs.declared.class.Class.{Class}
use Rattle.pl_array.specs.Arrays.{Array, class_number}
use Rattle.pl_array.specs.Cellwise.{shape_of}
use Rattle.pl_array.specs.Joining.{converted, is_no_char}
use Rattle.pl_index.specs.Places.{place_of}
use Rattle.pl_index.specs.Writing.{nothing, stored}
use Rattle.pl_syntax.specs.declared.expr.Name.{Name}
use Rattle.pl_values.specs.declared.value.Value.{Value, out-Value}
use Rattle.pl_values.specs.declared.value.Value.TheOpen.{Value-F}
use Rattle.pl_values.specs.declared.value.Value.TheVariants as value
use Rattle.pl_values.specs.declared.value.Value.TheVariants.{outs-Array}
use Rattle.pl_values.specs.Workspaces.{value_at}
use Rattle.pl_operators.specs.Operands.{and_then}
use Rattle.pl_operators.specs.Picking.{assign_value}
use Rattle.pl_resolve.specs.declared.resolved.Resolved.{Resolved}
use Rattle.pl_meaning.specs.declared.event.Output.{Output}
use Rattle.pl_meaning.specs.Known.{same}
use Rattle.pl_meaning.specs.Logs.{Workspace, LoopQuestion}
use Rattle.pl_meaning.specs.Names.{slot_of}
use Rattle.pl_meaning.specs.Parts.{written_in}
use Rattle.pl_meaning.specs.Forms.{is_among}
use Rattle.pl_meaning.specs.declared.event.Clash.{Clash}
use Rattle.pl_meaning.specs.Loops.{Write, body_frame, own_places, standing_at, kept_at, wrote, is_mixed_with, is_mixed, put_in, put_all, merged, indices, with_one, slots_from, written_slots, ends_of, writes, after, output_of, outputs, come_to, plain, texts}
use Rattle.pl_frame.specs.Ordering.{HasArray, IsOther, plain_texts, Reorders, Each}
use Rattle.pl_frame.proofs.Values.{and_first, and_second}
use Rattle.pl_frame.proofs.Growth.{Grown, to_line, reaches, either_grown, second_step}
use Rattle.pl_frame.proofs.Assigning.{tip, Converts, succeeds, last_of, top, Holding, holds_more}
use Rattle.pl_frame.proofs.Own.{cell_alone, selected, assigns, assigns_new, holds_alike, only_one}
use Rattle.pl_frame.proofs.Bodies.{same_self}
use Rattle.pl_frame.proofs.Iteration.{Laid, Written, base, base_is, base_new, Link, Filled}
use Rattle.pl_frame.proofs.Turns.{Distinct, cell, Good, good, table, All_done, places_differ, nothing_yet, at_first, holds_itself, Ended, in_turn}

-- ## Orders

pub each_moved : (P : ℤ → Type 0) {xs ys : List ℤ} → Reorders xs ys → Each P xs → Each P ys
each_moved P Reorders.none all = all
each_moved P (Reorders.beside r) all = (all.0, each_moved P r all.1)
each_moved P Reorders.turned all = (all.1.0, (all.0, all.1.1))
each_moved P (Reorders.through r s) all = each_moved P s (each_moved P r all)

distinct_moved : {xs ys : List ℤ} → Reorders xs ys → Distinct xs → Distinct ys
distinct_moved Reorders.none d = d
distinct_moved (Reorders.beside {x = x} r) d = (each_moved (λ (j : ℤ). x ≡ j → ⊥) r d.0, distinct_moved r d.1)
distinct_moved Reorders.turned d = (((λ e. d.0.0 (sym e)), d.1.0), (d.0.1, d.1.1))
distinct_moved (Reorders.through r s) d = distinct_moved s (distinct_moved r d)

above : (i a : ℤ) (n : ℕ) → i <ℤ a → Each (λ (j : ℤ). i ≡ j → ⊥) (indices a n)
above i a zero h = tt
above i a (suc n) h = (λ e. differ i a h e, above i (a +ℤ pos 1) n (further i a h))
  where
    differ : (i a : ℤ) → i <ℤ a → i ≡ a → ⊥
    differ i a h e = omega (arith, ints)

    further : (i a : ℤ) → i <ℤ a → i <ℤ (a +ℤ pos 1)
    further i a h = omega (arith, ints)

indices_differ : (a : ℤ) (n : ℕ) → Distinct (indices a n)
indices_differ a zero = tt
indices_differ a (suc n) = (above a (a +ℤ pos 1) n (next a), indices_differ (a +ℤ pos 1) n)
  where
    next : (a : ℤ) → a <ℤ (a +ℤ pos 1)
    next a = omega (arith, ints)

pub each_of : {A : Type 0} (p : A → Bool) (xs : List A) → list_all p xs ≡ true → Each (λ (x : A). p x ≡ true) xs
each_of p [] h = tt
each_of p (x ∷ xs) h = (and_first (p x) (list_all p xs) h, each_of p xs (and_second (p x) (list_all p xs) h))

pub each_append : {A : Type 0} (P : A → Type 0) (xs ys : List A) → Each P xs → Each P ys → Each P (xs ++ ys)
each_append P [] ys a b = b
each_append P (x ∷ xs) ys a b = (a.0, each_append P xs ys a.1 b)

pub each_weaker : {A : Type 0} (P Q : A → Type 0) → ((x : A) → P x → Q x) → (xs : List A) → Each P xs → Each Q xs
each_weaker P Q f [] a = tt
each_weaker P Q f (x ∷ xs) a = (f x a.0, each_weaker P Q f xs a.1)

-- two writes at different places
either_first : (p q k : ℕ) (x y z : ℤ) → (p ≡ q → ⊥) → cond (q == k) y (cond (p == k) x z) ≡ cond (p == k) x (cond (q == k) y z)
either_first p q k x y z apart = by_tests (p == k) refl (q == k) refl
  where
    by_tests : (s : Bool) → (p == k) ≡ s → (t : Bool) → (q == k) ≡ t → cond t y (cond s x z) ≡ cond s x (cond t y z)
    by_tests true e true d = absurd (apart (eqb-true p k e ∙ sym (eqb-true q k d)))
    by_tests true e false d = refl
    by_tests false e true d = refl
    by_tests false e false d = refl

ok_some : {A : Type 0} (a b : A) → ◌≡◌ {A = Result (Option A) ErrKind} (Ok (Some a)) (Ok (Some b)) → a ≡ b
ok_some a b e = cc

-- cells of one class go together in a variable that is new with the loop, too
not_mixed : (b y : Array) → b.class ≡ y.class → is_mixed (Some (value.Array b)) (value.Array y) ≡ false
not_mixed b y k =
    ap (λ (layer : Value-F Value). is_mixed_with layer (out-Value (value.Array y))) (outs-Array b)
    ∙ ap (is_mixed_with (Value-F.Array b)) (outs-Array y)
    ∙ ap not (eq-eqb (class_number b.class) (class_number y.class) (ap class_number k))

put_unmixed : (new : Bool) (b y : Array) (i : ℤ) → b.class ≡ y.class → put_in new (Some (value.Array b)) (record { at = own_places i; value = value.Array y }) ≡ assign_value (Some (value.Array b)) (own_places i) (value.Array y)
put_unmixed new b y i k = ap (λ (t : Bool). if t then Err MixedClass else assign_value (Some (value.Array b)) (own_places i) (value.Array y)) (and_false new (is_mixed (Some (value.Array b)) (value.Array y)) (not_mixed b y k))
  where
    and_false : (a c : Bool) → c ≡ false → (a && c) ≡ false
    and_false true c h = h
    and_false false c h = refl

no_value : (v : Value) → ◌≡◌ {A = Result (Option Value) ErrKind} (Ok None) (Ok (Some v)) → ⊥
no_value v e = cc

no_array : (v : Value) → ◌≡◌ {A = Option Value} (Some v) None → ⊥
no_array v e = cc

no_cells : (x : ℕ × ℤ) (xs : List (ℕ × ℤ)) → x ∷ xs ≡ [] → ⊥
no_cells x xs e = cc

no_top : (a b : ℕ) → max (a + 1) b ≡ 0 → ⊥
no_top a b e = absurd (omega arith)

module _ (program : Resolved) (q : LoopQuestion) (env : Workspace) (turns depth : ℕ) (L : Laid program q env) where
  abbrev Target : ℕ → Type 0
  Target = Written program q env depth L

  abbrev first_array : ℕ → Array
  first_array = base program q env depth L

  abbrev cells_of : List ℤ → ℕ → List (ℕ × ℤ)
  cells_of = table program q env turns depth L

  abbrev AllDone : List ℤ → Type 0
  AllDone = All_done program q env turns depth L

  tops_moved : {xs ys : List ℤ} (s : ℕ) → Reorders xs ys → top (cells_of xs s) ≡ top (cells_of ys s)
  tops_moved s Reorders.none = refl
  tops_moved s (Reorders.beside {x = x} r) = ap (λ (n : ℕ). max (place_of x + 1) n) (tops_moved s r)
  tops_moved s (Reorders.turned {x = x} {y = y} {xs = xs}) = turn_max (place_of x + 1) (place_of y + 1) (top (cells_of xs s))
    where
      turn_max : (a b c : ℕ) → max a (max b c) ≡ max b (max a c)
      turn_max a b c = omega arith
  tops_moved s (Reorders.through r u) = tops_moved s r ∙ tops_moved s u

  cells_moved : {xs ys : List ℤ} (s : ℕ) → Target s → Reorders xs ys → AllDone xs → Distinct xs → (k : ℕ) (z : ℤ) → last_of (cells_of xs s) k z ≡ last_of (cells_of ys s) k z
  cells_moved s w Reorders.none done d k z = refl
  cells_moved s w (Reorders.beside {x = x} r) done d k z = cells_moved s w r done.1 d.1 k (cond (place_of x == k) (cell program q env turns depth L x s) z)
  cells_moved s w (Reorders.turned {x = x} {y = y} {xs = xs}) done d k z =
      ap (last_of (cells_of xs s) k) (either_first (place_of x) (place_of y) k (cell program q env turns depth L x s) (cell program q env turns depth L y s) z (places_differ program q env turns depth L s x y w done.0 done.1.0 d.0.0))
  cells_moved s w (Reorders.through r u) done d k z = cells_moved s w r done d k z ∙ cells_moved s w u (each_moved _ r done) (distinct_moved r d) k z

  -- ## The merge

  unfoldable pub written_value : (i : ℤ) (s : ℕ) → Good program q env turns depth L i s → Value
  written_value i s G = value.Array (cell_alone G.array.class (get_or G.array.cells (place_of i) (pos 0)))

  pub own_inside : (i : ℤ) (s : ℕ) (G : Good program q env turns depth L i s) → tip i ≤ G.array.rows * G.array.cols
  own_inside i s G =
      let r = reaches (shape_of (first_array s)) (top ((place_of i, cell program q env turns depth L i s) ∷ [])) (shape_of G.array) G.holds.grown in
      omega (arith, r.0)

  pub wrote_is : (i : ℤ) (s : ℕ) (G : Good program q env turns depth L i s) → wrote s i (ends_of program turns depth q env i) ≡ record { at = own_places i; value = written_value i s G } ∷ []
  unfolding written_value
  wrote_is i s G =
      ap (wrote s i) G.ends.1
      ∙ ap (standing_at (own_places i)) G.ends.2
      ∙ ap (kept_at (own_places i)) (selected G.array i G.low (own_inside i s G))

  merge_one : (i : ℤ) (s : ℕ) (G : Good program q env turns depth L i s) (ws : List (ℕ × ℤ)) (b : Array) → Holding (first_array s) ws b → (c : Array) × (assign_value (Some (value.Array b)) (own_places i) (written_value i s G) ≡ Ok (value.Array c)) × Holding (first_array s) (ws ++ (place_of i, cell program q env turns depth L i s) ∷ []) c
  unfolding written_value
  merge_one i s G ws b H =
      let z : ℤ = cell program q env turns depth L i s in
      let tips : top ((place_of i, z) ∷ []) ≡ tip i = omega arith in
      let grow_base : Grown (shape_of (first_array s)) (tip i) (shape_of G.array) = subst (λ (t : ℕ). Grown (shape_of (first_array s)) t (shape_of G.array)) tips G.holds.grown in
      let both = either_grown (shape_of (first_array s)) (top ws) (tip i) (shape_of b) (shape_of G.array) H.grown grow_base in
      let grow : Grown (shape_of b) (tip i) both.0 = second_step (shape_of (first_array s)) (top ws) (tip i) (shape_of b) both.0 H.grown both.1 in
      let y : Array = cell_alone G.array.class (get_or G.array.cells (place_of i) (pos 0)) in
      let there : get_or G.array.cells (place_of i) (pos 0) ≡ z = G.holds.cells (place_of i) ∙ ap (λ (t : Bool). cond t z (get_or (first_array s).cells (place_of i) (pos 0))) (eq-eqb (place_of i) (place_of i) refl) in
      let converts : Converts y b.class z = record {
        cell = z;
        alone = ap (λ (x : ℤ). x ∷ []) there;
        allowed = subst (λ (k : Class). is_no_char k z ≡ false) (sym H.class) G.allowed;
        is = subst (λ (k : Class). converted k z ≡ z) (sym H.class) G.kept;
      } in
      let c : Array = stored b both.0 (place_of i ∷ []) (z ∷ []) in
      (c, assigns b y c i (value.Array y) (outs-Array y) (succeeds b y i z both.0 G.low (to_line (shape_of b) (tip i) both.0 grow) converts), holds_more (first_array s) b ws i z both.0 H grow)

  merge : (new : Bool) (s : ℕ) (w : Target s) (is : List ℤ) → AllDone is → (ws : List (ℕ × ℤ)) (b : Array) → Holding (first_array s) ws b → (c : Array) × (put_all new (Some (value.Array b)) (writes program turns depth q env s is) ≡ Ok (Some (value.Array c))) × Holding (first_array s) (ws ++ cells_of is s) c
  unfolding written_value
  merge new s w [] done ws b H = (b, refl, subst (λ (us : List (ℕ × ℤ)). Holding (first_array s) us b) (sym (append-nil ws)) H)
  merge new s w (i ∷ is) done ws b H =
      let G : Good program q env turns depth L i s = good program q env turns depth L i done.0 s w in
      let one = merge_one i s G ws b H in
      let more = merge new s w is done.1 (ws ++ (place_of i, cell program q env turns depth L i s) ∷ []) one.0 one.2 in (
        more.0,
        ap (λ (us : List Write). put_all new (Some (value.Array b)) (us ++ writes program turns depth q env s is)) (wrote_is i s G)
            ∙ ap (λ (r : Result Value ErrKind). and_then r (λ v. put_all new (Some v) (writes program turns depth q env s is))) (put_unmixed new b (cell_alone G.array.class (get_or G.array.cells (place_of i) (pos 0))) i (H.class ∙ sym G.holds.class) ∙ one.1)
            ∙ more.1,
        subst (λ (us : List (ℕ × ℤ)). Holding (first_array s) us more.0) (append_assoc ws ((place_of i, cell program q env turns depth L i s) ∷ []) (cells_of is s)) more.2,
      )

  -- of a variable that is new with the loop
  merge_new : (s : ℕ) (w : Target s) (i : ℤ) (is : List ℤ) → AllDone (i ∷ is) → value_at env s ≡ None → (c : Array) × (put_all true None (writes program turns depth q env s (i ∷ is)) ≡ Ok (Some (value.Array c))) × Holding (first_array s) (cells_of (i ∷ is) s) c
  unfolding written_value
  merge_new s w i is done none =
      let G : Good program q env turns depth L i s = good program q env turns depth L i done.0 s w in
      let y : Array = cell_alone G.array.class (get_or G.array.cells (place_of i) (pos 0)) in
      let one = merge_one i s G [] (first_array s) (holds_itself program q env turns depth L s w) in
      let more = merge true s w is done.1 ((place_of i, cell program q env turns depth L i s) ∷ []) one.0 one.2 in
      let is_base : nothing G.array.class ≡ first_array s = ap nothing (G.holds.class ∙ ap (λ (a : Array). a.class) (base_new program q env depth L s none)) ∙ sym (base_new program q env depth L s none) in (
        more.0,
        ap (λ (us : List Write). put_all true None (us ++ writes program turns depth q env s is)) (wrote_is i s G)
            ∙ ap (λ (r : Result Value ErrKind). and_then r (λ v. put_all true (Some v) (writes program turns depth q env s is))) (assigns_new y i (value.Array y) (outs-Array y) ∙ ap (λ (x : Array). assign_value (Some (value.Array x)) (own_places i) (value.Array y)) is_base ∙ one.1)
            ∙ more.1,
        more.2,
      )

  -- ## The outputs

  -- an output is what the merge makes of a variable that the body writes
  abbrev pub Merged : List ℤ → Output → Type 0
  Merged is o = Target o.slot × (after program turns depth q env is o.slot ≡ Ok (Some o.value))

  none_of : {A : Type 0} (c : Clash) (outs : A) → ◌≡◌ {A = Result A Clash} (Err c) (Ok outs) → ⊥
  none_of c outs e = cc

  same_outs : (a b : List Output) → ◌≡◌ {A = Result (List Output) Clash} (Ok a) (Ok b) → a ≡ b
  same_outs a b e = cc

  outputs_by : (is : List ℤ) (s : ℕ) (w : Target s) (r : Result (Option Value) ErrKind) → after program turns depth q env is s ≡ r → (m : Result (List Output) Clash) → ((outs : List Output) → m ≡ Ok outs → Each (Merged is) outs) → (outs : List Output) → output_of s r m ≡ Ok outs → Each (Merged is) outs
  outputs_by is s w (Err kind) e m rest outs h = absurd (none_of (record { slot = s; kind = kind }) outs h)
  outputs_by is s w (Ok None) e m rest outs h = rest outs h
  outputs_by is s w (Ok (Some v)) e (Err c) rest outs h = absurd (none_of c outs h)
  outputs_by is s w (Ok (Some v)) e (Ok more) rest outs h = subst (Each (Merged is)) (same_outs (record { slot = s; value = v } ∷ more) outs h) ((w, e), rest more refl)

  pub outputs_merged : (is : List ℤ) (slots : List ℕ) → Each Target slots → (outs : List Output) → outputs program turns depth q env is slots ≡ Ok outs → Each (Merged is) outs
  outputs_merged is [] all outs h = subst (Each (Merged is)) (same_outs [] outs h) tt
  outputs_merged is (s ∷ slots) all outs h = outputs_by is s all.0 (after program turns depth q env is s) refl (outputs program turns depth q env is slots) (outputs_merged is slots all.1) outs h

  -- the slots of the variables that the body writes
  one_slot : (done : List ℕ) → Each Target done → (n : Name) → is_among (written_in q.body) n ≡ true → (o : Option ℕ) → slot_of program (body_frame q) n.text ≡ o → Each Target (with_one done o)
  one_slot done all n h None is = all
  one_slot done all n h (Some s) is = by_test (list_any (λ (x : ℕ). x == s) done)
    where
      by_test : (b : Bool) → Each Target (if b then done else done ++ s ∷ [])
      by_test true = all
      by_test false = each_append Target done (s ∷ []) all ((n, h, is), tt)

  pub slots_written : (done : List ℕ) → Each Target done → (ns : List Name) → ((n : Name) → is_among ns n ≡ true → is_among (written_in q.body) n ≡ true) → Each Target (slots_from program (body_frame q) done ns)
  slots_written done all [] within = all
  slots_written done all (n ∷ ns) within =
      slots_written (with_one done (slot_of program (body_frame q) n.text))
      (one_slot done all n (within n (ap (λ (b : Bool). b || is_among ns n) (same_self n.text))) (slot_of program (body_frame q) n.text) refl)
      ns (λ m h. within m (or_second (same n.text m.text) (is_among ns m) h))
    where
      or_second : (a b : Bool) → b ≡ true → (a || b) ≡ true
      or_second true b h = refl
      or_second false b h = h

  -- ## The law

  -- what a variable has after all writes
  after_all : (is : List ℤ) → AllDone is → (s : ℕ) → Target s → (v : Value) → after program turns depth q env is s ≡ Ok (Some v) → (c : Array) × (value.Array c ≡ v) × Holding (first_array s) (cells_of is s) c
  after_all is done s w v h = by_first is done (L.arrays w.0 s w.1 w.2) h
    where
      by_first : (is : List ℤ) → AllDone is → HasArray env s ⊎ ((s < length env) × (value_at env s ≡ None)) → after program turns depth q env is s ≡ Ok (Some v) → (c : Array) × (value.Array c ≡ v) × Holding (first_array s) (cells_of is s) c
      by_first is done (inl a) h =
          let first : value_at env s ≡ Some (value.Array (first_array s)) = a.1 ∙ ap (λ (x : Array). Some (value.Array x)) (sym (base_is program q env depth L s a.0 a.1)) in
          let m = merge false s w is done [] (first_array s) (holds_itself program q env turns depth L s w) in
          let known : after program turns depth q env is s ≡ Ok (Some (value.Array m.0)) = ap (λ (x : Option Value). merged x (writes program turns depth q env s is)) first ∙ m.1 in
          (m.0, ok_some (value.Array m.0) v (sym known ∙ h), m.2)
      by_first [] done (inr n) h = absurd (no_value v (sym (ap (λ (x : Option Value). merged x []) n.1) ∙ h))
      by_first (i ∷ is) done (inr n) h =
          let m = merge_new s w i is done n.1 in
          let known : after program turns depth q env (i ∷ is) s ≡ Ok (Some (value.Array m.0)) = ap (λ (x : Option Value). merged x (writes program turns depth q env s (i ∷ is))) n.1 ∙ m.1 in
          (m.0, ok_some (value.Array m.0) v (sym known ∙ h), m.2)

  -- a variable after all writes has what a workspace has that holds them
  pub after_held : (is : List ℤ) → AllDone is → (s : ℕ) → Target s → (W : Workspace) → Link program q env depth L W s (cells_of is s) → after program turns depth q env is s ≡ Ok (value_at W s)
  after_held is done s w W l = by_first is done (L.arrays w.0 s w.1 w.2) l
    where
      by_first : (is : List ℤ) → AllDone is → HasArray env s ⊎ ((s < length env) × (value_at env s ≡ None)) → Link program q env depth L W s (cells_of is s) → after program turns depth q env is s ≡ Ok (value_at W s)
      by_first is done (inl a) (inl F) =
          let first : value_at env s ≡ Some (value.Array (first_array s)) = a.1 ∙ ap (λ (x : Array). Some (value.Array x)) (sym (base_is program q env depth L s a.0 a.1)) in
          let m = merge false s w is done [] (first_array s) (holds_itself program q env turns depth L s w) in
          ap (λ (x : Option Value). merged x (writes program turns depth q env s is)) first
          ∙ m.1
          ∙ ap (λ (x : Array). Ok (Some (value.Array x))) (only_one (first_array s) m.0 F.array (cells_of is s) m.2 F.holds)
          ∙ ap Ok (sym F.there)
      by_first is done (inl a) (inr n) = absurd (no_array (value.Array a.0) (sym a.1 ∙ n.nothing_before))
      by_first [] done (inr n) (inl F) = absurd (F.begun refl n.1)
      by_first [] done (inr n) (inr m) = ap (λ (x : Option Value). merged x []) n.1 ∙ ap Ok (sym m.nothing_there)
      by_first (i ∷ is) done (inr n) (inl F) =
          let m = merge_new s w i is done n.1 in
          ap (λ (x : Option Value). merged x (writes program turns depth q env s (i ∷ is))) n.1
          ∙ m.1
          ∙ ap (λ (x : Array). Ok (Some (value.Array x))) (only_one (first_array s) m.0 F.array (cells_of (i ∷ is) s) m.2 F.holds)
          ∙ ap Ok (sym F.there)
      by_first (i ∷ is) done (inr n) (inr m) = absurd (no_cells (place_of i, cell program q env turns depth L i s) (cells_of is s) m.unwritten)

  -- a variable of the loop's answer has an array
  filled_at_end : (is p : List ℤ) → Reorders is p → (s : ℕ) (v : Value) → after program turns depth q env is s ≡ Ok (Some v) → (W : Workspace) → Link program q env depth L W s (cells_of p s) → Filled program q env depth L W s (cells_of p s)
  filled_at_end is p r s v h W (inl F) = F
  filled_at_end [] p r s v h W (inr n) = absurd (no_value v (sym (ap (λ (x : Option Value). merged x []) n.nothing_before) ∙ h))
  filled_at_end (i ∷ is) p r s v h W (inr n) = absurd (no_top (place_of i) (top (cells_of is s)) (tops_moved s r ∙ ap top n.unwritten))

  held_at_end : (is p : List ℤ) → Reorders is p → AllDone is → Distinct is → (E : Ended program q env turns depth L p (nothing_yet program q env turns depth L) env) → (o : Output) → Merged is o → value_at E.end o.slot ≡ Some o.value
  held_at_end is p r done d E o M =
      let s : ℕ = o.slot in
      let w : Target s = M.0 in
      let m = after_all is done s w o.value M.1 in
      let b : Filled program q env depth L E.end s (cells_of p s) = filled_at_end is p r s o.value M.1 E.end (E.holds.held s w) in
      let moved : Holding (first_array s) (cells_of p s) m.0 = holds_alike (first_array s) m.0 (cells_of is s) (cells_of p s) m.2 (tops_moved s r) (cells_moved s w r done d) in
      b.there ∙ ap (λ (x : Array). Some (value.Array x)) (only_one (first_array s) b.array m.0 (cells_of p s) b.holds moved) ∙ ap Some m.1

  pub not_target : (slot : ℕ) → IsOther program q slot → Target slot → ⊥
  not_target slot other w =
      let none : is_among (written_in q.body) w.0 ≡ false = (other w.0 w.2).0 in
      let some : is_among (written_in q.body) w.0 ≡ true = w.1 in
      cc

  pub not_at : (slot : ℕ) → IsOther program q slot → slot ≡ L.at → ⊥
  not_at slot other e = (other q.index (L.at_is ∙ ap Some (sym e))).1 refl

  pub any_order : (outs : List Output) (p : List ℤ) → AllDone (indices q.first q.count) → come_to program turns depth q env ≡ Ok outs → Reorders (indices q.first q.count) p → (end : Workspace) × (plain program turns depth q p env ≡ Some end) × Each (λ (o : Output). value_at end o.slot ≡ Some o.value) outs × ((slot : ℕ) → IsOther program q slot → value_at end slot ≡ value_at env slot) × (plain_texts program turns depth q p env ≡ texts program turns depth q env p)
  any_order outs p done c r =
      let is : List ℤ = indices q.first q.count in
      let d : Distinct is = indices_differ q.first q.count in
      let E : Ended program q env turns depth L p (nothing_yet program q env turns depth L) env =
      in_turn program q env turns depth L p (each_moved _ r done) (distinct_moved r d) (nothing_yet program q env turns depth L) env (each_everywhere p) (at_first program q env turns depth L) in
      let merged_all : Each (Merged is) outs = outputs_merged is (written_slots program q) (slots_written [] tt (written_in q.body) (λ n among. among)) outs c in
      (E.end, E.ends, each_weaker (Merged is) (λ (o : Output). value_at E.end o.slot ≡ Some o.value) (held_at_end is p r done d E) outs merged_all, λ slot other. E.holds.apart slot (not_target slot other) (not_at slot other), E.shows)
    where
      each_everywhere : (p : List ℤ) → Each (λ (i : ℤ). (s : ℕ) → Target s → (z : ℤ) → z ≡ z) p
      each_everywhere [] = tt
      each_everywhere (i ∷ p) = (λ s w z. refl, each_everywhere p)
