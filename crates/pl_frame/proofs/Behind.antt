-- Behind an ordinary loop stands the workspace that the answer of the loop over workers leaves, but for the index.
use Rattle.std.specs.Prelude.{◌||◌, ◌+ℤ◌, is_some, slice_set}
use Rattle.std.specs.List.{list_all, list_any}
use Rattle.std.proofs.Common.{◌≡◌, ◌∙◌, ℕ, zero, suc, ◌<◌, ◌==◌, ◌⊎◌, inl, inr, ℤ, pos, List, [], ◌∷◌, ◌++◌, length, Bool, true, false, Option, Some, None, Result, Ok, Err, arith, refl, sym, ap}
use Rattle.std.proofs.lemmas.List.{length-set}
use Rattle.std.proofs.lemmas.Bool.{eqb-true, eqb-false}
use Rattle.pl_base.specs.declared.errors.ErrKind.{ErrKind}
use Rattle.pl_array.specs.declared.class.Class.TheVariants.{Int}
use Rattle.pl_syntax.specs.declared.expr.Name.{Name}
use Rattle.pl_values.specs.declared.value.Value.{Value}
use Rattle.pl_values.specs.declared.value.Value.TheVariants as value
use Rattle.pl_values.specs.Workspaces.{value_at}
use Rattle.pl_operators.specs.Bracketing.{number_of}
use Rattle.pl_operators.specs.Operands.{and_then}
use Rattle.pl_resolve.specs.declared.resolved.Resolved.{Resolved}
use Rattle.pl_meaning.specs.declared.event.Output.{Output}
use Rattle.pl_meaning.specs.declared.event.Clash.{Clash}
use Rattle.pl_meaning.specs.Logs.{Workspace, LoopQuestion}
use Rattle.pl_meaning.specs.Names.{slot_of}
use Rattle.pl_meaning.specs.Parts.{with_slot, written_in}
use Rattle.pl_meaning.specs.Forms.{is_among, is_item}
use Rattle.pl_meaning.specs.Loops.{Write, body_frame, start_of, wrote, put_in, put_all, merged, indices, written_slots, ends_of, all_done, writes, after, output_of, outputs}
use Rattle.pl_frame.specs.Ordering.{IsReady, IsOther, Each}
use Rattle.pl_frame.specs.Ordinary.{with_last}
use Rattle.pl_frame.proofs.Slots.{set_here, set_elsewhere, has_slot}
use Rattle.pl_frame.proofs.Values.{and_first}
use Rattle.pl_frame.proofs.Alone.{Arr, Fut}
use Rattle.pl_frame.proofs.Fresh.{some_end, all_slots, each_any, with_classes}
use Rattle.pl_frame.proofs.Orders.{slots_written}
use Rattle.pl_frame.proofs.Single.{own_cell, wrote_value, array_selected, future_selected, there}
use Rattle.pl_frame.proofs.PassByPass.{index_behind}

-- ## Workspaces

pub same_workspace : (a b : Workspace) → length a ≡ length b → ((s : ℕ) → value_at a s ≡ value_at b s) → a ≡ b
same_workspace [] [] n h = refl
same_workspace [] (y ∷ b) n h = absurd (omega arith)
same_workspace (x ∷ a) [] n h = absurd (omega arith)
same_workspace (x ∷ a) (y ∷ b) n h =
    ap (λ (z : Option Value). z ∷ a) (h 0)
    ∙ ap (λ (zs : Workspace). y ∷ zs) (same_workspace a b (omega arith) (λ s. h (suc s)))

-- the variables of a loop that is done are put in
abbrev pub with_outputs : Workspace → List Output → Workspace
with_outputs W [] = W
with_outputs W (o ∷ outs) = with_outputs (slice_set W o.slot (Some o.value)) outs

pub outputs_long : (W : Workspace) (outs : List Output) → length (with_outputs W outs) ≡ length W
outputs_long W [] = refl
outputs_long W (o ∷ outs) = outputs_long (slice_set W o.slot (Some o.value)) outs ∙ length-set W o.slot (Some o.value)

abbrev pub is_output : List Output → ℕ → Bool
is_output outs s = list_any (λ (o : Output). o.slot == s) outs

-- a slot that is the same before, or gets its value
outputs_agree : (outs : List Output) (W end : Workspace) → length W ≡ length end → Each (λ (o : Output). value_at end o.slot ≡ Some o.value) outs → (s : ℕ) → (value_at W s ≡ value_at end s) ⊎ (is_output outs s ≡ true) → value_at (with_outputs W outs) s ≡ value_at end s
outputs_agree [] W end n all s (inl e) = e
outputs_agree [] W end n all s (inr h) = absurd (cc)
outputs_agree (o ∷ outs) W end n all s x =
    let here : o.slot < length end = has_slot end o.slot o.value all.0 in
    let long : length (slice_set W o.slot (Some o.value)) ≡ length W = length-set W o.slot (Some o.value) in
    outputs_agree outs (slice_set W o.slot (Some o.value)) end (long ∙ n) all.1 s (by_test (o.slot == s) refl (omega arith) x)
  where
    by_test : (t : Bool) → (o.slot == s) ≡ t → o.slot < length W → (value_at W s ≡ value_at end s) ⊎ ((t || is_output outs s) ≡ true) → (value_at (slice_set W o.slot (Some o.value)) s ≡ value_at end s) ⊎ (is_output outs s ≡ true)
    by_test true e within x = let same : o.slot ≡ s = eqb-true o.slot s e in inl (ap (value_at (slice_set W o.slot (Some o.value))) (sym same) ∙ set_here W o.slot o.value within ∙ sym all.0 ∙ ap (value_at end) same)
    by_test false e within (inl x) = inl (set_elsewhere W o.slot s (Some o.value) (eqb-false o.slot s e) ∙ x)
    by_test false e within (inr h) = inr h

-- ## A variable that the body writes has an output, where there is an iteration

no_none : (v : Value) → ◌≡◌ {A = Result (Option Value) ErrKind} (Ok (Some v)) (Ok None) → ⊥
no_none v e = cc

no_refused : (kind : ErrKind) → ◌≡◌ {A = Result (Option Value) ErrKind} (Err kind) (Ok None) → ⊥
no_refused kind e = cc

some_put : (new : Bool) (v : Value) (ws : List Write) → put_all new (Some v) ws ≡ Ok None → ⊥
some_put new v [] h = no_none v h
some_put new v (w ∷ ws) h = by_put (put_in new (Some v) w) (λ u g. some_put new u ws g) h
  where
    by_put : (r : Result Value ErrKind) → ((u : Value) → put_all new (Some u) ws ≡ Ok None → ⊥) → and_then r (λ u. put_all new (Some u) ws) ≡ Ok None → ⊥
    by_put (Ok u) rest g = rest u g
    by_put (Err kind) rest g = no_refused kind g

one_put : (new : Bool) (old : Option Value) (w : Write) (ws : List Write) → put_all new old (w ∷ ws) ≡ Ok None → ⊥
one_put new old w ws h = by_put (put_in new old w) h
  where
    by_put : (r : Result Value ErrKind) → and_then r (λ u. put_all new (Some u) ws) ≡ Ok None → ⊥
    by_put (Ok u) g = some_put new u ws g
    by_put (Err kind) g = no_refused kind g

module _ (program : Resolved) (q : LoopQuestion) (env : Workspace) (turns depth : ℕ) where
  same_outs : (a b : List Output) → ◌≡◌ {A = Result (List Output) Clash} (Ok a) (Ok b) → a ≡ b
  same_outs a b e = cc

  no_outputs : (c : Clash) (outs : List Output) → ◌≡◌ {A = Result (List Output) Clash} (Err c) (Ok outs) → ⊥
  no_outputs c outs e = cc

  -- a slot of which there is no output came to nothing
  came_to_none : (is : List ℤ) (s : ℕ) (slots : List ℕ) (outs : List Output) → outputs program turns depth q env is slots ≡ Ok outs → list_any (λ (x : ℕ). x == s) slots ≡ true → is_output outs s ≡ false → after program turns depth q env is s ≡ Ok None
  came_to_none is s [] outs h there none = absurd (cc)
  came_to_none is s (x ∷ slots) outs h there none =
      by_parts (after program turns depth q env is x) refl (outputs program turns depth q env is slots) (λ more e t n. came_to_none is s slots more e t n) h (x == s) refl there
    where
      first_is : (v : Value) (more : List Output) → (x == s) ≡ true → is_output (record { slot = x; value = v } ∷ more) s ≡ false → ⊥
      first_is v more e n = let yes_here : is_output (record { slot = x; value = v } ∷ more) s ≡ true = ap (λ (t : Bool). t || is_output more s) e in cc

      not_first : (v : Value) (more : List Output) → (x == s) ≡ false → is_output (record { slot = x; value = v } ∷ more) s ≡ false → is_output more s ≡ false
      not_first v more e n = sym (ap (λ (t : Bool). t || is_output more s) e) ∙ n

      by_parts : (r : Result (Option Value) ErrKind) → after program turns depth q env is x ≡ r → (m : Result (List Output) Clash) → ((more : List Output) → m ≡ Ok more → list_any (λ (y : ℕ). y == s) slots ≡ true → is_output more s ≡ false → after program turns depth q env is s ≡ Ok None) → output_of x r m ≡ Ok outs → (t : Bool) → (x == s) ≡ t → (t || list_any (λ (y : ℕ). y == s) slots) ≡ true → after program turns depth q env is s ≡ Ok None
      by_parts (Err kind) e m rest h t et there = absurd (no_outputs (record { slot = x; kind = kind }) outs h)
      by_parts (Ok None) e (Err c) rest h t et there = absurd (no_outputs c outs h)
      by_parts (Ok (Some v)) e (Err c) rest h t et there = absurd (no_outputs c outs h)
      by_parts (Ok None) e (Ok more) rest h true et there = ap (after program turns depth q env is) (sym (eqb-true x s et)) ∙ e
      by_parts (Ok None) e (Ok more) rest h false et there = rest more refl there (ap (λ (os : List Output). is_output os s) (same_outs more outs h) ∙ none)
      by_parts (Ok (Some v)) e (Ok more) rest h true et there = absurd (first_is v more et (ap (λ (os : List Output). is_output os s) (same_outs (record { slot = x; value = v } ∷ more) outs h) ∙ none))
      by_parts (Ok (Some v)) e (Ok more) rest h false et there = rest more refl there (not_first v more et (ap (λ (os : List Output). is_output os s) (same_outs (record { slot = x; value = v } ∷ more) outs h) ∙ none))

  module _ (at : ℕ) (at_is : slot_of program (body_frame q) q.index.text ≡ Some at) (at_within : at < length env) (ready : IsReady program q env) (items : list_all (is_item program (body_frame q) q.index (written_in q.body)) q.body ≡ true) where
    abbrev Target : ℕ → Type 0
    Target s = (n : Name) × (is_among (written_in q.body) n ≡ true) × (slot_of program (body_frame q) n.text ≡ Some s)

    -- an iteration wrote each of them
    wrote_some : (i : ℤ) (one : Workspace) → ends_of program turns depth q env i ≡ Some one → (s : ℕ) → Target s → (w : Write) × (wrote s i (ends_of program turns depth q env i) ≡ w ∷ [])
    wrote_some i one e s t = let H = there program q env turns depth at at_is at_within ready items i one e s t in by_kind H.0 H.1 H.2
      where
        by_kind : (u : Value) → value_at one s ≡ Some u → Arr program q env depth i u s ⊎ Fut program q env depth i u s → (w : Write) × (wrote s i (ends_of program turns depth q env i) ≡ w ∷ [])
        by_kind u held (inl r) = (_, ap (wrote s i) e ∙ wrote_value program q env depth i one s u (value.Array (own_cell program q env depth i u s r)) held (array_selected program q env depth i u s r))
        by_kind u held (inr r) = (_, ap (wrote s i) e ∙ wrote_value program q env depth i one s u (value.Futures (r.call ∷ [])) held (future_selected program q env depth i u s r))

    first_wrote : (i : ℤ) (is : List ℤ) → is_some (ends_of program turns depth q env i) ≡ true → (s : ℕ) → Target s → after program turns depth q env (i ∷ is) s ≡ Ok None → ⊥
    first_wrote i is h s t none =
        let e = some_end (ends_of program turns depth q env i) h in
        let w = wrote_some i e.0 e.1 s t in
        one_put _ (value_at env s) w.0 (writes program turns depth q env s is) (sym (ap (λ (us : List Write). merged (value_at env s) (us ++ writes program turns depth q env s is)) w.1) ∙ none)

    -- ## Slot by slot

    module _ (outs : List Output) (end : Workspace) (long : length end ≡ length env) (held : Each (λ (o : Output). value_at end o.slot ≡ Some o.value) outs) (others : (slot : ℕ) → IsOther program q slot → value_at end slot ≡ value_at env slot) where
      is_other : (s : ℕ) → (s ≡ at → ⊥) → list_any (λ (x : ℕ). x == s) (written_slots program q) ≡ false → IsOther program q s
      is_other s apart none n is = (by_test (is_among (written_in q.body) n) refl, λ e. apart (some_same s at (sym is ∙ ap (slot_of program (body_frame q)) e ∙ at_is)))
        where
          some_same : (a b : ℕ) → ◌≡◌ {A = Option ℕ} (Some a) (Some b) → a ≡ b
          some_same a b e = cc

          by_test : (t : Bool) → is_among (written_in q.body) n ≡ t → is_among (written_in q.body) n ≡ false
          by_test true e = let yes_there : list_any (λ (x : ℕ). x == s) (written_slots program q) ≡ true = all_slots program q env turns depth [] (written_in q.body) n s e is in absurd (cc)
          by_test false e = e

      target : (s : ℕ) → list_any (λ (x : ℕ). x == s) (written_slots program q) ≡ true → Target s
      target s h = each_any program q env turns depth Target (written_slots program q) s (slots_written program q env turns depth (with_classes program q env turns depth at at_is at_within ready items (λ x. Int)) [] tt (written_in q.body) (λ n among. among)) h

      -- what isn't the index and no output is as it was
      as_it_was : (i : ℤ) (is : List ℤ) → is_some (ends_of program turns depth q env i) ≡ true → outputs program turns depth q env (i ∷ is) (written_slots program q) ≡ Ok outs → (s : ℕ) → (s ≡ at → ⊥) → is_output outs s ≡ false → value_at env s ≡ value_at end s
      as_it_was i is h c s apart none = by_test (list_any (λ (x : ℕ). x == s) (written_slots program q)) refl
        where
          by_test : (t : Bool) → list_any (λ (x : ℕ). x == s) (written_slots program q) ≡ t → value_at env s ≡ value_at end s
          by_test true e = absurd (first_wrote i is h s (target s e) (came_to_none (i ∷ is) s (written_slots program q) outs c e none))
          by_test false e = sym (others s (is_other s apart e))

      either_way : (s : ℕ) → ((s ≡ at → ⊥) → is_output outs s ≡ false → value_at env s ≡ value_at end s) → (s ≡ at → ⊥) → (t : Bool) → is_output outs s ≡ t → (value_at env s ≡ value_at end s) ⊎ (is_output outs s ≡ true)
      either_way s rest apart true e = inr e
      either_way s rest apart false e = inl (rest apart e)

      -- at the index, and at any other slot
      with_index : (z : ℤ) → value_at end at ≡ Some (number_of z) → ((s : ℕ) → (s ≡ at → ⊥) → is_output outs s ≡ false → value_at env s ≡ value_at end s) → end ≡ slice_set (with_outputs env outs) at (Some (number_of z))
      with_index z last rest =
          let more : Workspace = with_outputs env outs in
          let wide : length more ≡ length env = outputs_long env outs in
          let same_long : length (slice_set more at (Some (number_of z))) ≡ length more = length-set more at (Some (number_of z)) in
          same_workspace end (slice_set more at (Some (number_of z))) (long ∙ sym wide ∙ sym same_long) (λ s. by_slot s (s == at) refl (omega arith))
        where
          by_slot : (s : ℕ) (t : Bool) → (s == at) ≡ t → at < length (with_outputs env outs) → value_at end s ≡ value_at (slice_set (with_outputs env outs) at (Some (number_of z))) s
          by_slot s true e within =
              let here : s ≡ at = eqb-true s at e in
              ap (value_at end) here ∙ last ∙ sym (set_here (with_outputs env outs) at (number_of z) within) ∙ ap (value_at (slice_set (with_outputs env outs) at (Some (number_of z)))) (sym here)
          by_slot s false e within =
              let apart : s ≡ at → ⊥ = eqb-false s at e in
              sym (outputs_agree outs env end (sym long) held s (either_way s (rest s) apart (is_output outs s) refl))
              ∙ sym (set_elsewhere (with_outputs env outs) at s (Some (number_of z)) (λ x. apart (sym x)))

      -- where there is no iteration, nothing happens
      without : end ≡ env → end ≡ with_outputs env outs
      without same =
          same_workspace end (with_outputs env outs) (long ∙ sym (outputs_long env outs))
          (λ s. sym (outputs_agree outs env end (sym long) held s (inl (ap (λ (W : Workspace). value_at W s) (sym same)))))

      start_is : (W : Workspace) (z : ℤ) → start_of program q W z ≡ slice_set W at (Some (number_of z))
      start_is W z = ap (λ (o : Option ℕ). with_slot W o (number_of z)) at_is

      pub stands : (n : ℕ) → (n ≡ 0 → end ≡ env) → value_at end at ≡ index_behind n q.first (value_at env at) → all_done program turns depth q env (indices q.first n) ≡ true → outputs program turns depth q env (indices q.first n) (written_slots program q) ≡ Ok outs → end ≡ with_last program q n (with_outputs env outs)
      stands zero none last done c = without (none refl)
      stands (suc n) none last done c =
          with_index (q.first +ℤ pos n) last (as_it_was q.first (indices (q.first +ℤ pos 1) n) (and_first (is_some (ends_of program turns depth q env q.first)) _ done) c)
          ∙ sym (start_is (with_outputs env outs) (q.first +ℤ pos n))
