-- Iterations one after another, in any order.
use Rattle.std.specs.Prelude.{◌||◌, int_lt, slice_set, negsuc}
use Rattle.std.specs.List.{list_all}
use Rattle.std.proofs.Common.{◌≡◌, ◌∙◌, ℕ, ◌<◌, ◌≤◌, inl, inr, ℤ, pos, List, [], ◌∷◌, ◌++◌, length, get_or, Bool, true, false, cond, Option, Some, None, arith, refl, sym, ap, subst, append_assoc}
use Rattle.std.proofs.lemmas.List.{length-set, append-nil}
use Rattle.std.proofs.lemmas.Bool.{ltb-false, eq-eqb, ne_eqb}
use Rattle.pl_base.specs.declared.choice.Choice.{Choice}
use Rattle.pl_array.specs.declared.class.Class.TheVariants.{Int}
use Rattle.pl_array.specs.Arrays.{Array, most}
use Rattle.pl_array.specs.Joining.{converted, is_no_char}
use Rattle.pl_index.specs.Places.{place_of}
use Rattle.pl_syntax.specs.declared.expr.Name.{Name}
use Rattle.pl_syntax.specs.declared.stmt.Stmt.{Stmt}
use Rattle.pl_values.specs.declared.value.Value.{Value}
use Rattle.pl_values.specs.declared.value.Value.TheVariants as value
use Rattle.pl_values.specs.Workspaces.{value_at}
use Rattle.pl_operators.specs.Bracketing.{number_of}
use Rattle.pl_resolve.specs.declared.resolved.Resolved.{Resolved}
use Rattle.pl_meaning.specs.declared.frame.Frame.{Frame}
use Rattle.pl_meaning.specs.Logs.{Workspace, LoopQuestion, Trace}
use Rattle.pl_meaning.specs.Running.{Done, Outcome, Ending}
use Rattle.pl_meaning.specs.Runs.{finished, failed}
use Rattle.pl_meaning.specs.Parts.{below, block_in, block_from, with_slot, written_in}
use Rattle.pl_meaning.specs.Forms.{is_among, is_item}
use Rattle.pl_meaning.specs.Loops.{body_frame, start_of, Iter, end_of, ends_of, plain, plain_on, text_of, texts}
use Rattle.pl_frame.specs.Seeing.{no_course, standing}
use Rattle.pl_frame.specs.Ordering.{Each, texts_on, plain_texts}
use Rattle.pl_frame.proofs.Values.{and_first, and_second}
use Rattle.pl_frame.proofs.Assigning.{tip, last_of, Holding, last_of-append}
use Rattle.pl_frame.proofs.Slots.{set_here, set_elsewhere}
use Rattle.pl_frame.proofs.Bodies.{Item, item_of, among_more}
use Rattle.pl_frame.proofs.Iteration.{Laid, own, some_own, rest_empty, Written, base, base_is, holds_base, Filled, Link, link_elsewhere, link_filled, Ends_in, Between, Put, Ran, iterate, array_or, array_there, not_written}

same_end : (a b : Workspace) → Some a ≡ Some b → a ≡ b
same_end a b e = cc

some_none : {A : Type 0} (a : A) → ◌≡◌ {A = Option A} (Some a) None → ⊥
some_none a e = cc

pub done_of : (x : Ending) (one : Workspace) → end_of x ≡ Some one → (left : List Choice) × (x ≡ Done one left)
done_of (Done two left) one h = (left, ap (λ (w : Workspace). Done w left) (same_end two one h))
done_of (Ending.Raised e left) one h = absurd (cc)
done_of (Ending.Asks q env) one h = absurd (cc)

-- no integers that differ name the same place, below the most
pub same_number : (i j : ℤ) → int_lt i (pos 1) ≡ false → int_lt j (pos 1) ≡ false → tip i ≤ most → tip j ≤ most → place_of i ≡ place_of j → i ≡ j
same_number (pos a) (pos b) h k m n e =
    let la : 1 ≤ a = ltb-false a 1 h in
    let lb : 1 ≤ b = ltb-false b 1 k in
    ap pos (omega arith)
same_number (negsuc a) j h k m n e = absurd (cc)
same_number (pos a) (negsuc b) h k m n e = absurd (cc)

-- a cell of an iteration's own array
abbrev pub cell_in : Option Workspace → ℕ → ℤ → ℤ
cell_in None s i = pos 0
cell_in (Some one) s i = get_or (array_or Int (value_at one s)).cells (place_of i) (pos 0)

abbrev pub Distinct : List ℤ → Type 0
Distinct [] = Unit {0}
Distinct (i ∷ is) = Each (λ (j : ℤ). i ≡ j → ⊥) is × Distinct is

module _ (program : Resolved) (q : LoopQuestion) (env : Workspace) (turns depth : ℕ) (L : Laid program q env) where
  abbrev f : Frame
  f = body_frame q

  abbrev names : List Name
  names = written_in q.body

  abbrev Target : ℕ → Type 0
  Target = Written program q env depth L

  abbrev Amid : (ℕ → List (ℕ × ℤ)) → Workspace → Type 0
  Amid = Between program q env depth L

  abbrev first_array : ℕ → Array
  first_array = base program q env depth L

  -- what an iteration wrote to a variable
  abbrev pub cell : ℤ → ℕ → ℤ
  cell i s = cell_in (ends_of program turns depth q env i) s i

  -- the index is no variable that the body writes
  index_free_in : (ss : List Stmt) → list_all (is_item program f q.index names) ss ≡ true → is_among (written_in ss) q.index ≡ false
  index_free_in [] h = refl
  index_free_in (s ∷ more) h =
      let I : Item program f q.index names s = item_of program f q.index names s (and_first (is_item program f q.index names s) _ h) in
      among_more program f q.index names s more I q.index ∙ ap (λ (b : Bool). b || is_among (written_in more) q.index) I.no_index ∙ index_free_in more (and_second (is_item program f q.index names s) _ h)

  pub not_index : (s : ℕ) → Target s → s ≡ L.at → ⊥
  not_index s w e = not_written program q env depth L q.index s (index_free_in q.body L.items) (L.at_is ∙ ap Some (sym e)) w

  -- where an iteration begins
  pub start_is : (W : Workspace) (i : ℤ) → start_of program q W i ≡ slice_set W L.at (Some (number_of i))
  start_is W i = ap (λ (o : Option ℕ). with_slot W o (number_of i)) L.at_is

  pub iter_is : (W : Workspace) (i : ℤ) → Iter program turns depth q W i ≡ block_from program (below program depth) f q.body finished failed (standing (slice_set W L.at (Some (number_of i))) turns [] no_course)
  unfolding Iter block_in
  iter_is W i = ap (λ (E : Workspace). block_from program (below program depth) f q.body finished failed (standing E turns [] no_course)) (start_is W i)

  pub begun : (ws : ℕ → List (ℕ × ℤ)) (W : Workspace) (i : ℤ) → Amid ws W → Amid ws (slice_set W L.at (Some (number_of i)))
  begun ws W i B = record {
    wide = (let n : length (slice_set W L.at (Some (number_of i))) ≡ length W = length-set W L.at (Some (number_of i)) in let m : L.at < length W = B.wide in omega arith);
    apart = λ s none other. set_elsewhere W L.at s (Some (number_of i)) (λ e. other (sym e)) ∙ B.apart s none other;
    held = λ s w. link_elsewhere program q env depth L W L.at s (Some (number_of i)) (ws s) (λ e. not_index s w (sym e)) (B.held s w);
  }

  pub between_same : (ws us : ℕ → List (ℕ × ℤ)) (W : Workspace) → ((s : ℕ) → Target s → ws s ≡ us s) → Amid ws W → Amid us W
  between_same ws us W e B = record {
    wide = B.wide;
    apart = B.apart;
    held = λ s w. subst (Link program q env depth L W s) (e s w) (B.held s w);
  }

  abbrev pub nothing_yet : ℕ → List (ℕ × ℤ)
  nothing_yet s = []

  pub holds_itself : (s : ℕ) → Target s → Holding (first_array s) [] (first_array s)
  holds_itself s w = holds_base program q env depth L s w [] refl

  pub at_first : Amid nothing_yet env
  at_first = record {
    wide = L.at_within;
    apart = λ s none other. refl;
    held = λ s w. elim (L.arrays w.0 s w.1 w.2) [
      | inl a ↦ inl (record {
        array = first_array s;
        there = a.1 ∙ ap (λ (x : Array). Some (value.Array x)) (sym (base_is program q env depth L s a.0 a.1));
        holds = holds_itself s w;
        begun = λ none new. some_none (value.Array a.0) (sym a.1 ∙ new);
      })
      | inr n ↦ inr (record { within = n.0; nothing_there = n.1; nothing_before = n.1; unwritten = refl })
    ];
  }

  abbrev Avoids : (ℕ → List (ℕ × ℤ)) → ℤ → Type 0
  Avoids vs i = (s : ℕ) → Target s → (z : ℤ) → last_of (vs s) (place_of i) z ≡ z

  -- an iteration ends by itself, and with arrays of their classes
  abbrev pub Done_well : ℤ → Type 0
  Done_well i = (one : Workspace) × (ends_of program turns depth q env i ≡ Some one) × Ends_in program q env depth L one

  -- an iteration from another workspace
  ran : (i : ℤ) (vs : ℕ → List (ℕ × ℤ)) (avoids : Avoids vs i) (W one : Workspace) (left : List Choice) → Amid vs W → Ends_in program q env depth L one → (Iter program turns depth q env i).ending ≡ Done one left → Ran program q env depth L i vs avoids q.body (λ s. None) (slice_set env L.at (Some (number_of i))) (slice_set W L.at (Some (number_of i))) one turns [] no_course
  ran i vs avoids W one left B last h =
      let E : Workspace = slice_set env L.at (Some (number_of i)) in
      iterate program q env depth L i vs avoids q.body L.items (λ n among. among) (λ s. None) E (slice_set W L.at (Some (number_of i)))
      (begun nothing_yet env i at_first)
      (between_same vs (λ s. vs s ++ []) (slice_set W L.at (Some (number_of i))) (λ s w. sym (append-nil (vs s))) (begun vs W i B))
      (set_here env L.at (number_of i) L.at_within)
      (set_here W L.at (number_of i) B.wide)
      turns [] left no_course one last (sym (ap (λ (x : Outcome). x.ending) (iter_is env i)) ∙ h)

  -- what is known of each value that an iteration wrote
  pub record Good (i : ℤ) (s : ℕ) : Type 0 where
    pub low : int_lt i (pos 1) ≡ false
    pub within : tip i ≤ most
    pub allowed : is_no_char (first_array s).class (cell i s) ≡ false
    pub kept : converted (first_array s).class (cell i s) ≡ cell i s
    pub array : Array
    pub ends : (one : Workspace) × (ends_of program turns depth q env i ≡ Some one) × (value_at one s ≡ Some (value.Array array))
    pub holds : Holding (first_array s) ((place_of i, cell i s) ∷ []) array

  -- the value is the one that stands at the place
  pub wrote_cell : (i : ℤ) (s : ℕ) (o : Option ℤ) (z : ℤ) (b : Array) → o ≡ Some z → Holding (first_array s) (own i o) b → get_or b.cells (place_of i) (pos 0) ≡ z
  wrote_cell i s o z b is H =
      let J : Holding (first_array s) (own i (Some z)) b = subst (λ (x : Option ℤ). Holding (first_array s) (own i x) b) is H in
      J.cells (place_of i) ∙ ap (λ (t : Bool). cond t z (get_or (first_array s).cells (place_of i) (pos 0))) (eq-eqb (place_of i) (place_of i) refl)

  pub cell_is : (i : ℤ) (s : ℕ) (one : Workspace) (left : List Choice) (b : Array) (z : ℤ) → (Iter program turns depth q env i).ending ≡ Done one left → value_at one s ≡ Some (value.Array b) → get_or b.cells (place_of i) (pos 0) ≡ z → cell i s ≡ z
  cell_is i s one left b z h there e =
      ap (λ (x : Ending). cell_in (end_of x) s i) h
      ∙ ap (λ (v : Option Value). get_or (array_or Int v).cells (place_of i) (pos 0)) there
      ∙ ap (λ (a : Array). get_or a.cells (place_of i) (pos 0)) (array_there b)
      ∙ e

  -- a variable that an iteration wrote has an array
  pub full : (i : ℤ) (us : List (ℕ × ℤ)) (o : Option ℤ) (z : ℤ) → o ≡ Some z → us ++ own i o ≡ [] → ⊥
  full i us o z is e = some_own i z (sym (ap (own i) is) ∙ rest_empty us (own i o) e)

  good_by : (i : ℤ) (s : ℕ) (w : Target s) (one : Workspace) (left : List Choice) → Ends_in program q env depth L one → (Iter program turns depth q env i).ending ≡ Done one left → Good i s
  good_by i s w one left last h =
      let avoids : Avoids nothing_yet i = λ s w z. refl in
      let R : Ran program q env depth L i nothing_yet avoids q.body (λ s. None) (slice_set env L.at (Some (number_of i))) (slice_set env L.at (Some (number_of i))) one turns [] no_course = ran i nothing_yet avoids env one left at_first last h in
      let P : Put program q env depth L i nothing_yet avoids s (R.wrote s) = R.touched w.0 s w.1 w.2 in
      let b : Filled program q env depth L one s (own i (R.wrote s)) = link_filled program q env depth L one s (own i (R.wrote s)) (full i [] (R.wrote s) P.value P.is) (R.here.held s w) in
      let z : cell i s ≡ P.value = cell_is i s one left b.array P.value h b.there (wrote_cell i s (R.wrote s) P.value b.array P.is b.holds) in
      record {
        low = P.low;
        within = P.within;
        allowed = ap (is_no_char (first_array s).class) z ∙ P.allowed;
        kept = ap (converted (first_array s).class) z ∙ P.kept ∙ sym z;
        array = b.array;
        ends = (one, ap end_of h, b.there);
        holds = subst (λ (x : Option ℤ). Holding (first_array s) (own i x) b.array) (P.is ∙ ap Some (sym z)) b.holds;
      }

  pub good : (i : ℤ) → Done_well i → (s : ℕ) → Target s → Good i s
  good i h s w = let d = done_of (Iter program turns depth q env i).ending h.0 h.1 in good_by i s w h.0 d.0 h.2 d.1

  pub record Goes_on (i : ℤ) (vs : ℕ → List (ℕ × ℤ)) (W : Workspace) : Type 0 where
    pub whole : Workspace
    pub ends : end_of (Iter program turns depth q W i).ending ≡ Some whole
    pub shows : (Iter program turns depth q W i).shown ≡ (Iter program turns depth q env i).shown
    pub holds : Amid (λ s. vs s ++ (place_of i, cell i s) ∷ []) whole

  goes_by : (i : ℤ) (vs : ℕ → List (ℕ × ℤ)) (W one : Workspace) (left : List Choice) → Avoids vs i → Amid vs W → Ends_in program q env depth L one → (Iter program turns depth q env i).ending ≡ Done one left → Goes_on i vs W
  goes_by i vs W one left avoids B last h =
      let R : Ran program q env depth L i vs avoids q.body (λ s. None) (slice_set env L.at (Some (number_of i))) (slice_set W L.at (Some (number_of i))) one turns [] no_course = ran i vs avoids W one left B last h in
      record {
        whole = R.whole;
        ends = ap (λ (x : Outcome). end_of x.ending) (iter_is W i) ∙ ap end_of (R.ends turns [] no_course);
        shows = ap (λ (x : Outcome). x.shown) (iter_is W i) ∙ R.shows ∙ sym (ap (λ (x : Outcome). x.shown) (iter_is env i));
        holds = between_same (λ s. vs s ++ own i (R.wrote s)) (λ s. vs s ++ (place_of i, cell i s) ∷ []) R.whole (λ s w.
            let P : Put program q env depth L i vs avoids s (R.wrote s) = R.touched w.0 s w.1 w.2 in
            let b : Filled program q env depth L one s (own i (R.wrote s)) = link_filled program q env depth L one s (own i (R.wrote s)) (full i [] (R.wrote s) P.value P.is) (R.here.held s w) in
            let z : cell i s ≡ P.value = cell_is i s one left b.array P.value h b.there (wrote_cell i s (R.wrote s) P.value b.array P.is b.holds) in
            ap (λ (x : Option ℤ). vs s ++ own i x) (P.is ∙ ap Some (sym z))) R.there;
      }

  goes_on : (i : ℤ) → Done_well i → (vs : ℕ → List (ℕ × ℤ)) (W : Workspace) → Avoids vs i → Amid vs W → Goes_on i vs W
  goes_on i h vs W avoids B = let d = done_of (Iter program turns depth q env i).ending h.0 h.1 in goes_by i vs W h.0 d.0 avoids B h.2 d.1

  -- ## All of them

  abbrev pub table : List ℤ → ℕ → List (ℕ × ℤ)
  table [] s = []
  table (i ∷ is) s = (place_of i, cell i s) ∷ table is s

  abbrev pub All_done : List ℤ → Type 0
  All_done p = Each Done_well p

  pub places_differ : (s : ℕ) (i j : ℤ) → Target s → Done_well i → Done_well j → (i ≡ j → ⊥) → place_of i ≡ place_of j → ⊥
  places_differ s i j w h k apart e = let a = good i h s w in let b = good j k s w in apart (same_number i j a.low b.low a.within b.within e)

  -- those that are still to come write elsewhere
  avoid_more : (vs : ℕ → List (ℕ × ℤ)) (i : ℤ) (p : List ℤ) → Done_well i → All_done p → Each (λ (j : ℤ). i ≡ j → ⊥) p → Each (Avoids vs) p → Each (Avoids (λ s. vs s ++ (place_of i, cell i s) ∷ [])) p
  avoid_more vs i [] h done apart avoids = tt
  avoid_more vs i (j ∷ p) h done apart avoids = (
    λ s w z. last_of-append (vs s) ((place_of i, cell i s) ∷ []) (place_of j) z ∙ ap (λ (t : Bool). cond t (cell i s) (last_of (vs s) (place_of j) z)) (ne_eqb (place_of i) (place_of j) (places_differ s i j w h done.0 apart.0)) ∙ avoids.0 s w z,
    avoid_more vs i p h done.1 apart.1 avoids.1,
  )

  pub record Ended (p : List ℤ) (vs : ℕ → List (ℕ × ℤ)) (W : Workspace) : Type 0 where
    pub end : Workspace
    pub ends : plain program turns depth q p W ≡ Some end
    pub shows : plain_texts program turns depth q p W ≡ texts program turns depth q env p
    pub holds : Amid (λ s. vs s ++ table p s) end

  pub in_turn : (p : List ℤ) → All_done p → Distinct p → (vs : ℕ → List (ℕ × ℤ)) (W : Workspace) → Each (Avoids vs) p → Amid vs W → Ended p vs W
  in_turn [] done distinct vs W avoids B = record { end = W; ends = refl; shows = refl; holds = between_same vs (λ s. vs s ++ []) W (λ s w. sym (append-nil (vs s))) B }
  in_turn (i ∷ p) done distinct vs W avoids B =
      let G : Goes_on i vs W = goes_on i done.0 vs W avoids.0 B in
      let us : ℕ → List (ℕ × ℤ) = λ s. vs s ++ (place_of i, cell i s) ∷ [] in
      let E : Ended p us G.whole = in_turn p done.1 distinct.1 us G.whole (avoid_more vs i p done.0 done.1 distinct.0 avoids.1) G.holds in
      record {
        end = E.end;
        shows = ap (λ (x : List Trace). text_of x ++ texts_on program turns depth q (plain_texts program turns depth q p) (end_of (Iter program turns depth q W i).ending)) G.shows ∙ ap (λ (x : Option Workspace). text_of (Iter program turns depth q env i).shown ++ texts_on program turns depth q (plain_texts program turns depth q p) x) G.ends ∙ ap (λ (x : List ℕ). text_of (Iter program turns depth q env i).shown ++ x) E.shows;
        ends = ap (plain_on program turns depth q (plain program turns depth q p)) G.ends ∙ E.ends;
        holds = between_same (λ s. us s ++ table p s) (λ s. vs s ++ table (i ∷ p) s) E.end (λ s w. append_assoc (vs s) ((place_of i, cell i s) ∷ []) (table p s)) E.holds;
      }
