-- A whole pass on one workspace: the iteration by itself ends, prints the same, and wrote what the pass wrote.
use Rattle.std.specs.Prelude.{◌||◌, slice_get, slice_set}
use Rattle.std.specs.List.{list_any}
use Rattle.std.specs.Cmp.Lexicographic.{same_text}
use Rattle.std.proofs.Common.{◌≡◌, ◌∙◌, ℕ, zero, suc, ◌<◌, ◌≤◌, ◌==◌, ◌⊎◌, inl, inr, ℤ, List, [], ◌∷◌, ◌++◌, length, drop, Bool, true, false, cond, Option, Some, None, refl, sym, ap, subst, append_assoc}
use Rattle.std.proofs.lemmas.List.{append-nil}
use Rattle.std.proofs.lemmas.Bool.{eqb-true, eq-eqb}
use Rattle.pl_base.specs.declared.choice.Choice.{Choice}
use Rattle.pl_array.specs.declared.class.Class.{Class}
use Rattle.pl_array.specs.Arrays.{Array}
use Rattle.pl_index.specs.Places.{place_of}
use Rattle.pl_syntax.specs.declared.expr.Name.{Name}
use Rattle.pl_syntax.specs.declared.stmt.Stmt.{Stmt, out-Stmt}
use Rattle.pl_syntax.specs.declared.stmt.StmtKind.{out-StmtKind}
use Rattle.pl_values.specs.Workspaces.{value_at}
use Rattle.pl_operators.specs.Bracketing.{number_of}
use Rattle.pl_resolve.specs.declared.resolved.Resolved.{Resolved}
use Rattle.pl_meaning.specs.declared.frame.Frame.{Frame}
use Rattle.pl_meaning.specs.Known.{same}
use Rattle.pl_meaning.specs.Logs.{Workspace, LoopQuestion, Trace, Byte}
use Rattle.pl_meaning.specs.Names.{slot_of}
use Rattle.pl_meaning.specs.Running.{Done, Outcome, before}
use Rattle.pl_meaning.specs.Runs.{finished, failed}
use Rattle.pl_meaning.specs.Parts.{below, block_from, written_by, written_in}
use Rattle.pl_meaning.specs.Forms.{is_among}
use Rattle.pl_meaning.specs.Loops.{body_frame, start_of, Iter, end_of, text_of}
use Rattle.pl_frame.specs.Seeing.{Course, no_course, standing}
use Rattle.pl_frame.specs.Rising.{Assigns, Passing, Pass}
use Rattle.pl_frame.proofs.Framed.{shown_twice}
use Rattle.pl_frame.proofs.Assigning.{last_of, top}
use Rattle.pl_frame.proofs.Slots.{set_here}
use Rattle.pl_frame.proofs.Bodies.{same_self, Item, among_more}
use Rattle.pl_frame.proofs.Iteration.{Laid, own, Written, base_new, Filled, link_within, link_filled, Between, Put}
use Rattle.pl_frame.proofs.Turns.{cell, begun, start_is, iter_is, between_same, nothing_yet, at_first, Done_well, wrote_cell, cell_is, full}
use Rattle.pl_frame.proofs.Classes.{Classed, classed_before, gained_class}
use Rattle.pl_frame.proofs.Sharing.{avoids, Followed, followed}
use Rattle.pl_frame.proofs.Passing.{drop_next, drop_whole, item_at}

some_same : {A : Type 0} (a b : A) → Some a ≡ Some b → a ≡ b
some_same a b e = cc

any_second : {A : Type 0} (p : A → Bool) (xs ys : List A) → list_any p ys ≡ true → list_any p (xs ++ ys) ≡ true
any_second p [] ys h = h
any_second p (x ∷ xs) ys h = by_first (p x) (any_second p xs ys h)
  where
    by_first : (b : Bool) → list_any p (xs ++ ys) ≡ true → (b || list_any p (xs ++ ys)) ≡ true
    by_first true rest = refl
    by_first false rest = rest

-- what some statements write all of them write
among_drop : (ss : List Stmt) (n : ℕ) (m : Name) → is_among (written_in (drop n ss)) m ≡ true → is_among (written_in ss) m ≡ true
among_drop ss zero m h = h
among_drop [] (suc n) m h = h
among_drop (s ∷ ss) (suc n) m h = any_second (λ (x : Name). same x.text m.text) (written_by (out-StmtKind (out-Stmt s).kind)) (written_in ss) (among_drop ss n m h)

pub text_of-append : (a b : List Trace) → text_of (a ++ b) ≡ text_of a ++ text_of b
text_of-append [] b = refl
text_of-append (Byte x ∷ a) b = ap (λ (t : List ℕ). x ∷ t) (text_of-append a b)

module _ (program : Resolved) (q : LoopQuestion) (env : Workspace) (turns depth : ℕ) (L : Laid program q env) (k : ℕ → Option Class) (agrees : (s : ℕ) (c : Class) → Some c ≡ k s → c ≡ L.classes s) where
  abbrev f : Frame
  f = body_frame q

  abbrev names : List Name
  names = written_in q.body

  abbrev Target : ℕ → Type 0
  Target = Written program q env depth L

  abbrev Amid : (ℕ → List (ℕ × ℤ)) → Workspace → Type 0
  Amid = Between program q env depth L

  module _ (i : ℤ) (vs : ℕ → List (ℕ × ℤ)) (rises : (s : ℕ) → Target s → top (vs s) ≤ place_of i) where
    abbrev Mine : (ℕ → Option ℤ) → Workspace → Type 0
    Mine o = Amid (λ s. own i (o s))

    abbrev All_of : (ℕ → Option ℤ) → Workspace → Type 0
    All_of o = Amid (λ s. vs s ++ own i (o s))

    abbrev avoid : (s : ℕ) → Target s → (z : ℤ) → last_of (vs s) (place_of i) z ≡ z
    avoid = avoids program q env depth L i vs rises

    abbrev Placed : ℕ → Option ℤ → Type 0
    Placed s v = Put program q env depth L i vs avoid s v

    abbrev begin : Workspace
    begin = slice_set env L.at (Some (number_of i))

    -- so many statements of the pass are done: the iteration by itself is as far
    record Halfway (told : List ℕ) (n : ℕ) (W : Workspace) (text : List ℕ) : Type 0 where
      wrote : ℕ → Option ℤ
      one : Workspace
      shown : List Trace
      text_is : text ≡ told ++ text_of shown
      runs : (t : ℕ) (c : List Choice) (r : Course) → block_from program (below program depth) f q.body finished failed (standing begin t c r) ≡ before shown (block_from program (below program depth) f (drop n q.body) finished failed (standing one t c r))
      here : Mine wrote one
      there : All_of wrote W
      one_index : value_at one L.at ≡ Some (number_of i)
      whole_index : value_at W L.at ≡ Some (number_of i)
      touched : (m : Name) (s : ℕ) → slot_of program f m.text ≡ Some s → is_among names m ≡ true → Placed s (wrote s) ⊎ (is_among (written_in (drop n q.body)) m ≡ true)

    at_start : (told : List ℕ) (before : Workspace) → Amid vs before → (W : Workspace) (text : List ℕ) → W ≡ start_of program q before i → text ≡ told → Halfway told 0 W text
    at_start told before B W text is e = record {
      wrote = λ s. None;
      one = begin;
      shown = [];
      text_is = e ∙ sym (append-nil told);
      runs = λ t c r. refl;
      here = begun program q env turns depth L (nothing_yet program q env turns depth L) env i (at_first program q env turns depth L);
      there = subst (All_of (λ s. None)) (sym (is ∙ start_is program q env turns depth L before i)) (between_same program q env turns depth L vs (λ s. vs s ++ []) (slice_set before L.at (Some (number_of i))) (λ s w. sym (append-nil (vs s))) (begun program q env turns depth L vs before i B));
      one_index = set_here env L.at (number_of i) L.at_within;
      whole_index = ap (λ (X : Workspace). value_at X L.at) (is ∙ start_is program q env turns depth L before i) ∙ set_here before L.at (number_of i) B.wide;
      touched = λ m s is among. inr among;
    }

    -- one statement more
    module _ (told : List ℕ) (n : ℕ) (now next : Workspace) (text grown : List ℕ) (s : Stmt) (is : slice_get q.body n ≡ Some s) (shown : List Trace) (A : Assigns program depth q env i s now shown next) (C : Classed program depth q env k next) (H : Halfway told n now text) where
      abbrev I : Item program f q.index names s
      I = item_at program depth q env L.items i n s is now shown next A

      abbrev more : List Stmt
      more = drop (suc n) q.body

      here_named : (m : Name) → is_among (written_in (s ∷ more)) m ≡ (same A.name.text m.text || is_among (written_in more) m)
      here_named m = among_more program f q.index names s more I m

      put_again : (j : ℕ) (z : ℤ) → Placed A.slot (Some z) → (b : Bool) → (A.slot == j) ≡ b → Placed j (H.wrote j) → Placed j (cond (A.slot == j) (Some z) (H.wrote j))
      put_again j z P true e Q = subst (λ (x : ℕ). Placed x (cond (A.slot == x) (Some z) (H.wrote x))) (eqb-true A.slot j e) (subst (Placed A.slot) (sym (ap (λ (t : Bool). cond t (Some z) (H.wrote A.slot)) (eq-eqb A.slot A.slot refl))) P)
      put_again j z P false e Q = subst (Placed j) (sym (ap (λ (t : Bool). cond t (Some z) (H.wrote j)) e)) Q

      touched_here : (z : ℤ) → Placed A.slot (Some z) → (m : Name) (j : ℕ) → slot_of program f m.text ≡ Some j → (b : Bool) → same A.name.text m.text ≡ b → (b || is_among (written_in more) m) ≡ true → Placed j (cond (A.slot == j) (Some z) (H.wrote j)) ⊎ (is_among (written_in more) m ≡ true)
      touched_here z P m j is true e h =
          let slots : A.slot ≡ j = some_same A.slot j (sym A.slot_is ∙ ap (slot_of program f) (same_text A.name.text m.text (sym e)) ∙ is) in
          inl (subst (λ (x : ℕ). Placed x (cond (A.slot == x) (Some z) (H.wrote x))) slots (subst (Placed A.slot) (sym (ap (λ (t : Bool). cond t (Some z) (H.wrote A.slot)) (eq-eqb A.slot A.slot refl))) P))
      touched_here z P m j is false e h = inr h

      touched_more : (z : ℤ) → Placed A.slot (Some z) → (m : Name) (j : ℕ) → slot_of program f m.text ≡ Some j → Placed j (H.wrote j) ⊎ (is_among (written_in (drop n q.body)) m ≡ true) → Placed j (cond (A.slot == j) (Some z) (H.wrote j)) ⊎ (is_among (written_in more) m ≡ true)
      touched_more z P m j e (inl Q) = inl (put_again j z P (A.slot == j) refl Q)
      touched_more z P m j e (inr h) = touched_here z P m j e (same A.name.text m.text) refl (sym (here_named m) ∙ sym (ap (λ (ss : List Stmt). is_among (written_in ss) m) (drop_next q.body n s is)) ∙ h)

      target : Target A.slot
      target = (A.name, among_drop q.body n A.name (ap (λ (ss : List Stmt). is_among (written_in ss) A.name) (drop_next q.body n s is) ∙ here_named A.name ∙ ap (λ (b : Bool). b || is_among (written_in more) A.name) (same_self A.name.text)), A.slot_is)

      step : grown ≡ text ++ text_of shown → Halfway told (suc n) next grown
      step grown_is =
          let within : A.slot < length now = link_within program q env depth L now A.slot (vs A.slot ++ own i (H.wrote A.slot)) (H.there.held A.slot target) in
          let F : Followed program q env depth L i vs rises s more I target H.wrote H.one now A.made shown =
          followed program q env depth L i vs rises s more I target H.wrote H.one now shown A.gained A.made H.here H.there H.one_index H.whole_index A.comes
          (λ none. let y = gained_class program depth q env k i s now shown next A C target within none in (y.0, y.1, agrees A.slot y.0.class y.2)) A.makes in
          record {
            wrote = λ j. cond (A.slot == j) (Some F.z) (H.wrote j);
            one = F.one;
            shown = H.shown ++ shown;
            text_is = grown_is ∙ ap (λ (t : List ℕ). t ++ text_of shown) H.text_is ∙ append_assoc told (text_of H.shown) (text_of shown) ∙ ap (λ (t : List ℕ). told ++ t) (sym (text_of-append H.shown shown));
            runs = λ t c r. H.runs t c r ∙ ap (before H.shown) (ap (λ (ss : List Stmt). block_from program (below program depth) f ss finished failed (standing H.one t c r)) (drop_next q.body n s is) ∙ F.runs t c r) ∙ shown_twice H.shown shown _;
            here = F.here;
            there = subst (All_of (λ j. cond (A.slot == j) (Some F.z) (H.wrote j))) (sym A.leaves) F.there;
            one_index = F.one_index;
            whole_index = ap (λ (X : Workspace). value_at X L.at) A.leaves ∙ F.whole_index;
            touched = λ m j e among. touched_more F.z F.put m j e (H.touched m j e among);
          }

    halfway : (told : List ℕ) (before : Workspace) → Amid vs before → (n : ℕ) (W : Workspace) (text : List ℕ) → Passing program depth q env i (start_of program q before i) told n W text → Classed program depth q env k W → Halfway told n W text
    halfway told before B zero W text P C = at_start told before B W text P.0 P.1
    halfway told before B (suc n) W text F C =
        step told n F.now W F.told text F.stmt F.is F.shown F.assigns C (halfway told before B n F.now F.told F.come (classed_before program depth q env k i F.stmt F.now F.shown W F.assigns C)) F.grown

    -- ## The whole pass

    pub record Passed (told : List ℕ) (W : Workspace) (text : List ℕ) : Type 0 where
      pub well : Done_well program q env turns depth L i
      pub prints : text ≡ told ++ text_of (Iter program turns depth q env i).shown
      pub holds : Amid (λ s. vs s ++ (place_of i, cell program q env turns depth L i s) ∷ []) W

    module _ (told : List ℕ) (W : Workspace) (text : List ℕ) (H : Halfway told (length q.body) W text) where
      iter : Iter program turns depth q env i ≡ before H.shown (record { shown = []; ending = Done H.one [] })
      iter =
          iter_is program q env turns depth L env i
          ∙ H.runs turns [] no_course
          ∙ ap (λ (ss : List Stmt). before H.shown (block_from program (below program depth) f ss finished failed (standing H.one turns [] no_course))) (drop_whole q.body)

      ending : (Iter program turns depth q env i).ending ≡ Done H.one []
      ending = ap (λ (x : Outcome). x.ending) iter

      all_placed : (s : ℕ) → Target s → Placed s (H.wrote s)
      all_placed s w = by_touch (H.touched w.0 s w.2 w.1)
        where
          by_touch : Placed s (H.wrote s) ⊎ (is_among (written_in (drop (length q.body) q.body)) w.0 ≡ true) → Placed s (H.wrote s)
          by_touch (inl P) = P
          by_touch (inr h) = let none : false ≡ true = sym (ap (λ (ss : List Stmt). is_among (written_in ss) w.0) (drop_whole q.body)) ∙ h in absurd (cc)

      filled : (s : ℕ) → Target s → Filled program q env depth L H.one s (own i (H.wrote s))
      filled s w =
          let P : Placed s (H.wrote s) = all_placed s w in
          link_filled program q env depth L H.one s (own i (H.wrote s)) (full program q env turns depth L i [] (H.wrote s) P.value P.is) (H.here.held s w)

      wrote_is : (s : ℕ) → Target s → H.wrote s ≡ Some (cell program q env turns depth L i s)
      wrote_is s w =
          let P : Placed s (H.wrote s) = all_placed s w in
          let b : Filled program q env depth L H.one s (own i (H.wrote s)) = filled s w in
          let z : cell program q env turns depth L i s ≡ P.value = cell_is program q env turns depth L i s H.one [] b.array P.value ending b.there (wrote_cell program q env turns depth L i s (H.wrote s) P.value b.array P.is b.holds) in
          P.is ∙ ap Some (sym z)

      ended : Passed told W text
      ended = record {
        well = (H.one, ap end_of ending, λ s w none. let b : Filled program q env depth L H.one s (own i (H.wrote s)) = filled s w in (b.array, b.there, b.holds.class ∙ ap (λ (a : Array). a.class) (base_new program q env depth L s none)));
        prints = H.text_is ∙ ap (λ (ts : List Trace). told ++ text_of ts) (sym (ap (λ (x : Outcome). x.shown) iter ∙ append-nil H.shown));
        holds = between_same program q env turns depth L (λ s. vs s ++ own i (H.wrote s)) (λ s. vs s ++ (place_of i, cell program q env turns depth L i s) ∷ []) W (λ s w. ap (λ (x : Option ℤ). vs s ++ own i x) (wrote_is s w)) H.there;
      }

    pub passed : (told : List ℕ) (before : Workspace) → Amid vs before → (W : Workspace) (text : List ℕ) → Pass program depth q env i before told W text → Classed program depth q env k W → Passed told W text
    passed told before B W text P C = ended told W text (halfway told before B (length q.body) W text P C)
