-- The passes on one workspace in rising order are the loop.
use Rattle.std.specs.Prelude.{◌&&◌, is_some, int_lt, negsuc, ◌+ℤ◌}
use Rattle.std.specs.List.{list_all}
use Rattle.std.proofs.Common.{◌≡◌, ◌∙◌, ℕ, zero, suc, ◌+◌, ◌≤◌, max, ℤ, pos, List, [], ◌∷◌, ◌++◌, true, false, Option, Some, None, Result, Ok, arith, refl, sym, ap, subst, append_assoc}
use Rattle.std.proofs.lemmas.Int.{ints}
use Rattle.std.proofs.lemmas.List.{append-nil}
use Rattle.std.proofs.lemmas.Bool.{ltb-false}
use Rattle.pl_base.specs.declared.errors.ErrKind.{ErrKind}
use Rattle.pl_array.specs.declared.class.Class.{Class}
use Rattle.pl_array.specs.declared.class.Class.TheVariants.{Int}
use Rattle.pl_array.specs.Arrays.{most}
use Rattle.pl_index.specs.Places.{place_of}
use Rattle.pl_values.specs.declared.value.Value.{Value}
use Rattle.pl_values.specs.Workspaces.{value_at}
use Rattle.pl_resolve.specs.declared.resolved.Resolved.{Resolved}
use Rattle.pl_meaning.specs.declared.event.Output.{Output}
use Rattle.pl_meaning.specs.Logs.{Workspace, LoopQuestion}
use Rattle.pl_meaning.specs.Names.{slot_of}
use Rattle.pl_meaning.specs.Parts.{written_in}
use Rattle.pl_meaning.specs.Forms.{is_item}
use Rattle.pl_meaning.specs.declared.event.Clash.{Clash}
use Rattle.pl_meaning.specs.Loops.{body_frame, start_of, indices, written_slots, Iter, text_of, all_done, texts, output_of, outputs}
use Rattle.pl_frame.specs.Ordering.{Each}
use Rattle.pl_frame.specs.Rising.{Risen, output_with, outputs_in, RisingLaw}
use Rattle.pl_frame.proofs.Values.{and_first, and_second}
use Rattle.pl_frame.proofs.Assigning.{tip, top, top_with}
use Rattle.pl_frame.proofs.Iteration.{Laid, Written, Link, Between}
use Rattle.pl_frame.proofs.Turns.{cell, not_index, between_same, nothing_yet, at_first, Done_well, Good, good, table, All_done}
use Rattle.pl_frame.proofs.Orders.{each_append, after_held, slots_written}
use Rattle.pl_frame.proofs.Fresh.{some_slot, with_classes}
use Rattle.pl_frame.proofs.Classes.{class_there, Classed, classed_start, classed_pass}
use Rattle.pl_frame.proofs.Passes.{Passed, passed}

-- ## Values of the index

indices_last : (a : ℤ) (n : ℕ) → indices a (suc n) ≡ indices a n ++ (a +ℤ pos n) ∷ []
indices_last a zero = let e : a ≡ a +ℤ pos 0 = omega (arith, ints) in ap (λ (z : ℤ). z ∷ []) e
indices_last a (suc n) =
    let e : ((a +ℤ pos 1) +ℤ pos n) ≡ a +ℤ pos (suc n) = omega (arith, ints) in
    ap (λ (zs : List ℤ). a ∷ zs) (indices_last (a +ℤ pos 1) n)
    ∙ ap (λ (z : ℤ). a ∷ (indices (a +ℤ pos 1) n ++ z ∷ [])) e

-- the place of the next value is above
next_place : (i : ℤ) → int_lt i (pos 1) ≡ false → tip i ≤ most → tip i ≤ place_of (i +ℤ pos 1)
next_place (pos a) h m =
    let low : 1 ≤ a = ltb-false a 1 h in
    let e : (pos a +ℤ pos 1) ≡ pos (a + 1) = omega (arith, ints) in
    subst (λ (z : ℤ). tip (pos a) ≤ place_of z) (sym e) (omega arith)
next_place (negsuc a) h m = absurd (cc)

abbrev class_or : Option Class → Class
class_or None = Int
class_or (Some c) = c

module _ (program : Resolved) (q : LoopQuestion) (env : Workspace) (turns depth : ℕ) (L : Laid program q env) where
  abbrev Target : ℕ → Type 0
  Target = Written program q env depth L

  abbrev Amid : (ℕ → List (ℕ × ℤ)) → Workspace → Type 0
  Amid = Between program q env depth L

  abbrev cells_of : List ℤ → ℕ → List (ℕ × ℤ)
  cells_of = table program q env turns depth L

  abbrev Well : ℤ → Type 0
  Well = Done_well program q env turns depth L

  texts_last : (is : List ℤ) (i : ℤ) → texts program turns depth q env (is ++ i ∷ []) ≡ texts program turns depth q env is ++ text_of (Iter program turns depth q env i).shown
  texts_last [] i = append-nil (text_of (Iter program turns depth q env i).shown)
  texts_last (j ∷ is) i =
      ap (λ (t : List ℕ). text_of (Iter program turns depth q env j).shown ++ t) (texts_last is i)
      ∙ sym (append_assoc (text_of (Iter program turns depth q env j).shown) (texts program turns depth q env is) (text_of (Iter program turns depth q env i).shown))

  cells_last : (is : List ℤ) (i : ℤ) (s : ℕ) → cells_of (is ++ i ∷ []) s ≡ cells_of is s ++ (place_of i, cell program q env turns depth L i s) ∷ []
  cells_last [] i s = refl
  cells_last (j ∷ is) i s = ap (λ (ws : List (ℕ × ℤ)). (place_of j, cell program q env turns depth L j s) ∷ ws) (cells_last is i s)

  -- ## The passes

  -- so many passes are done: so are these iterations by themselves
  record Up (n : ℕ) (W : Workspace) (text : List ℕ) : Type 0 where
    done : Each Well (indices q.first n)
    told : texts program turns depth q env (indices q.first n) ≡ text
    holds : Amid (cells_of (indices q.first n)) W
    rises : (s : ℕ) → Target s → top (cells_of (indices q.first n) s) ≤ place_of (q.first +ℤ pos n)

  module _ (k : ℕ → Option Class) (agrees : (s : ℕ) (c : Class) → Some c ≡ k s → c ≡ L.classes s) where
    one_more : (n : ℕ) (before : Workspace) (told : List ℕ) (U : Up n before told) (W : Workspace) (text : List ℕ) → Passed program q env turns depth L k agrees (q.first +ℤ pos n) (cells_of (indices q.first n)) U.rises told W text → Up (suc n) W text
    one_more n before told U W text P =
        let i : ℤ = q.first +ℤ pos n in
        let is : List ℤ = indices q.first n in
        record {
          done = subst (Each Well) (sym (indices_last q.first n)) (each_append Well is (i ∷ []) U.done (P.well, tt));
          told = ap (λ (js : List ℤ). texts program turns depth q env js) (indices_last q.first n) ∙ texts_last is i ∙ ap (λ (t : List ℕ). t ++ text_of (Iter program turns depth q env i).shown) U.told ∙ sym P.prints;
          holds = between_same program q env turns depth L (λ s. cells_of is s ++ (place_of i, cell program q env turns depth L i s) ∷ []) (cells_of (indices q.first (suc n))) W (λ s w. sym (cells_at s)) P.holds;
          rises = λ s w.
              let G : Good program q env turns depth L i s = good program q env turns depth L i P.well s w in
              let tops : top (cells_of (indices q.first (suc n)) s) ≡ max (top (cells_of is s)) (tip i) = ap top (cells_at s) ∙ top_with (cells_of is s) i (cell program q env turns depth L i s) in
              let low : top (cells_of is s) ≤ place_of i = U.rises s w in
              let next : tip i ≤ place_of (i +ℤ pos 1) = next_place i G.low G.within in
              let same : ((q.first +ℤ pos n) +ℤ pos 1) ≡ q.first +ℤ pos (suc n) = omega (arith, ints) in
              subst (λ (z : ℤ). top (cells_of (indices q.first (suc n)) s) ≤ place_of z) same (omega arith);
        }
      where
        cells_at : (s : ℕ) → cells_of (indices q.first (suc n)) s ≡ cells_of (indices q.first n) s ++ (place_of (q.first +ℤ pos n), cell program q env turns depth L (q.first +ℤ pos n) s) ∷ []
        cells_at s = ap (λ (js : List ℤ). cells_of js s) (indices_last q.first n) ∙ cells_last (indices q.first n) (q.first +ℤ pos n) s

    risen_up : (n : ℕ) (W : Workspace) (text : List ℕ) → Risen program depth q env n W text → Classed program depth q env k W → Up n W text
    risen_up zero W text P C = record {
      done = tt;
      told = sym P.1;
      holds = subst (Amid (cells_of [])) (sym P.0) (between_same program q env turns depth L (nothing_yet program q env turns depth L) (cells_of []) env (λ s w. refl) (at_first program q env turns depth L));
      rises = λ s w. omega arith;
    }
    risen_up (suc n) W text H C =
        let i : ℤ = q.first +ℤ pos n in
        let before : Classed program depth q env k H.now = classed_pass program depth q env k L.at L.at_is (not_index program q env turns depth L) i H.now
        (classed_start program depth q env k i (start_of program q H.now i) H.told _ W text H.pass C) in
        let U : Up n H.now H.told = risen_up n H.now H.told H.come before in
        one_more n H.now H.told U W text (passed program q env turns depth L k agrees i (cells_of (indices q.first n)) U.rises H.told H.now U.holds W text H.pass C)

  -- ## What they come to

  all_are_done : (is : List ℤ) → Each Well is → all_done program turns depth q env is ≡ true
  all_are_done [] done = refl
  all_are_done (i ∷ is) done = ap (λ (o : Option Workspace). is_some o && all_done program turns depth q env is) done.0.1 ∙ all_are_done is done.1

  with_output : (s : ℕ) (o : Option Value) (more : List Output) → output_of s (Ok o) (Ok more) ≡ Ok (output_with s o more)
  with_output s None more = refl
  with_output s (Some v) more = refl

  outputs_are : (end : Workspace) (is : List ℤ) → All_done program q env turns depth L is → ((s : ℕ) → Target s → Link program q env depth L end s (cells_of is s)) → (slots : List ℕ) → Each Target slots → outputs program turns depth q env is slots ≡ Ok (outputs_in end slots)
  outputs_are end is done held [] all = refl
  outputs_are end is done held (s ∷ slots) all =
      ap (λ (r : Result (Option Value) ErrKind). output_of s r (outputs program turns depth q env is slots)) (after_held program q env turns depth L is done s all.0 end (held s all.0))
      ∙ ap (λ (m : Result (List Output) Clash). output_of s (Ok (value_at end s)) m) (outputs_are end is done held slots all.1)
      ∙ with_output s (value_at end s) (outputs_in end slots)

pub rising_order : RisingLaw
rising_order program turns depth q env end text form slots ready R =
    let at = some_slot (slot_of program (body_frame q) q.index.text) (and_first (is_some (slot_of program (body_frame q) q.index.text)) _ form) in
    let items : list_all (is_item program (body_frame q) q.index (written_in q.body)) q.body ≡ true = and_second (is_some (slot_of program (body_frame q) q.index.text)) _ form in
    let k : ℕ → Option Class = λ s. class_there (value_at end s) in
    let L : Laid program q env = with_classes program q env turns depth at.0 at.1 (slots at.0 at.1) ready items (λ s. class_or (k s)) in
    let U : Up program q env turns depth L q.count end text =
    risen_up program q env turns depth L k (λ s c e. ap class_or e) q.count end text R (λ s w none u held. sym (ap class_there held)) in (
      all_are_done program q env turns depth L (indices q.first q.count) U.done,
      U.told,
      outputs_are program q env turns depth L end (indices q.first q.count) U.done U.holds.held (written_slots program q) (slots_written program q env turns depth L [] tt (written_in q.body) (λ n among. among)),
    )
