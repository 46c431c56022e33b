-- An ordinary loop over the row of a range goes pass by pass as the plain run of a loop over workers.
use Rattle.std.specs.Prelude.{◌+ℤ◌, map, slice_set}
use Rattle.std.specs.List.{list_all}
use Rattle.std.proofs.Common.{◌≡◌, ◌∙◌, ℕ, zero, suc, ◌+◌, ◌<◌, ℤ, pos, List, [], ◌∷◌, ◌++◌, length, Bool, true, Option, Some, None, arith, refl, sym, ap, ◌≤◌}
use Rattle.std.proofs.lemmas.Int.{ints}
use Rattle.std.proofs.lemmas.List.{append-nil, length-set, map-append}
use Rattle.pl_base.specs.declared.choice.Choice.{Choice}
use Rattle.pl_base.specs.declared.errors.Place.{Place}
use Rattle.pl_base.specs.declared.errors.ScriptError.{ScriptError}
use Rattle.pl_values.specs.declared.value.Value.{Value}
use Rattle.pl_values.specs.Workspaces.{value_at}
use Rattle.pl_operators.specs.Bracketing.{number_of}
use Rattle.pl_resolve.specs.declared.resolved.Resolved.{Resolved}
use Rattle.pl_meaning.specs.declared.frame.Frame.{Frame}
use Rattle.pl_meaning.specs.declared.frame.Exit.{Exit}
use Rattle.pl_meaning.specs.declared.frame.Exit.TheVariants.{Onward}
use Rattle.pl_meaning.specs.Accesses.{take_turn, write}
use Rattle.pl_meaning.specs.Logs.{Workspace, LoopQuestion, Trace, Byte}
use Rattle.pl_meaning.specs.Names.{slot_of}
use Rattle.pl_meaning.specs.Running.{Rest, Outcome, before}
use Rattle.pl_meaning.specs.Runs.{finished, failed}
use Rattle.pl_meaning.specs.Parts.{below, block_in, block_from, level_at, with_slot, written_in, after_pass, columns_from}
use Rattle.pl_meaning.specs.Forms.{is_item}
use Rattle.pl_meaning.specs.Loops.{body_frame, Iter, end_of, indices, plain, plain_on, text_of}
use Rattle.pl_frame.specs.Seeing.{Course, no_course, standing}
use Rattle.pl_frame.specs.Ordering.{texts_on, plain_texts}
use Rattle.pl_frame.specs.Ordinary.{statement_frame}
use Rattle.pl_frame.proofs.Framed.{shown_twice}
use Rattle.pl_frame.proofs.Slots.{set_here}
use Rattle.pl_frame.proofs.Turns.{done_of}
use Rattle.pl_frame.proofs.Anywhere.{Leads, leads}
use Rattle.pl_frame.proofs.Ranges.{row_of, column_is}

same_end : (a b : Workspace) → Some a ≡ Some b → a ≡ b
same_end a b e = cc

-- all that is shown is bytes
pub all_bytes : (ts : List Trace) → ts ≡ map Byte (text_of ts)
all_bytes [] = refl
all_bytes (Byte b ∷ ts) = ap (λ (us : List Trace). Byte b ∷ us) (all_bytes ts)

-- what the index has behind so many passes
abbrev pub index_behind : ℕ → ℤ → Option Value → Option Value
index_behind zero i v = v
index_behind (suc n) i v = Some (number_of (i +ℤ pos n))

index_next : (n : ℕ) (i : ℤ) → index_behind n (i +ℤ pos 1) (Some (number_of i)) ≡ Some (number_of (i +ℤ pos n))
index_next zero i = let e : i ≡ i +ℤ pos 0 = omega (arith, ints) in ap (λ (z : ℤ). Some (number_of z)) e
index_next (suc n) i = let e : ((i +ℤ pos 1) +ℤ pos n) ≡ i +ℤ pos (suc n) = omega (arith, ints) in ap (λ (z : ℤ). Some (number_of z)) e

module _ (program : Resolved) (q : LoopQuestion) (turns depth : ℕ) (at : ℕ) (at_is : slot_of program (body_frame q) q.index.text ≡ Some at) (items : list_all (is_item program (body_frame q) q.index (written_in q.body)) q.body ≡ true) (client : Bool) (given wanted : ℕ) where
  abbrev f : Frame
  f = body_frame q

  -- the frame of the statement `for`
  abbrev g : Frame
  g = statement_frame q client given wanted

  abbrev begin : Workspace → ℤ → Workspace
  begin W i = slice_set W at (Some (number_of i))

  pub iter_is : (W : Workspace) (i : ℤ) → Iter program turns depth q W i ≡ block_from program (below program depth) f q.body finished failed (standing (begin W i) turns [] no_course)
  unfolding Iter block_in
  iter_is W i = ap (λ (o : Option ℕ). block_from program (below program depth) f q.body finished failed (standing (with_slot W o (number_of i)) turns [] no_course)) at_is

  -- ## One pass

  record Led (i : ℤ) (W one : Workspace) : Type 0 where
    goes_on : (k : Exit → Rest) (h : ScriptError → Rest) (t : ℕ) (c : List Choice) (r : Course) → block_from program (below program depth) g q.body k h (standing (begin W i) t c r) ≡ before (map Byte (text_of (Iter program turns depth q W i).shown)) (k Onward (standing one t c r))
    index : value_at one at ≡ Some (number_of i)
    long : length one ≡ length W

  led : (i : ℤ) (W one : Workspace) → at < length W → end_of (Iter program turns depth q W i).ending ≡ Some one → Led i W one
  led i W one within ends =
      let d = done_of (Iter program turns depth q W i).ending one ends in
      let same_depth : depth ≤ depth = omega arith in
      let R : Leads program q depth (written_in q.body) i at at_is depth same_depth client given wanted q.body (begin W i) one =
      leads program q depth (written_in q.body) i at at_is depth same_depth client given wanted q.body items (begin W i) one (set_here W at (number_of i) within) turns [] d.0 no_course (sym (ap (λ (x : Outcome). x.ending) (iter_is W i)) ∙ d.1) in
      let iter : Iter program turns depth q W i ≡ before R.shown (finished Onward (standing one turns [] no_course)) = iter_is W i ∙ R.by_itself finished failed turns [] no_course in
      let shows : R.shown ≡ map Byte (text_of (Iter program turns depth q W i).shown) = sym (append-nil R.shown) ∙ sym (ap (λ (x : Outcome). x.shown) iter) ∙ all_bytes (Iter program turns depth q W i).shown in
      record {
        goes_on = λ k h t c r. R.goes_on k h t c r ∙ ap (λ (ts : List Trace). before ts (k Onward (standing one t c r))) shows;
        index = R.index;
        long = R.long ∙ length-set W at (Some (number_of i));
      }

  -- ## All passes that are left

  abbrev told : List ℤ → Workspace → List Trace
  told is W = map Byte (plain_texts program turns depth q is W)

  abbrev passing : ℕ → ℕ → Place → (Exit → Rest) → (ScriptError → Rest) → Rest
  passing done n place k h = columns_from program (level_at program (below program depth)) g place at (row_of q.first q.count) q.body done n k h

  pub record Taken (n done : ℕ) (i : ℤ) (W end : Workspace) : Type 0 where
    pub goes_on : (place : Place) (k : Exit → Rest) (h : ScriptError → Rest) (left : ℕ) (c : List Choice) (r : Course) → passing done n place k h (standing W (n + left) c r) ≡ before (told (indices i n) W) (k Onward (standing end left c r))
    pub index : value_at end at ≡ index_behind n i (value_at W at)
    pub long : length end ≡ length W

  -- a turn, the index, and then the body
  begins : (n done : ℕ) (i : ℤ) → i ≡ q.first +ℤ pos done → done < q.count → (W : Workspace) (place : Place) (k : Exit → Rest) (h : ScriptError → Rest) (t left : ℕ) → t ≡ suc left → (c : List Choice) (r : Course) → passing done (suc n) place k h (standing W t c r) ≡ block_from program (below program depth) g q.body (λ x. after_pass program x (columns_from program (level_at program (below program depth)) g place at (row_of q.first q.count) q.body (done + 1) n) k h) h (standing (begin W i) left c r)
  unfolding take_turn write block_in
  begins n done i is within W place k h t left turn c r =
      ap (λ (u : ℕ). passing done (suc n) place k h (standing W u c r)) turn
      ∙ ap (λ (v : Value). block_from program (below program depth) g q.body (λ x. after_pass program x (columns_from program (level_at program (below program depth)) g place at (row_of q.first q.count) q.body (done + 1) n) k h) h (standing (slice_set W at (Some v)) left c r)) (column_is q.first q.count done within)
      ∙ ap (λ (z : ℤ). block_from program (below program depth) g q.body (λ x. after_pass program x (columns_from program (level_at program (below program depth)) g place at (row_of q.first q.count) q.body (done + 1) n) k h) h (standing (begin W z) left c r)) (sym is)

  one_more : (n done : ℕ) (i : ℤ) → i ≡ q.first +ℤ pos done → done < q.count → (W one end : Workspace) → end_of (Iter program turns depth q W i).ending ≡ Some one → Led i W one → Taken n (done + 1) (i +ℤ pos 1) one end → Taken (suc n) done i W end
  one_more n done i is within W one end ends L T = record {
    goes_on = λ place k h left c r.
        let turn : suc n + left ≡ suc (n + left) = omega arith in
        begins n done i is within W place k h (suc n + left) (n + left) turn c r
        ∙ L.goes_on (λ x. after_pass program x (columns_from program (level_at program (below program depth)) g place at (row_of q.first q.count) q.body (done + 1) n) k h) h (n + left) c r
        ∙ ap (before (map Byte (text_of (Iter program turns depth q W i).shown))) (T.goes_on place k h left c r)
        ∙ shown_twice (map Byte (text_of (Iter program turns depth q W i).shown)) (told (indices (i +ℤ pos 1) n) one) (k Onward (standing end left c r))
        ∙ ap (λ (ts : List Trace). before ts (k Onward (standing end left c r))) joined;
    index = T.index ∙ ap (index_behind n (i +ℤ pos 1)) L.index ∙ index_next n i;
    long = T.long ∙ L.long;
  }
    where
      joined : map Byte (text_of (Iter program turns depth q W i).shown) ++ told (indices (i +ℤ pos 1) n) one ≡ told (indices i (suc n)) W
      joined =
          sym (map-append Byte (text_of (Iter program turns depth q W i).shown) (plain_texts program turns depth q (indices (i +ℤ pos 1) n) one))
          ∙ ap (λ (o : Option Workspace). map Byte (text_of (Iter program turns depth q W i).shown ++ texts_on program turns depth q (plain_texts program turns depth q (indices (i +ℤ pos 1) n)) o)) (sym ends)

  pub taken : (n done : ℕ) (i : ℤ) → i ≡ q.first +ℤ pos done → done + n ≡ q.count → (W end : Workspace) → at < length W → plain program turns depth q (indices i n) W ≡ Some end → Taken n done i W end
  taken zero done i is all W end within h = record {
    goes_on = λ place k h' left c r. let e : 0 + left ≡ left = omega arith in ap (λ (t : ℕ). k Onward (standing W t c r)) e ∙ ap (λ (X : Workspace). k Onward (standing X left c r)) (same_end W end h);
    index = ap (λ (X : Workspace). value_at X at) (sym (same_end W end h));
    long = ap (λ (X : Workspace). length X) (sym (same_end W end h));
  }
  taken (suc n) done i is all W end within h = by_end (end_of (Iter program turns depth q W i).ending) refl h (λ one ends g.
      let L : Led i W one = led i W one within ends in
      let next : (i +ℤ pos 1) ≡ q.first +ℤ pos (done + 1) = omega (arith, ints, is) in
      let long : length one ≡ length W = L.long in
      one_more n done i is (omega arith) W one end ends L (taken n (done + 1) (i +ℤ pos 1) next (omega arith) one end (omega arith) g))
    where
      by_end : (o : Option Workspace) → end_of (Iter program turns depth q W i).ending ≡ o → plain_on program turns depth q (plain program turns depth q (indices (i +ℤ pos 1) n)) o ≡ Some end → ((one : Workspace) → end_of (Iter program turns depth q W i).ending ≡ Some one → plain program turns depth q (indices (i +ℤ pos 1) n) one ≡ Some end → Taken (suc n) done i W end) → Taken (suc n) done i W end
      by_end None ends g rest = absurd (cc)
      by_end (Some one) ends g rest = rest one ends g
