-- An iteration that ends does the same with more levels, so a loop of which all iterations end comes to the same.
use Rattle.std.specs.Prelude.{is_some, slice_set}
use Rattle.std.specs.List.{list_all}
use Rattle.std.proofs.Common.{◌≡◌, ◌∙◌, ℕ, ◌<◌, ◌≤◌, ℤ, List, [], ◌∷◌, ◌++◌, length, ltb, Bool, true, false, Some, Result, arith, refl, sym, ap}
use Rattle.std.proofs.lemmas.Bool.{ltb-true, ltb-false}
use Rattle.pl_values.specs.Workspaces.{value_at}
use Rattle.pl_operators.specs.Bracketing.{number_of}
use Rattle.pl_resolve.specs.declared.resolved.Resolved.{Resolved}
use Rattle.pl_meaning.specs.declared.event.Clash.{Clash}
use Rattle.pl_meaning.specs.declared.event.Output.{Output}
use Rattle.pl_meaning.specs.Logs.{Workspace, LoopQuestion}
use Rattle.pl_meaning.specs.Names.{slot_of}
use Rattle.pl_meaning.specs.Running.{Outcome}
use Rattle.pl_meaning.specs.Runs.{finished, failed}
use Rattle.pl_meaning.specs.Parts.{written_in}
use Rattle.pl_meaning.specs.Forms.{is_item}
use Rattle.pl_meaning.specs.Loops.{Write, body_frame, Iter, end_of, text_of, wrote, merged, output_of, ends_of, all_done, texts, writes, after, outputs}
use Rattle.pl_frame.specs.Seeing.{no_course}
use Rattle.pl_frame.specs.Ordering.{Each}
use Rattle.pl_frame.proofs.Values.{and_first, and_second}
use Rattle.pl_frame.proofs.Slots.{set_here}
use Rattle.pl_frame.proofs.Turns.{done_of}
use Rattle.pl_frame.proofs.Fresh.{some_end}
use Rattle.pl_frame.proofs.Anywhere.{Leads, leads}
use Rattle.pl_frame.proofs.PassByPass.{iter_is}

module _ (program : Resolved) (q : LoopQuestion) (env : Workspace) (turns : ℕ) (at : ℕ) (at_is : slot_of program (body_frame q) q.index.text ≡ Some at) (within : at < length env) (items : list_all (is_item program (body_frame q) q.index (written_in q.body)) q.body ≡ true) where
  deeper : (m n : ℕ) → m ≤ n → (i : ℤ) → is_some (ends_of program turns m q env i) ≡ true → Iter program turns m q env i ≡ Iter program turns n q env i
  deeper m n le i h =
      let e = some_end (ends_of program turns m q env i) h in
      let d = done_of (Iter program turns m q env i).ending e.0 e.1 in
      let begin : Workspace = slice_set env at (Some (number_of i)) in
      let R : Leads program q m (written_in q.body) i at at_is n le false 0 0 q.body begin e.0 =
      leads program q m (written_in q.body) i at at_is n le false 0 0 q.body items begin e.0 (set_here env at (number_of i) within) turns [] d.0 no_course (sym (ap (λ (x : Outcome). x.ending) (iter_is program q turns m at at_is items false 0 0 env i)) ∙ d.1) in
      iter_is program q turns m at at_is items false 0 0 env i
      ∙ R.by_itself finished failed turns [] no_course
      ∙ sym (R.goes_on finished failed turns [] no_course)
      ∙ sym (iter_is program q turns n at at_is items false 0 0 env i)

  module _ (m n : ℕ) where
    abbrev pub Same : ℤ → Type 0
    Same i = Iter program turns m q env i ≡ Iter program turns n q env i

    same : (i : ℤ) → is_some (ends_of program turns m q env i) ≡ true → is_some (ends_of program turns n q env i) ≡ true → Same i
    same i h g = by_test (ltb m n) refl
      where
        by_test : (t : Bool) → ltb m n ≡ t → Same i
        by_test true e = let less : m < n = ltb-true m n e in deeper m n (omega arith) i h
        by_test false e = sym (deeper n m (ltb-false m n e) i g)

    pub all_same : (is : List ℤ) → all_done program turns m q env is ≡ true → all_done program turns n q env is ≡ true → Each Same is
    all_same [] h g = tt
    all_same (i ∷ is) h g = (same i (and_first _ (all_done program turns m q env is) h) (and_first _ (all_done program turns n q env is) g), all_same is (and_second _ (all_done program turns m q env is) h) (and_second _ (all_done program turns n q env is) g))

    pub same_texts : (is : List ℤ) → Each Same is → texts program turns m q env is ≡ texts program turns n q env is
    same_texts [] all = refl
    same_texts (i ∷ is) all =
        ap (λ (x : Outcome). text_of x.shown ++ texts program turns m q env is) all.0
        ∙ ap (λ (t : List ℕ). text_of (Iter program turns n q env i).shown ++ t) (same_texts is all.1)

    same_writes : (s : ℕ) (is : List ℤ) → Each Same is → writes program turns m q env s is ≡ writes program turns n q env s is
    same_writes s [] all = refl
    same_writes s (i ∷ is) all =
        ap (λ (x : Outcome). wrote s i (end_of x.ending) ++ writes program turns m q env s is) all.0
        ∙ ap (λ (ws : List Write). wrote s i (ends_of program turns n q env i) ++ ws) (same_writes s is all.1)

    pub same_outputs : (is : List ℤ) → Each Same is → (slots : List ℕ) → outputs program turns m q env is slots ≡ outputs program turns n q env is slots
    same_outputs is all [] = refl
    same_outputs is all (s ∷ slots) =
        ap (λ (ws : List Write). output_of s (merged (value_at env s) ws) (outputs program turns m q env is slots)) (same_writes s is all)
        ∙ ap (λ (r : Result (List Output) Clash). output_of s (after program turns n q env is s) r) (same_outputs is all slots)
