-- An ordinary loop in the place of a loop over workers goes on as its answer does.
use Rattle.std.specs.Prelude.{◌&&◌, map, nat_eq, is_some, slice_set, if◌then◌else◌}
use Rattle.std.specs.Cmp.Lexicographic.{pointwise}
use Rattle.std.specs.List.{list_all}
use Rattle.std.proofs.Common.{◌≡◌, ◌∙◌, ℕ, ◌+◌, ℤ, pos, ◌+ℤ◌, List, [], ◌∷◌, Bool, true, false, Option, Some, None, Result, Ok, Err, arith, refl, sym, ap}
use Rattle.std.proofs.lemmas.Int.{ints}
use Rattle.pl_base.specs.declared.choice.Choice.{Choice}
use Rattle.pl_base.specs.declared.choice.Choice.TheVariants as choice
use Rattle.pl_base.specs.declared.errors.ErrKind.{ErrKind}
use Rattle.pl_base.specs.declared.errors.Place.{Place}
use Rattle.pl_base.specs.declared.errors.ScriptError.{ScriptError}
use Rattle.pl_array.specs.Arrays.{Array}
use Rattle.pl_syntax.specs.declared.expr.Expr.{out-Expr}
use Rattle.pl_values.specs.declared.value.Value.{Value}
use Rattle.pl_values.specs.declared.value.Value.TheVariants as value
use Rattle.pl_values.specs.declared.value.Value.TheVariants.{outs-Array}
use Rattle.pl_operators.specs.Operands.{array_at, array_in}
use Rattle.pl_operators.specs.Ranging.{range_of}
use Rattle.pl_resolve.specs.declared.resolved.Resolved.{Resolved}
use Rattle.pl_meaning.specs.declared.event.Answer.{Answer}
use Rattle.pl_meaning.specs.declared.event.Answer.TheVariants as answer
use Rattle.pl_meaning.specs.declared.event.Clash.{Clash}
use Rattle.pl_meaning.specs.declared.event.Looped.{Looped}
use Rattle.pl_meaning.specs.declared.event.Output.{Output}
use Rattle.pl_meaning.specs.declared.frame.Exit.{Exit}
use Rattle.pl_meaning.specs.declared.frame.Frame.{Frame}
use Rattle.pl_meaning.specs.declared.frame.Exit.TheVariants.{Onward}
use Rattle.pl_meaning.specs.Accesses.{settle, write}
use Rattle.pl_meaning.specs.Logs.{Workspace, LoopQuestion, Byte}
use Rattle.pl_meaning.specs.Names.{slot_of}
use Rattle.pl_meaning.specs.Running.{Rest, State, Ending, before, tell}
use Rattle.pl_meaning.specs.Parts.{Level, below, level_at, written_in, counted, columned, taken, answered}
use Rattle.pl_meaning.specs.Forms.{is_item, is_form}
use Rattle.pl_meaning.specs.Loops.{body_frame, Iter, indices, written_slots, covers, is_index, name_at, clash_error, all_done, come_to, texts, by_runs, by_merge, by_fail, loop_answer, plain}
use Rattle.pl_frame.specs.Seeing.{Course, standing}
use Rattle.pl_frame.specs.Ordering.{HasSlot, IsReady, Each, Reorders}
use Rattle.pl_frame.specs.Ordinary.{with_last, from_last, statement_frame, OrdinaryLaw}
use Rattle.pl_frame.proofs.Values.{and_first, and_second}
use Rattle.pl_frame.proofs.Fresh.{some_slot}
use Rattle.pl_frame.proofs.Single.{every_order}
use Rattle.pl_frame.proofs.Ranges.{row_of, range_is, range_by_ends, two_ends}
use Rattle.pl_frame.proofs.PassByPass.{Taken, taken as all_taken}
use Rattle.pl_frame.proofs.Behind.{with_outputs, stands}
use Rattle.pl_frame.proofs.Levels.{Same, all_same, same_texts, same_outputs}

same_order : (is : List ℤ) → Reorders is is
same_order [] = Reorders.none
same_order (i ∷ is) = Reorders.beside (same_order is)

-- ## The answer

-- where the answer has variables, every iteration ended, and they are what the iterations come to
record Answered (program : Resolved) (turns depth : ℕ) (q : LoopQuestion) (env : Workspace) (l : Looped) : Type 0 where
  done : all_done program turns depth q env (indices q.first q.count) ≡ true
  outs : come_to program turns depth q env ≡ Ok l.outputs
  text : l.text ≡ texts program turns depth q env (indices q.first q.count)

module _ (program : Resolved) (turns depth : ℕ) (q : LoopQuestion) (env : Workspace) (l : Looped) where
  abbrev Known : Type 0
  Known = Answered program turns depth q env l

  same_loop : (a b : Looped) → ◌≡◌ {A = Option Answer} (Some (answer.Looped a)) (Some (answer.Looped b)) → a ≡ b
  same_loop a b e = cc

  by_outputs : (m : Result (List Output) Clash) → come_to program turns depth q env ≡ m → all_done program turns depth q env (indices q.first q.count) ≡ true → by_runs program turns depth q env m ≡ Some (answer.Looped l) → Known
  by_outputs (Err c) e done h = absurd (cc)
  by_outputs (Ok outs) e done h =
      let same : record { text = texts program turns depth q env (indices q.first q.count); outputs = outs } ≡ l = same_loop (record { text = texts program turns depth q env (indices q.first q.count); outputs = outs }) l h in
      record { done = done; outs = e ∙ ap (λ (x : Looped). Ok x.outputs) same; text = sym (ap (λ (x : Looped). x.text) same) }

  no_loop_fails : (i : ℤ) (x : Ending) → by_fail i x ≡ Some (answer.Looped l) → ⊥
  no_loop_fails i (Ending.Raised e c) h = cc
  no_loop_fails i (Ending.Done W c) h = cc
  no_loop_fails i (Ending.Asks p W) h = cc

  no_raised : (t : Bool) (e : ScriptError) → (if t then Some (answer.Raised e) else None) ≡ Some (answer.Looped l) → ⊥
  no_raised true e h = cc
  no_raised false e h = cc

  no_loop_clashes : (name : List ℕ) (m : Result (List Output) Clash) → by_merge program turns depth q env name m ≡ Some (answer.Looped l) → ⊥
  no_loop_clashes name (Ok outs) h = cc
  no_loop_clashes name (Err c) h = no_raised (pointwise nat_eq name (name_at program q c.slot)) (clash_error program q c) h

  known : (c : Choice) → loop_answer program turns depth q env c ≡ Some (answer.Looped l) → Known
  known (choice.Runs b) h = by_test (covers b.runs q.count) (all_done program turns depth q env (indices q.first q.count)) refl h
    where
      by_test : (s t : Bool) → all_done program turns depth q env (indices q.first q.count) ≡ t → (if s && t then by_runs program turns depth q env (come_to program turns depth q env) else None) ≡ Some (answer.Looped l) → Known
      by_test true true e h = by_outputs (come_to program turns depth q env) refl e h
      by_test true false e h = absurd (cc)
      by_test false t e h = absurd (cc)
  known (choice.Fail i) h = by_test (is_index q i) h
    where
      by_test : (t : Bool) → (if t then by_fail i (Iter program turns depth q env i).ending else None) ≡ Some (answer.Looped l) → Known
      by_test true h = absurd (no_loop_fails i (Iter program turns depth q env i).ending h)
      by_test false h = absurd (cc)
  known (choice.Merge name) h = by_test (all_done program turns depth q env (indices q.first q.count)) h
    where
      by_test : (t : Bool) → (if t then by_merge program turns depth q env name (come_to program turns depth q env) else None) ≡ Some (answer.Looped l) → Known
      by_test true h = absurd (no_loop_clashes name (come_to program turns depth q env) h)
      by_test false h = absurd (cc)
  known c h = absurd (cc)

-- ## The variables are put in

taken_is : (outs : List Output) (k : Unit {0} → Rest) (h : ScriptError → Rest) (W : Workspace) (t : ℕ) (c : List Choice) (r : Course) → taken outs k h (standing W t c r) ≡ k tt (standing (with_outputs W outs) t c r)
unfolding write
taken_is [] k h W t c r = refl
taken_is (o ∷ outs) k h W t c r = taken_is outs k h (slice_set W o.slot (Some o.value)) t c r

answered_is : (place : Place) (l : Looped) (k : Exit → Rest) (h : ScriptError → Rest) (W : Workspace) (t : ℕ) (c : List Choice) (r : Course) → answered place (answer.Looped l) k h (standing W t c r) ≡ before (map Byte l.text) (k Onward (standing (with_outputs W l.outputs) t c r))
unfolding tell
answered_is place l k h W t c r = ap (before (map Byte l.text)) (taken_is l.outputs (λ u. k Onward) h W t c r)

-- ## The statement

-- with the value of the range, and with its array
abbrev on_array : Resolved → ℕ → LoopQuestion → Bool → ℕ → ℕ → Place → (Exit → Rest) → (ScriptError → Rest) → Array → Rest
on_array program levels q client given wanted place k h a = counted program (level_at program (below program levels)) (statement_frame q client given wanted) place (slot_of program (statement_frame q client given wanted) q.index.text) a q.body k h

abbrev on_value : Resolved → ℕ → LoopQuestion → Bool → ℕ → ℕ → Place → (Exit → Rest) → (ScriptError → Rest) → Value → Rest
on_value program levels q client given wanted place k h v = settle place (array_in v) (on_array program levels q client given wanted place k h) h

array_is : (a : Array) → array_in (value.Array a) ≡ Ok a
array_is a = ap array_at (outs-Array a)

module _ (program : Resolved) (turns depth : ℕ) (q : LoopQuestion) (env : Workspace) (l : Looped) (form : is_form program (body_frame q) q.index q.body ≡ true) (slots : HasSlot program q env) (ready : IsReady program q env) (K : Answered program turns depth q env l) (client : Bool) (given wanted : ℕ) where
  abbrev d : Level
  d = level_at program (below program depth)

  abbrev g : Frame
  g = statement_frame q client given wanted

  same_end : (a b : Workspace) → Some a ≡ Some b → a ≡ b
  same_end a b e = cc

  -- over the row of the range
  over_row : (place : Place) (k : Exit → Rest) (h : ScriptError → Rest) (left : ℕ) (c : List Choice) (r : Course) → counted program d g place (slot_of program g q.index.text) (row_of q.first q.count) q.body k h (standing env (q.count + left) c r) ≡ answered q.place (answer.Looped l) (from_last program q k) h (standing env left c r)
  over_row place k h left c r =
      let at = some_slot (slot_of program (body_frame q) q.index.text) (and_first (is_some (slot_of program (body_frame q) q.index.text)) _ form) in
      let items : list_all (is_item program (body_frame q) q.index (written_in q.body)) q.body ≡ true = and_second (is_some (slot_of program (body_frame q) q.index.text)) _ form in
      let is : List ℤ = indices q.first q.count in
      let O = every_order program turns depth q env l.outputs is form slots ready K.done K.outs (same_order is) in
      let first : q.first ≡ q.first +ℤ pos 0 = omega (arith, ints) in
      let all : 0 + q.count ≡ q.count = omega arith in
      let T : Taken program q turns depth at.0 at.1 items client given wanted q.count 0 q.first env O.0 = all_taken program q turns depth at.0 at.1 items client given wanted q.count 0 q.first first all env O.0 (slots at.0 at.1) O.1 in
      let behind : O.0 ≡ with_last program q q.count (with_outputs env l.outputs) =
      stands program q env turns depth at.0 at.1 (slots at.0 at.1) ready items l.outputs O.0 T.long O.2 O.3 q.count
      (λ z. sym (same_end env O.0 (sym (ap (λ (n : ℕ). plain program turns depth q (indices q.first n) env) z) ∙ O.1))) T.index K.done K.outs in
      ap (λ (o : Option ℕ). counted program d g place o (row_of q.first q.count) q.body k h (standing env (q.count + left) c r)) at.1
      ∙ T.goes_on place k h left c r
      ∙ ap (λ (t : List ℕ). before (map Byte t) (k Onward (standing O.0 left c r))) (O.4 ∙ sym K.text)
      ∙ ap (λ (W : Workspace). before (map Byte l.text) (k Onward (standing W left c r))) behind
      ∙ sym (answered_is q.place l (from_last program q k) h env left c r)

pub ordinary : OrdinaryLaw
unfolding columned
ordinary program turns depth levels q env c l form slots ready answers ended client given wanted e x y here shown left choices co ends bounds place k h =
    let at = some_slot (slot_of program (body_frame q) q.index.text) (and_first (is_some (slot_of program (body_frame q) q.index.text)) _ form) in
    let items : list_all (is_item program (body_frame q) q.index (written_in q.body)) q.body ≡ true = and_second (is_some (slot_of program (body_frame q) q.index.text)) _ form in
    let is : List ℤ = indices q.first q.count in
    let A : Answered program turns depth q env l = known program turns depth q env l c answers in
    let same : Each (Same program q env turns at.0 at.1 (slots at.0 at.1) items depth levels) is = all_same program q env turns at.0 at.1 (slots at.0 at.1) items depth levels is A.done ended in
    let K : Answered program turns levels q env l = record {
      done = ended;
      outs = sym (same_outputs program q env turns at.0 at.1 (slots at.0 at.1) items depth levels is same (written_slots program q)) ∙ A.outs;
      text = A.text ∙ same_texts program q env turns at.0 at.1 (slots at.0 at.1) items depth levels is same;
    } in
    let f : Frame = statement_frame q client given wanted in
    let there : State = standing env (q.count + left) choices co in
    let two = two_ends program levels f e here there shown x y ends in
    range_by_ends program (below program levels) f e two.0 two.1 two.2 (on_value program levels q client given wanted place k h) h here
    ∙ ends (λ xy. settle (out-Expr e).place (range_of xy.0 None xy.1) (on_value program levels q client given wanted place k h) h) h
    ∙ ap (λ (z : Result Value ErrKind). before shown (settle (out-Expr e).place z (on_value program levels q client given wanted place k h) h there)) (range_is x y (record { first = q.first; count = q.count }) bounds)
    ∙ ap (λ (z : Result Array ErrKind). before shown (settle place z (on_array program levels q client given wanted place k h) h there)) (array_is (row_of q.first q.count))
    ∙ ap (before shown) (over_row program turns levels q env l form slots ready K client given wanted place k h left choices co)
