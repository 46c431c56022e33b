-- The answers that the definition gives, from what the iterations came to.
use Rattle.std.proofs.Common.{◌≡◌, ℕ, suc, zero, nat_eq, ℤ, List, [], ◌∷◌, map, Bool, true, not, is_some, Option, Some, Result, Ok, Err, IfOk, if◌then◌else◌, refl, sym, ap, subst, ◌∙◌, arith}
use Rattle.std.proofs.Math.Dec.{eqb-suc-zero}
use Rattle.std.proofs.lemmas.List.{append-nil}
use Rattle.std.proofs.lemmas.Bool.{eq-eqb}
use Rattle.std.specs.Cmp.Lexicographic.{pointwise}
use Rattle.pl_base.specs.declared.choice.Choice.TheVariants as choice
use Rattle.pl_base.specs.declared.errors.ErrKind.{ErrKind}
use Rattle.pl_base.specs.declared.errors.ScriptError.{ScriptError}
use Rattle.pl_base.specs.declared.memory.NoMemory.{NoMemory}
use Rattle.pl_values.specs.declared.value.Value.{Value}
use Rattle.pl_values.specs.Workspaces.{value_at}
use Rattle.pl_resolve.specs.declared.resolved.Resolved.{Resolved}
use Rattle.pl_meaning.specs.declared.event.Answer.TheVariants as answer
use Rattle.pl_meaning.specs.declared.event.Output.{Output}
use Rattle.pl_meaning.specs.declared.event.Clash.{Clash}
use Rattle.pl_meaning.specs.Logs.{Workspace, LoopQuestion}
use Rattle.pl_meaning.specs.Running.{Raised}
use Rattle.pl_meaning.specs.Loops.{Iter, loop_answer, all_done, texts, writes, written_slots, indices, outputs, output_of, come_to, is_index, covers, headed}
use Rattle.pl_loop.specs.declared.variables.Variable.{Variable}
use Rattle.pl_loop.specs.declared.running.Done.{Done}
use Rattle.pl_loop.specs.Coming.{begun, put_more, outputs_by, no_writes, Stands, whole, ending_of}

whole_more : (n : ℕ) → whole (suc n) ≡ (suc n ∷ []) ∷ []
whole_more n = ap (λ (b : Bool). if b then [] else ((suc n ∷ []) ∷ [])) (eqb-suc-zero n)

same_text : (xs : List ℕ) → pointwise nat_eq xs xs ≡ true
same_text [] = refl
same_text (x ∷ xs) = let here : nat_eq x x ≡ true = eq-eqb x x refl in rw here (same_text xs)

pub clashed_ok : (program : Resolved) (q : LoopQuestion) (text : List ℕ) (r : Result Done NoMemory) (x y : Result (List Output) Clash) → x ≡ y → IfOk r (λ d. (t : List ℕ) → d ≡ ending_of program q t x) → IfOk r (λ d. d ≡ ending_of program q text y)
clashed_ok program q text (Ok d) x y e h = h text ∙ ap (ending_of program q text) e
clashed_ok program q text (Err z) x y e h = h

pub done_ok : (program : Resolved) (q : LoopQuestion) (text : List ℕ) (r : Result Done NoMemory) (x y : Result (List Output) Clash) → x ≡ y → IfOk r (λ d. (p : Resolved) → d ≡ ending_of p q text x) → IfOk r (λ d. d ≡ ending_of program q text y)
done_ok program q text (Ok d) x y e h = h program ∙ ap (ending_of program q text) e
done_ok program q text (Err z) x y e h = h

module _ (program : Resolved) (turns depth : ℕ) (q : LoopQuestion) (env : Workspace) where
  -- one run of one piece has all iterations
  covers_more : (n : ℕ) → covers ((suc n ∷ []) ∷ []) (suc n) ≡ true
  covers_more n = grind (arith, eq-eqb)

  covers_whole : (n : ℕ) → covers (whole n) n ≡ true
  covers_whole zero = refl
  covers_whole (suc n) = subst (λ (w : List (List ℕ)). covers w (suc n) ≡ true) (sym (whole_more n)) (covers_more n)

  -- what variables come to by all writes is what the definition says
  outputs_as : (is : List ℤ) (slots : List ℕ) → outputs program turns depth q env is slots ≡ outputs_by (λ slot. writes program turns depth q env slot is) (map (begun env) slots)
  outputs_as is [] = refl
  outputs_as is (slot ∷ slots) =
      let now : Result (Option Value) ErrKind = put_more (not (is_some (value_at env slot))) (Ok (value_at env slot)) (writes program turns depth q env slot is) in
      ap (λ r. output_of slot now r) (outputs_as is slots)

  by_result : (text : List ℕ) (r : Result (List Output) Clash) → all_done program turns depth q env (indices q.first q.count) ≡ true → texts program turns depth q env (indices q.first q.count) ≡ text → come_to program turns depth q env ≡ r → loop_answer program turns depth q env (ending_of program q text r).choice ≡ Some (ending_of program q text r).answer
  by_result text (Ok outs) d t e = rw (covers_whole q.count, d, e, t) refl
  by_result text (Err c) d t e = rw (d, e, same_text) refl

  finished : (text : List ℕ) (now : List Variable) (d : Done) → Stands program turns depth q env (indices q.first q.count) [] (map (begun env) (written_slots program q)) text now → d ≡ ending_of program q text (outputs_by no_writes now) → loop_answer program turns depth q env d.choice ≡ Some d.answer
  finished text now d s e = rw e (by_result text (outputs_by no_writes now) s.done (s.told ∙ append-nil _) (outputs_as (indices q.first q.count) (written_slots program q) ∙ s.put))

  fallen : (i : ℤ) (e : ScriptError) (d : Done) → is_index q i ≡ true → (Iter program turns depth q env i).ending ≡ Raised e [] → d ≡ record { choice = choice.Fail i; answer = answer.Raised (headed i e) } → loop_answer program turns depth q env d.choice ≡ Some d.answer
  fallen i e d within raised same = rw (same, within, raised) refl

  pub finished_ok : (r : Result Done NoMemory) (text : List ℕ) (now : List Variable) → Stands program turns depth q env (indices q.first q.count) [] (map (begun env) (written_slots program q)) text now → IfOk r (λ d. d ≡ ending_of program q text (outputs_by no_writes now)) → IfOk r (λ d. loop_answer program turns depth q env d.choice ≡ Some d.answer)
  finished_ok (Ok d) text now s e = finished text now d s e
  finished_ok (Err x) text now s e = e

  pub fallen_ok : (r : Result Done NoMemory) (i : ℤ) (e : ScriptError) → is_index q i ≡ true → (Iter program turns depth q env i).ending ≡ Raised e [] → IfOk r (λ d. d ≡ record { choice = choice.Fail i; answer = answer.Raised (headed i e) }) → IfOk r (λ d. loop_answer program turns depth q env d.choice ≡ Some d.answer)
  fallen_ok (Ok d) i e within raised same = fallen i e d within raised same
  fallen_ok (Err x) i e within raised same = same

  pub passed_ok : (r : Result Done NoMemory) (text : List ℕ) (outs : List Output) → all_done program turns depth q env (indices q.first q.count) ≡ true → texts program turns depth q env (indices q.first q.count) ≡ text → come_to program turns depth q env ≡ Ok outs → IfOk r (λ d. (p : Resolved) → d ≡ ending_of p q text (Ok outs)) → IfOk r (λ d. loop_answer program turns depth q env d.choice ≡ Some d.answer)
  passed_ok (Ok d) text outs done told come h = rw (h program) (by_result text (Ok outs) done told come)
  passed_ok (Err x) text outs done told come h = h

  -- the same, where the value of the index is told in other words
  pub fallen_near : (r : Result Done NoMemory) (i z k : ℤ) (e : ScriptError) → is_index q i ≡ true → (Iter program turns depth q env z).ending ≡ Raised e [] → IfOk r (λ d. d ≡ record { choice = choice.Fail k; answer = answer.Raised (headed k e) }) → z ≡ i → k ≡ i → IfOk r (λ d. loop_answer program turns depth q env d.choice ≡ Some d.answer)
  fallen_near r i z k e within raised same at_z at_k =
      fallen_ok r k e (subst (λ (x : ℤ). is_index q x ≡ true) (sym at_k) within) (subst (λ (x : ℤ). (Iter program turns depth q env x).ending ≡ Raised e []) (at_z ∙ sym at_k) raised) same
