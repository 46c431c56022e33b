-- One more iteration, and what is left then.
use Rattle.std.proofs.Common.{◌≡◌, ℕ, ◌+◌, ◌-◌, ◌<◌, suc, ℤ, pos, ◌+ℤ◌, List, [], ◌∷◌, ◌++◌, map, Bool, Option, Some, Result, Ok, Err, refl, sym, ap, subst, ◌∙◌, append_assoc, arith}
use Rattle.std.proofs.lemmas.Int.{ints}
use Rattle.pl_base.specs.declared.errors.ErrKind.{ErrKind}
use Rattle.pl_values.specs.declared.value.Value.{Value}
use Rattle.pl_operators.specs.Operands.{and_then}
use Rattle.pl_resolve.specs.declared.resolved.Resolved.{Resolved}
use Rattle.pl_meaning.specs.declared.frame.Frame.{Frame}
use Rattle.pl_meaning.specs.declared.ended.Ended.{Ended}
use Rattle.pl_meaning.specs.declared.ended.Ended.TheVariants as ended
use Rattle.pl_meaning.specs.Logs.{Workspace, Trace, Byte, LoopQuestion, grown}
use Rattle.pl_meaning.specs.Running.{Outcome, Done}
use Rattle.pl_meaning.specs.Runs.{Carries, run_of}
use Rattle.pl_meaning.specs.Loops.{Iter, Write, put_in, put_all, wrote, writes, ends_of, end_of, texts, text_of, indices, no_rules, body_frame, start_of, output_of}
use Rattle.pl_loop.specs.declared.variables.Variable.{Variable}
use Rattle.pl_loop.specs.Passes.{printer_log}
use Rattle.pl_loop.specs.Coming.{put_more, joined, outputs_by, Ran, Stands}

-- writes and then others

and_then_put : (f : Bool) (r : Result Value ErrKind) (a b : List Write) → ((o : Option Value) → put_all f o (a ++ b) ≡ and_then (put_all f o a) (λ x. put_all f x b)) → and_then r (λ v. put_all f (Some v) (a ++ b)) ≡ and_then (and_then r (λ v. put_all f (Some v) a)) (λ x. put_all f x b)
and_then_put f (Ok v) a b h = h (Some v)
and_then_put f (Err k) a b h = refl

put_all_append : (f : Bool) (old : Option Value) (a b : List Write) → put_all f old (a ++ b) ≡ and_then (put_all f old a) (λ x. put_all f x b)
put_all_append f old [] b = refl
put_all_append f old (w ∷ ws) b = and_then_put f (put_in f old w) ws b (λ o. put_all_append f o ws b)

put_more_append : (f : Bool) (come : Result (Option Value) ErrKind) (a b : List Write) → put_more f come (a ++ b) ≡ put_more f (put_more f come a) b
put_more_append f (Ok old) a b = put_all_append f old a b
put_more_append f (Err k) a b = refl

-- the values of the index
pub indices_step : (first : ℤ) (n k : ℕ) → k < n → indices (first +ℤ pos k) (n - k) ≡ (first +ℤ pos k) ∷ indices (first +ℤ pos (k + 1)) (n - (k + 1))
indices_step first n k h =
    let less : n - k ≡ suc (n - (k + 1)) = omega arith in
    let next : (first +ℤ pos k) +ℤ pos 1 ≡ first +ℤ pos (k + 1) = omega (arith, ints) in
    rw less (ap (λ z. (first +ℤ pos k) ∷ indices z (n - (k + 1))) next)

-- what a printer keeps of what is shown

text_of_append : (a b : List Trace) → text_of (a ++ b) ≡ text_of a ++ text_of b
text_of_append [] b = refl
text_of_append (Byte x ∷ a) b = ap (λ t. x ∷ t) (text_of_append a b)

text_of_bytes : (xs : List ℕ) → text_of (map Byte xs) ≡ xs
text_of_bytes [] = refl
text_of_bytes (x ∷ xs) = ap (λ t. x ∷ t) (text_of_bytes xs)

shown_text : (old new : List ℕ) (ts : List Trace) → map Byte new ≡ map Byte old ++ ts → new ≡ old ++ text_of ts
shown_text old new ts e = sym (text_of_bytes new) ∙ ap text_of e ∙ text_of_append (map Byte old) ts ∙ ap (λ t. t ++ text_of ts) (text_of_bytes old)

pub printed : (old new : List ℕ) (ts : List Trace) → Some (map Byte new) ≡ grown (Some (map Byte old)) ts → new ≡ old ++ text_of ts
printed old new ts e = let same : map Byte new ≡ map Byte old ++ ts = cc in shown_text old new ts same

ended_so : (o : Outcome) (end : Workspace) (old new : List ℕ) → Carries o (Ok (ended.Done end)) (printer_log old) (printer_log new) → Ran o (Ok (Ok end)) old new
ended_so o end old new h = (h.0, printed old new o.shown h.1.0)

module _ (program : Resolved) (turns depth : ℕ) (q : LoopQuestion) (env : Workspace) where
  -- the run of a body that is done is an iteration's
  pub ran : (i : ℤ) (f : Frame) (start : Workspace) (r : Ended) (end : Workspace) (old new : List ℕ) → f ≡ body_frame q → start ≡ start_of program q env i → r ≡ ended.Done end → Carries (run_of program f q.body start turns depth no_rules []) (Ok r) (printer_log old) (printer_log new) → Ran (Iter program turns depth q env i) (Ok (Ok end)) old new
  unfolding Iter
  ran i f start r end old new framed started done h =
      let at_frame : Carries (run_of program (body_frame q) q.body start turns depth no_rules []) (Ok r) (printer_log old) (printer_log new) = subst (λ (x : Frame). Carries (run_of program x q.body start turns depth no_rules []) (Ok r) (printer_log old) (printer_log new)) framed h in
      let at_start : Carries (run_of program (body_frame q) q.body (start_of program q env i) turns depth no_rules []) (Ok r) (printer_log old) (printer_log new) = subst (λ (x : Workspace). Carries (run_of program (body_frame q) q.body x turns depth no_rules []) (Ok r) (printer_log old) (printer_log new)) started at_frame in
      let at_end : Carries (run_of program (body_frame q) q.body (start_of program q env i) turns depth no_rules []) (Ok (ended.Done end)) (printer_log old) (printer_log new) = subst (λ (x : Ended). Carries (run_of program (body_frame q) q.body (start_of program q env i) turns depth no_rules []) (Ok x) (printer_log old) (printer_log new)) done at_start in
      ended_so (run_of program (body_frame q) q.body (start_of program q env i) turns depth no_rules []) end old new at_end

  outputs_step : (i : ℤ) (rest : List ℤ) (end : Workspace) → ends_of program turns depth q env i ≡ Some end → (vs : List Variable) → outputs_by (λ slot. writes program turns depth q env slot (i ∷ rest)) vs ≡ outputs_by (λ slot. writes program turns depth q env slot rest) (map (joined i end) vs)
  outputs_step i rest end e [] = refl
  outputs_step i rest end e (v ∷ vs) =
      let more : List Write = writes program turns depth q env v.slot rest in
      let now : put_more v.fresh v.come (wrote v.slot i (ends_of program turns depth q env i) ++ more) ≡ put_more v.fresh (put_more v.fresh v.come (wrote v.slot i (Some end))) more = ap (λ o. put_more v.fresh v.come (wrote v.slot i o ++ more)) e ∙ put_more_append v.fresh v.come (wrote v.slot i (Some end)) more in
      ap (λ x. output_of v.slot x (outputs_by (λ slot. writes program turns depth q env slot (i ∷ rest)) vs)) now ∙ ap (λ y. output_of v.slot (put_more v.fresh (put_more v.fresh v.come (wrote v.slot i (Some end))) more) y) (outputs_step i rest end e vs)

  -- behind one more iteration
  stands_step : (all : List ℤ) (i : ℤ) (rest : List ℤ) (first : List Variable) (text : List ℕ) (now : List Variable) (end : Workspace) (more : List ℕ) → Stands program turns depth q env all (i ∷ rest) first text now → (Iter program turns depth q env i).ending ≡ Done end [] → more ≡ text ++ text_of (Iter program turns depth q env i).shown → Stands program turns depth q env all rest first more (map (joined i end) now)
  stands_step all i rest first text now end more s e t =
      let ended : ends_of program turns depth q env i ≡ Some end = ap end_of e in
      record {
        done = rw ended at s.done;
        told = s.told ∙ sym (append_assoc text (text_of (Iter program turns depth q env i).shown) (texts program turns depth q env rest)) ∙ ap (λ x. x ++ texts program turns depth q env rest) (sym t);
        put = s.put ∙ outputs_step i rest end ended now;
      }

  pub stands_more : (all : List ℤ) (least : ℤ) (n k : ℕ) (i : ℤ) (first : List Variable) (text : List ℕ) (now : List Variable) (end : Workspace) (more : List ℕ) (next : List Variable) → k < n → i ≡ least +ℤ pos k → Stands program turns depth q env all (indices (least +ℤ pos k) (n - k)) first text now → Ran (Iter program turns depth q env i) (Ok (Ok end)) text more → next ≡ map (joined i end) now → Stands program turns depth q env all (indices (least +ℤ pos (k + 1)) (n - (k + 1))) first more next
  stands_more all least n k i first text now end more next h is s r e =
      let rest : List ℤ = indices (least +ℤ pos (k + 1)) (n - (k + 1)) in
      let here : Stands program turns depth q env all ((least +ℤ pos k) ∷ rest) first text now = subst (λ (l : List ℤ). Stands program turns depth q env all l first text now) (indices_step least n k h) s in
      let mine : Stands program turns depth q env all (i ∷ rest) first text now = subst (λ (z : ℤ). Stands program turns depth q env all (z ∷ rest) first text now) (sym is) here in
      let done : Stands program turns depth q env all rest first more (map (joined i end) now) = stands_step all i rest first text now end more mine r.0 r.1 in
      subst (λ (vs : List Variable). Stands program turns depth q env all rest first more vs) (sym e) done
