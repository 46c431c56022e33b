-- The machine reads a list of outputs. It takes them for the elements of a row as long as it can, and for what
-- they are from the first `~` on that a comma or the bracket follows.
use Rattle.std.proofs.Common.{◌≡◌, ◌∙◌, ℕ, suc, ◌+◌, ◌≤◌, Bool, true, Option, Some, None, List, [], ◌∷◌, length, refl, ap, sym, subst, arith}
use Rattle.pl_grammar.specs.declared.terminal.Terminal.{Terminal}
use Rattle.pl_grammar.specs.declared.terminal.Word.TheVariants as w
use Rattle.pl_grammar.specs.Words.{Mark, term, tilde}
use Rattle.pl_grammar.specs.Derivations.{alone, Comma, written, space, Ex, bare, call, under, signed, head, braced, value, no_rows, Tgt, entire, indexed, in_braces, Output, to, skip, Outputs, only, beside, shown, spread, Block}
use Rattle.pl_grammar.specs.Spelling.{ex, args, comma_words, tgt, output_words, outputs}
use Rattle.pl_grammar.specs.Trees.{tgt_mark}
use Rattle.pl_grammar.specs.Nesting.{args_height, height, tgt_height, output_height, across, run_of, outputs_height}
use Rattle.pl_grammar.specs.Sound.{tightness, SoundEx, SoundTgt, SoundOutput, output_mark, IsOutputApart, SoundOutputs}
use Rattle.pl_grammar.specs.Programs.{Rules}
use Rattle.pl_grammar.specs.Machine.{Pending, fresh, behind, Outgoing, fresh_outs, behind_outs, put, put_out, Site, Stack, goal_of, outputs_of, op_of, args_of, brace_of, row_of, State, operand, after, output, output_read, site_nests, outgoing_run, nests, in_row, in_index}
use Rattle.pl_grammar.specs.Steps.{Held, room, reduce, onward, run, called, tgt_of, set_out, set_tgt, pass, element_outputs, behind_all, row_outputs, pending_outputs, Outlist, as_outputs}
use Rattle.pl_grammar.specs.Steps as steps
use Rattle.pl_grammar.proofs.Basics.{has_room, left_room, right_room, Accepts, Stops}
use Rattle.pl_grammar.proofs.Reading.{Follows, read_ex, read_args, read_sign}

-- a target, read as an expression
abbrev pub tgt_ex : Tgt → Ex
tgt_ex (entire n) = bare (head (alone n))
tgt_ex (indexed n m a z) = call (head (alone n)) m a z
tgt_ex (in_braces n m e z) = bare (braced n m e z)

pub tgt_of_ex : (t : Tgt) → tgt_of (tgt_ex t) ≡ Some t
tgt_of_ex (entire n) = refl
tgt_of_ex (indexed n m a z) = refl
tgt_of_ex (in_braces n m e z) = refl

-- `~`, each with white space alone behind it, the last one first
abbrev chain : Mark → Pending → List Mark → Site → Block → Stack
chain m p [] site b = row_of m no_rows p (goal_of shown site b)
chain m p (k ∷ ks) site b = op_of (signed k tilde) (chain m p ks site b)

abbrev chain_outs : Outgoing → List Mark → Outgoing
chain_outs q [] = q
chain_outs q (k ∷ ks) = behind_outs (put_out (chain_outs q ks) (skip k)) space

-- each has white space before it where white space alone separates it
abbrev Gapped : Outgoing → List Mark → Type 0
Gapped q [] = Unit {0}
Gapped q (k ∷ ks) = Gapped q ks × (set_out (chain_outs q ks) k.gap (skip k) ≡ Some (put_out (chain_outs q ks) (skip k)))

abbrev wrap : List Mark → Ex → Ex
wrap [] e = e
wrap (k ∷ ks) e = wrap ks (under (signed k tilde) e)

chain_reduces : (m : Mark) (p : Pending) (ks : List Mark) (site : Site) (b : Block) (e : Ex)
    → reduce 0 e (chain m p ks site b) ≡ record { operand = wrap ks e; stack = row_of m no_rows p (goal_of shown site b) }
chain_reduces m p [] site b e = refl
chain_reduces m p (k ∷ ks) site b e = chain_reduces m p ks site b (under (signed k tilde) e)

chain_nests : (m : Mark) (p : Pending) (ks : List Mark) (site : Site) (b : Block) → nests (chain m p ks site b) ≡ length ks + suc (suc (site_nests site))
chain_nests m p [] site b = omega arith
chain_nests m p (k ∷ ks) site b = omega (arith, chain_nests m p ks site b)

chain_run : (q : Outgoing) (ks : List Mark) → outgoing_run q ≡ 0 → outgoing_run (chain_outs q ks) ≡ length ks
chain_run q [] h = h
chain_run q (k ∷ ks) h = step_run (chain_outs q ks) (chain_run q ks h)
  where
    step_run : (o : Outgoing) → outgoing_run o ≡ length ks → run_of (put_out o (skip k)) ≡ suc (length ks)
    step_run fresh_outs g = omega (arith, g)
    step_run (behind_outs os c) g = omega (arith, g)

element_chain : (q : Outgoing) (ks : List Mark) (e : Ex) → Gapped q ks → element_outputs q (wrap ks e) ≡ element_outputs (chain_outs q ks) e
element_chain q [] e g = refl
element_chain q (k ∷ ks) e g = element_chain q ks (under (signed k tilde) e) g.0 ∙ ap (λ x. pass x (λ o. element_outputs o e)) g.1

-- the outputs of a row, by those before its last element
row_of_outputs : (p : Pending) (q : Outgoing) (e : Ex) → pending_outputs p ≡ Some q → row_outputs (put p (value e)) ≡ element_outputs q e
row_of_outputs fresh q e h = fresh_case q h
  where
    fresh_case : (o : Outgoing) → Some fresh_outs ≡ Some o → element_outputs fresh_outs e ≡ element_outputs o e
    fresh_case fresh_outs g = refl
    fresh_case (behind_outs os c) g = cc
row_of_outputs (behind es c) q e h = by_row (row_outputs es) refl
  where
    by_row : (x : Option Outputs) → row_outputs es ≡ x → behind_all (row_outputs es) c (λ p. element_outputs p e) ≡ element_outputs q e
    by_row None g = let bad : None ≡ Some q = rw g at h in cc
    by_row (Some os) g = let same : Some (behind_outs os c) ≡ Some q = rw g at h in rw g (some_same (behind_outs os c) q same)
      where
        some_same : (x y : Outgoing) → Some x ≡ Some y → element_outputs x e ≡ element_outputs y e
        some_same x y s = let t : x ≡ y = cc in ap (λ z. element_outputs z e) t

chain_seen : (m : Mark) (p : Pending) (q : Outgoing) (ks : List Mark) (site : Site) (b : Block) → pending_outputs p ≡ Some q → Gapped q ks
    → as_outputs (chain m p ks site b) ≡ Some (record { mark = m; outputs = chain_outs q ks; site = site; block = b })
chain_seen m p q [] site b h g = rw h refl
chain_seen m p q (k ∷ ks) site b h g = ap (steps.skip_onto k) (chain_seen m p q ks site b h g.0) ∙ ap (steps.skip_in k (record { mark = m; outputs = chain_outs q ks; site = site; block = b })) g.1

abbrev IsNext : Outgoing → Output → Type 0
IsNext fresh_outs o = Unit {0}
IsNext (behind_outs os c) o = IsOutputApart c o

next_set : (q : Outgoing) (o : Output) → IsNext q o → set_out q (output_mark o).gap o ≡ Some (put_out q o)
next_set fresh_outs o h = refl
next_set (behind_outs os (written c)) o h = refl
next_set (behind_outs os space) o h = rw h refl

element_tgt : (q : Outgoing) (t : Tgt) → element_outputs q (tgt_ex t) ≡ set_out q (tgt_mark t).gap (to t)
element_tgt q (entire n) = refl
element_tgt q (indexed n m a z) = refl
element_tgt q (in_braces n m e z) = refl

pub tgt_words : (t : Tgt) (ts : List Terminal) → ex (tgt_ex t) ts ≡ tgt t ts
tgt_words (entire n) ts = refl
tgt_words (indexed n m a z) ts = refl
tgt_words (in_braces n m e z) ts = refl

pub sound_tgt : (row index : Bool) (t : Tgt) → SoundTgt row t → SoundEx row index (tgt_ex t)
sound_tgt row index (entire n) h = tt
sound_tgt row index (indexed n m a z) h = (tt, h.0, h.1)
sound_tgt row index (in_braces n m e z) h = h

pub tgt_ex_height : (t : Tgt) → height (tgt_ex t) ≡ tgt_height t
tgt_ex_height (entire n) = refl
tgt_ex_height (indexed n m a z) = omega (arith, Rattle.std.proofs.Math.Nat.max-eq_right {n = 0} {m = suc (args_height a)} (omega arith))
tgt_ex_height (in_braces n m e z) = refl

pub tgt_ex_tight : (t : Tgt) → tightness (tgt_ex t) ≡ 11
tgt_ex_tight (entire n) = refl
tgt_ex_tight (indexed n m a z) = refl
tgt_ex_tight (in_braces n m e z) = refl

chain_row : (m : Mark) (p : Pending) (ks : List Mark) (site : Site) (b : Block) → in_row (chain m p ks site b) ≡ true
chain_row m p [] site b = refl
chain_row m p (k ∷ ks) site b = chain_row m p ks site b

chain_accepts : (m : Mark) (p : Pending) (ks : List Mark) (site : Site) (b : Block) (l : ℕ) → 9 ≤ l → Accepts (chain m p ks site b) l
chain_accepts m p [] site b l h = tt
chain_accepts m p (k ∷ ks) site b l h = h

-- ---- the states behind outputs

module _ (r : Rules) (m : Mark) (site : Site) (b : Block) where
  -- these outputs have been read: the last is a target in a row, a `~` in a row, or an output
  data At (os : Outputs) (st : State) : Type 0 where
    as_tgt : (p : Pending) (q : Outgoing) (ks : List Mark) (e : Ex) → st ≡ after e (chain m p ks site b) → pending_outputs p ≡ Some q → Gapped q ks → element_outputs (chain_outs q ks) e ≡ Some os → run_of os ≡ 0 → At os st
    as_skip : (p : Pending) (q : Outgoing) (k : Mark) (ks : List Mark) → st ≡ operand (chain m p (k ∷ ks) site b) → pending_outputs p ≡ Some q → outgoing_run q ≡ 0 → Gapped q (k ∷ ks) → put_out (chain_outs q ks) (skip k) ≡ os → At os st
    as_output : (q : Outgoing) (o : Output) → st ≡ output_read m q o site b → put_out q o ≡ os → At os st

  -- a target read in a row, behind these outputs
  row_tgt : (p : Pending) (ks : List Mark) (t : Tgt) (ts : List Terminal) → SoundTgt true t → tgt_height t + (length ks + suc (suc (site_nests site))) ≤ r.limit → Follows r true ts
      → run r (operand (chain m p ks site b)) (tgt t ts) ≡ run r (after (tgt_ex t) (chain m p ks site b)) ts
  row_tgt p ks t ts h l f =
      let S : Stack = chain m p ks site b in
      let c : in_row S ≡ true = chain_row m p ks site b in
      let x : SoundTgt (in_row S) t = rw c h in
      let y : Stops (tightness (tgt_ex t)) (in_row S) ts = rw c (f (tightness (tgt_ex t))) in
      ap (λ x. run r (operand S) x) (sym (tgt_words t ts))
      ∙ read_ex r (tgt_ex t) S ts (sound_tgt (in_row S) (in_index S) t x) (chain_accepts m p ks site b (tightness (tgt_ex t)) (omega (arith, tgt_ex_tight t))) (omega (arith, l, tgt_ex_height t, chain_nests m p ks site b)) y

  -- the next output
  next_tgt : (p : Pending) (q : Outgoing) (ks : List Mark) (t : Tgt) → pending_outputs p ≡ Some q → Gapped q ks → IsNext (chain_outs q ks) (to t) → At (put_out (chain_outs q ks) (to t)) (after (tgt_ex t) (chain m p ks site b))
  next_tgt p q ks t h g n = as_tgt p q ks (tgt_ex t) refl h g (element_tgt (chain_outs q ks) t ∙ next_set (chain_outs q ks) (to t) n) (last_run (chain_outs q ks))
    where
      last_run : (x : Outgoing) → run_of (put_out x (to t)) ≡ 0
      last_run fresh_outs = refl
      last_run (behind_outs os c) = refl

  -- ---- from one output to the next

  -- behind a comma
  comma_tgt : (p : Pending) (ks : List Mark) (e : Ex) (n : Mark) (ts : List Terminal)
      → run r (after e (chain m p ks site b)) (term w.Comma n ∷ ts) ≡ run r (operand (chain m (behind (put p (value (wrap ks e))) (written n)) [] site b)) ts
  comma_tgt p ks e n ts = rw (chain_reduces m p ks site b e) refl

  comma_skip : (p : Pending) (q : Outgoing) (k : Mark) (ks : List Mark) (n : Mark) (ts : List Terminal) → pending_outputs p ≡ Some q → Gapped q (k ∷ ks)
      → run r (operand (chain m p (k ∷ ks) site b)) (term w.Comma n ∷ ts) ≡ run r (output m (behind_outs (put_out (chain_outs q ks) (skip k)) (written n)) site b) ts
  comma_skip p q k ks n ts h g = rw (chain_seen m p q (k ∷ ks) site b h g) refl

  -- behind white space alone, where a target has been read in a row
  space_tgt : (p : Pending) (ks : List Mark) (e : Ex) (o : Output) (ts : List Terminal) → (output_mark o).gap ≡ true
      → run r (after e (chain m p ks site b)) (output_words o ts) ≡ run r (operand (chain m (behind (put p (value (wrap ks e))) space) [] site b)) (output_words o ts)
  space_tgt p ks e (to (entire n)) ts g = rw (chain_row m p ks site b, g, chain_reduces m p ks site b e) refl
  space_tgt p ks e (to (indexed n i a z)) ts g = rw (chain_row m p ks site b, g, chain_reduces m p ks site b e) refl
  space_tgt p ks e (to (in_braces n i x z)) ts g = rw (chain_row m p ks site b, g, chain_reduces m p ks site b e) refl
  space_tgt p ks e (skip k) ts g = rw (chain_row m p ks site b, g, chain_reduces m p ks site b e) refl

  -- an output where outputs have to come
  read_out : (q : Outgoing) (o : Output) (ts : List Terminal) → SoundOutput o → outgoing_run q + output_height o + suc (suc (site_nests site)) ≤ r.limit
      → run r (output m q site b) (output_words o ts) ≡ run r (output_read m q o site b) ts
  read_out q (to t) ts h l = read_out_tgt t h l
    where
      read_out_tgt : (t : Tgt) → SoundTgt true t → outgoing_run q + tgt_height t + suc (suc (site_nests site)) ≤ r.limit → run r (output m q site b) (tgt t ts) ≡ run r (output_read m q (to t) site b) ts
      read_out_tgt (entire n) h l = refl
      read_out_tgt (indexed n i a z) h l =
          let opened : run r (output_read m q (to (entire n)) site b) (term w.Open i ∷ args a (term w.Close z ∷ ts)) ≡ run r (operand (args_of (head (alone n)) i fresh (outputs_of m q site b))) (args a (term w.Close z ∷ ts)) =
          rw (h.0, has_room r (suc (nests (outputs_of m q site b))) (omega (arith, l))) refl in
          opened ∙ read_args r a (head (alone n)) i (outputs_of m q site b) z ts h.1 (omega (arith, l))
      read_out_tgt (in_braces n i e z) h l =
          let opened : run r (output_read m q (to (entire n)) site b) (term w.OpenBrace i ∷ ex e (term w.CloseBrace z ∷ ts)) ≡ run r (operand (brace_of n i (outputs_of m q site b))) (ex e (term w.CloseBrace z ∷ ts)) =
          rw (has_room r (suc (nests (outputs_of m q site b))) (omega (arith, l))) refl in
          opened ∙ read_ex r e (brace_of n i (outputs_of m q site b)) (term w.CloseBrace z ∷ ts) h tt (omega (arith, l)) tt
  read_out q (skip k) ts h l = rw (has_room r (suc (outgoing_run q + suc (suc (site_nests site)))) (omega (arith, l))) refl

  space_out : (q : Outgoing) (x : Output) (o : Output) (ts : List Terminal) → (output_mark o).gap ≡ true
      → run r (output_read m q x site b) (output_words o ts) ≡ run r (output m (behind_outs (put_out q x) space) site b) (output_words o ts)
  space_out q x (to (entire n)) ts g = rw g refl
  space_out q x (to (indexed n i a z)) ts g = rw g refl
  space_out q x (to (in_braces n i e z)) ts g = rw g refl
  space_out q x (skip k) ts g = rw g refl

  -- from a state on, these terminals are read, and these are the outputs then
  record Reached (os : Outputs) (origin : State) (words : List Terminal → List Terminal) : Type 0 where
    st : State
    at : At os st
    goes : (ts : List Terminal) → Follows r true ts → run r origin (words ts) ≡ run r st ts

  enter_chain : (p : Pending) (q : Outgoing) (ks : List Mark) (o : Output) → pending_outputs p ≡ Some q → outgoing_run q ≡ 0 → Gapped q ks → IsNext (chain_outs q ks) o → SoundOutput o → output_height o + (length ks + suc (suc (site_nests site))) ≤ r.limit
      → Reached (put_out (chain_outs q ks) o) (operand (chain m p ks site b)) (λ ts. output_words o ts)
  enter_chain p q ks (to t) h z g n s l = record { st = after (tgt_ex t) (chain m p ks site b); at = next_tgt p q ks t h g n; goes = λ ts f. row_tgt p ks t ts s l f }
  enter_chain p q ks (skip k) h z g n s l = record {
    st = operand (chain m p (k ∷ ks) site b);
    at = as_skip p q k ks refl h z (g, next_set (chain_outs q ks) (skip k) n) refl;
    goes = λ ts f. read_sign r tilde k (chain m p ks site b) ts (chain_accepts m p ks site b 9 (omega arith)) (omega (arith, l, chain_nests m p ks site b));
  }

  row_is : (p : Pending) (q : Outgoing) (ks : List Mark) (e : Ex) (os : Outputs) → pending_outputs p ≡ Some q → Gapped q ks → element_outputs (chain_outs q ks) e ≡ Some os → row_outputs (put p (value (wrap ks e))) ≡ Some os
  row_is p q ks e os h g el = row_of_outputs p q (wrap ks e) h ∙ element_chain q ks e g ∙ el

  flat : (c : Comma) (n : ℕ) → n ≡ 0 → across c n ≡ 0
  flat (written m) n h = refl
  flat space n h = h

  advance : (os : Outputs) (st : State) → At os st → (c : Comma) (o : Output) → IsOutputApart c o → SoundOutput o → across c (run_of os) + output_height o + suc (suc (site_nests site)) ≤ r.limit
      → Reached (beside os c o) st (λ ts. comma_words c (output_words o ts))
  advance os st (as_tgt p q ks e i h g el z) (written n) o a s l =
      let E : Reached (beside os (written n) o) (operand (chain m (behind (put p (value (wrap ks e))) (written n)) [] site b)) (λ ts. output_words o ts) =
      enter_chain (behind (put p (value (wrap ks e))) (written n)) (behind_outs os (written n)) [] o (rw (row_is p q ks e os h g el) refl) refl tt a s (omega (arith, l)) in
      record { st = E.st; at = E.at; goes = λ ts f. ap (λ x. run r x (term w.Comma n ∷ output_words o ts)) i ∙ comma_tgt p ks e n (output_words o ts) ∙ E.goes ts f }
  advance os st (as_tgt p q ks e i h g el z) space o a s l =
      let E : Reached (beside os space o) (operand (chain m (behind (put p (value (wrap ks e))) space) [] site b)) (λ ts. output_words o ts) =
      enter_chain (behind (put p (value (wrap ks e))) space) (behind_outs os space) [] o (rw (row_is p q ks e os h g el) refl) z tt a s (omega (arith, l)) in
      record { st = E.st; at = E.at; goes = λ ts f. ap (λ x. run r x (output_words o ts)) i ∙ space_tgt p ks e o ts a ∙ E.goes ts f }
  advance os st (as_skip p q k ks i h z g e) (written n) o a s l = record {
    st = output_read m (behind_outs os (written n)) o site b;
    at = as_output (behind_outs os (written n)) o refl refl;
    goes = λ ts f. ap (λ x. run r x (term w.Comma n ∷ output_words o ts)) i ∙ comma_skip p q k ks n (output_words o ts) h g
        ∙ ap (λ x. run r (output m (behind_outs x (written n)) site b) (output_words o ts)) e ∙ read_out (behind_outs os (written n)) o ts s (omega (arith, l));
  }
  advance os st (as_skip p q k ks i h z g e) space o a s l =
      let runs : run_of (put_out (chain_outs q ks) (skip k)) ≡ suc (length ks) = chain_run q (k ∷ ks) z in
      let same : run_of os ≡ suc (length ks) = rw e at runs in
      let E : Reached (beside (put_out (chain_outs q ks) (skip k)) space o) (operand (chain m p (k ∷ ks) site b)) (λ ts. output_words o ts) = enter_chain p q (k ∷ ks) o h z g a s (omega (arith, l, same)) in
      record { st = E.st; at = subst (λ x. At (beside x space o) E.st) e E.at; goes = λ ts f. ap (λ x. run r x (output_words o ts)) i ∙ E.goes ts f }
  advance os st (as_output q x i e) (written n) o a s l = record {
    st = output_read m (behind_outs os (written n)) o site b;
    at = as_output (behind_outs os (written n)) o refl refl;
    goes = λ ts f. ap (λ y. run r y (term w.Comma n ∷ output_words o ts)) i ∙ ap (λ y. run r (output m (behind_outs y (written n)) site b) (output_words o ts)) e ∙ read_out (behind_outs os (written n)) o ts s (omega (arith, l));
  }
  advance os st (as_output q x i e) space o a s l = record {
    st = output_read m (behind_outs os space) o site b;
    at = as_output (behind_outs os space) o refl refl;
    goes = λ ts f. ap (λ y. run r y (output_words o ts)) i ∙ space_out q x o ts a ∙ ap (λ y. run r (output m (behind_outs y space) site b) (output_words o ts)) e ∙ read_out (behind_outs os space) o ts s (omega (arith, l));
  }

  outputs_follow : (c : Comma) (o : Output) (ts : List Terminal) → Follows r true (comma_words c (output_words o ts))
  outputs_follow (written n) o ts = λ k. tt
  outputs_follow space (to (entire n)) ts = λ k. tt
  outputs_follow space (to (indexed n i a z)) ts = λ k. tt
  outputs_follow space (to (in_braces n i e z)) ts = λ k. tt
  outputs_follow space (skip i) ts = λ k. tt

  read_outputs : (os : Outputs) → SoundOutputs os → outputs_height os + suc (suc (site_nests site)) ≤ r.limit → Reached os (operand (chain m fresh [] site b)) (λ ts. outputs os ts)
  read_outputs (only o) h l = enter_chain fresh fresh_outs [] o refl refl tt tt h (omega (arith, l))
  read_outputs (beside os c o) h l =
      let R : Reached os (operand (chain m fresh [] site b)) (λ ts. outputs os ts) = read_outputs os h.0 (left_room (outputs_height os) (across c (run_of os) + output_height o) (suc (suc (site_nests site))) r.limit l) in
      let A : Reached (beside os c o) R.st (λ ts. comma_words c (output_words o ts)) = advance os R.st R.at c o h.1 h.2 (right_room (outputs_height os) (across c (run_of os) + output_height o) (suc (suc (site_nests site))) r.limit l) in
      record { st = A.st; at = A.at; goes = λ ts f. R.goes (comma_words c (output_words o ts)) (outputs_follow c o ts) ∙ A.goes ts f }

  shut_outputs : (os : Outputs) (st : State) → At os st → (z q : Mark) (ts : List Terminal)
      → run r st (term w.CloseSquare z ∷ term w.Equal q ∷ ts) ≡ run r (operand (goal_of (spread m os z q) site b)) ts
  shut_outputs os st (as_tgt p q ks e i h g el y) z c ts = ap (λ x. run r x (term w.CloseSquare z ∷ term w.Equal c ∷ ts)) i ∙ rw (chain_reduces m p ks site b e, row_is p q ks e os h g el) refl
  shut_outputs os st (as_skip p q k ks i h y g e) z c ts =
      ap (λ x. run r x (term w.CloseSquare z ∷ term w.Equal c ∷ ts)) i ∙ rw (chain_seen m p q (k ∷ ks) site b h g) (ap (λ x. run r (operand (goal_of (spread m x z c) site b)) ts) e)
  shut_outputs os st (as_output q x i e) z c ts = ap (λ y. run r y (term w.CloseSquare z ∷ term w.Equal c ∷ ts)) i ∙ ap (λ y. run r (operand (goal_of (spread m y z c) site b)) ts) e

  -- a list of outputs up to its `=`, behind its bracket
  pub read_spread : (os : Outputs) (z q : Mark) (ts : List Terminal) → SoundOutputs os → outputs_height os + suc (suc (site_nests site)) ≤ r.limit
      → run r (operand (row_of m no_rows fresh (goal_of shown site b))) (outputs os (term w.CloseSquare z ∷ term w.Equal q ∷ ts)) ≡ run r (operand (goal_of (spread m os z q) site b)) ts
  read_spread os z q ts h l =
      let R : Reached os (operand (chain m fresh [] site b)) (λ ts. outputs os ts) = read_outputs os h l in
      R.goes (term w.CloseSquare z ∷ term w.Equal q ∷ ts) (λ k. tt) ∙ shut_outputs os R.st R.at z q ts
