-- Each good state has terminals that complete it to a program, without a further `end` where none is open.
use Rattle.std.proofs.Common.{◌≡◌, ◌∙◌, ℕ, suc, ◌+◌, Bool, true, false, not, ◌&&◌, if◌then◌else◌, List, [], ◌∷◌, length, Ok, refl, arith, ◌≤◌}
use Rattle.std.specs.Prelude.{nat_eq, codes}
use Rattle.std.specs.Cmp.{first_so, second_so}
use Rattle.pl_grammar.specs.declared.terminal.Terminal.{Terminal}
use Rattle.pl_grammar.specs.declared.terminal.Word.TheVariants as w
use Rattle.pl_grammar.specs.declared.terminal.Keyword.{Keyword}
use Rattle.pl_grammar.specs.declared.terminal.Keyword.TheVariants as k
use Rattle.pl_grammar.specs.Words.{Mark, term, Named, Additive, additive, line, Sep, whole, stem, neither, dots, is_state}
use Rattle.pl_grammar.specs.Derivations.{Head, alone, dotted, space, no_trail, Ex, number, bare, call, state, paren, rows_to, func, under, signed, Callee, head, braced, Args, listed, value, colon, entire, indexed, in_braces, Output, to, Outputs, spread, Lead, each, Inner, each_in, Heading, upto, shut, headed, Smt, simple, compound, Block, empty, statement, taken, Params, Listing, params, Outs, single, several, no_list, given, Title, title, fun, Top, script, define, spaced, Prog, whole_of}
use Rattle.pl_grammar.specs.Sound.{has_state, strength, tightness, fun_name, has_function}
use Rattle.pl_grammar.specs.Programs.{Rules}
use Rattle.pl_grammar.specs.Machine.{behind, Outgoing, put, put_out, put_param, Site, main, body, within, Spot, Stack, goal_of, lead_of, inner_of, outputs_of, op_of, paren_of, args_of, brace_of, row_of, Titling, begun_title, worded, outs_of, out_of, outs_shut, naming, entitled, params_of, param_of, titled, State, start, finished, operand, after, coloned, torn, at_sign, stemmed, dot, output, output_read, outputs_shut, loop, loop_in, index, index_in, ready, titling, between, enter, in_row}
use Rattle.pl_grammar.specs.Steps.{Step, run, step, called, embraced, settle}
use Rattle.pl_grammar.specs.Programs.{is_end_word, has_end}
use Rattle.pl_grammar.specs.Machine.{is_open, stack_open}
use Rattle.std.specs.Prelude.{replicate, ℤ, pos, ◌++◌}
use Rattle.std.proofs.lemmas.List.{length-replicate}
use Rattle.pl_grammar.specs.Words.{same, dotted_names}
use Rattle.pl_grammar.specs.Trees.{head_text}
use Rattle.std.specs.List
use Rattle.std.specs.Cmp.Lexicographic.{as_long}
use Rattle.pl_grammar.proofs.Basics.{sticks_next, Stops, absorb, tear_on, Accepts}
use Rattle.pl_grammar.proofs.Reading.{plain_call, plain_brace}
use Rattle.pl_grammar.proofs.Kept.{same_lists}
use Rattle.pl_grammar.proofs.Sites.{ListOn, BraceOn, StackGood, IsList, Good}

-- a mark of no place, with white space or without
abbrev blot : Mark
blot = record { gap = false; place = record { line = 1; col = 1; at = 0 } }

abbrev zero_z : ℤ
zero_z = pos 0

abbrev brk : Sep
brk = record { kind = line; mark = blot }

-- ---- a name that no function has

abbrev names_size : Top → ℕ
names_size (script b) = 0
names_size (define t f) = names_size t + length (fun_name f)
names_size (spaced t s) = names_size t

-- a text that is longer than each of the names
longer_than : (n : ℕ) (text : List ℕ) → suc (length text) ≤ n → same text (replicate n 0) ≡ false
longer_than n text h = unequal (same text (replicate n 0)) refl
  where
    unequal : (v : Bool) → same text (replicate n 0) ≡ v → v ≡ false
    unequal false e = refl
    unequal true e = absurd (let f : length text ≡ length (replicate n 0) = as_long nat_eq text (replicate n 0) e in omega (arith, f, h, length-replicate {A = ℕ} n 0))

fresh_name : (t : Top) (n : ℕ) → suc (names_size t) ≤ n → has_function (replicate n 0) t ≡ false
fresh_name (script b) n h = refl
fresh_name (define t f) n h = rw (fresh_name t n (omega (arith, h)), longer_than n (fun_name f) (omega (arith, h))) refl
fresh_name (spaced t s) n h = fresh_name t n h

module _ (r : Rules) where
  -- ---- terminals that end a state

  pub record Closes (st : State) : Type 0 where
    pub more : List Terminal
    pub program : Prog
    pub ends : run r st more ≡ Ok program
    pub endless : is_open st ≡ false → has_end more ≡ false

  -- one terminal before those of the next state
  by_step : (st next : State) (t : Terminal) → step r st t ≡ Ok next → is_end_word t.word ≡ false → (is_open st ≡ false → is_open next ≡ false) → Closes next → Closes st
  by_step st next t e w o c = record { more = t ∷ c.more; program = c.program; ends = rw e c.ends; endless = λ h. rw w (c.endless (o h)) }

  -- statements
  close_start : (site : Site) (b : Block) → Closes (start site b)
  close_start main b = record { more = []; program = whole_of (script b); ends = refl; endless = λ h. refl }
  close_start (body t l s) b = record { more = term (w.Key k.End) blot ∷ []; program = whole_of (define t (fun l s b blot)); ends = refl; endless = λ h. cc }
  close_start (within o site before) b =
      let c : Closes (start site (statement before (compound o b blot) brk)) = close_start site (statement before (compound o b blot) brk) in
      record { more = term (w.Key k.End) blot ∷ term w.LineEnd blot ∷ c.more; program = c.program; ends = c.ends; endless = λ h. cc }

  close_finished : (s : Smt) (site : Site) (b : Block) → Closes (finished s site b)
  close_finished s site b = by_step (finished s site b) (start site (statement b s brk)) (term w.LineEnd blot) refl refl (λ h. h) (close_start site (statement b s brk))

  close_ready : (h : Heading) (spot : Spot) → Closes (ready h spot)
  close_ready h spot = by_step (ready h spot) (start (enter (headed h brk) spot) empty) (term w.LineEnd blot) refl refl (λ e. cc) (close_start (enter (headed h brk) spot) empty)

  -- ---- expressions

  -- with terminals that any operator lets pass
  abbrev pub ClosesAfter : Ex → Stack → Type 0
  ClosesAfter e S = (c : Closes (after e S)) × ((n : ℕ) (row : Bool) → Stops n row c.more)

  close_spread : (m : Mark) (os : Outputs) (z : Mark) (site : Site) (b : Block) → Closes (outputs_shut m os z site b)
  close_spread m os z site b = by_step (outputs_shut m os z site b) (operand (goal_of (spread m os z blot) site b)) (term w.Equal blot) refl refl (λ h. h)
      (by_step (operand (goal_of (spread m os z blot) site b)) (after (number blot zero_z) (goal_of (spread m os z blot) site b)) (term (w.Number zero_z) blot) refl refl (λ h. h)
      (by_step (after (number blot zero_z) (goal_of (spread m os z blot) site b)) (start site (statement b (simple (spread m os z blot) (number blot zero_z)) brk)) (term w.LineEnd blot) refl refl (λ h. h)
      (close_start site (statement b (simple (spread m os z blot) (number blot zero_z)) brk))))

  close_output : (m : Mark) (p : Outgoing) (o : Output) (site : Site) (b : Block) → Closes (output_read m p o site b)
  close_output m p o site b = by_step (output_read m p o site b) (outputs_shut m (put_out p o) blot site b) (term w.CloseSquare blot) refl refl (λ h. h) (close_spread m (put_out p o) blot site b)

  -- a step that ends an expression, and the terminals behind it
  after_step : (e : Ex) (S : Stack) (t : Terminal) (next : State) → step r (after e S) t ≡ Ok next → is_end_word t.word ≡ false → ((n : ℕ) (row : Bool) (ts : List Terminal) → Stops n row (t ∷ ts)) → (stack_open S ≡ false → is_open next ≡ false) → Closes next → ClosesAfter e S
  unfolding by_step
  after_step e S t next i v f o c = (by_step (after e S) next t i v o c, λ n row. f n row c.more)

  -- a step that is made, and its state closes
  record Goes (v : Bool) (x : Step) : Type 0 where
    next : State
    made : x ≡ Ok next
    closes : Closes next
    opens : v ≡ false → is_open next ≡ false

  abbrev Takes : Stack → Type 0
  Takes S = (e : Ex) (n : ℕ) → Accepts S n → ClosesAfter e S

  close_call : (c : Callee) (m : Mark) (a : Args) (z : Mark) (S : Stack) → Accepts S 11 → Takes S → Goes (stack_open S) (called c m a z S)
  close_call c m a z S x f = record { next = after (call c m a z) S; made = plain_call r c m a z S x; closes = (f (call c m a z) 11 x).0; opens = λ h. h }

  close_called : (c : Callee) (m : Mark) (a : Args) (z : Mark) (S : Stack) → ListOn c m S → Takes S → Goes (stack_open S) (called c m a z S)
  close_called c m a z (goal_of g site b) o f = close_call c m a z (goal_of g site b) tt f
  close_called c m a z (lead_of l spot) o f = close_call c m a z (lead_of l spot) tt f
  close_called c m a z (inner_of i spot) o f = close_call c m a z (inner_of i spot) tt f
  close_called (head (alone n)) m a z (outputs_of x p site b) o f = record { next = output_read x p (to (indexed n m a z)) site b; made = refl; closes = close_output x p (to (indexed n m a z)) site b; opens = λ h. h }
  close_called (head (dotted h d n)) m a z (outputs_of x p site b) o f = absurd o.1
  close_called (braced n j e y) m a z (outputs_of x p site b) o f = absurd o.1
  close_called c m a z (op_of p S) o f = close_call c m a z (op_of p S) o.0 f
  close_called c m a z (paren_of x S) o f = close_call c m a z (paren_of x S) tt f
  close_called c m a z (args_of d x p S) o f = close_call c m a z (args_of d x p S) tt f
  close_called c m a z (brace_of x y S) o f = close_call c m a z (brace_of x y S) tt f
  close_called c m a z (row_of x rs p S) o f = close_call c m a z (row_of x rs p S) tt f

  close_brace_on : (n : Named) (m : Mark) (e : Ex) (z : Mark) (S : Stack) → Accepts S 11 → Takes S → Goes (stack_open S) (embraced n m e z S)
  close_brace_on n m e z S x f = record { next = after (bare (braced n m e z)) S; made = plain_brace r n m e z S x; closes = (f (bare (braced n m e z)) 11 x).0; opens = λ h. h }

  close_embraced : (n : Named) (m : Mark) (e : Ex) (z : Mark) (S : Stack) → BraceOn n S → Takes S → Goes (stack_open S) (embraced n m e z S)
  close_embraced n m e z (goal_of g site b) o f = close_brace_on n m e z (goal_of g site b) tt f
  close_embraced n m e z (lead_of l spot) o f = close_brace_on n m e z (lead_of l spot) tt f
  close_embraced n m e z (inner_of i spot) o f = close_brace_on n m e z (inner_of i spot) tt f
  close_embraced n m e z (outputs_of x p site b) o f = record { next = output_read x p (to (in_braces n m e z)) site b; made = refl; closes = close_output x p (to (in_braces n m e z)) site b; opens = λ h. h }
  close_embraced n m e z (op_of p S) o f = close_brace_on n m e z (op_of p S) o.0 f
  close_embraced n m e z (paren_of x S) o f = close_brace_on n m e z (paren_of x S) tt f
  close_embraced n m e z (args_of d x p S) o f = close_brace_on n m e z (args_of d x p S) tt f
  close_embraced n m e z (brace_of x y S) o f = close_brace_on n m e z (brace_of x y S) tt f
  close_embraced n m e z (row_of x rs p S) o f = close_brace_on n m e z (row_of x rs p S) tt f

  close_after : (S : Stack) (e : Ex) (n : ℕ) → StackGood r S → Accepts S n → ClosesAfter e S
  close_after (goal_of g site b) e n h a = after_step e (goal_of g site b) (term w.LineEnd blot) (start site (statement b (settle g e) brk)) refl refl (λ k row ts. tt) (λ q. q) (close_start site (statement b (settle g e) brk))
  close_after (lead_of l spot) e n h a = after_step e (lead_of l spot) (term w.LineEnd blot) (start (enter (headed (upto l e) brk) spot) empty) refl refl (λ k row ts. tt) (λ q. cc) (close_start (enter (headed (upto l e) brk) spot) empty)
  close_after (inner_of i spot) e n h a = after_step e (inner_of i spot) (term w.Close blot) (ready (shut i e blot) spot) refl refl (λ k row ts. tt) (λ q. cc) (close_ready (shut i e blot) spot)
  close_after (outputs_of m p site b) e n h a = absurd a
  close_after (op_of p S) e n h a =
      let c : ClosesAfter (under p e) S = close_after S (under p e) (strength p) h.0 h.2 in
      (record { more = c.0.more; program = c.0.program; ends = absorb r p e S c.0.more (c.1 (strength p) (in_row S)) ∙ c.0.ends; endless = c.0.endless }, c.1)
  close_after (paren_of m S) e n h a = after_step e (paren_of m S) (term w.Close blot) (after (paren m e blot) S) refl refl (λ k row ts. tt) (λ q. q) (close_after S (paren m e blot) 11 h.0 h.1).0
  close_after (args_of c m p S) e n h a = let g : Goes (stack_open S) (called c m (listed (put p (value e))) blot S) = close_called c m (listed (put p (value e))) blot S h.5 (λ x i b. close_after S x i h.0 b) in after_step e (args_of c m p S) (term w.Close blot) g.next g.made refl (λ k row ts. tt) g.opens g.closes
  close_after (brace_of x m S) e n h a = let g : Goes (stack_open S) (embraced x m e blot S) = close_embraced x m e blot S h.2 (λ y i b. close_after S y i h.0 b) in after_step e (brace_of x m S) (term w.CloseBrace blot) g.next g.made refl (λ k row ts. tt) g.opens g.closes
  close_after (row_of m rs p S) e n h a = after_step e (row_of m rs p S) (term w.CloseSquare blot) (after (rows_to m rs (put p (value e)) no_trail blot) S) refl refl (λ k row ts. tt) (λ q. q) (close_after S (rows_to m rs (put p (value e)) no_trail blot) 11 h.0 h.1).0

  -- ---- states in an expression

  abbrev zero_ex : Ex
  zero_ex = number blot zero_z

  close_operand : (S : Stack) → StackGood r S → Accepts S 11 → Closes (operand S)
  close_operand S g a = by_step (operand S) (after zero_ex S) (term (w.Number zero_z) blot) refl refl (λ h. h) (close_after S zero_ex 11 g a).0

  close_coloned : (m : Mark) (S : Stack) → StackGood r S → IsList r S → Closes (coloned m S)
  close_coloned m (args_of c n p S) g i =
      let o : Goes (stack_open S) (called c n (listed (put p (colon m))) blot S) = close_called c n (listed (put p (colon m))) blot S g.5 (λ x k b. close_after S x k g.0 b) in
      by_step (coloned m (args_of c n p S)) o.next (term w.Close blot) o.made refl o.opens o.closes
  close_coloned m (goal_of g site b) h i = absurd i
  close_coloned m (lead_of l spot) h i = absurd i
  close_coloned m (inner_of x spot) h i = absurd i
  close_coloned m (outputs_of o q site b) h i = absurd i
  close_coloned m (op_of p S) h i = absurd i
  close_coloned m (paren_of o S) h i = absurd i
  close_coloned m (brace_of o q S) h i = absurd i
  close_coloned m (row_of o rs q S) h i = absurd i

  -- behind a torn sign the sign of an element can come
  close_torn : (S : Stack) (e : Ex) (a : Additive) (m : Mark) → StackGood r S → in_row S ≡ true → (c : Closes (torn e a m S)) × (sticks_next c.more ≡ true)
  close_torn (op_of p S) e a m g h =
      let c : (x : Closes (torn (under p e) a m S)) × (sticks_next x.more ≡ true) = close_torn S (under p e) a m g.0 h in
      (record { more = c.0.more; program = c.0.program; ends = tear_on r p e S a m c.0.more (λ q. let bad : true ≡ false = rw c.1 at q in cc) ∙ c.0.ends; endless = c.0.endless }, c.1)
  close_torn (row_of o rs p S) e a m g h =
      let D : Closes (after (rows_to o rs (put (behind (put p (value e)) space) (value (under (signed m (additive a)) zero_ex))) no_trail blot) S) = (close_after S (rows_to o rs (put (behind (put p (value e)) space) (value (under (signed m (additive a)) zero_ex))) no_trail blot) 11 g.0 g.1).0 in
      (record { more = term (w.Number zero_z) blot ∷ term w.CloseSquare blot ∷ D.more; program = D.program; ends = D.ends; endless = λ q. D.endless q }, refl)
  close_torn (goal_of x site b) e a m g h = cc
  close_torn (lead_of l spot) e a m g h = cc
  close_torn (inner_of x spot) e a m g h = cc
  close_torn (outputs_of o q site b) e a m g h = cc
  close_torn (paren_of o S) e a m g h = cc
  close_torn (args_of c n p S) e a m g h = cc
  close_torn (brace_of o q S) e a m g h = cc

  -- ---- names

  stem_text : (text : List ℕ) → dots text ≡ stem → codes "parallel.pool" ≡ text
  unfolding dots
  stem_text text h = by_whole (Rattle.std.specs.List.list_any (λ n. same n text) dotted_names) h
    where
      by_stem : (v : Bool) → same (codes "parallel.pool") text ≡ v → (if v then stem else neither) ≡ stem → codes "parallel.pool" ≡ text
      by_stem true e f = same_lists (codes "parallel.pool") text e
      by_stem false e f = cc

      by_whole : (v : Bool) → (if v then whole else (if same (codes "parallel.pool") text then stem else neither)) ≡ stem → codes "parallel.pool" ≡ text
      by_whole true f = cc
      by_whole false f = by_stem (same (codes "parallel.pool") text) refl f

  queue_whole : dots (codes "parallel.pool" ++ codes "." ++ codes "DataQueue") ≡ whole
  unfolding dots
  queue_whole = refl

  queue_is_no_state : is_state (codes "DataQueue") ≡ false
  unfolding is_state
  queue_is_no_state = refl

  state_is_state : is_state (codes "State") ≡ true
  unfolding is_state
  state_is_state = refl

  abbrev queue : Named
  queue = record { mark = blot; text = codes "DataQueue" }

  -- a dot behind names that only a dot can follow
  queue_step : (h : Head) (d : Mark) (S : Stack) → dots (head_text h) ≡ stem → step r (dot (bare (head h)) d S) (term (w.Name (codes "DataQueue")) blot) ≡ Ok (after (bare (head (dotted h d queue))) S)
  queue_step h d S e = rw (queue_is_no_state, ← (stem_text (head_text h) e), queue_whole) refl

  state_step : (e : Ex) (d : Mark) (S : Stack) → has_state e ≡ true → step r (dot e d S) (term (w.Name (codes "State")) blot) ≡ Ok (after (state e d blot) S)
  state_step e d S h = rw (state_is_state, h) refl

  close_dot : (e : Ex) (d : Mark) (S : Stack) → Good r (dot e d S) → Closes (dot e d S)
  close_dot (bare (head (alone n))) d S g = by_step (dot (bare (head (alone n))) d S) (after (state (bare (head (alone n))) d blot) S) (term (w.Name (codes "State")) blot) (state_step (bare (head (alone n))) d S refl) refl (λ h. h) (close_after S (state (bare (head (alone n))) d blot) 11 g.0 g.1).0
  close_dot (bare (head (dotted h m n))) d S g = by_step (dot (bare (head (dotted h m n))) d S) (after (bare (head (dotted (dotted h m n) d queue))) S) (term (w.Name (codes "DataQueue")) blot) (queue_step (dotted h m n) d S g.4.1) refl (λ h. h) (close_after S (bare (head (dotted (dotted h m n) d queue))) 11 g.0 g.1).0
  close_dot (call c i a z) d S g = by_step (dot (call c i a z) d S) (after (state (call c i a z) d blot) S) (term (w.Name (codes "State")) blot) (state_step (call c i a z) d S g.4.0) refl (λ h. h) (close_after S (state (call c i a z) d blot) 11 g.0 g.1).0
  close_dot (bare (braced x y z u)) d S g = absurd g.4
  close_dot (number m z) d S g = absurd g.4
  close_dot e d S g = absurd g.4

  close_stem : (h : Head) (S : Stack) → Good r (stemmed h S) → Closes (stemmed h S)
  close_stem h S g = by_step (stemmed h S) (dot (bare (head h)) blot S) (term w.Dot blot) refl refl (λ q. q) (close_dot (bare (head h)) blot S (g.0, g.1, g.2, omega (arith, g.3), g.4))

  abbrev any_name : Named
  any_name = record { mark = blot; text = codes "x" }

  close_at : (a : Mark) (S : Stack) → Good r (at_sign a S) → Closes (at_sign a S)
  close_at a S g = by_step (at_sign a S) (after (func a any_name) S) (term (w.Name (codes "x")) blot) refl refl (λ q. q) (close_after S (func a any_name) 11 g.0 g.1).0

  close_out : (m : Mark) (p : Outgoing) (site : Site) (b : Block) → Closes (output m p site b)
  close_out m p site b = by_step (output m p site b) (output_read m p (to (entire any_name)) site b) (term (w.Name (codes "x")) blot) refl refl (λ q. q) (close_output m p (to (entire any_name)) site b)

  -- ---- headers

  close_lead : (l : Lead) (spot : Spot) → Closes (operand (lead_of l spot))
  close_lead l spot = by_step (operand (lead_of l spot)) (after zero_ex (lead_of l spot)) (term (w.Number zero_z) blot) refl refl (λ h. cc)
      (by_step (after zero_ex (lead_of l spot)) (start (enter (headed (upto l zero_ex) brk) spot) empty) (term w.LineEnd blot) refl refl (λ h. cc) (close_start (enter (headed (upto l zero_ex) brk) spot) empty))

  close_inner : (i : Inner) (spot : Spot) → Closes (operand (inner_of i spot))
  close_inner i spot = by_step (operand (inner_of i spot)) (after zero_ex (inner_of i spot)) (term (w.Number zero_z) blot) refl refl (λ h. cc)
      (by_step (after zero_ex (inner_of i spot)) (ready (shut i zero_ex blot) spot) (term w.Close blot) refl refl (λ h. cc) (close_ready (shut i zero_ex blot) spot))

  close_index : (word : Keyword) (m : Mark) (n : Named) (spot : Spot) → Closes (index word m n spot)
  close_index word m n spot = by_step (index word m n spot) (operand (lead_of (each word m n blot) spot)) (term w.Equal blot) refl refl (λ h. cc) (close_lead (each word m n blot) spot)

  close_index_in : (word : Keyword) (m o : Mark) (n : Named) (spot : Spot) → Closes (index_in word m o n spot)
  close_index_in word m o n spot = by_step (index_in word m o n spot) (operand (inner_of (each_in word m o n blot) spot)) (term w.Equal blot) refl refl (λ h. cc) (close_inner (each_in word m o n blot) spot)

  close_loop : (word : Keyword) (m : Mark) (spot : Spot) → Closes (loop word m spot)
  close_loop word m spot = by_step (loop word m spot) (index word m any_name spot) (term (w.Name (codes "x")) blot) refl refl (λ h. cc) (close_index word m any_name spot)

  close_loop_in : (word : Keyword) (m o : Mark) (spot : Spot) → Closes (loop_in word m o spot)
  close_loop_in word m o spot = by_step (loop_in word m o spot) (index_in word m o any_name spot) (term (w.Name (codes "x")) blot) refl refl (λ h. cc) (close_index_in word m o any_name spot)

  -- ---- functions

  close_titled : (t : Top) (l : Title) → Closes (titling t (titled l))
  close_titled t l = by_step (titling t (titled l)) (start (body t l brk) empty) (term w.LineEnd blot) refl refl (λ h. cc) (close_start (body t l brk) empty)

  close_entitled : (t : Top) (m : Mark) (o : Outs) (n : Named) → Closes (titling t (entitled m o n))
  close_entitled t m o n = by_step (titling t (entitled m o n)) (start (body t (title m o n no_list) brk) empty) (term w.LineEnd blot) refl refl (λ h. cc) (close_start (body t (title m o n no_list) brk) empty)

  abbrev fresh_one : Top → Named
  fresh_one t = record { mark = blot; text = replicate (suc (names_size t)) 0 }

  and_none : (x : Bool) → (x && false) ≡ false
  and_none true = refl
  and_none false = refl

  close_naming : (t : Top) (m : Mark) (o : Outs) → Closes (titling t (naming m o))
  close_naming t m o = by_step (titling t (naming m o)) (titling t (entitled m o (fresh_one t))) (term (w.Name (replicate (suc (names_size t)) 0)) blot) (rw (fresh_name t (suc (names_size t)) (omega arith), and_none (not r.twice)) refl) refl (λ h. cc) (close_entitled t m o (fresh_one t))

  close_worded : (t : Top) (m : Mark) (n : Named) → Closes (titling t (worded m n))
  close_worded t m n = by_step (titling t (worded m n)) (titling t (naming m (single n blot))) (term w.Equal blot) refl refl (λ h. cc) (close_naming t m (single n blot))

  close_outs_shut : (t : Top) (m o : Mark) (l : Listing) (z : Mark) → Closes (titling t (outs_shut m o l z))
  close_outs_shut t m o l z = by_step (titling t (outs_shut m o l z)) (titling t (naming m (several o l z blot))) (term w.Equal blot) refl refl (λ h. cc) (close_naming t m (several o l z blot))

  close_out_of : (t : Top) (m o : Mark) (ps : Params) → Closes (titling t (out_of m o ps))
  close_out_of t m o ps = by_step (titling t (out_of m o ps)) (titling t (outs_shut m o (params ps) blot)) (term w.CloseSquare blot) refl refl (λ h. cc) (close_outs_shut t m o (params ps) blot)

  close_param_of : (t : Top) (m : Mark) (o : Outs) (n : Named) (z : Mark) (ps : Params) → Closes (titling t (param_of m o n z ps))
  close_param_of t m o n z ps = by_step (titling t (param_of m o n z ps)) (titling t (titled (title m o n (given z (params ps) blot)))) (term w.Close blot) refl refl (λ h. cc) (close_titled t (title m o n (given z (params ps) blot)))

  close_titling : (t : Top) (l : Titling) → Closes (titling t l)
  close_titling t (begun_title m) = by_step (titling t (begun_title m)) (titling t (worded m any_name)) (term (w.Name (codes "x")) blot) refl refl (λ h. cc) (close_worded t m any_name)
  close_titling t (worded m n) = close_worded t m n
  close_titling t (outs_of m o p) = by_step (titling t (outs_of m o p)) (titling t (out_of m o (put_param p (taken any_name)))) (term (w.Name (codes "x")) blot) refl refl (λ h. cc) (close_out_of t m o (put_param p (taken any_name)))
  close_titling t (out_of m o ps) = close_out_of t m o ps
  close_titling t (outs_shut m o l z) = close_outs_shut t m o l z
  close_titling t (naming m o) = close_naming t m o
  close_titling t (entitled m o n) = close_entitled t m o n
  close_titling t (params_of m o n z p) = by_step (titling t (params_of m o n z p)) (titling t (param_of m o n z (put_param p (taken any_name)))) (term (w.Name (codes "x")) blot) refl refl (λ h. cc) (close_param_of t m o n z (put_param p (taken any_name)))
  close_titling t (param_of m o n z ps) = close_param_of t m o n z ps
  close_titling t (titled l) = close_titled t l

  -- each good state has terminals that complete it
  pub closing : (st : State) → Good r st → Closes st
  closing (start site b) g = close_start site b
  closing (finished s site b) g = close_finished s site b
  closing (operand S) g = close_operand S g.0 g.2
  closing (after e S) g = (close_after S e (tightness e) g.0.0 g.0.2).0
  closing (coloned m S) g = close_coloned m S g.0 g.1
  closing (torn e a m S) g = (close_torn S e a m g.0.0.0 g.1).0
  closing (at_sign m S) g = close_at m S g
  closing (stemmed h S) g = close_stem h S g
  closing (dot e m S) g = close_dot e m S g
  closing (output m p site b) g = close_out m p site b
  closing (output_read m p o site b) g = close_output m p o site b
  closing (outputs_shut m os z site b) g = close_spread m os z site b
  closing (loop word m spot) g = close_loop word m spot
  closing (loop_in word m o spot) g = close_loop_in word m o spot
  closing (index word m n spot) g = close_index word m n spot
  closing (index_in word m o n spot) g = close_index_in word m o n spot
  closing (ready h spot) g = close_ready h spot
  closing (titling t l) g = close_titling t l
  closing (between t) g = record { more = []; program = whole_of t; ends = refl; endless = λ h. refl }
