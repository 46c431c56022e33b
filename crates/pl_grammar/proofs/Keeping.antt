-- A step leaves what has been told: the terminals that the next state stands for, and the rest, are those that
-- the state stood for, the terminal, and the rest.
use Rattle.std.proofs.Common.{◌≡◌, ◌∙◌, ℕ, suc, ◌+◌, Bool, true, false, ◌&&◌, if◌then◌else◌, Option, Some, None, List, ◌∷◌, Ok, Err, refl, ap, sym, subst}
use Rattle.std.specs.Prelude.{nat_le}
use Rattle.pl_syntax.specs.declared.expr.Bin.{Bin}
use Rattle.pl_grammar.specs.declared.terminal.Terminal.{Terminal}
use Rattle.pl_grammar.specs.declared.terminal.Word.{Word}
use Rattle.pl_grammar.specs.declared.terminal.Word.TheVariants as w
use Rattle.pl_grammar.specs.declared.terminal.Keyword.{Keyword}
use Rattle.pl_grammar.specs.declared.terminal.Keyword.TheVariants as k
use Rattle.pl_grammar.specs.Words.{Mark, term, Named, named, Additive, bin_of, Sign, additive, tilde, sign_word, additive_of, level, is_power, comma, semicolon, line, Sep}
use Rattle.pl_grammar.specs.Derivations.{alone, dotted, no_signs, more_signs, Comma, written, space, no_trail, trail, Ex, number, chars, bare, call, state, paren, rows, rows_to, func, last, under, transposed, Op, joined, signed, from, stepped, Callee, head, braced, Args, no_args, listed, Elements, one, also, Item, value, colon, Rows, no_rows, broken, filled, Tgt, entire, indexed, in_braces, Output, to, skip, Outputs, only, beside, Goal, shown, into, spread, each_in, bound, workers, upto, Part, headed, Block, Param}
use Rattle.pl_grammar.specs.Spelling.{sep, comma_words, ex, op, callee, args, elements, item, row_words, tgt, output_words, outputs, goal, part, smt, block, param, param_words}
use Rattle.pl_grammar.specs.Nesting.{height}
use Rattle.pl_grammar.specs.Sound.{has_state, strength}
use Rattle.pl_grammar.specs.Programs.{Rules}
use Rattle.pl_grammar.specs.Machine.{Pending, fresh, behind, Outgoing, fresh_outs, behind_outs, Waiting, fresh_params, behind_params, put, put_out, put_param, Site, Spot, here, linked, Stack, goal_of, lead_of, inner_of, outputs_of, op_of, paren_of, args_of, brace_of, row_of, State, operand, after, torn, dot, output, outputs_shut, pending_words, outgoing_words, waiting_words, site_words, spot_words, stack_words, told, enter, nests, in_row, in_index}
use Rattle.pl_grammar.specs.Steps
use Rattle.pl_grammar.specs.Steps.{Step, Held, roomy, room, refused, reduce, run, step, onward, Answer, callee_tgt, tgt_of, set_out, set_tgt, pass, element_outputs, item_outputs, behind_all, row_outputs, pending_outputs, Outlist, as_outputs, called, embraced, read_operand, go_on, read_after, settle, ended}
use Rattle.pl_grammar.proofs.Reading.{pick}

-- the step leads to a state that stands for these terminals, with this rest
abbrev pub Tells : Step → List Terminal → List Terminal → Type 0
Tells (Ok st) rest ts = told st rest ≡ ts
Tells (Err f) rest ts = Unit {0}

pub roomy_tells : (v : Bool) (s : Step) (rest ts : List Terminal) → Tells s rest ts → Tells (roomy v s) rest ts
roomy_tells true s rest ts h = h
roomy_tells false (Ok st) rest ts h = tt
roomy_tells false (Err f) rest ts h = tt

pub retell : (s : Step) (rest ts us : List Terminal) → ts ≡ us → Tells s rest ts → Tells s rest us
retell s rest ts us e h = subst (λ x. Tells s rest x) e h

pub choose : (v : Bool) (s t : Step) (rest ts : List Terminal) → Tells s rest ts → Tells t rest ts → Tells (if v then s else t) rest ts
choose v s t rest ts h j = pick (λ x. Tells x rest ts) v s t h j

-- ---- operators, elements, outputs

pub reduce_tells : (l : ℕ) (e : Ex) (S : Stack) (rest : List Terminal) → stack_words (reduce l e S).stack (ex (reduce l e S).operand rest) ≡ stack_words S (ex e rest)
reduce_tells l e (goal_of g site b) rest = refl
reduce_tells l e (lead_of i spot) rest = refl
reduce_tells l e (inner_of i spot) rest = refl
reduce_tells l e (outputs_of m p site b) rest = refl
reduce_tells l e (op_of p S) rest = pick (λ h. stack_words h.stack (ex h.operand rest) ≡ stack_words S (op p (ex e rest))) (nat_le l (strength p)) (reduce l (under p e) S) (record { operand = e; stack = op_of p S }) (reduce_tells l (under p e) S rest) refl
reduce_tells l e (paren_of m S) rest = refl
reduce_tells l e (args_of c m p S) rest = refl
reduce_tells l e (brace_of n m S) rest = refl
reduce_tells l e (row_of m rs p S) rest = refl

pub put_words : (p : Pending) (i : Item) (rest : List Terminal) → elements (put p i) rest ≡ pending_words p (item i rest)
put_words fresh i rest = refl
put_words (behind es c) i rest = refl

pub put_out_words : (p : Outgoing) (o : Output) (rest : List Terminal) → outputs (put_out p o) rest ≡ outgoing_words p (output_words o rest)
put_out_words fresh_outs o rest = refl
put_out_words (behind_outs os c) o rest = refl

pub put_param_words : (p : Waiting) (x : Param) (rest : List Terminal) → param_words (put_param p x) rest ≡ waiting_words p (param x rest)
put_param_words fresh_params x rest = refl
put_param_words (behind_params ps c) x rest = refl

set_out_words : (p : Outgoing) (gap : Bool) (o : Output) (os : Outputs) (rest : List Terminal) → set_out p gap o ≡ Some os → outputs os rest ≡ outgoing_words p (output_words o rest)
set_out_words fresh_outs gap o os rest h = let e : only o ≡ os = cc in ap (λ x. outputs x rest) (sym e)
set_out_words (behind_outs x (written c)) gap o os rest h = let e : beside x (written c) o ≡ os = cc in ap (λ x. outputs x rest) (sym e)
set_out_words (behind_outs x space) true o os rest h = let e : beside x space o ≡ os = cc in ap (λ x. outputs x rest) (sym e)
set_out_words (behind_outs x space) false o os rest h = cc

tgt_words : (e : Ex) (t : Tgt) (rest : List Terminal) → tgt_of e ≡ Some t → tgt t rest ≡ ex e rest
tgt_words (bare (head (alone n))) t rest h = let e : entire n ≡ t = cc in ap (λ x. tgt x rest) (sym e)
tgt_words (bare (head (dotted i m n))) t rest h = cc
tgt_words (bare (braced n m e z)) t rest h = let e : in_braces n m e z ≡ t = cc in ap (λ x. tgt x rest) (sym e)
tgt_words (call (head (alone n)) m a z) t rest h = let e : indexed n m a z ≡ t = cc in ap (λ x. tgt x rest) (sym e)
tgt_words (call (head (dotted i j n)) m a z) t rest h = cc
tgt_words (call (braced n i e j) m a z) t rest h = cc
tgt_words (number m z) t rest h = cc
tgt_words e t rest h = cc

set_tgt_words : (p : Outgoing) (x : Option Tgt) (e : Ex) (os : Outputs) (rest : List Terminal) → tgt_of e ≡ x → set_tgt p x ≡ Some os → outputs os rest ≡ outgoing_words p (ex e rest)
set_tgt_words p None e os rest g h = cc
set_tgt_words p (Some t) e os rest g h = set_out_words p (Rattle.pl_grammar.specs.Trees.tgt_mark t).gap (to t) os rest h ∙ ap (λ y. outgoing_words p y) (tgt_words e t rest g)

element_words : (e : Ex) (p : Outgoing) (os : Outputs) (rest : List Terminal) → element_outputs p e ≡ Some os → outputs os rest ≡ outgoing_words p (ex e rest)
element_words (under (signed m tilde) e) p os rest h = passed (λ q f. element_words e q os rest f) (set_out p m.gap (skip m)) refl h
  where
    passed : ((q : Outgoing) → element_outputs q e ≡ Some os → outputs os rest ≡ outgoing_words q (ex e rest)) → (x : Option Outputs) → set_out p m.gap (skip m) ≡ x → pass x (λ q. element_outputs q e) ≡ Some os → outputs os rest ≡ outgoing_words p (term w.Not m ∷ ex e rest)
    passed ih None g f = cc
    passed ih (Some xs) g f = ih (behind_outs xs space) f ∙ set_out_words p m.gap (skip m) xs (ex e rest) g
element_words (under (signed m (additive a)) e) p os rest h = cc
element_words (under (joined a o m us) e) p os rest h = cc
element_words (under (from a m) e) p os rest h = cc
element_words (under (stepped a m b n) e) p os rest h = cc
element_words (bare c) p os rest h = set_tgt_words p (tgt_of (bare c)) (bare c) os rest refl h
element_words (call c m a z) p os rest h = set_tgt_words p (tgt_of (call c m a z)) (call c m a z) os rest refl h
element_words (number m z) p os rest h = cc
element_words (chars m z) p os rest h = cc
element_words (state e d m) p os rest h = cc
element_words (paren m e z) p os rest h = cc
element_words (rows m rs z) p os rest h = cc
element_words (rows_to m rs es t z) p os rest h = cc
element_words (func m n) p os rest h = cc
element_words (last m) p os rest h = cc
element_words (transposed e m) p os rest h = cc

item_words : (i : Item) (p : Outgoing) (os : Outputs) (rest : List Terminal) → item_outputs p i ≡ Some os → outputs os rest ≡ outgoing_words p (item i rest)
item_words (value e) p os rest h = element_words e p os rest h
item_words (colon m) p os rest h = cc

pub row_outputs_words : (es : Elements) (os : Outputs) (rest : List Terminal) → row_outputs es ≡ Some os → outputs os rest ≡ elements es rest
row_outputs_words (one i) os rest h = item_words i fresh_outs os rest h
row_outputs_words (also es c i) os rest h = beyond (λ xs g. row_outputs_words es xs (comma_words c (item i rest)) g) (row_outputs es) refl h
  where
    beyond : ((xs : Outputs) → row_outputs es ≡ Some xs → outputs xs (comma_words c (item i rest)) ≡ elements es (comma_words c (item i rest)))
        → (x : Option Outputs) → row_outputs es ≡ x → behind_all x c (λ p. item_outputs p i) ≡ Some os → outputs os rest ≡ elements es (comma_words c (item i rest))
    beyond ih None g f = cc
    beyond ih (Some xs) g f = item_words i (behind_outs xs c) os rest f ∙ ih xs g

pending_words_out : (p : Pending) (q : Outgoing) (rest : List Terminal) → pending_outputs p ≡ Some q → outgoing_words q rest ≡ pending_words p rest
pending_words_out fresh q rest h = let e : fresh_outs ≡ q = cc in ap (λ x. outgoing_words x rest) (sym e)
pending_words_out (behind es c) q rest h = by_row (row_outputs es) refl
  where
    by_row : (x : Option Outputs) → row_outputs es ≡ x → outgoing_words q rest ≡ elements es (comma_words c rest)
    by_row None g = let bad : None ≡ Some q = rw g at h in cc
    by_row (Some os) g = let same : Some (behind_outs os c) ≡ Some q = rw g at h in let e : behind_outs os c ≡ q = cc in ap (λ x. outgoing_words x rest) (sym e) ∙ row_outputs_words es os (comma_words c rest) g

abbrev outlist_words : Outlist → List Terminal → List Terminal
outlist_words l rest = site_words l.site (block l.block (term w.OpenSquare l.mark ∷ outgoing_words l.outputs rest))

pub as_outputs_words : (S : Stack) (l : Outlist) (rest : List Terminal) → as_outputs S ≡ Some l → outlist_words l rest ≡ stack_words S rest
as_outputs_words (row_of m no_rows p (goal_of shown site b)) l rest h = by_pending (pending_outputs p) refl h
  where
    by_pending : (x : Option Outgoing) → pending_outputs p ≡ x → Steps.outlist m site b x ≡ Some l → outlist_words l rest ≡ site_words site (block b (term w.OpenSquare m ∷ pending_words p rest))
    by_pending None g f = cc
    by_pending (Some q) g f = let e : record { mark = m; outputs = q; site = site; block = b } ≡ l = cc in ap (λ x. outlist_words x rest) (sym e) ∙ ap (λ x. site_words site (block b (term w.OpenSquare m ∷ x))) (pending_words_out p q rest g)
as_outputs_words (op_of (signed m tilde) S) l rest h = by_below (λ x g. as_outputs_words S x (term w.Not m ∷ rest) g) (as_outputs S) refl h
  where
    Below : Type 0
    Below = (x : Outlist) → as_outputs S ≡ Some x → outlist_words x (term w.Not m ∷ rest) ≡ stack_words S (term w.Not m ∷ rest)

    by_set : Below → (x : Outlist) (y : Option Outputs) → as_outputs S ≡ Some x → set_out x.outputs m.gap (skip m) ≡ y → Steps.skip_in m x y ≡ Some l → outlist_words l rest ≡ stack_words S (term w.Not m ∷ rest)
    by_set ih x None g s f = cc
    by_set ih x (Some os) g s f =
        let e : record { mark = x.mark; outputs = behind_outs os space; site = x.site; block = x.block } ≡ l = cc in
        ap (λ y. outlist_words y rest) (sym e) ∙ ap (λ y. site_words x.site (block x.block (term w.OpenSquare x.mark ∷ y))) (set_out_words x.outputs m.gap (skip m) os rest s) ∙ ih x g

    by_below : Below → (x : Option Outlist) → as_outputs S ≡ x → Steps.skip_onto m x ≡ Some l → outlist_words l rest ≡ stack_words S (term w.Not m ∷ rest)
    by_below ih None g f = cc
    by_below ih (Some x) g f = by_set ih x (set_out x.outputs m.gap (skip m)) g refl f
as_outputs_words (row_of m (broken rs s) p S) l rest h = cc
as_outputs_words (row_of m (filled rs es t s) p S) l rest h = cc
as_outputs_words (row_of m no_rows p (goal_of (into t q) site b)) l rest h = cc
as_outputs_words (row_of m no_rows p (goal_of (spread n os z q) site b)) l rest h = cc
as_outputs_words (row_of m no_rows p (lead_of i spot)) l rest h = cc
as_outputs_words (row_of m no_rows p (inner_of i spot)) l rest h = cc
as_outputs_words (row_of m no_rows p (outputs_of n o site b)) l rest h = cc
as_outputs_words (row_of m no_rows p (op_of o S)) l rest h = cc
as_outputs_words (row_of m no_rows p (paren_of n S)) l rest h = cc
as_outputs_words (row_of m no_rows p (args_of c n o S)) l rest h = cc
as_outputs_words (row_of m no_rows p (brace_of n o S)) l rest h = cc
as_outputs_words (row_of m no_rows p (row_of n rs o S)) l rest h = cc
as_outputs_words (op_of (signed m (additive a)) S) l rest h = cc
as_outputs_words (op_of (joined a o m us) S) l rest h = cc
as_outputs_words (op_of (from a m) S) l rest h = cc
as_outputs_words (op_of (stepped a m b n) S) l rest h = cc
as_outputs_words (goal_of g site b) l rest h = cc
as_outputs_words (lead_of i spot) l rest h = cc
as_outputs_words (inner_of i spot) l rest h = cc
as_outputs_words (outputs_of n o site b) l rest h = cc
as_outputs_words (paren_of n S) l rest h = cc
as_outputs_words (args_of c n o S) l rest h = cc
as_outputs_words (brace_of n o S) l rest h = cc

-- ---- an operand has to come

pub called_tells : (c : Callee) (m : Mark) (a : Args) (z : Mark) (S : Stack) (rest : List Terminal) → Tells (called c m a z S) rest (stack_words S (callee c (term w.Open m ∷ args a (term w.Close z ∷ rest))))
called_tells (head (alone n)) m a z (outputs_of o p site b) rest = ap (λ x. site_words site (block b (term w.OpenSquare o ∷ x))) (put_out_words p (to (indexed n m a z)) rest)
called_tells (head (alone n)) m a z (goal_of g site b) rest = refl
called_tells (head (alone n)) m a z (lead_of l spot) rest = refl
called_tells (head (alone n)) m a z (inner_of i spot) rest = refl
called_tells (head (alone n)) m a z (op_of p S) rest = refl
called_tells (head (alone n)) m a z (paren_of o S) rest = refl
called_tells (head (alone n)) m a z (args_of c o p S) rest = refl
called_tells (head (alone n)) m a z (brace_of o p S) rest = refl
called_tells (head (alone n)) m a z (row_of o rs p S) rest = refl
called_tells (head (dotted h d n)) m a z S rest = refl
called_tells (braced n i e y) m a z S rest = refl

pub embraced_tells : (n : Named) (m : Mark) (e : Ex) (z : Mark) (S : Stack) (rest : List Terminal) → Tells (embraced n m e z S) rest (stack_words S (named n ∷ term w.OpenBrace m ∷ ex e (term w.CloseBrace z ∷ rest)))
embraced_tells n m e z (outputs_of o p site b) rest = ap (λ x. site_words site (block b (term w.OpenSquare o ∷ x))) (put_out_words p (to (in_braces n m e z)) rest)
embraced_tells n m e z (goal_of g site b) rest = refl
embraced_tells n m e z (lead_of l spot) rest = refl
embraced_tells n m e z (inner_of i spot) rest = refl
embraced_tells n m e z (op_of p S) rest = refl
embraced_tells n m e z (paren_of o S) rest = refl
embraced_tells n m e z (args_of c o p S) rest = refl
embraced_tells n m e z (brace_of o p S) rest = refl
embraced_tells n m e z (row_of o rs p S) rest = refl

module _ (r : Rules) where
  raise_tells : (s : Sign) (m : Mark) (S : Stack) (rest : List Terminal) → Tells (Steps.raise r s m S) rest (stack_words S (term (sign_word s) m ∷ rest))
  raise_tells s m S rest = roomy_tells (room r (suc (nests S))) (Ok (operand (op_of (signed m s) S))) rest (stack_words S (term (sign_word s) m ∷ rest)) refl

  sign_tells : (s : Sign) (m : Mark) (S : Stack) (rest : List Terminal) → Tells (Steps.sign r s m S) rest (stack_words S (term (sign_word s) m ∷ rest))
  sign_tells s m (op_of (joined a o n us) S) rest = choose (is_power o) (roomy (room r (suc (nests (op_of (joined a o n us) S)))) (Ok (operand (op_of (joined a o n (more_signs us m s)) S)))) (Steps.raise r s m (op_of (joined a o n us) S)) rest (stack_words (op_of (joined a o n us) S) (term (sign_word s) m ∷ rest)) (roomy_tells (room r (suc (nests (op_of (joined a o n us) S)))) (Ok (operand (op_of (joined a o n (more_signs us m s)) S))) rest (stack_words (op_of (joined a o n us) S) (term (sign_word s) m ∷ rest)) refl) (raise_tells s m (op_of (joined a o n us) S) rest)
  sign_tells s m (op_of (signed n t) S) rest = raise_tells s m (op_of (signed n t) S) rest
  sign_tells s m (op_of (from a n) S) rest = raise_tells s m (op_of (from a n) S) rest
  sign_tells s m (op_of (stepped a n b o) S) rest = raise_tells s m (op_of (stepped a n b o) S) rest
  sign_tells s m (goal_of g site b) rest = raise_tells s m (goal_of g site b) rest
  sign_tells s m (lead_of l spot) rest = raise_tells s m (lead_of l spot) rest
  sign_tells s m (inner_of i spot) rest = raise_tells s m (inner_of i spot) rest
  sign_tells s m (outputs_of o q site b) rest = raise_tells s m (outputs_of o q site b) rest
  sign_tells s m (paren_of o S) rest = raise_tells s m (paren_of o S) rest
  sign_tells s m (args_of c o q S) rest = raise_tells s m (args_of c o q S) rest
  sign_tells s m (brace_of o q S) rest = raise_tells s m (brace_of o q S) rest
  sign_tells s m (row_of o rs q S) rest = raise_tells s m (row_of o rs q S) rest

  bin_additive : (o : Bin) (d : Additive) → additive_of o ≡ Some d → bin_of d ≡ o
  bin_additive o d h = Rattle.pl_grammar.proofs.Reading.bin_additive r o d h

  sign_of_tells : (o : Bin) (ad : Option Additive) (m : Mark) (S : Stack) (rest : List Terminal) → additive_of o ≡ ad → Tells (Steps.sign_of r ad m S) rest (stack_words S (term (w.Binary o) m ∷ rest))
  sign_of_tells o None m S rest h = tt
  sign_of_tells o (Some a) m S rest h = retell (Steps.sign r (additive a) m S) rest (stack_words S (term (w.Binary (bin_of a)) m ∷ rest)) (stack_words S (term (w.Binary o) m ∷ rest)) (ap (λ x. stack_words S (term (w.Binary x) m ∷ rest)) (bin_additive o a h)) (sign_tells (additive a) m S rest)

  -- outputs that frames stand for
  then_tells : (S : Stack) (x : Option Outlist) (go : Mark → Outputs → Site → Block → State) (rest ts : List Terminal) → as_outputs S ≡ x
      → ((l : Outlist) (os : Outputs) (c : Comma) → l.outputs ≡ behind_outs os c → as_outputs S ≡ Some l → told (go l.mark os l.site l.block) rest ≡ ts) → Tells (Steps.outputs_then x go) rest ts
  then_tells S None go rest ts h f = tt
  then_tells S (Some l) go rest ts h f = by_outs l.outputs refl
    where
      by_outs : (o : Outgoing) → l.outputs ≡ o → Tells (Steps.outputs_then (Some (record { mark = l.mark; outputs = o; site = l.site; block = l.block })) go) rest ts
      by_outs fresh_outs g = tt
      by_outs (behind_outs os c) g = f l os c g h

  skip_space : (p : Op) (S : Stack) (l : Outlist) (os : Outputs) (c : Comma) → as_outputs (op_of p S) ≡ Some l → l.outputs ≡ behind_outs os c → c ≡ space
  skip_space (signed m tilde) S l os c h e = by_below (as_outputs S) h
    where
      by_set : (x : Outlist) (y : Option Outputs) → Steps.skip_in m x y ≡ Some l → c ≡ space
      by_set x None f = cc
      by_set x (Some ys) f =
          let g : record { mark = x.mark; outputs = behind_outs ys space; site = x.site; block = x.block } ≡ l = cc in
          let i : behind_outs ys space ≡ l.outputs = ap (λ z. z.outputs) g in
          let j : behind_outs ys space ≡ behind_outs os c = i ∙ e in cc

      by_below : (x : Option Outlist) → Steps.skip_onto m x ≡ Some l → c ≡ space
      by_below None f = cc
      by_below (Some x) f = by_set x (set_out x.outputs m.gap (skip m)) f
  skip_space (signed m (additive a)) S l os c h e = cc
  skip_space (joined a o m us) S l os c h e = cc
  skip_space (from a m) S l os c h e = cc
  skip_space (stepped a m b n) S l os c h e = cc

  -- the terminals behind the `~` on top
  skipped_words : (p : Op) (S : Stack) (l : Outlist) (os : Outputs) (c : Comma) (rest : List Terminal) → l.outputs ≡ behind_outs os c → as_outputs (op_of p S) ≡ Some l
      → site_words l.site (block l.block (term w.OpenSquare l.mark ∷ outputs os rest)) ≡ stack_words (op_of p S) rest
  skipped_words p S l os c rest e h =
      let f : l.outputs ≡ behind_outs os space = e ∙ ap (λ x. behind_outs os x) (skip_space p S l os c h e) in
      ap (λ x. site_words l.site (block l.block (term w.OpenSquare l.mark ∷ outgoing_words x rest))) (sym f) ∙ as_outputs_words (op_of p S) l rest h

  comma_empty_tells : (c : Mark) (S : Stack) (rest : List Terminal) → Tells (Steps.comma_empty c S) rest (stack_words S (term w.Comma c ∷ rest))
  comma_empty_tells c (op_of p S) rest = then_tells (op_of p S) (as_outputs (op_of p S)) (λ m os site b. output m (behind_outs os (written c)) site b) rest (stack_words (op_of p S) (term w.Comma c ∷ rest)) refl (λ l os x e h. skipped_words p S l os x (term w.Comma c ∷ rest) e h)
  comma_empty_tells c (goal_of g site b) rest = tt
  comma_empty_tells c (lead_of l spot) rest = tt
  comma_empty_tells c (inner_of i spot) rest = tt
  comma_empty_tells c (outputs_of o q site b) rest = tt
  comma_empty_tells c (paren_of o S) rest = tt
  comma_empty_tells c (args_of f o q S) rest = tt
  comma_empty_tells c (brace_of o q S) rest = tt
  comma_empty_tells c (row_of o rs q S) rest = tt

  square_row_tells : (m : Mark) (rs : Rows) (p : Pending) (S : Stack) (z : Mark) (rest : List Terminal) → Tells (Steps.square_row m rs p S z) rest (stack_words (row_of m rs p S) (term w.CloseSquare z ∷ rest))
  square_row_tells m rs fresh S z rest = refl
  square_row_tells m rs (behind es (written c)) S z rest = refl
  square_row_tells m rs (behind es space) S z rest = tt

  square_empty_tells : (z : Mark) (S : Stack) (rest : List Terminal) → Tells (Steps.square_empty z S) rest (stack_words S (term w.CloseSquare z ∷ rest))
  square_empty_tells z (row_of m rs p S) rest = square_row_tells m rs p S z rest
  square_empty_tells z (op_of p S) rest = then_tells (op_of p S) (as_outputs (op_of p S)) (λ m os site b. outputs_shut m os z site b) rest (stack_words (op_of p S) (term w.CloseSquare z ∷ rest)) refl (λ l os x e h. skipped_words p S l os x (term w.CloseSquare z ∷ rest) e h)
  square_empty_tells z (goal_of g site b) rest = tt
  square_empty_tells z (lead_of l spot) rest = tt
  square_empty_tells z (inner_of i spot) rest = tt
  square_empty_tells z (outputs_of o q site b) rest = tt
  square_empty_tells z (paren_of o S) rest = tt
  square_empty_tells z (args_of f o q S) rest = tt
  square_empty_tells z (brace_of o q S) rest = tt

  close_empty_tells : (z : Mark) (S : Stack) (rest : List Terminal) → Tells (Steps.close_empty z S) rest (stack_words S (term w.Close z ∷ rest))
  close_empty_tells z (args_of c m fresh S) rest = called_tells c m no_args z S rest
  close_empty_tells z (args_of c m (behind es x) S) rest = tt
  close_empty_tells z (goal_of g site b) rest = tt
  close_empty_tells z (lead_of l spot) rest = tt
  close_empty_tells z (inner_of i spot) rest = tt
  close_empty_tells z (outputs_of o q site b) rest = tt
  close_empty_tells z (op_of p S) rest = tt
  close_empty_tells z (paren_of o S) rest = tt
  close_empty_tells z (brace_of o q S) rest = tt
  close_empty_tells z (row_of o rs q S) rest = tt

  break_row_tells : (m : Mark) (rs : Rows) (p : Pending) (S : Stack) (s : Sep) (rest : List Terminal) → Tells (Steps.break_row m rs p S s) rest (stack_words (row_of m rs p S) (sep s rest))
  break_row_tells m rs fresh S s rest = refl
  break_row_tells m rs (behind es (written c)) S s rest = refl
  break_row_tells m rs (behind es space) S s rest = tt

  break_empty_tells : (s : Sep) (S : Stack) (rest : List Terminal) → Tells (Steps.break_empty s S) rest (stack_words S (sep s rest))
  break_empty_tells s (row_of m rs p S) rest = break_row_tells m rs p S s rest
  break_empty_tells s (goal_of g site b) rest = tt
  break_empty_tells s (lead_of l spot) rest = tt
  break_empty_tells s (inner_of i spot) rest = tt
  break_empty_tells s (outputs_of o q site b) rest = tt
  break_empty_tells s (op_of p S) rest = tt
  break_empty_tells s (paren_of o S) rest = tt
  break_empty_tells s (args_of f o q S) rest = tt
  break_empty_tells s (brace_of o q S) rest = tt

  colon_arg_tells : (m : Mark) (S : Stack) (rest : List Terminal) → Tells (Steps.colon_arg m S) rest (stack_words S (term w.Colon m ∷ rest))
  colon_arg_tells m (args_of f o q S) rest = refl
  colon_arg_tells m (goal_of g site b) rest = tt
  colon_arg_tells m (lead_of l spot) rest = tt
  colon_arg_tells m (inner_of i spot) rest = tt
  colon_arg_tells m (outputs_of o q site b) rest = tt
  colon_arg_tells m (op_of p S) rest = tt
  colon_arg_tells m (paren_of o S) rest = tt
  colon_arg_tells m (brace_of o q S) rest = tt
  colon_arg_tells m (row_of o rs q S) rest = tt

  last_tells : (word : Keyword) (m : Mark) (S : Stack) (rest : List Terminal) (v : Bool) → Steps.end_word word ≡ v → Tells (if v && in_index S then Ok (after (last m) S) else refused) rest (stack_words S (term (w.Key word) m ∷ rest))
  last_tells k.End m S rest v h = choose (v && in_index S) (Ok (after (last m) S)) refused rest (stack_words S (term (w.Key k.End) m ∷ rest)) refl tt
  last_tells word m S rest true h = cc
  last_tells word m S rest false h = tt

  pub operand_tells : (word : Word) (m : Mark) (S : Stack) (rest : List Terminal) → Tells (read_operand r word m S) rest (stack_words S (term word m ∷ rest))
  operand_tells (w.Name n) m S rest = refl
  operand_tells (w.Chars cs) m S rest = refl
  operand_tells (w.Number z) m S rest = refl
  operand_tells (w.Binary o) m S rest = sign_of_tells o (additive_of o) m S rest refl
  operand_tells w.Not m S rest = sign_tells tilde m S rest
  operand_tells w.Quote m S rest = tt
  operand_tells w.Equal m S rest = tt
  operand_tells w.Colon m S rest = colon_arg_tells m S rest
  operand_tells w.Comma m S rest = comma_empty_tells m S rest
  operand_tells w.Semicolon m S rest = break_empty_tells (record { kind = semicolon; mark = m }) S rest
  operand_tells w.LineEnd m S rest = break_empty_tells (record { kind = line; mark = m }) S rest
  operand_tells w.Open m S rest = roomy_tells (room r (suc (nests S))) (Ok (operand (paren_of m S))) rest (stack_words S (term w.Open m ∷ rest)) refl
  operand_tells w.Close m S rest = close_empty_tells m S rest
  operand_tells w.OpenSquare m S rest = roomy_tells (room r (suc (nests S))) (Ok (operand (row_of m no_rows fresh S))) rest (stack_words S (term w.OpenSquare m ∷ rest)) refl
  operand_tells w.CloseSquare m S rest = square_empty_tells m S rest
  operand_tells w.OpenBrace m S rest = tt
  operand_tells w.CloseBrace m S rest = tt
  operand_tells w.At m S rest = refl
  operand_tells w.Dot m S rest = tt
  operand_tells (w.Key word) m S rest = last_tells word m S rest (Steps.end_word word) refl

  -- ---- an operand has come

  join_tells : (e : Ex) (S : Stack) (o : Bin) (m : Mark) (rest : List Terminal) → Tells (Steps.join r e S o m) rest (stack_words S (ex e (term (w.Binary o) m ∷ rest)))
  join_tells e S o m rest = roomy_tells (room r (suc (height e + nests S))) (Ok (operand (op_of (joined e o m no_signs) S))) rest (stack_words S (ex e (term (w.Binary o) m ∷ rest))) refl

  reduced_join : (l : ℕ) (e : Ex) (S : Stack) (o : Bin) (m : Mark) (rest : List Terminal) → Tells (Steps.join r (reduce l e S).operand (reduce l e S).stack o m) rest (stack_words S (ex e (term (w.Binary o) m ∷ rest)))
  reduced_join l e S o m rest = retell (Steps.join r (reduce l e S).operand (reduce l e S).stack o m) rest (stack_words (reduce l e S).stack (ex (reduce l e S).operand (term (w.Binary o) m ∷ rest))) (stack_words S (ex e (term (w.Binary o) m ∷ rest))) (reduce_tells l e S (term (w.Binary o) m ∷ rest)) (join_tells (reduce l e S).operand (reduce l e S).stack o m rest)

  operator_tells : (o : Bin) (ad : Option Additive) (m : Mark) (e : Ex) (S : Stack) (rest : List Terminal) → additive_of o ≡ ad → Tells (Steps.operator r o ad m e S) rest (stack_words S (ex e (term (w.Binary o) m ∷ rest)))
  operator_tells o None m e S rest h = reduced_join (level o) e S o m rest
  operator_tells o (Some a) m e S rest h =
      let ts : List Terminal = stack_words S (ex e (term (w.Binary o) m ∷ rest)) in
      choose (in_row S && m.gap) (Steps.tear r e a m S (reduce 0 e S).stack) (Steps.join r (reduce (level o) e S).operand (reduce (level o) e S).stack o m) rest ts
      (roomy_tells (room r (suc (nests (reduce 0 e S).stack))) (Ok (torn e a m S)) rest ts (ap (λ x. stack_words S (ex e (term (w.Binary x) m ∷ rest))) (bin_additive o a h)))
      (reduced_join (level o) e S o m rest)

  transpose_tells : (m : Mark) (e : Ex) (S : Stack) (rest : List Terminal) → Tells (Steps.transpose r m e S) rest (stack_words S (ex e (term w.Quote m ∷ rest)))
  transpose_tells m e S rest = roomy_tells (room r (suc (height e + nests S))) (Ok (after (transposed e m) S)) rest (stack_words S (ex e (term w.Quote m ∷ rest))) refl

  range_tells : (m : Mark) (e : Ex) (S : Stack) (rest : List Terminal) → Tells (Steps.range r m e S) rest (stack_words S (ex e (term w.Colon m ∷ rest)))
  range_tells m e (op_of (from a n) S) rest = refl
  range_tells m e (op_of (stepped a n b o) S) rest = tt
  range_tells m e (op_of (joined a o n us) S) rest = roomy_tells (room r (suc (height e + nests (op_of (joined a o n us) S)))) (Ok (operand (op_of (from e m) (op_of (joined a o n us) S)))) rest (stack_words (op_of (joined a o n us) S) (ex e (term w.Colon m ∷ rest))) refl
  range_tells m e (op_of (signed n t) S) rest = roomy_tells (room r (suc (height e + nests (op_of (signed n t) S)))) (Ok (operand (op_of (from e m) (op_of (signed n t) S)))) rest (stack_words (op_of (signed n t) S) (ex e (term w.Colon m ∷ rest))) refl
  range_tells m e (goal_of g site b) rest = roomy_tells (room r (suc (height e + nests (goal_of g site b)))) (Ok (operand (op_of (from e m) (goal_of g site b)))) rest (stack_words (goal_of g site b) (ex e (term w.Colon m ∷ rest))) refl
  range_tells m e (lead_of l spot) rest = roomy_tells (room r (suc (height e + nests (lead_of l spot)))) (Ok (operand (op_of (from e m) (lead_of l spot)))) rest (stack_words (lead_of l spot) (ex e (term w.Colon m ∷ rest))) refl
  range_tells m e (inner_of i spot) rest = roomy_tells (room r (suc (height e + nests (inner_of i spot)))) (Ok (operand (op_of (from e m) (inner_of i spot)))) rest (stack_words (inner_of i spot) (ex e (term w.Colon m ∷ rest))) refl
  range_tells m e (outputs_of o q site b) rest = roomy_tells (room r (suc (height e + nests (outputs_of o q site b)))) (Ok (operand (op_of (from e m) (outputs_of o q site b)))) rest (stack_words (outputs_of o q site b) (ex e (term w.Colon m ∷ rest))) refl
  range_tells m e (paren_of o S) rest = roomy_tells (room r (suc (height e + nests (paren_of o S)))) (Ok (operand (op_of (from e m) (paren_of o S)))) rest (stack_words (paren_of o S) (ex e (term w.Colon m ∷ rest))) refl
  range_tells m e (args_of f o q S) rest = roomy_tells (room r (suc (height e + nests (args_of f o q S)))) (Ok (operand (op_of (from e m) (args_of f o q S)))) rest (stack_words (args_of f o q S) (ex e (term w.Colon m ∷ rest))) refl
  range_tells m e (brace_of o q S) rest = roomy_tells (room r (suc (height e + nests (brace_of o q S)))) (Ok (operand (op_of (from e m) (brace_of o q S)))) rest (stack_words (brace_of o q S) (ex e (term w.Colon m ∷ rest))) refl
  range_tells m e (row_of o rs q S) rest = roomy_tells (room r (suc (height e + nests (row_of o rs q S)))) (Ok (operand (op_of (from e m) (row_of o rs q S)))) rest (stack_words (row_of o rs q S) (ex e (term w.Colon m ∷ rest))) refl

  spread_tells : (m z q : Mark) (es : Elements) (x : Option Outputs) (site : Site) (b : Block) (rest : List Terminal) → row_outputs es ≡ x
      → Tells (Steps.spread_to m z q x site b) rest (site_words site (block b (term w.OpenSquare m ∷ elements es (term w.CloseSquare z ∷ term w.Equal q ∷ rest))))
  spread_tells m z q es None site b rest h = tt
  spread_tells m z q es (Some os) site b rest h = ap (λ x. site_words site (block b (term w.OpenSquare m ∷ x))) (row_outputs_words es os (term w.CloseSquare z ∷ term w.Equal q ∷ rest) h)

  assign_to_tells : (q : Mark) (x : Option Tgt) (e : Ex) (site : Site) (b : Block) (rest : List Terminal) → tgt_of e ≡ x → Tells (Steps.assign_to q x e site b) rest (site_words site (block b (ex e (term w.Equal q ∷ rest))))
  assign_to_tells q (Some t) e site b rest h = ap (λ x. site_words site (block b x)) (tgt_words e t (term w.Equal q ∷ rest) h)
  assign_to_tells q None (rows_to m no_rows es no_trail z) site b rest h = spread_tells m z q es (row_outputs es) site b rest refl
  assign_to_tells q None (rows_to m no_rows es (trail c) z) site b rest h = tt
  assign_to_tells q None (rows_to m (broken rs s) es t z) site b rest h = tt
  assign_to_tells q None (rows_to m (filled rs x u s) es t z) site b rest h = tt
  assign_to_tells q None (number m z) site b rest h = tt
  assign_to_tells q None e site b rest h = tt

  assign_tells : (q : Mark) (e : Ex) (S : Stack) (rest : List Terminal) → Tells (Steps.assign q e S) rest (stack_words S (ex e (term w.Equal q ∷ rest)))
  assign_tells q e (goal_of shown site b) rest = assign_to_tells q (tgt_of e) e site b rest refl
  assign_tells q e (goal_of (into t z) site b) rest = tt
  assign_tells q e (goal_of (spread m os z y) site b) rest = tt
  assign_tells q e (lead_of l spot) rest = tt
  assign_tells q e (inner_of i spot) rest = tt
  assign_tells q e (outputs_of o y site b) rest = tt
  assign_tells q e (op_of p S) rest = tt
  assign_tells q e (paren_of o S) rest = tt
  assign_tells q e (args_of f o y S) rest = tt
  assign_tells q e (brace_of o y S) rest = tt
  assign_tells q e (row_of o rs y S) rest = tt

  pub settle_words : (g : Goal) (e : Ex) (rest : List Terminal) → smt (settle g e) rest ≡ goal g (ex e rest)
  settle_words shown e rest = refl
  settle_words (spread m os z q) e rest = refl
  settle_words (into (entire n) q) e rest = refl
  settle_words (into (in_braces n m x z) q) e rest = refl
  settle_words (into (indexed n m a z) q) (rows o no_rows y) rest = refl
  settle_words (into (indexed n m a z) q) e rest = refl

  pub enter_words : (p : Part) (spot : Spot) (rest : List Terminal) → site_words (enter p spot) rest ≡ spot_words spot (part p rest)
  enter_words p (here site b) rest = refl
  enter_words p (linked o b site before) rest = refl

  pub end_simple_tells : (s : Sep) (e : Ex) (S : Stack) (rest : List Terminal) → Tells (Steps.end_simple s e S) rest (stack_words S (ex e (sep s rest)))
  end_simple_tells s e (goal_of g site b) rest = ap (λ x. site_words site (block b x)) (settle_words g e (sep s rest))
  end_simple_tells s e (lead_of l spot) rest = enter_words (headed (upto l e) s) spot rest
  end_simple_tells s e (inner_of i spot) rest = tt
  end_simple_tells s e (outputs_of o q site b) rest = tt
  end_simple_tells s e (op_of p S) rest = tt
  end_simple_tells s e (paren_of o S) rest = tt
  end_simple_tells s e (args_of f o q S) rest = tt
  end_simple_tells s e (brace_of o q S) rest = tt
  end_simple_tells s e (row_of o rs q S) rest = tt

  end_row_tells : (s : Sep) (e : Ex) (S : Stack) (rest : List Terminal) → Tells (Steps.end_row s e S) rest (stack_words S (ex e (sep s rest)))
  end_row_tells s e (row_of m rs p S) rest = ap (λ x. stack_words S (term w.OpenSquare m ∷ row_words rs x)) (put_words p (value e) (sep s rest))
  end_row_tells s e (goal_of g site b) rest = end_simple_tells s e (goal_of g site b) rest
  end_row_tells s e (lead_of l spot) rest = end_simple_tells s e (lead_of l spot) rest
  end_row_tells s e (inner_of i spot) rest = end_simple_tells s e (inner_of i spot) rest
  end_row_tells s e (outputs_of o q site b) rest = end_simple_tells s e (outputs_of o q site b) rest
  end_row_tells s e (op_of p S) rest = end_simple_tells s e (op_of p S) rest
  end_row_tells s e (paren_of o S) rest = end_simple_tells s e (paren_of o S) rest
  end_row_tells s e (args_of f o q S) rest = end_simple_tells s e (args_of f o q S) rest
  end_row_tells s e (brace_of o q S) rest = end_simple_tells s e (brace_of o q S) rest

  bound_tells : (v : Bool) (word : Keyword) (m o : Mark) (n : Named) (q : Mark) (e : Ex) (c : Mark) (spot : Spot) (rest : List Terminal) → Steps.is_parfor word ≡ v
      → Tells (Steps.bound_of v m o n q e c spot) rest (spot_words spot (term (w.Key word) m ∷ term w.Open o ∷ named n ∷ term w.Equal q ∷ ex e (term w.Comma c ∷ rest)))
  bound_tells false word m o n q e c spot rest h = tt
  bound_tells true k.Parfor m o n q e c spot rest h = refl
  bound_tells true word m o n q e c spot rest h = cc

  end_comma_tells : (c : Mark) (e : Ex) (S : Stack) (rest : List Terminal) → Tells (Steps.end_comma c e S) rest (stack_words S (ex e (term w.Comma c ∷ rest)))
  end_comma_tells c e (args_of f m p S) rest = ap (λ x. stack_words S (callee f (term w.Open m ∷ x))) (put_words p (value e) (term w.Comma c ∷ rest))
  end_comma_tells c e (row_of m rs p S) rest = ap (λ x. stack_words S (term w.OpenSquare m ∷ row_words rs x)) (put_words p (value e) (term w.Comma c ∷ rest))
  end_comma_tells c e (inner_of (each_in word m o n q) spot) rest = bound_tells (Steps.is_parfor word) word m o n q e c spot rest refl
  end_comma_tells c e (inner_of (bound m o n q x d) spot) rest = tt
  end_comma_tells c e (inner_of (workers m o) spot) rest = tt
  end_comma_tells c e (goal_of g site b) rest = end_simple_tells (record { kind = comma; mark = c }) e (goal_of g site b) rest
  end_comma_tells c e (lead_of l spot) rest = end_simple_tells (record { kind = comma; mark = c }) e (lead_of l spot) rest
  end_comma_tells c e (outputs_of o q site b) rest = end_simple_tells (record { kind = comma; mark = c }) e (outputs_of o q site b) rest
  end_comma_tells c e (op_of p S) rest = end_simple_tells (record { kind = comma; mark = c }) e (op_of p S) rest
  end_comma_tells c e (paren_of o S) rest = end_simple_tells (record { kind = comma; mark = c }) e (paren_of o S) rest
  end_comma_tells c e (brace_of o q S) rest = end_simple_tells (record { kind = comma; mark = c }) e (brace_of o q S) rest

  close_tells : (z : Mark) (e : Ex) (S : Stack) (rest : List Terminal) → Tells (Steps.close z e S) rest (stack_words S (ex e (term w.Close z ∷ rest)))
  close_tells z e (paren_of m S) rest = refl
  close_tells z e (args_of c m p S) rest = retell (called c m (listed (put p (value e))) z S) rest (stack_words S (callee c (term w.Open m ∷ elements (put p (value e)) (term w.Close z ∷ rest)))) (stack_words S (callee c (term w.Open m ∷ pending_words p (ex e (term w.Close z ∷ rest))))) (ap (λ x. stack_words S (callee c (term w.Open m ∷ x))) (put_words p (value e) (term w.Close z ∷ rest))) (called_tells c m (listed (put p (value e))) z S rest)
  close_tells z e (inner_of i spot) rest = refl
  close_tells z e (goal_of g site b) rest = tt
  close_tells z e (lead_of l spot) rest = tt
  close_tells z e (outputs_of o q site b) rest = tt
  close_tells z e (op_of p S) rest = tt
  close_tells z e (brace_of o q S) rest = tt
  close_tells z e (row_of o rs q S) rest = tt

  close_square_tells : (z : Mark) (e : Ex) (S : Stack) (rest : List Terminal) → Tells (Steps.close_square z e S) rest (stack_words S (ex e (term w.CloseSquare z ∷ rest)))
  close_square_tells z e (row_of m rs p S) rest = ap (λ x. stack_words S (term w.OpenSquare m ∷ row_words rs x)) (put_words p (value e) (term w.CloseSquare z ∷ rest))
  close_square_tells z e (goal_of g site b) rest = tt
  close_square_tells z e (lead_of l spot) rest = tt
  close_square_tells z e (inner_of i spot) rest = tt
  close_square_tells z e (outputs_of o q site b) rest = tt
  close_square_tells z e (op_of p S) rest = tt
  close_square_tells z e (paren_of o S) rest = tt
  close_square_tells z e (args_of f o q S) rest = tt
  close_square_tells z e (brace_of o q S) rest = tt

  close_brace_tells : (z : Mark) (e : Ex) (S : Stack) (rest : List Terminal) → Tells (Steps.close_brace z e S) rest (stack_words S (ex e (term w.CloseBrace z ∷ rest)))
  close_brace_tells z e (brace_of n m S) rest = embraced_tells n m e z S rest
  close_brace_tells z e (goal_of g site b) rest = tt
  close_brace_tells z e (lead_of l spot) rest = tt
  close_brace_tells z e (inner_of i spot) rest = tt
  close_brace_tells z e (outputs_of o q site b) rest = tt
  close_brace_tells z e (op_of p S) rest = tt
  close_brace_tells z e (paren_of o S) rest = tt
  close_brace_tells z e (args_of f o q S) rest = tt
  close_brace_tells z e (row_of o rs q S) rest = tt

  list_of_tells : (m : Mark) (e : Ex) (S : Stack) (rest : List Terminal) → Tells (Steps.list_of r m e S) rest (stack_words S (ex e (term w.Open m ∷ rest)))
  list_of_tells m (bare c) S rest = roomy_tells (room r (suc (nests S))) (Ok (operand (args_of c m fresh S))) rest (stack_words S (callee c (term w.Open m ∷ rest))) refl
  list_of_tells m e S rest = tt

  brace_tells : (m : Mark) (e : Ex) (S : Stack) (rest : List Terminal) → Tells (Steps.brace r m e S) rest (stack_words S (ex e (term w.OpenBrace m ∷ rest)))
  brace_tells m (bare (head (alone n))) S rest = roomy_tells (room r (suc (nests S))) (Ok (operand (brace_of n m S))) rest (stack_words S (named n ∷ term w.OpenBrace m ∷ rest)) refl
  brace_tells m (bare (head (dotted h d n))) S rest = tt
  brace_tells m (bare (braced n i x z)) S rest = tt
  brace_tells m e S rest = tt

  dot_behind_tells : (m : Mark) (e : Ex) (S : Stack) (rest : List Terminal) → Tells (Steps.dot_behind m e S) rest (stack_words S (ex e (term w.Dot m ∷ rest)))
  dot_behind_tells m e S rest = choose (has_state e) (Ok (dot e m S)) refused rest (stack_words S (ex e (term w.Dot m ∷ rest))) refl tt

  -- a step that first lets operators take the operand
  reduced : (l : ℕ) (f : Ex → Stack → Step) (t : Terminal) (rest : List Terminal) → ((e : Ex) (S : Stack) → Tells (f e S) rest (stack_words S (ex e (t ∷ rest)))) → (e : Ex) (S : Stack)
      → Tells (f (reduce l e S).operand (reduce l e S).stack) rest (stack_words S (ex e (t ∷ rest)))
  reduced l f t rest h e S = retell (f (reduce l e S).operand (reduce l e S).stack) rest (stack_words (reduce l e S).stack (ex (reduce l e S).operand (t ∷ rest))) (stack_words S (ex e (t ∷ rest))) (reduce_tells l e S (t ∷ rest)) (h (reduce l e S).operand (reduce l e S).stack)

  go_on_tells : (word : Word) (m : Mark) (e : Ex) (S : Stack) (rest : List Terminal) → Tells (go_on r word m e S) rest (stack_words S (ex e (term word m ∷ rest)))
  go_on_tells (w.Binary o) m e S rest = operator_tells o (additive_of o) m e S rest refl
  go_on_tells w.Quote m e S rest = reduced 10 (λ x T. Steps.transpose r m x T) (term w.Quote m) rest (λ x T. transpose_tells m x T rest) e S
  go_on_tells w.Colon m e S rest = reduced 7 (λ x T. Steps.range r m x T) (term w.Colon m) rest (λ x T. range_tells m x T rest) e S
  go_on_tells w.Equal m e S rest = assign_tells m e S rest
  go_on_tells w.Comma m e S rest = reduced 0 (λ x T. Steps.end_comma m x T) (term w.Comma m) rest (λ x T. end_comma_tells m x T rest) e S
  go_on_tells w.Semicolon m e S rest = reduced 0 (λ x T. Steps.end_row (record { kind = semicolon; mark = m }) x T) (term w.Semicolon m) rest (λ x T. end_row_tells (record { kind = semicolon; mark = m }) x T rest) e S
  go_on_tells w.LineEnd m e S rest = reduced 0 (λ x T. Steps.end_row (record { kind = line; mark = m }) x T) (term w.LineEnd m) rest (λ x T. end_row_tells (record { kind = line; mark = m }) x T rest) e S
  go_on_tells w.Open m e S rest = list_of_tells m e S rest
  go_on_tells w.Close m e S rest = reduced 0 (λ x T. Steps.close m x T) (term w.Close m) rest (λ x T. close_tells m x T rest) e S
  go_on_tells w.CloseSquare m e S rest = reduced 0 (λ x T. Steps.close_square m x T) (term w.CloseSquare m) rest (λ x T. close_square_tells m x T rest) e S
  go_on_tells w.OpenBrace m e S rest = brace_tells m e S rest
  go_on_tells w.CloseBrace m e S rest = reduced 0 (λ x T. Steps.close_brace m x T) (term w.CloseBrace m) rest (λ x T. close_brace_tells m x T rest) e S
  go_on_tells w.Dot m e S rest = dot_behind_tells m e S rest
  go_on_tells word m e S rest = tt

  apart_tells : (e : Ex) (S : Stack) (go : Stack → Step) (t : Terminal) (rest : List Terminal) → ((T : Stack) → Tells (go T) rest (stack_words T (t ∷ rest))) → Tells (Steps.apart e S go) rest (stack_words S (ex e (t ∷ rest)))
  apart_tells e (row_of m rs p S) go t rest h = retell (go (row_of m rs (behind (put p (value e)) space) S)) rest (stack_words S (term w.OpenSquare m ∷ row_words rs (elements (put p (value e)) (t ∷ rest)))) (stack_words S (term w.OpenSquare m ∷ row_words rs (pending_words p (ex e (t ∷ rest))))) (ap (λ x. stack_words S (term w.OpenSquare m ∷ row_words rs x)) (put_words p (value e) (t ∷ rest))) (h (row_of m rs (behind (put p (value e)) space) S))
  apart_tells e (goal_of g site b) go t rest h = tt
  apart_tells e (lead_of l spot) go t rest h = tt
  apart_tells e (inner_of i spot) go t rest h = tt
  apart_tells e (outputs_of o q site b) go t rest h = tt
  apart_tells e (op_of p S) go t rest h = tt
  apart_tells e (paren_of o S) go t rest h = tt
  apart_tells e (args_of f o q S) go t rest h = tt
  apart_tells e (brace_of o q S) go t rest h = tt

  pub after_tells : (word : Word) (m : Mark) (e : Ex) (S : Stack) (rest : List Terminal) → Tells (read_after r word m e S) rest (stack_words S (ex e (term word m ∷ rest)))
  after_tells word m e S rest = choose (Steps.begins_element word S && (in_row S && m.gap)) (Steps.apart (reduce 0 e S).operand (reduce 0 e S).stack (λ row. read_operand r word m row)) (go_on r word m e S) rest (stack_words S (ex e (term word m ∷ rest)))
      (reduced 0 (λ x T. Steps.apart x T (λ row. read_operand r word m row)) (term word m) rest (λ x T. apart_tells x T (λ row. read_operand r word m row) (term word m) rest (λ U. operand_tells word m U rest)) e S)
      (go_on_tells word m e S rest)

  pub untear_tells : (e : Ex) (a : Additive) (n : Mark) (S : Stack) (word : Word) (m : Mark) (rest : List Terminal) → Tells (Steps.untear r e a n S word m) rest (stack_words S (ex e (term (w.Binary (bin_of a)) n ∷ term word m ∷ rest)))
  untear_tells e a n S word m rest =
      let ts : List Terminal = stack_words S (ex e (term (w.Binary (bin_of a)) n ∷ term word m ∷ rest)) in
      let T : Stack = (reduce 7 e S).stack in
      let x : Ex = (reduce 7 e S).operand in
      choose m.gap (roomy (room r (suc (height x + nests T))) (read_operand r word m (op_of (joined x (bin_of a) n no_signs) T))) (Steps.apart (reduce 0 e S).operand (reduce 0 e S).stack (λ row. read_operand r word m (op_of (signed n (additive a)) row))) rest ts
      (roomy_tells (room r (suc (height x + nests T))) (read_operand r word m (op_of (joined x (bin_of a) n no_signs) T)) rest ts
      (retell (read_operand r word m (op_of (joined x (bin_of a) n no_signs) T)) rest (stack_words T (ex x (term (w.Binary (bin_of a)) n ∷ term word m ∷ rest))) ts (reduce_tells 7 e S (term (w.Binary (bin_of a)) n ∷ term word m ∷ rest)) (operand_tells word m (op_of (joined x (bin_of a) n no_signs) T) rest)))
      (retell (Steps.apart (reduce 0 e S).operand (reduce 0 e S).stack (λ row. read_operand r word m (op_of (signed n (additive a)) row))) rest (stack_words (reduce 0 e S).stack (ex (reduce 0 e S).operand (term (w.Binary (bin_of a)) n ∷ term word m ∷ rest))) ts (reduce_tells 0 e S (term (w.Binary (bin_of a)) n ∷ term word m ∷ rest))
      (sign_apart (reduce 0 e S).operand (reduce 0 e S).stack))
    where
      sign_apart : (y : Ex) (U : Stack) → Tells (Steps.apart y U (λ row. read_operand r word m (op_of (signed n (additive a)) row))) rest (stack_words U (ex y (term (w.Binary (bin_of a)) n ∷ term word m ∷ rest)))
      sign_apart y (row_of o rs p U) = retell (read_operand r word m (op_of (signed n (additive a)) (row_of o rs (behind (put p (value y)) space) U))) rest (stack_words U (term w.OpenSquare o ∷ row_words rs (elements (put p (value y)) (term (w.Binary (bin_of a)) n ∷ term word m ∷ rest)))) (stack_words U (term w.OpenSquare o ∷ row_words rs (pending_words p (ex y (term (w.Binary (bin_of a)) n ∷ term word m ∷ rest))))) (ap (λ z. stack_words U (term w.OpenSquare o ∷ row_words rs z)) (put_words p (value y) (term (w.Binary (bin_of a)) n ∷ term word m ∷ rest))) (operand_tells word m (op_of (signed n (additive a)) (row_of o rs (behind (put p (value y)) space) U)) rest)
      sign_apart y (goal_of g site c) = tt
      sign_apart y (lead_of l spot) = tt
      sign_apart y (inner_of i spot) = tt
      sign_apart y (outputs_of o q site c) = tt
      sign_apart y (op_of p S) = tt
      sign_apart y (paren_of o S) = tt
      sign_apart y (args_of f o q S) = tt
      sign_apart y (brace_of o q S) = tt
