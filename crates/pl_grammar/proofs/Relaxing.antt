-- With more room a step is the same, but where only room was wanting; and a step by another word than `end`
-- leaves open what an `end` has to end. First the forms of steps, and words where an operand has to come.
use Rattle.std.proofs.Common.{◌≡◌, ◌∙◌, ℕ, suc, Bool, true, false, ◌&&◌, if◌then◌else◌, Option, Some, None, Ok, Err, refl, ap, sym, subst, arith, ◌≤◌}
use Rattle.std.specs.Prelude.{nat_le, max}
use Rattle.std.proofs.Math.Nat.{le-max_left, le-max_right}
use Rattle.std.proofs.lemmas.Bool.{leb-true, le-leb}
use Rattle.pl_grammar.specs.declared.fault.FaultKind.TheVariants.{Unexpected, MissingEnd, TooDeep, FunctionTwice}
use Rattle.pl_grammar.specs.Machine.{is_open, site_open, stack_open}
use Rattle.pl_grammar.specs.declared.terminal.Word.{Word}
use Rattle.pl_grammar.specs.declared.terminal.Word.TheVariants as w
use Rattle.pl_grammar.specs.Words.{Mark, Named, Additive, Sign, additive, tilde, additive_of, is_power, semicolon, line, Sep}
use Rattle.pl_grammar.specs.Derivations.{alone, dotted, more_signs, written, space, Ex, number, chars, bare, last, under, joined, signed, from, stepped, Callee, head, braced, Args, no_args, Rows, no_rows, broken, filled, skip, Outputs, shown, into, spread, Block}
use Rattle.pl_grammar.specs.Sound.{strength}
use Rattle.pl_grammar.specs.Programs.{Rules}
use Rattle.pl_grammar.specs.Machine.{Pending, fresh, behind, Outgoing, fresh_outs, behind_outs, Site, Stack, goal_of, lead_of, inner_of, outputs_of, op_of, paren_of, args_of, brace_of, row_of, State, operand, after, at_sign, output, outputs_shut, nests, in_index}
use Rattle.pl_grammar.specs.Steps
use Rattle.pl_grammar.specs.Steps.{Step, Held, roomy, room, refused, reduce, run, step, onward, Answer, callee_tgt, tgt_of, set_out, set_tgt, pass, element_outputs, item_outputs, behind_all, row_outputs, pending_outputs, Outlist, as_outputs, called, embraced, read_operand, go_on, read_after, settle, ended}
use Rattle.pl_grammar.proofs.Reading.{pick}

-- what a step is under more permissive rules
abbrev pub Relates : Step → Step → Type 0
Relates (Ok a) (Ok b) = a ≡ b
Relates (Ok a) (Err k) = ⊥
Relates (Err Unexpected) (Ok b) = ⊥
Relates (Err Unexpected) (Err Unexpected) = Unit {0}
Relates (Err Unexpected) (Err MissingEnd) = ⊥
Relates (Err Unexpected) (Err TooDeep) = ⊥
Relates (Err Unexpected) (Err FunctionTwice) = ⊥
Relates (Err TooDeep) (Ok b) = Unit {0}
Relates (Err TooDeep) (Err Unexpected) = ⊥
Relates (Err TooDeep) (Err MissingEnd) = ⊥
Relates (Err TooDeep) (Err TooDeep) = Unit {0}
Relates (Err TooDeep) (Err FunctionTwice) = ⊥
Relates (Err MissingEnd) s = ⊥
Relates (Err FunctionTwice) s = ⊥

-- the second rules allow what the first do
abbrev pub Allows : Rules → Rules → Type 0
Allows r q = (r.limit ≤ q.limit) × (q.twice ≡ false → r.twice ≡ false)

-- a step by rules: more room changes nothing else, some room is enough, and where v is true it leads on to an open state
pub record Lax (v : Bool) (f : Rules → Step) : Type 0 where
  pub relax : (r q : Rules) → Allows r q → Relates (f r) (f q)
  pub bound : ℕ
  pub enough : (q : Rules) → bound ≤ q.limit → f q ≡ Err TooDeep → ⊥
  pub opens : (r : Rules) (next : State) → f r ≡ Ok next → v ≡ true → is_open next ≡ true
  pub same : (r q : Rules) → r.limit ≡ q.limit → f r ≡ f q

-- a step that no rule touches
abbrev pub Tame : Bool → Step → Type 0
Tame v (Ok next) = v ≡ true → is_open next ≡ true
Tame v (Err Unexpected) = Unit {0}
Tame v (Err MissingEnd) = ⊥
Tame v (Err TooDeep) = ⊥
Tame v (Err FunctionTwice) = ⊥

pub lax_const : (v : Bool) (s : Step) → Tame v s → Lax v (λ r. s)
lax_const v (Ok next) h = record { relax = λ r q a. refl; bound = 0; enough = λ q l e. cc; opens = λ r x e f. let i : next ≡ x = cc in subst (λ y. is_open y ≡ true) i (h f); same = λ r q e. refl }
lax_const v (Err Unexpected) h = record { relax = λ r q a. tt; bound = 0; enough = λ q l e. cc; opens = λ r x e f. cc; same = λ r q e. refl }
lax_const v (Err MissingEnd) h = absurd h
lax_const v (Err TooDeep) h = absurd h
lax_const v (Err FunctionTwice) h = absurd h

roomy_relates : (u x : Bool) (s t : Step) → (u ≡ true → x ≡ true) → Relates s t → Relates (roomy u s) (roomy x t)
roomy_relates true true s t h j = j
roomy_relates true false s t h j = let bad : false ≡ true = h refl in cc
roomy_relates false true (Ok a) (Ok b) h j = tt
roomy_relates false true (Ok a) (Err k) h j = absurd j
roomy_relates false true (Err k) t h j = j
roomy_relates false false (Ok a) (Ok b) h j = tt
roomy_relates false false (Ok a) (Err k) h j = absurd j
roomy_relates false false (Err Unexpected) (Err k) h j = j
roomy_relates false false (Err Unexpected) (Ok b) h j = absurd j
roomy_relates false false (Err TooDeep) (Ok b) h j = tt
roomy_relates false false (Err TooDeep) (Err k) h j = j
roomy_relates false false (Err MissingEnd) t h j = absurd j
roomy_relates false false (Err FunctionTwice) t h j = absurd j

roomy_enough : (u : Bool) (s : Step) → u ≡ true → (s ≡ Err TooDeep → ⊥) → roomy u s ≡ Err TooDeep → ⊥
roomy_enough true s h j e = j e
roomy_enough false s h j e = cc

roomy_opens : (u : Bool) (s : Step) (next : State) → roomy u s ≡ Ok next → s ≡ Ok next
roomy_opens true s next e = e
roomy_opens false (Ok a) next e = cc
roomy_opens false (Err k) next e = cc

pub lax_roomy : (v : Bool) (n : ℕ) (f : Rules → Step) → Lax v f → Lax v (λ r. roomy (room r n) (f r))
lax_roomy v n f h = record {
  relax = λ r q a. roomy_relates (room r n) (room q n) (f r) (f q) (λ e. let x : n ≤ r.limit = leb-true n r.limit e in le-leb n q.limit (omega (arith, x, a.0))) (h.relax r q a);
  bound = max n h.bound;
  enough = λ q l e. roomy_enough (room q n) (f q) (le-leb n q.limit (omega (arith, l, le-max_left n h.bound))) (h.enough q (omega (arith, l, le-max_right n h.bound))) e;
  opens = λ r next e i. h.opens r next (roomy_opens (room r n) (f r) next e) i;
  same = λ r q e. ap (λ x. roomy (nat_le n x) (f r)) e ∙ ap (λ s. roomy (room q n) s) (h.same r q e);
}

pub lax_if : (v u : Bool) (f g : Rules → Step) → (u ≡ true → Lax v f) → (u ≡ false → Lax v g) → Lax v (λ r. if u then f r else g r)
lax_if v true f g h j = h refl
lax_if v false f g h j = j refl

pub tame_if : (v u : Bool) (s t : Step) → Tame v s → Tame v t → Tame v (if u then s else t)
tame_if v u s t h j = pick (λ x. Tame v x) u s t h j

pub reduced_open : (l : ℕ) (e : Ex) (S : Stack) → stack_open (reduce l e S).stack ≡ stack_open S
reduced_open l e (goal_of g site b) = refl
reduced_open l e (lead_of h spot) = refl
reduced_open l e (inner_of i spot) = refl
reduced_open l e (outputs_of o q site b) = refl
reduced_open l e (paren_of o S) = refl
reduced_open l e (args_of f o q S) = refl
reduced_open l e (brace_of o q S) = refl
reduced_open l e (row_of o rs q S) = refl
reduced_open l e (op_of p S) = pick (λ h. stack_open h.stack ≡ stack_open S) (nat_le l (strength p)) (reduce l (under p e) S) (record { operand = e; stack = op_of p S }) (reduced_open l (under p e) S) refl

-- what has to be ended still has to be
abbrev pub Stays : Bool → Stack → Type 0
Stays v S = v ≡ true → stack_open S ≡ true

pub stays_reduced : (v : Bool) (l : ℕ) (e : Ex) (S : Stack) → Stays v S → Stays v (reduce l e S).stack
stays_reduced v l e S h = λ q. reduced_open l e S ∙ h q

pub called_tame : (v : Bool) (c : Callee) (m : Mark) (a : Args) (z : Mark) (S : Stack) → Stays v S → Tame v (called c m a z S)
called_tame v (head (alone n)) m a z (outputs_of o p site b) h = h
called_tame v (head (alone n)) m a z (goal_of g site b) h = h
called_tame v (head (alone n)) m a z (lead_of l spot) h = h
called_tame v (head (alone n)) m a z (inner_of i spot) h = h
called_tame v (head (alone n)) m a z (op_of p S) h = h
called_tame v (head (alone n)) m a z (paren_of o S) h = h
called_tame v (head (alone n)) m a z (args_of c o p S) h = h
called_tame v (head (alone n)) m a z (brace_of o p S) h = h
called_tame v (head (alone n)) m a z (row_of o rs p S) h = h
called_tame v (head (dotted x d n)) m a z S h = h
called_tame v (braced n i e y) m a z S h = h

pub embraced_tame : (v : Bool) (n : Named) (m : Mark) (e : Ex) (z : Mark) (S : Stack) → Stays v S → Tame v (embraced n m e z S)
embraced_tame v n m e z (goal_of g site b) h = h
embraced_tame v n m e z (lead_of l spot) h = h
embraced_tame v n m e z (inner_of i spot) h = h
embraced_tame v n m e z (outputs_of o q site b) h = h
embraced_tame v n m e z (op_of p S) h = h
embraced_tame v n m e z (paren_of o S) h = h
embraced_tame v n m e z (args_of f o q S) h = h
embraced_tame v n m e z (brace_of o q S) h = h
embraced_tame v n m e z (row_of o rs q S) h = h

raise_lax : (v : Bool) (s : Sign) (m : Mark) (S : Stack) → Stays v S → Lax v (λ r. Steps.raise r s m S)
raise_lax v s m S h = lax_roomy v (suc (nests S)) (λ r. Ok (operand (op_of (signed m s) S))) (lax_const v (Ok (operand (op_of (signed m s) S))) h)

sign_lax : (v : Bool) (s : Sign) (m : Mark) (S : Stack) → Stays v S → Lax v (λ r. Steps.sign r s m S)
sign_lax v s m (op_of (joined a o n us) S) h = lax_if v (is_power o) (λ r. roomy (room r (suc (nests (op_of (joined a o n us) S)))) (Ok (operand (op_of (joined a o n (more_signs us m s)) S)))) (λ r. Steps.raise r s m (op_of (joined a o n us) S))
    (λ e. lax_roomy v (suc (nests (op_of (joined a o n us) S))) (λ r. Ok (operand (op_of (joined a o n (more_signs us m s)) S))) (lax_const v (Ok (operand (op_of (joined a o n (more_signs us m s)) S))) h)) (λ e. raise_lax v s m (op_of (joined a o n us) S) h)
sign_lax v s m (op_of (signed n t) S) h = raise_lax v s m (op_of (signed n t) S) h
sign_lax v s m (op_of (from a n) S) h = raise_lax v s m (op_of (from a n) S) h
sign_lax v s m (op_of (stepped a n b o) S) h = raise_lax v s m (op_of (stepped a n b o) S) h
sign_lax v s m (goal_of g site b) h = raise_lax v s m (goal_of g site b) h
sign_lax v s m (lead_of l spot) h = raise_lax v s m (lead_of l spot) h
sign_lax v s m (inner_of i spot) h = raise_lax v s m (inner_of i spot) h
sign_lax v s m (outputs_of o q site b) h = raise_lax v s m (outputs_of o q site b) h
sign_lax v s m (paren_of o S) h = raise_lax v s m (paren_of o S) h
sign_lax v s m (args_of f o q S) h = raise_lax v s m (args_of f o q S) h
sign_lax v s m (brace_of o q S) h = raise_lax v s m (brace_of o q S) h
sign_lax v s m (row_of o rs q S) h = raise_lax v s m (row_of o rs q S) h

sign_of_lax : (v : Bool) (ad : Option Additive) (m : Mark) (S : Stack) → Stays v S → Lax v (λ r. Steps.sign_of r ad m S)
sign_of_lax v None m S h = lax_const v refused tt
sign_of_lax v (Some a) m S h = sign_lax v (additive a) m S h

-- outputs that frames stand for
outlist_open : (S : Stack) (l : Outlist) → as_outputs S ≡ Some l → site_open l.site ≡ stack_open S
outlist_open (row_of m no_rows p (goal_of shown site b)) l h = by_pending (pending_outputs p) h
  where
    by_pending : (x : Option Outgoing) → Steps.outlist m site b x ≡ Some l → site_open l.site ≡ site_open site
    by_pending None f = cc
    by_pending (Some q) f = let e : record { mark = m; outputs = q; site = site; block = b } ≡ l = cc in ap (λ y. site_open y.site) (sym e)
outlist_open (op_of (signed m tilde) S) l h = by_below (λ x e. outlist_open S x e) (as_outputs S) refl h
  where
    by_set : (x : Outlist) (y : Option Outputs) → site_open x.site ≡ stack_open S → Steps.skip_in m x y ≡ Some l → site_open l.site ≡ stack_open S
    by_set x None e f = cc
    by_set x (Some os) e f = let i : record { mark = x.mark; outputs = behind_outs os space; site = x.site; block = x.block } ≡ l = cc in ap (λ y. site_open y.site) (sym i) ∙ e

    by_below : ((x : Outlist) → as_outputs S ≡ Some x → site_open x.site ≡ stack_open S) → (x : Option Outlist) → as_outputs S ≡ x → Steps.skip_onto m x ≡ Some l → site_open l.site ≡ stack_open S
    by_below ih None e f = cc
    by_below ih (Some x) e f = by_set x (set_out x.outputs m.gap (skip m)) (ih x e) f
outlist_open (row_of m (broken rs s) p S) l h = cc
outlist_open (row_of m (filled rs es t s) p S) l h = cc
outlist_open (row_of m no_rows p (goal_of (into t q) site b)) l h = cc
outlist_open (row_of m no_rows p (goal_of (spread n os z q) site b)) l h = cc
outlist_open (row_of m no_rows p (lead_of i spot)) l h = cc
outlist_open (row_of m no_rows p (inner_of i spot)) l h = cc
outlist_open (row_of m no_rows p (outputs_of n o site b)) l h = cc
outlist_open (row_of m no_rows p (op_of o S)) l h = cc
outlist_open (row_of m no_rows p (paren_of n S)) l h = cc
outlist_open (row_of m no_rows p (args_of c n o S)) l h = cc
outlist_open (row_of m no_rows p (brace_of n o S)) l h = cc
outlist_open (row_of m no_rows p (row_of n rs o S)) l h = cc
outlist_open (op_of (signed m (additive a)) S) l h = cc
outlist_open (op_of (joined a o m us) S) l h = cc
outlist_open (op_of (from a m) S) l h = cc
outlist_open (op_of (stepped a m b n) S) l h = cc
outlist_open (goal_of x site b) l h = cc
outlist_open (lead_of i spot) l h = cc
outlist_open (inner_of i spot) l h = cc
outlist_open (outputs_of n o site b) l h = cc
outlist_open (paren_of n S) l h = cc
outlist_open (args_of c n o S) l h = cc
outlist_open (brace_of n o S) l h = cc

then_tame : (v : Bool) (S : Stack) (x : Option Outlist) (go : Mark → Outputs → Site → Block → State) → as_outputs S ≡ x → ((m : Mark) (os : Outputs) (site : Site) (b : Block) → is_open (go m os site b) ≡ site_open site) → Stays v S → Tame v (Steps.outputs_then x go)
then_tame v S None go e f h = tt
then_tame v S (Some l) go e f h = by_outs l.outputs
  where
    by_outs : (o : Outgoing) → Tame v (Steps.outputs_then (Some (record { mark = l.mark; outputs = o; site = l.site; block = l.block })) go)
    by_outs fresh_outs = tt
    by_outs (behind_outs os c) = λ q. f l.mark os l.site l.block ∙ outlist_open S l e ∙ h q

comma_empty_tame : (v : Bool) (c : Mark) (S : Stack) → Stays v S → Tame v (Steps.comma_empty c S)
comma_empty_tame v c (op_of p S) h = then_tame v (op_of p S) (as_outputs (op_of p S)) (λ m os site b. output m (behind_outs os (written c)) site b) refl (λ m os site b. refl) h
comma_empty_tame v c (goal_of g site b) h = tt
comma_empty_tame v c (lead_of l spot) h = tt
comma_empty_tame v c (inner_of i spot) h = tt
comma_empty_tame v c (outputs_of o q site b) h = tt
comma_empty_tame v c (paren_of o S) h = tt
comma_empty_tame v c (args_of f o q S) h = tt
comma_empty_tame v c (brace_of o q S) h = tt
comma_empty_tame v c (row_of o rs q S) h = tt

square_row_tame : (v : Bool) (m : Mark) (rs : Rows) (p : Pending) (S : Stack) (z : Mark) → Stays v S → Tame v (Steps.square_row m rs p S z)
square_row_tame v m rs fresh S z h = h
square_row_tame v m rs (behind es (written c)) S z h = h
square_row_tame v m rs (behind es space) S z h = tt

square_empty_tame : (v : Bool) (z : Mark) (S : Stack) → Stays v S → Tame v (Steps.square_empty z S)
square_empty_tame v z (row_of m rs p S) h = square_row_tame v m rs p S z h
square_empty_tame v z (op_of p S) h = then_tame v (op_of p S) (as_outputs (op_of p S)) (λ m os site b. outputs_shut m os z site b) refl (λ m os site b. refl) h
square_empty_tame v z (goal_of g site b) h = tt
square_empty_tame v z (lead_of l spot) h = tt
square_empty_tame v z (inner_of i spot) h = tt
square_empty_tame v z (outputs_of o q site b) h = tt
square_empty_tame v z (paren_of o S) h = tt
square_empty_tame v z (args_of f o q S) h = tt
square_empty_tame v z (brace_of o q S) h = tt

close_empty_tame : (v : Bool) (z : Mark) (S : Stack) → Stays v S → Tame v (Steps.close_empty z S)
close_empty_tame v z (args_of c m fresh S) h = called_tame v c m no_args z S h
close_empty_tame v z (args_of c m (behind es x) S) h = tt
close_empty_tame v z (goal_of g site b) h = tt
close_empty_tame v z (lead_of l spot) h = tt
close_empty_tame v z (inner_of i spot) h = tt
close_empty_tame v z (outputs_of o q site b) h = tt
close_empty_tame v z (op_of p S) h = tt
close_empty_tame v z (paren_of o S) h = tt
close_empty_tame v z (brace_of o q S) h = tt
close_empty_tame v z (row_of o rs q S) h = tt

break_row_tame : (v : Bool) (m : Mark) (rs : Rows) (p : Pending) (S : Stack) (s : Sep) → Stays v S → Tame v (Steps.break_row m rs p S s)
break_row_tame v m rs fresh S s h = h
break_row_tame v m rs (behind es (written c)) S s h = h
break_row_tame v m rs (behind es space) S s h = tt

break_empty_tame : (v : Bool) (s : Sep) (S : Stack) → Stays v S → Tame v (Steps.break_empty s S)
break_empty_tame v s (row_of m rs p S) h = break_row_tame v m rs p S s h
break_empty_tame v s (goal_of g site b) h = tt
break_empty_tame v s (lead_of l spot) h = tt
break_empty_tame v s (inner_of i spot) h = tt
break_empty_tame v s (outputs_of o q site b) h = tt
break_empty_tame v s (op_of p S) h = tt
break_empty_tame v s (paren_of o S) h = tt
break_empty_tame v s (args_of f o q S) h = tt
break_empty_tame v s (brace_of o q S) h = tt

colon_arg_tame : (v : Bool) (m : Mark) (S : Stack) → Stays v S → Tame v (Steps.colon_arg m S)
colon_arg_tame v m (args_of f o q S) h = h
colon_arg_tame v m (goal_of g site b) h = tt
colon_arg_tame v m (lead_of l spot) h = tt
colon_arg_tame v m (inner_of i spot) h = tt
colon_arg_tame v m (outputs_of o q site b) h = tt
colon_arg_tame v m (op_of p S) h = tt
colon_arg_tame v m (paren_of o S) h = tt
colon_arg_tame v m (brace_of o q S) h = tt
colon_arg_tame v m (row_of o rs q S) h = tt

pub operand_lax : (v : Bool) (word : Word) (m : Mark) (S : Stack) → Stays v S → Lax v (λ r. read_operand r word m S)
operand_lax v (w.Name n) m S h = lax_const v (Ok (after (bare (head (alone (record { mark = m; text = n })))) S)) h
operand_lax v (w.Chars cs) m S h = lax_const v (Ok (after (chars m cs) S)) h
operand_lax v (w.Number z) m S h = lax_const v (Ok (after (number m z) S)) h
operand_lax v (w.Binary o) m S h = sign_of_lax v (additive_of o) m S h
operand_lax v w.Not m S h = sign_lax v tilde m S h
operand_lax v w.Quote m S h = lax_const v refused tt
operand_lax v w.Equal m S h = lax_const v refused tt
operand_lax v w.Colon m S h = lax_const v (Steps.colon_arg m S) (colon_arg_tame v m S h)
operand_lax v w.Comma m S h = lax_const v (Steps.comma_empty m S) (comma_empty_tame v m S h)
operand_lax v w.Semicolon m S h = lax_const v (Steps.break_empty (record { kind = semicolon; mark = m }) S) (break_empty_tame v (record { kind = semicolon; mark = m }) S h)
operand_lax v w.LineEnd m S h = lax_const v (Steps.break_empty (record { kind = line; mark = m }) S) (break_empty_tame v (record { kind = line; mark = m }) S h)
operand_lax v w.Open m S h = lax_roomy v (suc (nests S)) (λ r. Ok (operand (paren_of m S))) (lax_const v (Ok (operand (paren_of m S))) h)
operand_lax v w.Close m S h = lax_const v (Steps.close_empty m S) (close_empty_tame v m S h)
operand_lax v w.OpenSquare m S h = lax_roomy v (suc (nests S)) (λ r. Ok (operand (row_of m no_rows fresh S))) (lax_const v (Ok (operand (row_of m no_rows fresh S))) h)
operand_lax v w.CloseSquare m S h = lax_const v (Steps.square_empty m S) (square_empty_tame v m S h)
operand_lax v w.OpenBrace m S h = lax_const v refused tt
operand_lax v w.CloseBrace m S h = lax_const v refused tt
operand_lax v w.At m S h = lax_const v (Ok (at_sign m S)) h
operand_lax v w.Dot m S h = lax_const v refused tt
operand_lax v (w.Key word) m S h = lax_const v (if Steps.end_word word && in_index S then Ok (after (last m) S) else refused) (tame_if v (Steps.end_word word && in_index S) (Ok (after (last m) S)) refused h tt)
