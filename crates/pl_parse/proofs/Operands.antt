-- A terminal where an operand has to come does the same to both machines.
use Rattle.std.proofs.Common.{◌≡◌, ℕ, suc, Bool, true, false, ◌&&◌, Option, Some, None, Ok, Err, refl, arith}
use Rattle.std.specs.Prelude.{max, if◌then◌else◌}
use Rattle.pl_syntax.specs.declared.expr.Bin.{Bin}
use Rattle.pl_syntax.specs.declared.expr.Bin.TheVariants as bin
use Rattle.pl_grammar.specs.declared.terminal.Word.{Word}
use Rattle.pl_grammar.specs.declared.terminal.Word.TheVariants as w
use Rattle.pl_grammar.specs.declared.terminal.Keyword.{Keyword}
use Rattle.pl_grammar.specs.declared.terminal.Keyword.TheVariants as k
use Rattle.pl_grammar.specs.Words as g
use Rattle.pl_grammar.specs.Derivations as d
use Rattle.pl_grammar.specs.Trees as t
use Rattle.pl_grammar.specs.Nesting as n
use Rattle.pl_grammar.specs.Machine as gm
use Rattle.pl_grammar.specs.Steps as gs
use Rattle.pl_frames.specs.declared.outlist.Outlist.{Outlist}
use Rattle.pl_frames.specs.Trees as ct
use Rattle.pl_frames.specs.Below as cb
use Rattle.pl_frames.specs.Outlist as co
use Rattle.pl_steps.specs.Steps as st
use Rattle.pl_parse.specs.Image.{mark_of, cap, callee_of, operand_of, frames_of, bottom_of, stack_of, state_of, step_of}
use Rattle.pl_parse.proofs.Capped.{one_cap}
use Rattle.pl_parse.proofs.Places.{rules, room_one, index_same}
use Rattle.pl_parse.proofs.Shapes.{args_listed, bracket_same, trailed_same, filled_same, tree_same}
use Rattle.pl_parse.proofs.Outlists.{Agree, skipped_agree, IsFilled, skipped_filled}

pub roomy_same : (fits : Bool) (x : gs.Step) → st.roomy fits (step_of x) ≡ step_of (gs.roomy fits x)
roomy_same true (Ok x) = refl
roomy_same false (Ok x) = refl
roomy_same true (Err f) = refl
roomy_same false (Err f) = refl

-- a level more over a stack
pub opened : (S : gm.Stack) (x : gm.State) → st.roomy (cb.has_room 1 (stack_of S)) (Ok (state_of x)) ≡ step_of (gs.roomy (gs.room rules (suc (gm.nests S))) (Ok x))
opened S x = rw (room_one S) (roomy_same (gs.room rules (suc (gm.nests S))) (Ok x))

pub either : {A : Type 0} {B : Type 0} (f : A → B) (x : Bool) (a b : A) (c e : B) → c ≡ f a → e ≡ f b → (if x then c else e) ≡ f (if x then a else b)
either f true a b c e h i = h
either f false a b c e h i = i

-- ---- signs

sign_same : (u : g.Sign) (m : g.Mark) (S : gm.Stack) → st.sign (t.un_of u) (mark_of m) (stack_of S) ≡ step_of (gs.sign rules u m S)
unfolding st.sign
sign_same u m (gm.op_of (d.joined a o x us) S) = either step_of (g.is_power o)
    (gs.roomy (gs.room rules (suc (gm.nests (gm.op_of (d.joined a o x us) S)))) (Ok (gm.operand (gm.op_of (d.joined a o x (d.more_signs us m u)) S))))
    (gs.raise rules u m (gm.op_of (d.joined a o x us) S))
    (st.roomy (cb.has_room 1 (stack_of (gm.op_of (d.joined a o x us) S))) (Ok (state_of (gm.operand (gm.op_of (d.joined a o x (d.more_signs us m u)) S)))))
    (st.roomy (cb.has_room 1 (stack_of (gm.op_of (d.joined a o x us) S))) (Ok (state_of (gm.operand (gm.op_of (d.signed m u) (gm.op_of (d.joined a o x us) S))))))
    (opened (gm.op_of (d.joined a o x us) S) (gm.operand (gm.op_of (d.joined a o x (d.more_signs us m u)) S)))
    (opened (gm.op_of (d.joined a o x us) S) (gm.operand (gm.op_of (d.signed m u) (gm.op_of (d.joined a o x us) S))))
sign_same u m S = opened S (gm.operand (gm.op_of (d.signed m u) S))

signs_by : (o : Bin) (m : g.Mark) (S : gm.Stack) → st.sign_operator o (mark_of m) (stack_of S) ≡ step_of (gs.sign_of rules (g.additive_of o) m S)
unfolding st.sign_operator
signs_by bin.Add m S = sign_same (g.additive g.plus) m S
signs_by bin.Sub m S = sign_same (g.additive g.minus) m S
signs_by o m S = refl

-- ---- calls

call_cap : (c a : ℕ) → max (cap c) (ct.plus 1 (cap a)) ≡ cap (max c (suc a))
call_cap c a = omega arith

call_operand : (c : d.Callee) (m : g.Mark) (a : d.Args) (z : g.Mark) → ct.call (callee_of c) (mark_of (t.callee_mark c)) (max (cap (n.callee_height c)) (ct.plus 1 (cap (n.args_height a)))) (t.arg_trees a) ≡ operand_of (d.call c m a z)
call_operand c m a z = rw (call_cap (n.callee_height c) (n.args_height a))

answered_call : (c : d.Callee) (m : g.Mark) (a : d.Args) (z : g.Mark) (S : gm.Stack) → st.answered (operand_of (d.call c m a z)) (stack_of S) ≡ step_of (gs.called c m a z S)
unfolding st.answered
answered_call (d.head (d.alone x)) m a z (gm.outputs_of o p site b) = refl
answered_call (d.head (d.dotted h q x)) m a z (gm.outputs_of o p site b) = refl
answered_call (d.braced x q e y) m a z (gm.outputs_of o p site b) = refl
answered_call c m a z S = refl

pub called_same : (c : d.Callee) (m : g.Mark) (a : d.Args) (z : g.Mark) (S : gm.Stack) → st.called (callee_of c) (mark_of (t.callee_mark c)) (cap (n.callee_height c)) (args_listed a) (stack_of S) ≡ step_of (gs.called c m a z S)
called_same c m a z S = rw (call_operand c m a z) (answered_call c m a z S)

answered_brace : (x : g.Named) (m : g.Mark) (e : d.Ex) (z : g.Mark) (S : gm.Stack) → st.answered (operand_of (d.bare (d.braced x m e z))) (stack_of S) ≡ step_of (gs.embraced x m e z S)
unfolding st.answered
answered_brace x m e z (gm.outputs_of o p site b) = refl
answered_brace x m e z S = refl

braced_operand : (x : g.Named) (m : g.Mark) (e : d.Ex) (z : g.Mark) → st.braced (t.name_of x) (mark_of x.mark) (operand_of e) ≡ operand_of (d.bare (d.braced x m e z))
braced_operand x m e z = rw (tree_same e, one_cap (n.height e))

pub embraced_same : (x : g.Named) (m : g.Mark) (e : d.Ex) (z : g.Mark) (S : gm.Stack) → st.answered (st.braced (t.name_of x) (mark_of x.mark) (operand_of e)) (stack_of S) ≡ step_of (gs.embraced x m e z S)
embraced_same x m e z S = rw (braced_operand x m e z) (answered_brace x m e z S)

close_empty_same : (z : g.Mark) (S : gm.Stack) → st.close_empty (stack_of S) ≡ step_of (gs.close_empty z S)
unfolding st.close_empty
close_empty_same z (gm.args_of c m gm.fresh S) = called_same c m d.no_args z S
close_empty_same z (gm.args_of c m (gm.behind es x) S) = refl
close_empty_same z S = refl

-- ---- rows

square_row_same : (m : g.Mark) (rs : d.Rows) (p : gm.Pending) (S : gm.Stack) (z : g.Mark) → st.square_empty (stack_of (gm.row_of m rs p S)) ≡ step_of (gs.square_row m rs p S z)
unfolding st.square_empty
square_row_same m rs gm.fresh S z = rw (bracket_same m rs z)
square_row_same m rs (gm.behind es (d.written c)) S z = rw (trailed_same m rs es false c z)
square_row_same m rs (gm.behind es d.space) S z = refl

shut_outlist_same : (z : g.Mark) (x : Option Outlist) (y : Option gs.Outlist) → Agree x y → IsFilled y → st.shut_outlist x ≡ step_of (gs.outputs_then y (λ m os site b. gm.outputs_shut m os z site b))
shut_outlist_same z None None h f = refl
shut_outlist_same z None (Some b) h f = absurd h
shut_outlist_same z (Some a) None h f = absurd h
shut_outlist_same z (Some a) (Some b) h f = by_outs b.outputs refl
  where
    by_outs : (p : gm.Outgoing) → b.outputs ≡ p → st.shut_outlist (Some a) ≡ step_of (gs.outputs_then (Some b) (λ m os site c. gm.outputs_shut m os z site c))
    by_outs gm.fresh_outs e = let f' : ⊥ = rw e at f in absurd f'
    by_outs (gm.behind_outs os c) e = rw (h.0, h.1, h.3, e)

square_empty_same : (z : g.Mark) (S : gm.Stack) → st.square_empty (stack_of S) ≡ step_of (gs.square_empty z S)
unfolding st.square_empty
square_empty_same z (gm.row_of m rs p S) = square_row_same m rs p S z
square_empty_same z (gm.op_of p S) = shut_outlist_same z (co.skipped (frames_of (gm.op_of p S)) (bottom_of S)) (gs.skipped (gm.op_of p S)) (skipped_agree (gm.op_of p S)) (skipped_filled (gm.op_of p S))
square_empty_same z (gm.paren_of m S) = shut_outlist_same z (co.skipped (frames_of (gm.paren_of m S)) (bottom_of S)) None (skipped_agree (gm.paren_of m S)) tt
square_empty_same z (gm.args_of c m p S) = shut_outlist_same z (co.skipped (frames_of (gm.args_of c m p S)) (bottom_of S)) None (skipped_agree (gm.args_of c m p S)) tt
square_empty_same z (gm.brace_of x m S) = shut_outlist_same z (co.skipped (frames_of (gm.brace_of x m S)) (bottom_of S)) None (skipped_agree (gm.brace_of x m S)) tt
square_empty_same z S = refl

break_row_same : (m : g.Mark) (rs : d.Rows) (p : gm.Pending) (S : gm.Stack) (z : g.Sep) → st.break_empty (stack_of (gm.row_of m rs p S)) ≡ step_of (gs.break_row m rs p S z)
unfolding st.break_empty
break_row_same m rs gm.fresh S z = refl
break_row_same m rs (gm.behind es (d.written c)) S z = rw (filled_same rs es false (d.trail c) z)
break_row_same m rs (gm.behind es d.space) S z = refl

break_empty_same : (z : g.Sep) (S : gm.Stack) → st.break_empty (stack_of S) ≡ step_of (gs.break_empty z S)
unfolding st.break_empty
break_empty_same z (gm.row_of m rs p S) = break_row_same m rs p S z
break_empty_same z S = refl

-- ---- commas and colons

comma_outlist_same : (c : g.Mark) (x : Option Outlist) (y : Option gs.Outlist) → Agree x y → IsFilled y → st.comma_outlist x ≡ step_of (gs.outputs_then y (λ m os site b. gm.output m (gm.behind_outs os (d.written c)) site b))
comma_outlist_same c None None h f = refl
comma_outlist_same c None (Some b) h f = absurd h
comma_outlist_same c (Some a) None h f = absurd h
comma_outlist_same c (Some a) (Some b) h f = by_outs b.outputs refl
  where
    by_outs : (p : gm.Outgoing) → b.outputs ≡ p → st.comma_outlist (Some a) ≡ step_of (gs.outputs_then (Some b) (λ m os site x. gm.output m (gm.behind_outs os (d.written c)) site x))
    by_outs gm.fresh_outs e = let f' : ⊥ = rw e at f in absurd f'
    by_outs (gm.behind_outs os x) e = rw (h.0, h.1, h.3, e)

comma_empty_same : (c : g.Mark) (S : gm.Stack) → st.comma_empty (stack_of S) ≡ step_of (gs.comma_empty c S)
unfolding st.comma_empty
comma_empty_same c S = comma_outlist_same c (co.skipped (frames_of S) (bottom_of S)) (gs.skipped S) (skipped_agree S) (skipped_filled S)

colon_arg_same : (m : g.Mark) (S : gm.Stack) → st.colon_arg (mark_of m) (stack_of S) ≡ step_of (gs.colon_arg m S)
unfolding st.colon_arg
colon_arg_same m (gm.args_of c x p S) = refl
colon_arg_same m S = refl

pub end_word_same : (word : Keyword) → st.end_word word ≡ gs.end_word word
end_word_same k.End = refl
end_word_same word = refl

last_same : (word : Keyword) (m : g.Mark) (S : gm.Stack) → st.last word (mark_of m) (stack_of S) ≡ step_of (if gs.end_word word && gm.in_index S then Ok (gm.after (d.last m) S) else gs.refused)
unfolding st.last
last_same word m S = rw (end_word_same word, index_same S) (either step_of (gs.end_word word && gm.in_index S) (Ok (gm.after (d.last m) S)) gs.refused (Ok (state_of (gm.after (d.last m) S))) st.refused refl refl)

-- ---- the terminal

pub operand_same : (word : Word) (m : g.Mark) (S : gm.Stack) → st.read_operand word (mark_of m) (stack_of S) ≡ step_of (gs.read_operand rules word m S)
unfolding st.read_operand
operand_same (w.Name x) m S = refl
operand_same (w.Chars cs) m S = refl
operand_same (w.Number z) m S = refl
operand_same (w.Binary o) m S = signs_by o m S
operand_same w.Not m S = sign_same g.tilde m S
operand_same w.Quote m S = refl
operand_same w.Equal m S = refl
operand_same w.Colon m S = colon_arg_same m S
operand_same w.Comma m S = comma_empty_same m S
operand_same w.Semicolon m S = break_empty_same (record { kind = g.semicolon; mark = m }) S
operand_same w.LineEnd m S = break_empty_same (record { kind = g.line; mark = m }) S
operand_same w.Open m S = opened S (gm.operand (gm.paren_of m S))
operand_same w.Close m S = close_empty_same m S
operand_same w.OpenSquare m S = opened S (gm.operand (gm.row_of m d.no_rows gm.fresh S))
operand_same w.CloseSquare m S = square_empty_same m S
operand_same w.OpenBrace m S = refl
operand_same w.CloseBrace m S = refl
operand_same w.At m S = refl
operand_same w.Dot m S = refl
operand_same (w.Key word) m S = last_same word m S
