-- With more room each step is the same, but where only room was wanting.
use Rattle.std.proofs.Common.{◌≡◌, ℕ, suc, ◌+◌, Bool, true, false, ◌&&◌, if◌then◌else◌, Option, Some, None, Ok, refl}
use Rattle.pl_syntax.specs.declared.expr.Bin.{Bin}
use Rattle.pl_grammar.specs.Machine.{is_open, site_open}
use Rattle.pl_grammar.specs.declared.terminal.Word.{Word}
use Rattle.pl_grammar.specs.declared.terminal.Word.TheVariants as w
use Rattle.pl_grammar.specs.declared.terminal.Keyword.{Keyword}
use Rattle.pl_grammar.specs.declared.terminal.Keyword.TheVariants as k
use Rattle.pl_grammar.specs.Words.{Mark, Named, Additive, bin_of, additive, additive_of, level, SepKind, comma, semicolon, line, Sep, Use, tests, loops, direct, plain, leaves, ends, defines, unused, use_of, Dots, whole, stem, neither, dots, is_state}
use Rattle.pl_grammar.specs.Derivations.{Head, alone, dotted, no_signs, written, space, no_trail, trail, Ex, number, bare, state, rows_to, transposed, joined, signed, from, stepped, head, braced, listed, value, colon, no_rows, broken, filled, Tgt, entire, indexed, in_braces, Output, to, skip, Outputs, shown, into, spread, test, each_in, bound, workers, Heading, upto, shut, no_value, Part, headed, unheaded, leave, Block, empty, blank}
use Rattle.pl_grammar.specs.Trees.{head_mark, mark, op_mark, callee_mark, tgt_mark}
use Rattle.pl_grammar.specs.Nesting.{height}
use Rattle.pl_grammar.specs.Sound.{has_state, may}
use Rattle.pl_grammar.specs.Programs.{Rules}
use Rattle.pl_grammar.specs.Machine.{fresh, behind, Outgoing, behind_outs, put, put_out, Site, main, body, within, Spot, here, linked, Stack, goal_of, lead_of, inner_of, outputs_of, op_of, paren_of, args_of, brace_of, row_of, State, start, finished, operand, after, torn, dot, output, output_read, outputs_shut, loop, ready, spot_site, site_nests, outgoing_run, scene, enter, nests, in_row}
use Rattle.pl_grammar.specs.Steps
use Rattle.pl_grammar.specs.Steps.{Step, Held, roomy, room, refused, reduce, run, step, onward, Answer, callee_tgt, tgt_of, set_out, set_tgt, pass, element_outputs, item_outputs, behind_all, row_outputs, pending_outputs, Outlist, as_outputs, called, embraced, read_operand, go_on, read_after, settle, ended}
use Rattle.pl_grammar.specs.Programs.{is_end_word}
use Rattle.pl_grammar.proofs.Relaxing.{Lax, Tame, lax_const, lax_roomy, lax_if, tame_if, Stays, stays_reduced, called_tame, embraced_tame, operand_lax}

-- ---- an operand has come

room_const : (v : Bool) (n : ℕ) (st : State) → (v ≡ true → is_open st ≡ true) → Lax v (λ r. roomy (room r n) (Ok st))
room_const v n st h = lax_roomy v n (λ r. Ok st) (lax_const v (Ok st) h)

join_lax : (v : Bool) (e : Ex) (S : Stack) (o : Bin) (m : Mark) → Stays v S → Lax v (λ r. Steps.join r e S o m)
join_lax v e S o m h = room_const v (suc (height e + nests S)) (operand (op_of (joined e o m no_signs) S)) h

operator_lax : (v : Bool) (o : Bin) (ad : Option Additive) (m : Mark) (e : Ex) (S : Stack) → Stays v S → Lax v (λ r. Steps.operator r o ad m e S)
operator_lax v o None m e S h = join_lax v (reduce (level o) e S).operand (reduce (level o) e S).stack o m (stays_reduced v (level o) e S h)
operator_lax v o (Some a) m e S h = lax_if v (in_row S && m.gap) (λ r. Steps.tear r e a m S (reduce 0 e S).stack) (λ r. Steps.join r (reduce (level o) e S).operand (reduce (level o) e S).stack o m)
    (λ q. room_const v (suc (nests (reduce 0 e S).stack)) (torn e a m S) h) (λ q. join_lax v (reduce (level o) e S).operand (reduce (level o) e S).stack o m (stays_reduced v (level o) e S h))

transpose_lax : (v : Bool) (m : Mark) (e : Ex) (S : Stack) → Stays v S → Lax v (λ r. Steps.transpose r m e S)
transpose_lax v m e S h = room_const v (suc (height e + nests S)) (after (transposed e m) S) h

range_lax : (v : Bool) (m : Mark) (e : Ex) (S : Stack) → Stays v S → Lax v (λ r. Steps.range r m e S)
range_lax v m e (op_of (from a n) S) h = lax_const v (Ok (operand (op_of (stepped a n e m) S))) h
range_lax v m e (op_of (stepped a n b o) S) h = lax_const v refused tt
range_lax v m e (op_of (joined a o n us) S) h = room_const v (suc (height e + nests (op_of (joined a o n us) S))) (operand (op_of (from e m) (op_of (joined a o n us) S))) h
range_lax v m e (op_of (signed n t) S) h = room_const v (suc (height e + nests (op_of (signed n t) S))) (operand (op_of (from e m) (op_of (signed n t) S))) h
range_lax v m e (goal_of g site b) h = room_const v (suc (height e + nests (goal_of g site b))) (operand (op_of (from e m) (goal_of g site b))) h
range_lax v m e (lead_of l spot) h = room_const v (suc (height e + nests (lead_of l spot))) (operand (op_of (from e m) (lead_of l spot))) h
range_lax v m e (inner_of i spot) h = room_const v (suc (height e + nests (inner_of i spot))) (operand (op_of (from e m) (inner_of i spot))) h
range_lax v m e (outputs_of o q site b) h = room_const v (suc (height e + nests (outputs_of o q site b))) (operand (op_of (from e m) (outputs_of o q site b))) h
range_lax v m e (paren_of o S) h = room_const v (suc (height e + nests (paren_of o S))) (operand (op_of (from e m) (paren_of o S))) h
range_lax v m e (args_of f o q S) h = room_const v (suc (height e + nests (args_of f o q S))) (operand (op_of (from e m) (args_of f o q S))) h
range_lax v m e (brace_of o q S) h = room_const v (suc (height e + nests (brace_of o q S))) (operand (op_of (from e m) (brace_of o q S))) h
range_lax v m e (row_of o rs q S) h = room_const v (suc (height e + nests (row_of o rs q S))) (operand (op_of (from e m) (row_of o rs q S))) h

spread_tame : (v : Bool) (m z q : Mark) (x : Option Outputs) (site : Site) (b : Block) → (v ≡ true → site_open site ≡ true) → Tame v (Steps.spread_to m z q x site b)
spread_tame v m z q None site b h = tt
spread_tame v m z q (Some os) site b h = h

assign_to_tame : (v : Bool) (q : Mark) (x : Option Tgt) (e : Ex) (site : Site) (b : Block) → (v ≡ true → site_open site ≡ true) → Tame v (Steps.assign_to q x e site b)
assign_to_tame v q (Some t) e site b h = h
assign_to_tame v q None (rows_to m no_rows es no_trail z) site b h = spread_tame v m z q (row_outputs es) site b h
assign_to_tame v q None (rows_to m no_rows es (trail c) z) site b h = tt
assign_to_tame v q None (rows_to m (broken rs s) es t z) site b h = tt
assign_to_tame v q None (rows_to m (filled rs x u s) es t z) site b h = tt
assign_to_tame v q None (number m z) site b h = tt
assign_to_tame v q None e site b h = tt

assign_tame : (v : Bool) (q : Mark) (e : Ex) (S : Stack) → Stays v S → Tame v (Steps.assign q e S)
assign_tame v q e (goal_of shown site b) h = assign_to_tame v q (tgt_of e) e site b h
assign_tame v q e (goal_of (into t z) site b) h = tt
assign_tame v q e (goal_of (spread m os z y) site b) h = tt
assign_tame v q e (lead_of l spot) h = tt
assign_tame v q e (inner_of i spot) h = tt
assign_tame v q e (outputs_of o y site b) h = tt
assign_tame v q e (op_of p S) h = tt
assign_tame v q e (paren_of o S) h = tt
assign_tame v q e (args_of f o y S) h = tt
assign_tame v q e (brace_of o y S) h = tt
assign_tame v q e (row_of o rs y S) h = tt

enter_open : (p : Part) (spot : Spot) → site_open (enter p spot) ≡ true
enter_open p (here site b) = refl
enter_open p (linked o b site before) = refl

end_simple_tame : (v : Bool) (s : Sep) (e : Ex) (S : Stack) → Stays v S → Tame v (Steps.end_simple s e S)
end_simple_tame v s e (goal_of g site b) h = h
end_simple_tame v s e (lead_of l spot) h = λ q. enter_open (headed (upto l e) s) spot
end_simple_tame v s e (inner_of i spot) h = tt
end_simple_tame v s e (outputs_of o q site b) h = tt
end_simple_tame v s e (op_of p S) h = tt
end_simple_tame v s e (paren_of o S) h = tt
end_simple_tame v s e (args_of f o q S) h = tt
end_simple_tame v s e (brace_of o q S) h = tt
end_simple_tame v s e (row_of o rs q S) h = tt

end_row_tame : (v : Bool) (s : Sep) (e : Ex) (S : Stack) → Stays v S → Tame v (Steps.end_row s e S)
end_row_tame v s e (row_of m rs p S) h = h
end_row_tame v s e (goal_of g site b) h = end_simple_tame v s e (goal_of g site b) h
end_row_tame v s e (lead_of l spot) h = end_simple_tame v s e (lead_of l spot) h
end_row_tame v s e (inner_of i spot) h = end_simple_tame v s e (inner_of i spot) h
end_row_tame v s e (outputs_of o q site b) h = end_simple_tame v s e (outputs_of o q site b) h
end_row_tame v s e (op_of p S) h = end_simple_tame v s e (op_of p S) h
end_row_tame v s e (paren_of o S) h = end_simple_tame v s e (paren_of o S) h
end_row_tame v s e (args_of f o q S) h = end_simple_tame v s e (args_of f o q S) h
end_row_tame v s e (brace_of o q S) h = end_simple_tame v s e (brace_of o q S) h

bound_tame : (v u : Bool) (m o : Mark) (n : Named) (q : Mark) (e : Ex) (c : Mark) (spot : Spot) → Tame v (Steps.bound_of u m o n q e c spot)
bound_tame v true m o n q e c spot = λ x. refl
bound_tame v false m o n q e c spot = tt

end_comma_tame : (v : Bool) (c : Mark) (e : Ex) (S : Stack) → Stays v S → Tame v (Steps.end_comma c e S)
end_comma_tame v c e (args_of f m p S) h = h
end_comma_tame v c e (row_of m rs p S) h = h
end_comma_tame v c e (inner_of (each_in word m o n q) spot) h = bound_tame v (Steps.is_parfor word) m o n q e c spot
end_comma_tame v c e (inner_of (bound m o n q x d) spot) h = tt
end_comma_tame v c e (inner_of (workers m o) spot) h = tt
end_comma_tame v c e (goal_of g site b) h = end_simple_tame v (record { kind = comma; mark = c }) e (goal_of g site b) h
end_comma_tame v c e (lead_of l spot) h = end_simple_tame v (record { kind = comma; mark = c }) e (lead_of l spot) h
end_comma_tame v c e (outputs_of o q site b) h = end_simple_tame v (record { kind = comma; mark = c }) e (outputs_of o q site b) h
end_comma_tame v c e (op_of p S) h = end_simple_tame v (record { kind = comma; mark = c }) e (op_of p S) h
end_comma_tame v c e (paren_of o S) h = end_simple_tame v (record { kind = comma; mark = c }) e (paren_of o S) h
end_comma_tame v c e (brace_of o q S) h = end_simple_tame v (record { kind = comma; mark = c }) e (brace_of o q S) h

close_tame : (v : Bool) (z : Mark) (e : Ex) (S : Stack) → Stays v S → Tame v (Steps.close z e S)
close_tame v z e (paren_of m S) h = h
close_tame v z e (args_of c m p S) h = called_tame v c m (listed (put p (value e))) z S h
close_tame v z e (inner_of i spot) h = h
close_tame v z e (goal_of g site b) h = tt
close_tame v z e (lead_of l spot) h = tt
close_tame v z e (outputs_of o q site b) h = tt
close_tame v z e (op_of p S) h = tt
close_tame v z e (brace_of o q S) h = tt
close_tame v z e (row_of o rs q S) h = tt

close_square_tame : (v : Bool) (z : Mark) (e : Ex) (S : Stack) → Stays v S → Tame v (Steps.close_square z e S)
close_square_tame v z e (row_of m rs p S) h = h
close_square_tame v z e (goal_of g site b) h = tt
close_square_tame v z e (lead_of l spot) h = tt
close_square_tame v z e (inner_of i spot) h = tt
close_square_tame v z e (outputs_of o q site b) h = tt
close_square_tame v z e (op_of p S) h = tt
close_square_tame v z e (paren_of o S) h = tt
close_square_tame v z e (args_of f o q S) h = tt
close_square_tame v z e (brace_of o q S) h = tt

close_brace_tame : (v : Bool) (z : Mark) (e : Ex) (S : Stack) → Stays v S → Tame v (Steps.close_brace z e S)
close_brace_tame v z e (brace_of n m S) h = embraced_tame v n m e z S h
close_brace_tame v z e (goal_of g site b) h = tt
close_brace_tame v z e (lead_of l spot) h = tt
close_brace_tame v z e (inner_of i spot) h = tt
close_brace_tame v z e (outputs_of o q site b) h = tt
close_brace_tame v z e (op_of p S) h = tt
close_brace_tame v z e (paren_of o S) h = tt
close_brace_tame v z e (args_of f o q S) h = tt
close_brace_tame v z e (row_of o rs q S) h = tt

list_lax : (v : Bool) (m : Mark) (e : Ex) (S : Stack) → Stays v S → Lax v (λ r. Steps.list_of r m e S)
list_lax v m (bare c) S h = room_const v (suc (nests S)) (operand (args_of c m fresh S)) h
list_lax v m e S h = lax_const v refused tt

brace_lax : (v : Bool) (m : Mark) (e : Ex) (S : Stack) → Stays v S → Lax v (λ r. Steps.brace r m e S)
brace_lax v m (bare (head (alone n))) S h = room_const v (suc (nests S)) (operand (brace_of n m S)) h
brace_lax v m (bare (head (dotted x y z))) S h = lax_const v refused tt
brace_lax v m (bare (braced x y z u)) S h = lax_const v refused tt
brace_lax v m e S h = lax_const v refused tt

go_on_lax : (v : Bool) (word : Word) (m : Mark) (e : Ex) (S : Stack) → Stays v S → Lax v (λ r. go_on r word m e S)
go_on_lax v (w.Binary o) m e S h = operator_lax v o (additive_of o) m e S h
go_on_lax v w.Quote m e S h = transpose_lax v m (reduce 10 e S).operand (reduce 10 e S).stack (stays_reduced v 10 e S h)
go_on_lax v w.Colon m e S h = range_lax v m (reduce 7 e S).operand (reduce 7 e S).stack (stays_reduced v 7 e S h)
go_on_lax v w.Equal m e S h = lax_const v (Steps.assign m e S) (assign_tame v m e S h)
go_on_lax v w.Comma m e S h = lax_const v (Steps.end_comma m (reduce 0 e S).operand (reduce 0 e S).stack) (end_comma_tame v m (reduce 0 e S).operand (reduce 0 e S).stack (stays_reduced v 0 e S h))
go_on_lax v w.Semicolon m e S h = lax_const v (Steps.end_row (record { kind = semicolon; mark = m }) (reduce 0 e S).operand (reduce 0 e S).stack) (end_row_tame v (record { kind = semicolon; mark = m }) (reduce 0 e S).operand (reduce 0 e S).stack (stays_reduced v 0 e S h))
go_on_lax v w.LineEnd m e S h = lax_const v (Steps.end_row (record { kind = line; mark = m }) (reduce 0 e S).operand (reduce 0 e S).stack) (end_row_tame v (record { kind = line; mark = m }) (reduce 0 e S).operand (reduce 0 e S).stack (stays_reduced v 0 e S h))
go_on_lax v w.Open m e S h = list_lax v m e S h
go_on_lax v w.Close m e S h = lax_const v (Steps.close m (reduce 0 e S).operand (reduce 0 e S).stack) (close_tame v m (reduce 0 e S).operand (reduce 0 e S).stack (stays_reduced v 0 e S h))
go_on_lax v w.CloseSquare m e S h = lax_const v (Steps.close_square m (reduce 0 e S).operand (reduce 0 e S).stack) (close_square_tame v m (reduce 0 e S).operand (reduce 0 e S).stack (stays_reduced v 0 e S h))
go_on_lax v w.OpenBrace m e S h = brace_lax v m e S h
go_on_lax v w.CloseBrace m e S h = lax_const v (Steps.close_brace m (reduce 0 e S).operand (reduce 0 e S).stack) (close_brace_tame v m (reduce 0 e S).operand (reduce 0 e S).stack (stays_reduced v 0 e S h))
go_on_lax v w.Dot m e S h = lax_const v (Steps.dot_behind m e S) (tame_if v (has_state e) (Ok (dot e m S)) refused h tt)
go_on_lax v word m e S h = lax_const v refused tt

apart_lax : (v : Bool) (e : Ex) (S : Stack) (go : Rules → Stack → Step) → Stays v S → ((T : Stack) → Stays v T → Lax v (λ r. go r T)) → Lax v (λ r. Steps.apart e S (go r))
apart_lax v e (row_of m rs p S) go h f = f (row_of m rs (behind (put p (value e)) space) S) h
apart_lax v e (goal_of g site b) go h f' = lax_const v refused tt
apart_lax v e (lead_of l spot) go h f' = lax_const v refused tt
apart_lax v e (inner_of i spot) go h f' = lax_const v refused tt
apart_lax v e (outputs_of o q site b) go h f' = lax_const v refused tt
apart_lax v e (op_of p S) go h f' = lax_const v refused tt
apart_lax v e (paren_of o S) go h f' = lax_const v refused tt
apart_lax v e (args_of d o q S) go h f' = lax_const v refused tt
apart_lax v e (brace_of o q S) go h f' = lax_const v refused tt

pub after_lax : (v : Bool) (word : Word) (m : Mark) (e : Ex) (S : Stack) → Stays v S → Lax v (λ r. read_after r word m e S)
after_lax v word m e S h = lax_if v (Steps.begins_element word S && (in_row S && m.gap)) (λ r. Steps.apart (reduce 0 e S).operand (reduce 0 e S).stack (λ row. read_operand r word m row)) (λ r. go_on r word m e S)
    (λ q. apart_lax v (reduce 0 e S).operand (reduce 0 e S).stack (λ r row. read_operand r word m row) (stays_reduced v 0 e S h) (λ T i. operand_lax v word m T i)) (λ q. go_on_lax v word m e S h)

pub untear_lax : (v : Bool) (e : Ex) (a : Additive) (n : Mark) (S : Stack) (word : Word) (m : Mark) → Stays v S → Lax v (λ r. Steps.untear r e a n S word m)
untear_lax v e a n S word m h =
    let T : Stack = (reduce 7 e S).stack in
    let x : Ex = (reduce 7 e S).operand in
    lax_if v m.gap (λ r. roomy (room r (suc (height x + nests T))) (read_operand r word m (op_of (joined x (bin_of a) n no_signs) T))) (λ r. Steps.apart (reduce 0 e S).operand (reduce 0 e S).stack (λ row. read_operand r word m (op_of (signed n (additive a)) row)))
    (λ q. lax_roomy v (suc (height x + nests T)) (λ r. read_operand r word m (op_of (joined x (bin_of a) n no_signs) T)) (operand_lax v word m (op_of (joined x (bin_of a) n no_signs) T) (stays_reduced v 7 e S h)))
    (λ q. apart_lax v (reduce 0 e S).operand (reduce 0 e S).stack (λ r row. read_operand r word m (op_of (signed n (additive a)) row)) (stays_reduced v 0 e S h) (λ U i. operand_lax v word m (op_of (signed n (additive a)) U) i))

-- ---- names

pub colon_tame : (v : Bool) (word : Word) (m c : Mark) (S : Stack) → Stays v S → Tame v (Steps.behind_colon word m c S)
colon_tame v w.Comma m c (args_of f n p S) h = h
colon_tame v w.Close m c (args_of f n p S) h = called_tame v f n (listed (put p (colon c))) m S h
colon_tame v w.Comma m c (goal_of g site b) h = tt
colon_tame v w.Comma m c (lead_of l spot) h = tt
colon_tame v w.Comma m c (inner_of i spot) h = tt
colon_tame v w.Comma m c (outputs_of o q site b) h = tt
colon_tame v w.Comma m c (op_of p S) h = tt
colon_tame v w.Comma m c (paren_of o S) h = tt
colon_tame v w.Comma m c (brace_of o q S) h = tt
colon_tame v w.Comma m c (row_of o rs q S) h = tt
colon_tame v w.Close m c (goal_of g site b) h = tt
colon_tame v w.Close m c (lead_of l spot) h = tt
colon_tame v w.Close m c (inner_of i spot) h = tt
colon_tame v w.Close m c (outputs_of o q site b) h = tt
colon_tame v w.Close m c (op_of p S) h = tt
colon_tame v w.Close m c (paren_of o S) h = tt
colon_tame v w.Close m c (brace_of o q S) h = tt
colon_tame v w.Close m c (row_of o rs q S) h = tt
colon_tame v (w.Name x) m c S h = tt
colon_tame v (w.Chars x) m c S h = tt
colon_tame v (w.Number x) m c S h = tt
colon_tame v (w.Binary x) m c S h = tt
colon_tame v w.Not m c S h = tt
colon_tame v w.Quote m c S h = tt
colon_tame v w.Equal m c S h = tt
colon_tame v w.Colon m c S h = tt
colon_tame v w.Semicolon m c S h = tt
colon_tame v w.LineEnd m c S h = tt
colon_tame v w.Open m c S h = tt
colon_tame v w.OpenSquare m c S h = tt
colon_tame v w.CloseSquare m c S h = tt
colon_tame v w.OpenBrace m c S h = tt
colon_tame v w.CloseBrace m c S h = tt
colon_tame v w.At m c S h = tt
colon_tame v w.Dot m c S h = tt
colon_tame v (w.Key x) m c S h = tt

pub at_tame : (v : Bool) (word : Word) (m a : Mark) (S : Stack) → Stays v S → Tame v (Steps.behind_at word m a S)
at_tame v (w.Name n) m a S h = h
at_tame v word m a S h = tt

dot_or_tame : (v : Bool) (x : Dots) (i : Head) (S : Stack) → Stays v S → Tame v (Steps.dot_or x i S)
dot_or_tame v whole i S h = h
dot_or_tame v stem i S h = h
dot_or_tame v neither i S h = tt

longer_tame : (v : Bool) (e : Ex) (d : Mark) (n : Named) (S : Stack) → Stays v S → Tame v (Steps.longer e d n S)
longer_tame v (bare (head x)) d n S h = dot_or_tame v (dots (Rattle.pl_grammar.specs.Trees.head_text (dotted x d n))) (dotted x d n) S h
longer_tame v (bare (braced x y z u)) d n S h = tt
longer_tame v e d n S h = tt

pub dot_tame : (v : Bool) (word : Word) (m : Mark) (e : Ex) (d : Mark) (S : Stack) → Stays v S → Tame v (Steps.behind_dot word m e d S)
dot_tame v (w.Name n) m e d S h = tame_if v (is_state n) (if has_state e then Ok (after (state e d m) S) else refused) (Steps.longer e d (record { mark = m; text = n }) S) (tame_if v (has_state e) (Ok (after (state e d m) S)) refused h tt) (longer_tame v e d (record { mark = m; text = n }) S h)
dot_tame v word m e d S h = tt

pub stem_tame : (v : Bool) (word : Word) (m : Mark) (i : Head) (S : Stack) → Stays v S → Tame v (Steps.behind_stem word m i S)
stem_tame v w.Dot m i S h = h
stem_tame v word m i S h = tt

-- ---- outputs

pub output_lax : (v : Bool) (word : Word) (m o : Mark) (p : Outgoing) (site : Site) (b : Block) → (v ≡ true → site_open site ≡ true) → Lax v (λ r. Steps.read_output r word m o p site b)
output_lax v (w.Name n) m o p site b h = lax_const v (Ok (output_read o p (to (entire (record { mark = m; text = n }))) site b)) h
output_lax v w.Not m o p site b h = room_const v (suc (outgoing_run p + suc (suc (site_nests site)))) (output_read o p (skip m) site b) h
output_lax v (w.Chars x) m o p site b h = lax_const v refused tt
output_lax v (w.Number x) m o p site b h = lax_const v refused tt
output_lax v (w.Binary x) m o p site b h = lax_const v refused tt
output_lax v w.Quote m o p site b h = lax_const v refused tt
output_lax v w.Equal m o p site b h = lax_const v refused tt
output_lax v w.Colon m o p site b h = lax_const v refused tt
output_lax v w.Comma m o p site b h = lax_const v refused tt
output_lax v w.Semicolon m o p site b h = lax_const v refused tt
output_lax v w.LineEnd m o p site b h = lax_const v refused tt
output_lax v w.Open m o p site b h = lax_const v refused tt
output_lax v w.Close m o p site b h = lax_const v refused tt
output_lax v w.OpenSquare m o p site b h = lax_const v refused tt
output_lax v w.CloseSquare m o p site b h = lax_const v refused tt
output_lax v w.OpenBrace m o p site b h = lax_const v refused tt
output_lax v w.CloseBrace m o p site b h = lax_const v refused tt
output_lax v w.At m o p site b h = lax_const v refused tt
output_lax v w.Dot m o p site b h = lax_const v refused tt
output_lax v (w.Key x) m o p site b h = lax_const v refused tt

output_list_lax : (v : Bool) (m o : Mark) (p : Outgoing) (t : Output) (site : Site) (b : Block) → (v ≡ true → site_open site ≡ true) → Lax v (λ r. Steps.output_list r m o p t site b)
output_list_lax v m o p (to (entire n)) site b h = room_const v (suc (nests (outputs_of o p site b))) (operand (args_of (head (alone n)) m fresh (outputs_of o p site b))) h
output_list_lax v m o p (to (indexed n i a z)) site b h = lax_const v refused tt
output_list_lax v m o p (to (in_braces n i a z)) site b h = lax_const v refused tt
output_list_lax v m o p (skip i) site b h = lax_const v refused tt

output_brace_lax : (v : Bool) (m o : Mark) (p : Outgoing) (t : Output) (site : Site) (b : Block) → (v ≡ true → site_open site ≡ true) → Lax v (λ r. Steps.output_brace r m o p t site b)
output_brace_lax v m o p (to (entire n)) site b h = room_const v (suc (nests (outputs_of o p site b))) (operand (brace_of n m (outputs_of o p site b))) h
output_brace_lax v m o p (to (indexed n i a z)) site b h = lax_const v refused tt
output_brace_lax v m o p (to (in_braces n i a z)) site b h = lax_const v refused tt
output_brace_lax v m o p (skip i) site b h = lax_const v refused tt

next_output_lax : (v : Bool) (word : Word) (m o : Mark) (os : Outputs) (site : Site) (b : Block) → (v ≡ true → site_open site ≡ true) → Lax v (λ r. Steps.next_output r word m o os site b)
next_output_lax v word m o os site b h = lax_if v m.gap (λ r. Steps.read_output r word m o (behind_outs os space) site b) (λ r. refused) (λ q. output_lax v word m o (behind_outs os space) site b h) (λ q. lax_const v refused tt)

pub behind_output_lax : (v : Bool) (word : Word) (m o : Mark) (p : Outgoing) (t : Output) (site : Site) (b : Block) → (v ≡ true → site_open site ≡ true) → Lax v (λ r. Steps.behind_output r word m o p t site b)
behind_output_lax v w.Comma m o p t site b h = lax_const v (Ok (output o (behind_outs (put_out p t) (written m)) site b)) h
behind_output_lax v w.CloseSquare m o p t site b h = lax_const v (Ok (outputs_shut o (put_out p t) m site b)) h
behind_output_lax v w.Open m o p t site b h = lax_if v m.gap (λ r. refused) (λ r. Steps.output_list r m o p t site b) (λ q. lax_const v refused tt) (λ q. output_list_lax v m o p t site b h)
behind_output_lax v w.OpenBrace m o p t site b h = output_brace_lax v m o p t site b h
behind_output_lax v (w.Name x) m o p t site b h = next_output_lax v (w.Name x) m o (put_out p t) site b h
behind_output_lax v (w.Chars x) m o p t site b h = next_output_lax v (w.Chars x) m o (put_out p t) site b h
behind_output_lax v (w.Number x) m o p t site b h = next_output_lax v (w.Number x) m o (put_out p t) site b h
behind_output_lax v (w.Binary x) m o p t site b h = next_output_lax v (w.Binary x) m o (put_out p t) site b h
behind_output_lax v w.Not m o p t site b h = next_output_lax v w.Not m o (put_out p t) site b h
behind_output_lax v w.Quote m o p t site b h = next_output_lax v w.Quote m o (put_out p t) site b h
behind_output_lax v w.Equal m o p t site b h = next_output_lax v w.Equal m o (put_out p t) site b h
behind_output_lax v w.Colon m o p t site b h = next_output_lax v w.Colon m o (put_out p t) site b h
behind_output_lax v w.Semicolon m o p t site b h = next_output_lax v w.Semicolon m o (put_out p t) site b h
behind_output_lax v w.LineEnd m o p t site b h = next_output_lax v w.LineEnd m o (put_out p t) site b h
behind_output_lax v w.Close m o p t site b h = next_output_lax v w.Close m o (put_out p t) site b h
behind_output_lax v w.OpenSquare m o p t site b h = next_output_lax v w.OpenSquare m o (put_out p t) site b h
behind_output_lax v w.CloseBrace m o p t site b h = next_output_lax v w.CloseBrace m o (put_out p t) site b h
behind_output_lax v w.At m o p t site b h = next_output_lax v w.At m o (put_out p t) site b h
behind_output_lax v w.Dot m o p t site b h = next_output_lax v w.Dot m o (put_out p t) site b h
behind_output_lax v (w.Key x) m o p t site b h = next_output_lax v (w.Key x) m o (put_out p t) site b h

pub outputs_tame : (v : Bool) (word : Word) (m o : Mark) (os : Outputs) (z : Mark) (site : Site) (b : Block) → (v ≡ true → site_open site ≡ true) → Tame v (Steps.behind_outputs word m o os z site b)
outputs_tame v w.Equal m o os z site b h = h
outputs_tame v word m o os z site b h = tt

-- ---- statements and headers

pub on_sep_tame : (v : Bool) (word : Word) (m : Mark) (go : Sep → Step) → ((s : Sep) → Tame v (go s)) → Tame v (Steps.on_sep (Steps.sep_kind word) m go)
on_sep_tame v word m go h = by_kind (Steps.sep_kind word)
  where
    by_kind : (x : Option SepKind) → Tame v (Steps.on_sep x m go)
    by_kind None = tt
    by_kind (Some k) = h (record { kind = k; mark = m })

on_spot_lax : (v : Bool) (x : Option Spot) (go : Spot → Step) → ((spot : Spot) → Tame v (go spot)) → Lax v (λ r. Steps.on_spot r x go)
on_spot_lax v None go h = lax_const v refused tt
on_spot_lax v (Some spot) go h = lax_roomy v (suc (site_nests (spot_site spot))) (λ r. go spot) (lax_const v (go spot) (h spot))

ending_tame : (v : Bool) (m : Mark) (site : Site) (b : Block) → v ≡ false → Tame v (Steps.ending m site b)
ending_tame v m main b h = tt
ending_tame v m (body t l s) b h = λ q. let bad : true ≡ false = rw q at h in cc
ending_tame v m (within o site before) b h = λ q. let bad : true ≡ false = rw q at h in cc

defining_tame : (v : Bool) (m : Mark) (site : Site) (b : Block) → Tame v (Steps.defining m site b)
defining_tame v m main b = λ q. refl
defining_tame v m (body t l s) b = tt
defining_tame v m (within o site before) b = tt

use_lax : (v : Bool) (u : Use) (word : Keyword) (m : Mark) (site : Site) (b : Block) → use_of word ≡ u → (is_end_word (w.Key word) ≡ true → v ≡ false) → (v ≡ true → site_open site ≡ true) → Lax v (λ r. Steps.by_use r u word m site b)
use_lax v tests word m site b e i h = on_spot_lax v (Steps.spot_of word site b) (λ spot. Ok (operand (lead_of (test word m) spot))) (λ spot q. refl)
use_lax v loops word m site b e i h = on_spot_lax v (Steps.spot_of word site b) (λ spot. Ok (loop word m spot)) (λ spot q. refl)
use_lax v direct word m site b e i h = on_spot_lax v (Steps.spot_of word site b) (λ spot. Ok (start (enter (unheaded word m) spot) empty)) (λ spot q. enter_open (unheaded word m) spot)
use_lax v plain word m site b e i h = on_spot_lax v (Steps.spot_of word site b) (λ spot. Ok (ready (no_value word m) spot)) (λ spot q. refl)
use_lax v leaves word m site b e i h = lax_if v ((scene site).holds && may (scene site) word) (λ r. roomy (room r (suc (site_nests site))) (Ok (finished (leave word m) site b))) (λ r. refused) (λ q. room_const v (suc (site_nests site)) (finished (leave word m) site b) h) (λ q. lax_const v refused tt)
use_lax v ends k.End m site b e i h = lax_const v (Steps.ending m site b) (ending_tame v m site b (i refl))
use_lax v ends k.Break m site b e i h = cc
use_lax v ends k.Case m site b e i h = cc
use_lax v ends k.Catch m site b e i h = cc
use_lax v ends k.Classdef m site b e i h = cc
use_lax v ends k.Continue m site b e i h = cc
use_lax v ends k.Else m site b e i h = cc
use_lax v ends k.Elseif m site b e i h = cc
use_lax v ends k.For m site b e i h = cc
use_lax v ends k.Function m site b e i h = cc
use_lax v ends k.Global m site b e i h = cc
use_lax v ends k.If m site b e i h = cc
use_lax v ends k.Otherwise m site b e i h = cc
use_lax v ends k.Parfor m site b e i h = cc
use_lax v ends k.Persistent m site b e i h = cc
use_lax v ends k.Return m site b e i h = cc
use_lax v ends k.Spmd m site b e i h = cc
use_lax v ends k.Switch m site b e i h = cc
use_lax v ends k.Try m site b e i h = cc
use_lax v ends k.While m site b e i h = cc
use_lax v defines word m site b e i h = lax_const v (Steps.defining m site b) (defining_tame v m site b)
use_lax v unused word m site b e i h = lax_const v refused tt

begin_lax : (v : Bool) (word : Word) (m : Mark) (site : Site) (b : Block) → (v ≡ true → site_open site ≡ true) → Lax v (λ r. Steps.begin r word m site b)
begin_lax v word m site b h = lax_if v (scene site).holds (λ r. roomy (room r (suc (site_nests site))) (read_operand r word m (goal_of shown site b))) (λ r. refused)
    (λ q. lax_roomy v (suc (site_nests site)) (λ r. read_operand r word m (goal_of shown site b)) (operand_lax v word m (goal_of shown site b) h)) (λ q. lax_const v refused tt)

pub start_lax : (v : Bool) (word : Word) (m : Mark) (site : Site) (b : Block) → (is_end_word word ≡ true → v ≡ false) → (v ≡ true → site_open site ≡ true) → Lax v (λ r. Steps.read_start r word m site b)
start_lax v w.Comma m site b i h = lax_const v (Ok (start site (blank b (record { kind = comma; mark = m })))) h
start_lax v w.Semicolon m site b i h = lax_const v (Ok (start site (blank b (record { kind = semicolon; mark = m })))) h
start_lax v w.LineEnd m site b i h = lax_const v (Ok (start site (blank b (record { kind = line; mark = m })))) h
start_lax v (w.Key word) m site b i h = use_lax v (use_of word) word m site b refl i h
start_lax v word m site b i h = begin_lax v word m site b h

pub loop_tame : (v : Bool) (other : Word) (m : Mark) (word : Keyword) (o : Mark) (spot : Spot) → Tame v (Steps.behind_loop other m word o spot)
loop_tame v (w.Name n) m word o spot = λ q. refl
loop_tame v w.Open m word o spot = λ q. refl
loop_tame v other m word o spot = tt

pub loop_in_tame : (v : Bool) (other : Word) (m : Mark) (word : Keyword) (o p : Mark) (spot : Spot) → Tame v (Steps.behind_loop_in other m word o p spot)
loop_in_tame v (w.Name n) m word o p spot = λ q. refl
loop_in_tame v other m word o p spot = tt

pub index_tame : (v : Bool) (other : Word) (q : Mark) (go : Mark → State) → is_open (go q) ≡ true → Tame v (Steps.behind_index other q go)
index_tame v w.Equal q go h = λ x. h
index_tame v other q go h = tt

count_tame : (v : Bool) (o : Mark) (h : Heading) (spot : Spot) → Tame v (Steps.count_of o h spot)
count_tame v o (no_value k.Spmd m) spot = λ q. refl
count_tame v o (no_value k.Break m) spot = tt
count_tame v o (no_value k.Case m) spot = tt
count_tame v o (no_value k.Catch m) spot = tt
count_tame v o (no_value k.Classdef m) spot = tt
count_tame v o (no_value k.Continue m) spot = tt
count_tame v o (no_value k.Else m) spot = tt
count_tame v o (no_value k.Elseif m) spot = tt
count_tame v o (no_value k.End m) spot = tt
count_tame v o (no_value k.For m) spot = tt
count_tame v o (no_value k.Function m) spot = tt
count_tame v o (no_value k.Global m) spot = tt
count_tame v o (no_value k.If m) spot = tt
count_tame v o (no_value k.Otherwise m) spot = tt
count_tame v o (no_value k.Parfor m) spot = tt
count_tame v o (no_value k.Persistent m) spot = tt
count_tame v o (no_value k.Return m) spot = tt
count_tame v o (no_value k.Switch m) spot = tt
count_tame v o (no_value k.Try m) spot = tt
count_tame v o (no_value k.While m) spot = tt
count_tame v o (upto l e) spot = tt
count_tame v o (shut i e z) spot = tt

pub ready_tame : (v : Bool) (word : Word) (m : Mark) (h : Heading) (spot : Spot) → Tame v (Steps.behind_heading word m h spot)
ready_tame v w.Open m h spot = count_tame v m h spot
ready_tame v (w.Name x) m h spot = on_sep_tame v (w.Name x) m (λ s. Ok (start (enter (headed h s) spot) empty)) (λ s q. enter_open (headed h s) spot)
ready_tame v (w.Chars x) m h spot = on_sep_tame v (w.Chars x) m (λ s. Ok (start (enter (headed h s) spot) empty)) (λ s q. enter_open (headed h s) spot)
ready_tame v (w.Number x) m h spot = on_sep_tame v (w.Number x) m (λ s. Ok (start (enter (headed h s) spot) empty)) (λ s q. enter_open (headed h s) spot)
ready_tame v (w.Binary x) m h spot = on_sep_tame v (w.Binary x) m (λ s. Ok (start (enter (headed h s) spot) empty)) (λ s q. enter_open (headed h s) spot)
ready_tame v w.Not m h spot = on_sep_tame v w.Not m (λ s. Ok (start (enter (headed h s) spot) empty)) (λ s q. enter_open (headed h s) spot)
ready_tame v w.Quote m h spot = on_sep_tame v w.Quote m (λ s. Ok (start (enter (headed h s) spot) empty)) (λ s q. enter_open (headed h s) spot)
ready_tame v w.Equal m h spot = on_sep_tame v w.Equal m (λ s. Ok (start (enter (headed h s) spot) empty)) (λ s q. enter_open (headed h s) spot)
ready_tame v w.Colon m h spot = on_sep_tame v w.Colon m (λ s. Ok (start (enter (headed h s) spot) empty)) (λ s q. enter_open (headed h s) spot)
ready_tame v w.Comma m h spot = on_sep_tame v w.Comma m (λ s. Ok (start (enter (headed h s) spot) empty)) (λ s q. enter_open (headed h s) spot)
ready_tame v w.Semicolon m h spot = on_sep_tame v w.Semicolon m (λ s. Ok (start (enter (headed h s) spot) empty)) (λ s q. enter_open (headed h s) spot)
ready_tame v w.LineEnd m h spot = on_sep_tame v w.LineEnd m (λ s. Ok (start (enter (headed h s) spot) empty)) (λ s q. enter_open (headed h s) spot)
ready_tame v w.Close m h spot = on_sep_tame v w.Close m (λ s. Ok (start (enter (headed h s) spot) empty)) (λ s q. enter_open (headed h s) spot)
ready_tame v w.OpenSquare m h spot = on_sep_tame v w.OpenSquare m (λ s. Ok (start (enter (headed h s) spot) empty)) (λ s q. enter_open (headed h s) spot)
ready_tame v w.CloseSquare m h spot = on_sep_tame v w.CloseSquare m (λ s. Ok (start (enter (headed h s) spot) empty)) (λ s q. enter_open (headed h s) spot)
ready_tame v w.OpenBrace m h spot = on_sep_tame v w.OpenBrace m (λ s. Ok (start (enter (headed h s) spot) empty)) (λ s q. enter_open (headed h s) spot)
ready_tame v w.CloseBrace m h spot = on_sep_tame v w.CloseBrace m (λ s. Ok (start (enter (headed h s) spot) empty)) (λ s q. enter_open (headed h s) spot)
ready_tame v w.At m h spot = on_sep_tame v w.At m (λ s. Ok (start (enter (headed h s) spot) empty)) (λ s q. enter_open (headed h s) spot)
ready_tame v w.Dot m h spot = on_sep_tame v w.Dot m (λ s. Ok (start (enter (headed h s) spot) empty)) (λ s q. enter_open (headed h s) spot)
ready_tame v (w.Key x) m h spot = on_sep_tame v (w.Key x) m (λ s. Ok (start (enter (headed h s) spot) empty)) (λ s q. enter_open (headed h s) spot)
