-- A terminal behind an operand does the same to both machines, and so do those in lists, names and outputs.
use Rattle.std.proofs.Common.{◌≡◌, ◌∙◌, ℕ, suc, ◌+◌, Bool, true, false, not, ◌&&◌, Some, None, Ok, refl, ap}
use Rattle.std.specs.Prelude.{if◌then◌else◌}
use Rattle.pl_base.specs.declared.errors.Place.{Place}
use Rattle.pl_syntax.specs.declared.expr.Bin.{Bin}
use Rattle.pl_syntax.specs.declared.expr.Bin.TheVariants as bin
use Rattle.pl_grammar.specs.declared.terminal.Word.{Word}
use Rattle.pl_grammar.specs.declared.terminal.Word.TheVariants as w
use Rattle.pl_grammar.specs.Words as g
use Rattle.pl_grammar.specs.Derivations as d
use Rattle.pl_grammar.specs.Trees as t
use Rattle.pl_grammar.specs.Nesting as n
use Rattle.pl_grammar.specs.Sound as s
use Rattle.pl_grammar.specs.Machine as gm
use Rattle.pl_grammar.specs.Steps as gs
use Rattle.pl_frames.specs.declared.operand.Mark.{Mark}
use Rattle.pl_frames.specs.declared.operand.Form.{Form}
use Rattle.pl_frames.specs.declared.operand.Form.TheVariants as form
use Rattle.pl_frames.specs.declared.operand.Callee.{Callee}
use Rattle.pl_frames.specs.declared.stack.Listed.{Listed}
use Rattle.pl_frames.specs.declared.stack.Stack.{Stack}
use Rattle.pl_frames.specs.declared.state.State.TheVariants as state
use Rattle.pl_frames.specs.Trees as ct
use Rattle.pl_frames.specs.Below as cb
use Rattle.pl_frames.specs.Rows as cr
use Rattle.pl_frames.specs.Reduce as cd
use Rattle.pl_steps.specs.Steps as st
use Rattle.pl_steps.specs.Names as names
use Rattle.pl_parse.specs.Image.{mark_of, cap, form_of, callee_of, operand_of, outgoing_of, site_of, stack_of, listed_of, additive_of, output_mark, state_of, step_of}
use Rattle.pl_parse.proofs.Capped.{one_cap}
use Rattle.pl_parse.proofs.Places.{rules, room_over, room_below, room_outputs, row_same, index_same}
use Rattle.pl_parse.proofs.Shapes.{held_of, reduce_same, tree_same, celled_same, colon_same}
use Rattle.pl_parse.proofs.Operands.{roomy_same, opened, either, called_same, end_word_same, operand_same}
use Rattle.pl_parse.proofs.Endings.{end_row_same, end_comma_same, close_same, close_square_same, close_brace_same, assign_same}

-- ---- operators

-- an operand that is so high, and a level more over a stack
over : (h : ℕ) (S : gm.Stack) (x : gm.State) → st.roomy (cb.has_room (ct.plus 1 (cap h)) (stack_of S)) (Ok (state_of x)) ≡ step_of (gs.roomy (gs.room rules (suc (h + gm.nests S))) (Ok x))
over h S x = rw (room_over h S) (roomy_same (gs.room rules (suc (h + gm.nests S))) (Ok x))

join_same : (o : Bin) (m : g.Mark) (e : d.Ex) (S : gm.Stack) → st.join o (mark_of m) (held_of (record { operand = e; stack = S })) ≡ step_of (gs.join rules e S o m)
unfolding st.join
join_same o m e S = over (n.height e) S (gm.operand (gm.op_of (d.joined e o m d.no_signs) S))

join_reduced : (o : Bin) (m : g.Mark) (e : d.Ex) (S : gm.Stack) → st.join o (mark_of m) (cd.reduce (g.level o) (operand_of e) (stack_of S)) ≡ step_of (gs.join rules (gs.reduce (g.level o) e S).operand (gs.reduce (g.level o) e S).stack o m)
join_reduced o m e S = rw (reduce_same (g.level o) e S) (join_same o m (gs.reduce (g.level o) e S).operand (gs.reduce (g.level o) e S).stack)

tear_same : (e : d.Ex) (a : g.Additive) (m : g.Mark) (S : gm.Stack) → st.tear (operand_of e) (additive_of a) (mark_of m) (stack_of S) ≡ step_of (gs.tear rules e a m S (gs.reduce 0 e S).stack)
tear_same e a m S = rw (room_below S e) (roomy_same (gs.room rules (suc (gm.nests (gs.reduce 0 e S).stack))) (Ok (gm.torn e a m S)))

additive_same : (a : g.Additive) (o : Bin) (m : g.Mark) (e : d.Ex) (S : gm.Stack) → st.operator_by (Some (additive_of a)) o (mark_of m) (operand_of e) (stack_of S) ≡ step_of (gs.operator rules o (Some a) m e S)
additive_same a o m e S = rw (row_same S) (either step_of (gm.in_row S && m.gap)
    (gs.tear rules e a m S (gs.reduce 0 e S).stack)
    (gs.join rules (gs.reduce (g.level o) e S).operand (gs.reduce (g.level o) e S).stack o m)
    (st.tear (operand_of e) (additive_of a) (mark_of m) (stack_of S))
    (st.join o (mark_of m) (cd.reduce (g.level o) (operand_of e) (stack_of S)))
    (tear_same e a m S) (join_reduced o m e S))

operator_same : (o : Bin) (m : g.Mark) (e : d.Ex) (S : gm.Stack) → st.operator o (mark_of m) (operand_of e) (stack_of S) ≡ step_of (gs.operator rules o (g.additive_of o) m e S)
unfolding st.operator
operator_same bin.Add m e S = additive_same g.plus bin.Add m e S
operator_same bin.Sub m e S = additive_same g.minus bin.Sub m e S
operator_same o m e S = join_reduced o m e S

transposed_operand : (m : g.Mark) (e : d.Ex) → st.transposed (mark_of m) (operand_of e) ≡ operand_of (d.transposed e m)
transposed_operand m e = rw (tree_same e, one_cap (n.height e))

transpose_same : (m : g.Mark) (e : d.Ex) (S : gm.Stack) → st.transpose (mark_of m) (held_of (record { operand = e; stack = S })) ≡ step_of (gs.transpose rules m e S)
unfolding st.transpose
transpose_same m e S = rw (transposed_operand m e) (over (n.height e) S (gm.after (d.transposed e m) S))

range_same : (m : g.Mark) (e : d.Ex) (S : gm.Stack) → st.range (mark_of m) (held_of (record { operand = e; stack = S })) ≡ step_of (gs.range rules m e S)
unfolding st.range
range_same m e (gm.op_of (d.from a x) S) = refl
range_same m e (gm.op_of (d.stepped a x b o) S) = refl
range_same m e S = over (n.height e) S (gm.operand (gm.op_of (d.from e m) S))

-- ---- lists, braces, dots

list_same : (m : g.Mark) (e : d.Ex) (S : gm.Stack) → st.list_of (operand_of e) (stack_of S) ≡ step_of (gs.list_of rules m e S)
unfolding st.list_of
list_same m (d.bare (d.head (d.alone x))) S = opened S (gm.operand (gm.args_of (d.head (d.alone x)) m gm.fresh S))
list_same m (d.bare (d.head (d.dotted h q x))) S = opened S (gm.operand (gm.args_of (d.head (d.dotted h q x)) m gm.fresh S))
list_same m (d.bare (d.braced x q e z)) S = opened S (gm.operand (gm.args_of (d.braced x q e z) m gm.fresh S))
list_same m (d.call (d.head (d.alone x)) o a z) S = refl
list_same m (d.call (d.head (d.dotted h q x)) o a z) S = refl
list_same m (d.call (d.braced x q e y) o a z) S = refl
list_same m (d.rows o d.no_rows z) S = refl
list_same m (d.rows o (d.broken rs x) z) S = refl
list_same m (d.rows o (d.filled rs es x y) z) S = refl
list_same m (d.rows_to o d.no_rows es d.no_trail z) S = refl
list_same m (d.rows_to o d.no_rows es (d.trail c) z) S = refl
list_same m (d.rows_to o (d.broken rs x) es y z) S = refl
list_same m (d.rows_to o (d.filled rs xs x v) es y z) S = refl
list_same m (d.under (d.signed o g.tilde) e) S = skip_is_no_callee (mark_of o) (form_of e) (t.mark e).gap (t.mark e).place
  where
    skip_is_no_callee : (x : Mark) (f : Form) (gap : Bool) (p : Place) → st.list_by (st.callee_of (ct.skip x f gap p)) (mark_of o) (operand_of (d.under (d.signed o g.tilde) e)).height (stack_of S) ≡ st.refused
    skip_is_no_callee x (form.Target y) true p = refl
    skip_is_no_callee x (form.Skips ms y) true p = refl
    skip_is_no_callee x f gap p = refl
list_same m e S = refl

brace_same : (m : g.Mark) (e : d.Ex) (S : gm.Stack) → st.brace (operand_of e) (stack_of S) ≡ step_of (gs.brace rules m e S)
unfolding st.brace
brace_same m (d.bare (d.head (d.alone x))) S = opened S (gm.operand (gm.brace_of x m S))
brace_same m (d.bare (d.head (d.dotted h q x))) S = refl
brace_same m (d.bare (d.braced x q e z)) S = refl
brace_same m (d.call (d.head (d.alone x)) o a z) S = refl
brace_same m (d.call (d.head (d.dotted h q x)) o a z) S = refl
brace_same m (d.call (d.braced x q e y) o a z) S = refl
brace_same m (d.rows o d.no_rows z) S = refl
brace_same m (d.rows o (d.broken rs x) z) S = refl
brace_same m (d.rows o (d.filled rs es x y) z) S = refl
brace_same m (d.rows_to o d.no_rows es d.no_trail z) S = refl
brace_same m (d.rows_to o d.no_rows es (d.trail c) z) S = refl
brace_same m (d.rows_to o (d.broken rs x) es y z) S = refl
brace_same m (d.rows_to o (d.filled rs xs x v) es y z) S = refl
brace_same m (d.under (d.signed o g.tilde) e) S = skip_is_no_name (mark_of o) (form_of e) (t.mark e).gap (t.mark e).place
  where
    skip_is_no_name : (x : Mark) (f : Form) (gap : Bool) (p : Place) → st.brace_by (st.name_of (ct.skip x f gap p)) (mark_of o) (stack_of S) ≡ st.refused
    skip_is_no_name x (form.Target y) true p = refl
    skip_is_no_name x (form.Skips ms y) true p = refl
    skip_is_no_name x f gap p = refl
brace_same m e S = refl

skip_has_no_state : (x : Mark) (f : Form) (gap : Bool) (p : Place) → st.has_state (ct.skip x f gap p) ≡ false
skip_has_no_state x (form.Target y) true p = refl
skip_has_no_state x (form.Skips ms y) true p = refl
skip_has_no_state x f gap p = refl

has_state_same : (e : d.Ex) → st.has_state (form_of e) ≡ s.has_state e
has_state_same (d.bare (d.head (d.alone x))) = refl
has_state_same (d.bare (d.head (d.dotted h q x))) = refl
has_state_same (d.bare (d.braced x q e z)) = refl
has_state_same (d.call (d.head (d.alone x)) o a z) = refl
has_state_same (d.call (d.head (d.dotted h q x)) o a z) = refl
has_state_same (d.call (d.braced x q e y) o a z) = refl
has_state_same (d.rows o d.no_rows z) = refl
has_state_same (d.rows o (d.broken rs x) z) = refl
has_state_same (d.rows o (d.filled rs es x y) z) = refl
has_state_same (d.rows_to o d.no_rows es d.no_trail z) = refl
has_state_same (d.rows_to o d.no_rows es (d.trail c) z) = refl
has_state_same (d.rows_to o (d.broken rs x) es y z) = refl
has_state_same (d.rows_to o (d.filled rs xs x v) es y z) = refl
has_state_same (d.under (d.signed o g.tilde) e) = skip_has_no_state (mark_of o) (form_of e) (t.mark e).gap (t.mark e).place
has_state_same e = refl

dot_same : (m : g.Mark) (e : d.Ex) (S : gm.Stack) → st.dot_behind (operand_of e) (stack_of S) ≡ step_of (gs.dot_behind m e S)
dot_same m e S = rw (has_state_same e) (either step_of (s.has_state e) (Ok (gm.dot e m S)) gs.refused (Ok (state_of (gm.dot e m S))) st.refused refl refl)

-- ---- the terminal behind an operand

go_on_same : (word : Word) (m : g.Mark) (e : d.Ex) (S : gm.Stack) → st.go_on word (mark_of m) (operand_of e) (stack_of S) ≡ step_of (gs.go_on rules word m e S)
unfolding st.go_on
go_on_same (w.Binary o) m e S = operator_same o m e S
go_on_same w.Quote m e S = rw (reduce_same 10 e S) (transpose_same m (gs.reduce 10 e S).operand (gs.reduce 10 e S).stack)
go_on_same w.Colon m e S = rw (reduce_same 7 e S) (range_same m (gs.reduce 7 e S).operand (gs.reduce 7 e S).stack)
go_on_same w.Equal m e S = assign_same m e S
go_on_same w.Comma m e S = rw (reduce_same 0 e S) (end_comma_same m (gs.reduce 0 e S).operand (gs.reduce 0 e S).stack)
go_on_same w.Semicolon m e S = rw (reduce_same 0 e S) (end_row_same (record { kind = g.semicolon; mark = m }) (gs.reduce 0 e S).operand (gs.reduce 0 e S).stack)
go_on_same w.LineEnd m e S = rw (reduce_same 0 e S) (end_row_same (record { kind = g.line; mark = m }) (gs.reduce 0 e S).operand (gs.reduce 0 e S).stack)
go_on_same w.Open m e S = list_same m e S
go_on_same w.Close m e S = rw (reduce_same 0 e S) (close_same m (gs.reduce 0 e S).operand (gs.reduce 0 e S).stack)
go_on_same w.CloseSquare m e S = rw (reduce_same 0 e S) (close_square_same m (gs.reduce 0 e S).operand (gs.reduce 0 e S).stack)
go_on_same w.OpenBrace m e S = brace_same m e S
go_on_same w.CloseBrace m e S = rw (reduce_same 0 e S) (close_brace_same m (gs.reduce 0 e S).operand (gs.reduce 0 e S).stack)
go_on_same w.Dot m e S = dot_same m e S
go_on_same (w.Name x) m e S = refl
go_on_same (w.Chars cs) m e S = refl
go_on_same (w.Number z) m e S = refl
go_on_same w.Not m e S = refl
go_on_same w.At m e S = refl
go_on_same w.OpenSquare m e S = refl
go_on_same (w.Key word) m e S = refl

begins_same : (word : Word) (S : gm.Stack) → st.begins_element word (stack_of S) ≡ gs.begins_element word S
begins_same (w.Key word) S = rw (end_word_same word, index_same S)
begins_same (w.Name x) S = refl
begins_same (w.Chars cs) S = refl
begins_same (w.Number z) S = refl
begins_same w.Not S = refl
begins_same w.Open S = refl
begins_same w.OpenSquare S = refl
begins_same w.At S = refl
begins_same word S = refl

apart_row : (m : g.Mark) (rs : d.Rows) (p : gm.Pending) (e : d.Ex) (S : gm.Stack) → st.apart (held_of (record { operand = e; stack = gm.row_of m rs p S })) ≡ Some (stack_of (gm.row_of m rs (gm.behind (gm.put p (d.value e)) d.space) S))
apart_row m rs p e S = rw (celled_same p e d.space)

-- an element is done, and what comes goes on in the row
element_same : (e : d.Ex) (S : gm.Stack) (word : Word) (m : g.Mark) → st.element_in (st.apart (held_of (record { operand = e; stack = S }))) word (mark_of m) ≡ step_of (gs.apart e S (λ row. gs.read_operand rules word m row))
element_same e (gm.row_of o rs p S) word m = ap (λ x. st.element_in x word (mark_of m)) (apart_row o rs p e S) ∙ (operand_same word m (gm.row_of o rs (gm.behind (gm.put p (d.value e)) d.space) S))
element_same e S word m = refl

-- the two ways to test for an element that begins behind white space
begins_by : (a b c : Bool) (x y : st.Step) → (if not (a && b && c) then x else y) ≡ (if a && (b && c) then y else x)
begins_by true true true x y = refl
begins_by true true false x y = refl
begins_by true false c x y = refl
begins_by false b c x y = refl

pub after_same : (word : Word) (m : g.Mark) (e : d.Ex) (S : gm.Stack) → st.read_after word (mark_of m) (operand_of e) (stack_of S) ≡ step_of (gs.read_after rules word m e S)
unfolding st.read_after
after_same word m e S =
    rw (begins_same word S, row_same S, reduce_same 0 e S)
    (begins_by (gs.begins_element word S) (gm.in_row S) m.gap (st.go_on word (mark_of m) (operand_of e) (stack_of S)) (st.element_in (st.apart (held_of (gs.reduce 0 e S))) word (mark_of m))
    ∙ either step_of (gs.begins_element word S && (gm.in_row S && m.gap))
    (gs.apart (gs.reduce 0 e S).operand (gs.reduce 0 e S).stack (λ row. gs.read_operand rules word m row))
    (gs.go_on rules word m e S)
    (st.element_in (st.apart (held_of (gs.reduce 0 e S))) word (mark_of m))
    (st.go_on word (mark_of m) (operand_of e) (stack_of S))
    (element_same (gs.reduce 0 e S).operand (gs.reduce 0 e S).stack word m)
    (go_on_same word m e S))

-- ---- behind a torn sign

bin_same : (a : g.Additive) → st.bin_of (additive_of a) ≡ g.bin_of a
bin_same g.plus = refl
bin_same g.minus = refl

un_same : (a : g.Additive) → st.un_of (additive_of a) ≡ t.un_of (g.additive a)
un_same g.plus = refl
un_same g.minus = refl

between_same : (o : Bin) (x : g.Mark) (e : d.Ex) (S : gm.Stack) (word : Word) (m : g.Mark) → st.untear_between o (mark_of x) (held_of (record { operand = e; stack = S })) word (mark_of m) ≡ step_of (gs.roomy (gs.room rules (suc (n.height e + gm.nests S))) (gs.read_operand rules word m (gm.op_of (d.joined e o x d.no_signs) S)))
unfolding st.untear_between
between_same o x e S word m = rw (room_over (n.height e) S, operand_same word m (gm.op_of (d.joined e o x d.no_signs) S)) (roomy_same (gs.room rules (suc (n.height e + gm.nests S))) (gs.read_operand rules word m (gm.op_of (d.joined e o x d.no_signs) S)))

before_same : (a : g.Additive) (x : g.Mark) (e : d.Ex) (S : gm.Stack) (word : Word) (m : g.Mark) → st.untear_before (t.un_of (g.additive a)) (mark_of x) (held_of (record { operand = e; stack = S })) word (mark_of m) ≡ step_of (gs.apart e S (λ row. gs.read_operand rules word m (gm.op_of (d.signed x (g.additive a)) row)))
unfolding st.untear_before
before_same a x e (gm.row_of o rs p S) word m = ap (λ y. st.signed_in (t.un_of (g.additive a)) (mark_of x) y word (mark_of m)) (apart_row o rs p e S) ∙ (operand_same word m (gm.op_of (d.signed x (g.additive a)) (gm.row_of o rs (gm.behind (gm.put p (d.value e)) d.space) S)))
before_same a x e S word m = refl

pub untear_same : (e : d.Ex) (a : g.Additive) (x : g.Mark) (S : gm.Stack) (word : Word) (m : g.Mark) → st.untear (operand_of e) (additive_of a) (mark_of x) (stack_of S) word (mark_of m) ≡ step_of (gs.untear rules e a x S word m)
unfolding st.untear
untear_same e a x S word m = rw (reduce_same 7 e S, reduce_same 0 e S, bin_same a, un_same a) (either step_of m.gap
    (gs.roomy (gs.room rules (suc (n.height (gs.reduce 7 e S).operand + gm.nests (gs.reduce 7 e S).stack))) (gs.read_operand rules word m (gm.op_of (d.joined (gs.reduce 7 e S).operand (g.bin_of a) x d.no_signs) (gs.reduce 7 e S).stack)))
    (gs.apart (gs.reduce 0 e S).operand (gs.reduce 0 e S).stack (λ row. gs.read_operand rules word m (gm.op_of (d.signed x (g.additive a)) row)))
    (st.untear_between (g.bin_of a) (mark_of x) (held_of (gs.reduce 7 e S)) word (mark_of m))
    (st.untear_before (t.un_of (g.additive a)) (mark_of x) (held_of (gs.reduce 0 e S)) word (mark_of m))
    (between_same (g.bin_of a) x (gs.reduce 7 e S).operand (gs.reduce 7 e S).stack word m)
    (before_same a x (gs.reduce 0 e S).operand (gs.reduce 0 e S).stack word m))

-- ---- colons that are arguments, and names

colon_comma : (c : d.Callee) (x : g.Mark) (p : gm.Pending) (S : gm.Stack) (n m : g.Mark) → st.behind_colon w.Comma (mark_of n) (stack_of (gm.args_of c x p S)) ≡ step_of (gs.behind_colon w.Comma m n (gm.args_of c x p S))
unfolding st.behind_colon
colon_comma c x p S o m = rw (colon_same p o)

colon_close : (c : d.Callee) (x : g.Mark) (p : gm.Pending) (S : gm.Stack) (n m : g.Mark) → st.behind_colon w.Close (mark_of n) (stack_of (gm.args_of c x p S)) ≡ step_of (gs.behind_colon w.Close m n (gm.args_of c x p S))
unfolding st.behind_colon
colon_close c x p S o m = rw (colon_same p o) (called_same c x (d.listed (gm.put p (d.colon o))) m S)

abbrev IsOther : Word → Type 0
IsOther w.Comma = ⊥
IsOther w.Close = ⊥
IsOther word = Unit {0}

other_colon : (word : Word) (c : Callee) (m : Mark) (h : ℕ) (l : Listed) (S : Stack) → IsOther word → st.colon_word word c m h l S ≡ st.refused
other_colon w.Comma c m h l S i = absurd i
other_colon w.Close c m h l S i = absurd i
other_colon word c m h l S i = refl

colon_refused : (word : Word) (o : g.Mark) (S : gm.Stack) → IsOther word → st.behind_colon word (mark_of o) (stack_of S) ≡ st.refused
unfolding st.behind_colon
colon_refused word o (gm.args_of c x p S) i = other_colon word (callee_of c) (mark_of (t.callee_mark c)) (cap (n.callee_height c)) (cr.listed (listed_of p) (st.colon_tree (mark_of o)) 0) (stack_of S) i
colon_refused word o S i = refl

colon_comma_same : (m c : g.Mark) (S : gm.Stack) → st.behind_colon w.Comma (mark_of c) (stack_of S) ≡ step_of (gs.behind_colon w.Comma m c S)
unfolding st.behind_colon
colon_comma_same m c (gm.args_of f x p S) = colon_comma f x p S c m
colon_comma_same m c S = refl

colon_close_same : (m c : g.Mark) (S : gm.Stack) → st.behind_colon w.Close (mark_of c) (stack_of S) ≡ step_of (gs.behind_colon w.Close m c S)
unfolding st.behind_colon
colon_close_same m c (gm.args_of f x p S) = colon_close f x p S c m
colon_close_same m c S = refl

pub colon_word_same : (word : Word) (m c : g.Mark) (S : gm.Stack) → st.behind_colon word (mark_of c) (stack_of S) ≡ step_of (gs.behind_colon word m c S)
colon_word_same w.Comma m c S = colon_comma_same m c S
colon_word_same w.Close m c S = colon_close_same m c S
colon_word_same word m c S = colon_refused word c S tt

pub at_same : (word : Word) (m a : g.Mark) (S : gm.Stack) → st.behind_at word (mark_of m) (mark_of a) (stack_of S) ≡ step_of (gs.behind_at word m a S)
unfolding st.behind_at
at_same (w.Name x) m a S = refl
at_same word m a S = refl

state_operand : (e : d.Ex) (q m : g.Mark) → st.state_of (operand_of e) ≡ operand_of (d.state e q m)
state_operand e q m = rw (tree_same e)

dots_same : (x : g.Dots) (h : d.Head) (q : g.Mark) (y : g.Named) (S : gm.Stack) → st.dot_by (names.dots_of x) (operand_of (d.bare (d.head (d.dotted h q y)))) (stack_of S) ≡ step_of (gs.dot_or x (d.dotted h q y) S)
dots_same g.whole h q y S = refl
dots_same g.stem h q y S = refl
dots_same g.neither h q y S = refl

longer_head : (h : d.Head) (q : g.Mark) (y : g.Named) (S : gm.Stack) → st.longer (operand_of (d.bare (d.head h))) y.text (stack_of S) ≡ step_of (gs.longer (d.bare (d.head h)) q y S)
longer_head (d.alone x) q y S = dots_same (g.dots (t.head_text (d.dotted (d.alone x) q y))) (d.alone x) q y S
longer_head (d.dotted h p x) q y S = dots_same (g.dots (t.head_text (d.dotted (d.dotted h p x) q y))) (d.dotted h p x) q y S

skip_is_no_name : (x : Mark) (f : Form) (gap : Bool) (p : Place) → st.dotted_name (ct.skip x f gap p) ≡ None
skip_is_no_name x (form.Target y) true p = refl
skip_is_no_name x (form.Skips ms y) true p = refl
skip_is_no_name x f gap p = refl

longer_same : (e : d.Ex) (q : g.Mark) (y : g.Named) (S : gm.Stack) → st.longer (operand_of e) y.text (stack_of S) ≡ step_of (gs.longer e q y S)
longer_same (d.bare (d.head h)) q y S = longer_head h q y S
longer_same (d.bare (d.braced x o e z)) q y S = refl
longer_same (d.call (d.head (d.alone x)) o a z) q y S = refl
longer_same (d.call (d.head (d.dotted h v x)) o a z) q y S = refl
longer_same (d.call (d.braced x v e r) o a z) q y S = refl
longer_same (d.rows o d.no_rows z) q y S = refl
longer_same (d.rows o (d.broken rs x) z) q y S = refl
longer_same (d.rows o (d.filled rs es x v) z) q y S = refl
longer_same (d.rows_to o d.no_rows es d.no_trail z) q y S = refl
longer_same (d.rows_to o d.no_rows es (d.trail c) z) q y S = refl
longer_same (d.rows_to o (d.broken rs x) es v z) q y S = refl
longer_same (d.rows_to o (d.filled rs xs x v) es r z) q y S = refl
longer_same (d.under (d.signed o g.tilde) e) q y S = rw (skip_is_no_name (mark_of o) (form_of e) (t.mark e).gap (t.mark e).place)
longer_same e q y S = refl

pub dot_word_same : (word : Word) (m : g.Mark) (e : d.Ex) (q : g.Mark) (S : gm.Stack) → st.behind_dot word (operand_of e) (stack_of S) ≡ step_of (gs.behind_dot word m e q S)
unfolding st.behind_dot
dot_word_same (w.Name x) m e q S = rw (has_state_same e) (either step_of (g.is_state x)
    (if s.has_state e then Ok (gm.after (d.state e q m) S) else gs.refused)
    (gs.longer e q (record { mark = m; text = x }) S)
    (if s.has_state e then Ok (state.After (st.state_of (operand_of e)) (stack_of S)) else st.refused)
    (st.longer (operand_of e) x (stack_of S))
    (rw (state_operand e q m) (either step_of (s.has_state e) (Ok (gm.after (d.state e q m) S)) gs.refused (Ok (state_of (gm.after (d.state e q m) S))) st.refused refl refl))
    (longer_same e q (record { mark = m; text = x }) S))
dot_word_same word m e q S = refl

pub stem_same : (word : Word) (m : g.Mark) (h : d.Head) (S : gm.Stack) → st.behind_stem word (operand_of (d.bare (d.head h))) (stack_of S) ≡ step_of (gs.behind_stem word m h S)
stem_same w.Dot m h S = refl
stem_same word m h S = refl

-- ---- outputs that are no expressions

over_outputs : (p : gm.Outgoing) (site : gm.Site) (b : d.Block) (x : gm.State) → st.roomy (cb.outgoing_room (outgoing_of p) (site_of site b)) (Ok (state_of x)) ≡ step_of (gs.roomy (gs.room rules (suc (gm.outgoing_run p + suc (suc (gm.site_nests site))))) (Ok x))
over_outputs p site b x = rw (room_outputs p site b) (roomy_same (gs.room rules (suc (gm.outgoing_run p + suc (suc (gm.site_nests site))))) (Ok x))

pub output_same : (word : Word) (m o : g.Mark) (p : gm.Outgoing) (site : gm.Site) (b : d.Block) → st.read_output word (mark_of m) (mark_of o) (outgoing_of p) (site_of site b) ≡ step_of (gs.read_output rules word m o p site b)
unfolding st.read_output
output_same (w.Name x) m o p site b = refl
output_same w.Not m o p site b = over_outputs p site b (gm.output_read o p (d.skip m) site b)
output_same word m o p site b = refl

-- outputs with one more
with_output_same : (p : gm.Outgoing) (y : d.Output) → st.with_output (outgoing_of p) (t.output_tree y) ≡ outgoing_of (gm.behind_outs (gm.put_out p y) d.space)
with_output_same gm.fresh_outs (d.to x) = refl
with_output_same gm.fresh_outs (d.skip m) = refl
with_output_same (gm.behind_outs os c) (d.to x) = refl
with_output_same (gm.behind_outs os c) (d.skip m) = rw (one_cap (n.across c (n.run_of os)))

output_list_same : (m o : g.Mark) (p : gm.Outgoing) (y : d.Output) (site : gm.Site) (b : d.Block) → st.bracket_output false (mark_of (output_mark y)) (t.output_tree y) (mark_of o) (outgoing_of p) (site_of site b) ≡ step_of (gs.output_list rules m o p y site b)
output_list_same m o p (d.to (d.entire x)) site b = over_outputs p site b (gm.operand (gm.args_of (d.head (d.alone x)) m gm.fresh (gm.outputs_of o p site b)))
output_list_same m o p (d.to (d.indexed x q a z)) site b = refl
output_list_same m o p (d.to (d.in_braces x q e z)) site b = refl
output_list_same m o p (d.skip q) site b = refl

output_brace_same : (m o : g.Mark) (p : gm.Outgoing) (y : d.Output) (site : gm.Site) (b : d.Block) → st.bracket_output true (mark_of (output_mark y)) (t.output_tree y) (mark_of o) (outgoing_of p) (site_of site b) ≡ step_of (gs.output_brace rules m o p y site b)
output_brace_same m o p (d.to (d.entire x)) site b = over_outputs p site b (gm.operand (gm.brace_of x m (gm.outputs_of o p site b)))
output_brace_same m o p (d.to (d.indexed x q a z)) site b = refl
output_brace_same m o p (d.to (d.in_braces x q e z)) site b = refl
output_brace_same m o p (d.skip q) site b = refl

next_output_same : (word : Word) (m o : g.Mark) (p : gm.Outgoing) (y : d.Output) (site : gm.Site) (b : d.Block) → st.next_output word (mark_of m) (mark_of o) (st.with_output (outgoing_of p) (t.output_tree y)) (site_of site b) ≡ step_of (gs.next_output rules word m o (gm.put_out p y) site b)
unfolding st.next_output
next_output_same word m o p y site b = rw (with_output_same p y) (either step_of m.gap
    (gs.read_output rules word m o (gm.behind_outs (gm.put_out p y) d.space) site b) gs.refused
    (st.read_output word (mark_of m) (mark_of o) (outgoing_of (gm.behind_outs (gm.put_out p y) d.space)) (site_of site b)) st.refused
    (output_same word m o (gm.behind_outs (gm.put_out p y) d.space) site b) refl)

pub behind_output_same : (word : Word) (m o : g.Mark) (p : gm.Outgoing) (y : d.Output) (site : gm.Site) (b : d.Block) → st.behind_output word (mark_of m) (mark_of o) (outgoing_of p) (mark_of (output_mark y)) (t.output_tree y) (site_of site b) ≡ step_of (gs.behind_output rules word m o p y site b)
unfolding st.behind_output
behind_output_same w.Comma m o p y site b = rw (with_output_same p y)
behind_output_same w.CloseSquare m o p y site b = rw (with_output_same p y)
behind_output_same w.Open m o p y site b = either step_of m.gap gs.refused (gs.output_list rules m o p y site b) st.refused (st.bracket_output false (mark_of (output_mark y)) (t.output_tree y) (mark_of o) (outgoing_of p) (site_of site b)) refl (output_list_same m o p y site b)
behind_output_same w.OpenBrace m o p y site b = output_brace_same m o p y site b
behind_output_same word m o p y site b = next_output_same word m o p y site b

pub outputs_same : (word : Word) (m o : g.Mark) (os : d.Outputs) (z : g.Mark) (site : gm.Site) (b : d.Block) → st.behind_outputs word (mark_of o) (t.output_trees os) (site_of site b) ≡ step_of (gs.behind_outputs word m o os z site b)
outputs_same w.Equal m o os z site b = refl
outputs_same word m o os z site b = refl
