-- What ends an operand does the same to both machines: separators, closing brackets, and `=`.
use Rattle.std.proofs.Common.{◌≡◌, Bool, true, false, Option, Some, None, [], refl}
use Rattle.std.specs.Prelude.{option_map}
use Rattle.pl_base.specs.declared.errors.Place.{Place}
use Rattle.pl_grammar.specs.declared.terminal.Keyword.TheVariants as k
use Rattle.pl_grammar.specs.Words as g
use Rattle.pl_grammar.specs.Derivations as d
use Rattle.pl_grammar.specs.Trees as t
use Rattle.pl_grammar.specs.Nesting as n
use Rattle.pl_grammar.specs.Sound as s
use Rattle.pl_grammar.specs.Machine as gm
use Rattle.pl_grammar.specs.Steps as gs
use Rattle.pl_frames.specs.declared.operand.Mark.{Mark}
use Rattle.pl_frames.specs.declared.operand.Form.{Form}
use Rattle.pl_frames.specs.declared.operand.Form.TheVariants as form
use Rattle.pl_frames.specs.declared.stack.Part.{Part}
use Rattle.pl_frames.specs.declared.stack.Part.TheVariants as part
use Rattle.pl_frames.specs.declared.stack.Site.{Site}
use Rattle.pl_frames.specs.Trees as ct
use Rattle.pl_frames.specs.Parts as cp
use Rattle.pl_frames.specs.Rows as cr
use Rattle.pl_frames.specs.Outlist as co
use Rattle.pl_steps.specs.Steps as st
use Rattle.pl_parse.specs.Image.{mark_of, cap, form_of, callee_of, elements_of, operand_of, opened_of, site_of, spot_of, heading_of, goal_of, stack_of, listed_of, cells_of, rows_of, done_of, step_of}
use Rattle.pl_parse.proofs.Capped.{one_cap}
use Rattle.pl_parse.proofs.Shapes.{held_of, tree_same, argument_same, celled_same, filled_same, shut_same}
use Rattle.pl_parse.proofs.Outlists.{row_outs}
use Rattle.pl_parse.proofs.Operands.{called_same, embraced_same}

-- ---- parts of compound statements

abbrev pub part_of : d.Part → Part
part_of (d.headed h z) = part.Headed (heading_of h)
part_of (d.unheaded word m) = part.Unheaded word (mark_of m)

first_same : (p : d.Part) → cp.first (part_of p) ≡ opened_of (d.first p)
first_same (d.headed (d.upto (d.test word m) e) z) = refl
first_same (d.headed (d.upto (d.each word m x q) e) z) = refl
first_same (d.headed (d.shut (d.each_in word m o x q) e c) z) = refl
first_same (d.headed (d.shut (d.bound m o x q f c) e y) z) = refl
first_same (d.headed (d.shut (d.workers m o) e y) z) = refl
first_same (d.headed (d.no_value word m) z) = refl
first_same (d.unheaded word m) = refl

continued_same : (o : d.Opened) (b : d.Block) (p : d.Part) → cp.continued (opened_of o) (t.stmts b) (part_of p) ≡ opened_of (d.next o b p)
continued_same o b (d.headed (d.upto (d.test word m) e) z) = refl
continued_same o b (d.headed (d.upto (d.each word m x q) e) z) = refl
continued_same o b (d.headed (d.shut (d.each_in word m p x q) e c) z) = refl
continued_same o b (d.headed (d.shut (d.bound m p x q f c) e y) z) = refl
continued_same o b (d.headed (d.shut (d.workers m p) e y) z) = refl
continued_same o b (d.headed (d.no_value word m) z) = refl
continued_same o b (d.unheaded word m) = refl

pub enter_same : (p : d.Part) (spot : gm.Spot) → cp.enter (part_of p) (spot_of spot) ≡ site_of (gm.enter p spot) d.empty
unfolding cp.enter
enter_same p (gm.here site b) = rw (first_same p)
enter_same p (gm.linked o b site before) = rw (continued_same o b p)

-- ---- statements that are done

skip_is_something : (m : Mark) (f : Form) (gap : Bool) (p : Place) → st.is_nothing (ct.skip m f gap p) ≡ false
skip_is_something m (form.Target x) true p = refl
skip_is_something m (form.Skips ms x) true p = refl
skip_is_something m f gap p = refl

nothing_same : (e : d.Ex) → st.is_nothing (form_of e) ≡ s.is_nothing e
nothing_same (d.rows m d.no_rows z) = refl
nothing_same (d.rows m (d.broken rs x) z) = refl
nothing_same (d.rows m (d.filled rs es y x) z) = refl
nothing_same (d.rows_to m d.no_rows es d.no_trail z) = refl
nothing_same (d.rows_to m d.no_rows es (d.trail c) z) = refl
nothing_same (d.rows_to m (d.broken rs x) es y z) = refl
nothing_same (d.rows_to m (d.filled rs xs x v) es y z) = refl
nothing_same (d.bare (d.head (d.alone x))) = refl
nothing_same (d.bare (d.head (d.dotted h m x))) = refl
nothing_same (d.bare (d.braced x m e z)) = refl
nothing_same (d.call (d.head (d.alone x)) m a z) = refl
nothing_same (d.call (d.head (d.dotted h q x)) m a z) = refl
nothing_same (d.call (d.braced x q e y) m a z) = refl
nothing_same (d.under (d.signed m g.tilde) e) = skip_is_something (mark_of m) (form_of e) (t.mark e).gap (t.mark e).place
nothing_same e = refl

assigned_same : (x : g.Named) (m : g.Mark) (a : d.Args) (z q : g.Mark) (e : d.Ex) → st.is_nothing (form_of e) ≡ false → st.settle (goal_of (d.into (d.indexed x m a z) q)) (operand_of e) ≡ done_of (d.simple (d.into (d.indexed x m a z) q) e)
assigned_same x m a z q e h = rw (h, tree_same e)

settle_indexed : (x : g.Named) (m : g.Mark) (a : d.Args) (z q : g.Mark) (e : d.Ex) → st.settle (goal_of (d.into (d.indexed x m a z) q)) (operand_of e) ≡ done_of (gs.settle (d.into (d.indexed x m a z) q) e)
settle_indexed x m a z q (d.rows o d.no_rows y) = refl
settle_indexed x m a z q e = assigned_same x m a z q e (nothing_same e)

pub settle_same : (x : d.Goal) (e : d.Ex) → st.settle (goal_of x) (operand_of e) ≡ done_of (gs.settle x e)
settle_same d.shown e = rw (tree_same e)
settle_same (d.spread m os z q) e = rw (tree_same e)
settle_same (d.into (d.entire x) q) e = rw (tree_same e)
settle_same (d.into (d.in_braces x m i z) q) e = rw (tree_same e)
settle_same (d.into (d.indexed x m a z) q) e = settle_indexed x m a z q e

pub smt_same : (x : d.Smt) (show : Bool) → t.stmt (done_of x).kind (done_of x).mark.place show ≡ t.smt_tree x show
smt_same (d.simple x e) show = refl
smt_same (d.delete x m a z q o y) show = refl
smt_same (d.leave word m) show = refl
smt_same (d.compound o b m) show = refl

-- a statement that is done and those of its block
pub ended_same : (x : d.Smt) (site : gm.Site) (b : d.Block) (z : g.Sep) → st.ended (done_of x) (t.shows z.kind) (site_of site b) ≡ site_of site (d.statement b x z)
ended_same x site b z = rw (smt_same x (t.shows z.kind))

-- ---- separators

end_goal : (z : g.Sep) (x : d.Goal) (e : d.Ex) (site : gm.Site) (b : d.Block) → st.ended (st.settle (goal_of x) (operand_of e)) (t.shows z.kind) (site_of site b) ≡ site_of site (d.statement b (gs.settle x e) z)
end_goal z x e site b = rw (settle_same x e) (ended_same (gs.settle x e) site b z)

simple_same : (z : g.Sep) (e : d.Ex) (x : d.Goal) (site : gm.Site) (b : d.Block) → st.end_bottom (t.shows z.kind) (operand_of e) (stack_of (gm.goal_of x site b)).bottom ≡ step_of (gs.end_simple z e (gm.goal_of x site b))
simple_same z e x site b = rw (end_goal z x e site b)

lead_same : (z : g.Sep) (e : d.Ex) (l : d.Lead) (spot : gm.Spot) → st.end_bottom (t.shows z.kind) (operand_of e) (stack_of (gm.lead_of l spot)).bottom ≡ step_of (gs.end_simple z e (gm.lead_of l spot))
lead_same z e l spot = rw (tree_same e, enter_same (d.headed (d.upto l e) z) spot)

celled_row : (m : g.Mark) (rs : d.Rows) (p : gm.Pending) (e : d.Ex) (z : g.Sep) → cr.filled (rows_of rs) (cr.celled (cells_of p) (operand_of e) false) ≡ rows_of (d.filled rs (gm.put p (d.value e)) d.no_trail z)
celled_row m rs p e z = rw (celled_same p e (d.written m)) (filled_same rs (gm.put p (d.value e)) false d.no_trail z)

pub end_row_same : (z : g.Sep) (e : d.Ex) (S : gm.Stack) → st.end_row (t.shows z.kind) (held_of (record { operand = e; stack = S })) ≡ step_of (gs.end_row z e S)
unfolding st.end_row
end_row_same z e (gm.row_of m rs p S) = rw (celled_row m rs p e z)
end_row_same z e (gm.goal_of x site b) = simple_same z e x site b
end_row_same z e (gm.lead_of l spot) = lead_same z e l spot
end_row_same z e S = refl

pub end_comma_same : (c : g.Mark) (e : d.Ex) (S : gm.Stack) → st.end_comma (held_of (record { operand = e; stack = S })) ≡ step_of (gs.end_comma c e S)
unfolding st.end_comma
end_comma_same c e (gm.args_of f m p S) = rw (argument_same p e)
end_comma_same c e (gm.row_of m rs p S) = rw (celled_same p e (d.written c))
end_comma_same c e (gm.goal_of x site b) = simple_same (record { kind = g.comma; mark = c }) e x site b
end_comma_same c e (gm.lead_of l spot) = lead_same (record { kind = g.comma; mark = c }) e l spot
end_comma_same c e (gm.inner_of (d.each_in k.Parfor m o x q) spot) = rw (tree_same e)
end_comma_same c e (gm.inner_of (d.each_in word m o x q) spot) = refl
end_comma_same c e (gm.inner_of (d.bound m o x q f y) spot) = refl
end_comma_same c e (gm.inner_of (d.workers m o) spot) = refl
end_comma_same c e S = refl

-- ---- closing brackets

paren_operand : (m : g.Mark) (e : d.Ex) (z : g.Mark) → ct.plain (ct.tree (operand_of e)) (mark_of m) (ct.plus 1 (operand_of e).height) ≡ operand_of (d.paren m e z)
paren_operand m e z = rw (tree_same e, one_cap (n.height e))

called_with : (c : d.Callee) (m : g.Mark) (p : gm.Pending) (e : d.Ex) (z : g.Mark) (S : gm.Stack) → st.called (callee_of c) (mark_of (t.callee_mark c)) (cap (n.callee_height c)) (cr.argument (listed_of p) (operand_of e)) (stack_of S) ≡ step_of (gs.called c m (d.listed (gm.put p (d.value e))) z S)
called_with c m p e z S = rw (argument_same p e) (called_same c m (d.listed (gm.put p (d.value e))) z S)

pub close_same : (z : g.Mark) (e : d.Ex) (S : gm.Stack) → st.close (held_of (record { operand = e; stack = S })) ≡ step_of (gs.close z e S)
unfolding st.close
close_same z e (gm.paren_of m S) = rw (paren_operand m e z)
close_same z e (gm.args_of c m p S) = called_with c m p e z S
close_same z e (gm.inner_of i spot) = rw (tree_same e)
close_same z e S = refl

celled_operand : (m : g.Mark) (rs : d.Rows) (p : gm.Pending) (e : d.Ex) (z : g.Mark) → cr.row_bracket (mark_of m) (rows_of rs) (cr.celled (cells_of p) (operand_of e) false) ≡ operand_of (d.rows_to m rs (gm.put p (d.value e)) d.no_trail z)
celled_operand m rs p e z = rw (celled_same p e (d.written m)) (shut_same m rs (gm.put p (d.value e)) false z)

pub close_square_same : (z : g.Mark) (e : d.Ex) (S : gm.Stack) → st.close_square (held_of (record { operand = e; stack = S })) ≡ step_of (gs.close_square z e S)
unfolding st.close_square
close_square_same z e (gm.row_of m rs p S) = rw (celled_operand m rs p e z)
close_square_same z e S = refl

pub close_brace_same : (z : g.Mark) (e : d.Ex) (S : gm.Stack) → st.close_brace (held_of (record { operand = e; stack = S })) ≡ step_of (gs.close_brace z e S)
unfolding st.close_brace
close_brace_same z e (gm.brace_of x m S) = embraced_same x m e z S
close_brace_same z e S = refl

-- ---- `=`

skip_is_no_target : (m : Mark) (f : Form) (gap : Bool) (p : Place) (own : Mark) (site : Site) → st.assign_form (ct.skip m f gap p) own site [] ≡ st.refused
skip_is_no_target m (form.Target x) true p own site = refl
skip_is_no_target m (form.Skips ms x) true p own site = refl
skip_is_no_target m f gap p own site = refl

spread_same : (m z q : g.Mark) (es : d.Elements) (site : gm.Site) (b : d.Block) → st.spread_to (co.row_outputs [] (elements_of es)) (mark_of m) (site_of site b) [] ≡ step_of (gs.spread_to m z q (gs.row_outputs es) site b)
spread_same m z q es site b = rw (row_outs es) (by_outs (gs.row_outputs es))
  where
    by_outs : (x : Option d.Outputs) → st.spread_to (option_map t.output_trees x) (mark_of m) (site_of site b) [] ≡ step_of (gs.spread_to m z q x site b)
    by_outs None = refl
    by_outs (Some os) = refl

assign_to_same : (q : g.Mark) (e : d.Ex) (site : gm.Site) (b : d.Block) → st.assign_to (operand_of e) (site_of site b) [] ≡ step_of (gs.assign_to q (gs.tgt_of e) e site b)
assign_to_same q (d.bare (d.head (d.alone x))) site b = refl
assign_to_same q (d.bare (d.head (d.dotted h m x))) site b = refl
assign_to_same q (d.bare (d.braced x m e z)) site b = refl
assign_to_same q (d.call (d.head (d.alone x)) m a z) site b = refl
assign_to_same q (d.call (d.head (d.dotted h o x)) m a z) site b = refl
assign_to_same q (d.call (d.braced x o e y) m a z) site b = refl
assign_to_same q (d.rows_to m d.no_rows es d.no_trail z) site b = spread_same m z q es site b
assign_to_same q (d.rows_to m d.no_rows es (d.trail c) z) site b = refl
assign_to_same q (d.rows_to m (d.broken rs x) es y z) site b = refl
assign_to_same q (d.rows_to m (d.filled rs xs x v) es y z) site b = refl
assign_to_same q (d.rows m d.no_rows z) site b = refl
assign_to_same q (d.rows m (d.broken rs x) z) site b = refl
assign_to_same q (d.rows m (d.filled rs es x y) z) site b = refl
assign_to_same q (d.under (d.signed m g.tilde) e) site b = skip_is_no_target (mark_of m) (form_of e) (t.mark e).gap (t.mark e).place (mark_of m) (site_of site b)
assign_to_same q e site b = refl

pub assign_same : (q : g.Mark) (e : d.Ex) (S : gm.Stack) → st.assign (operand_of e) (stack_of S) ≡ step_of (gs.assign q e S)
unfolding st.assign
assign_same q e (gm.goal_of d.shown site b) = assign_to_same q e site b
assign_same q e S = refl
