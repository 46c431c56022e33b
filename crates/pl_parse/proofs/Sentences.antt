-- A terminal where a statement may come, in a header and in a title does the same to both machines.
use Rattle.std.proofs.Common.{◌≡◌, ◌∙◌, ℕ, suc, Bool, true, false, ◌&&◌, ◌||◌, Option, Some, None, Ok, Err, List, [], ◌∷◌, ◌++◌, refl, ap, sym}
use Rattle.std.specs.Prelude.{if◌then◌else◌}
use Rattle.std.specs.List.{list_any}
use Rattle.pl_syntax.specs.declared.expr.Name.{Name}
use Rattle.pl_syntax.specs.declared.stmt.Function.{Function}
use Rattle.pl_grammar.specs.declared.fault.FaultKind.TheVariants.{FunctionTwice}
use Rattle.pl_grammar.specs.declared.terminal.Word.{Word}
use Rattle.pl_grammar.specs.declared.terminal.Word.TheVariants as w
use Rattle.pl_grammar.specs.declared.terminal.Keyword.{Keyword}
use Rattle.pl_grammar.specs.declared.terminal.Keyword.TheVariants as k
use Rattle.pl_grammar.specs.Words as g
use Rattle.pl_grammar.specs.Derivations as d
use Rattle.pl_grammar.specs.Trees as t
use Rattle.pl_grammar.specs.Sound as s
use Rattle.pl_grammar.specs.Machine as gm
use Rattle.pl_grammar.specs.Steps as gs
use Rattle.pl_frames.specs.declared.stack.Spot.{Spot}
use Rattle.pl_frames.specs.declared.stack.Lead.TheVariants as lead
use Rattle.pl_frames.specs.declared.stack.Inner.TheVariants as inner
use Rattle.pl_frames.specs.declared.stack.Bottom.TheVariants as bottom
use Rattle.pl_frames.specs.declared.state.Titling.TheVariants as titling
use Rattle.pl_frames.specs.declared.state.State.TheVariants as state
use Rattle.pl_states.specs.declared.statements.Use.{Use}
use Rattle.pl_states.specs.declared.statements.Use.TheVariants as use_
use Rattle.pl_steps.specs.Steps as st
use Rattle.pl_states.specs.Statements as ss
use Rattle.pl_states.specs.Titles as ti
use Rattle.pl_parse.specs.Image.{mark_of, top_of, title_of, site_of, spot_of, heading_of, done_of, outs_waiting, params_waiting, titling_of, state_of, step_of}
use Rattle.pl_parse.proofs.Places.{rules, room_site, room_spot, holds_same, allows_same}
use Rattle.pl_parse.proofs.Operands.{roomy_same, either, operand_same}
use Rattle.pl_parse.proofs.Endings.{enter_same, ended_same}

-- ---- statements

abbrev use_img : g.Use → Use
use_img g.tests = use_.Tests
use_img g.loops = use_.Loops
use_img g.direct = use_.Direct
use_img g.plain = use_.Plain
use_img g.leaves = use_.Leaves
use_img g.ends = use_.Ends
use_img g.defines = use_.Defines
use_img g.unused = use_.Unused

use_same : (word : Keyword) → ss.use_of word ≡ use_img (g.use_of word)
use_same k.If = refl
use_same word = refl

abbrev spots : Option gm.Spot → Option Spot
spots None = None
spots (Some x) = Some (spot_of x)

link_same : (word : Keyword) (site : gm.Site) (b : d.Block) → ss.link_spot word (site_of site b) ≡ spots (gs.link_spot word site b)
link_same word (gm.within o site before) b = either spots (g.follows (s.opened_word o) word) (Some (gm.linked o b site before)) None (Some (spot_of (gm.linked o b site before))) None refl refl
link_same word gm.main b = refl
link_same word (gm.body x l z) b = refl

spot_same : (word : Keyword) (site : gm.Site) (b : d.Block) → ss.spot_of word (site_of site b) ≡ spots (gs.spot_of word site b)
spot_same word site b = rw (allows_same site b word) (either spots (g.is_link word)
    (gs.link_spot word site b)
    (if (gm.scene site).holds && s.may (gm.scene site) word then Some (gm.here site b) else None)
    (ss.link_spot word (site_of site b))
    (if (gm.scene site).holds && s.may (gm.scene site) word then Some (spot_of (gm.here site b)) else None)
    (link_same word site b)
    (either spots ((gm.scene site).holds && s.may (gm.scene site) word) (Some (gm.here site b)) None (Some (spot_of (gm.here site b))) None refl refl))

on_spot_same : (u : Use) (word : Keyword) (m : g.Mark) (x : Option gm.Spot) (go : gm.Spot → gm.State) → ((spot : gm.Spot) → ss.part_state u word (mark_of m) (spot_of spot) ≡ state_of (go spot)) → ss.part_at u word (mark_of m) (spots x) ≡ step_of (gs.on_spot rules x (λ spot. Ok (go spot)))
on_spot_same u word m None go h = refl
on_spot_same u word m (Some spot) go h = rw (h spot, room_spot spot) (roomy_same (gs.room rules (suc (gm.site_nests (gm.spot_site spot)))) (Ok (go spot)))

part_same : (u : Use) (word : Keyword) (m : g.Mark) (site : gm.Site) (b : d.Block) (go : gm.Spot → gm.State) → ((spot : gm.Spot) → ss.part_state u word (mark_of m) (spot_of spot) ≡ state_of (go spot)) → ss.part_word u word (mark_of m) (site_of site b) ≡ step_of (gs.on_spot rules (gs.spot_of word site b) (λ spot. Ok (go spot)))
part_same u word m site b go h = rw (spot_same word site b) (on_spot_same u word m (gs.spot_of word site b) go h)

leaving_same : (word : Keyword) (m : g.Mark) (site : gm.Site) (b : d.Block) → ss.leaving word (mark_of m) (site_of site b) ≡ step_of (gs.leaving rules word m site b)
unfolding ss.leaving
leaving_same word m site b = rw (allows_same site b word, room_site site b) (either step_of ((gm.scene site).holds && s.may (gm.scene site) word)
    (gs.roomy (gs.room rules (suc (gm.site_nests site))) (Ok (gm.finished (d.leave word m) site b))) gs.refused
    (st.roomy (gs.room rules (suc (gm.site_nests site))) (Ok (state_of (gm.finished (d.leave word m) site b)))) st.refused
    (roomy_same (gs.room rules (suc (gm.site_nests site))) (Ok (gm.finished (d.leave word m) site b))) refl)

ending_same : (m : g.Mark) (site : gm.Site) (b : d.Block) → ss.ending (site_of site b) ≡ step_of (gs.ending m site b)
unfolding ss.ending
ending_same m gm.main b = refl
ending_same m (gm.body x (d.title f o n y) z) b = refl
ending_same m (gm.within o site before) b = refl

defining_same : (m : g.Mark) (site : gm.Site) (b : d.Block) → ss.defining (site_of site b) ≡ step_of (gs.defining m site b)
unfolding ss.defining
defining_same m gm.main b = refl
defining_same m (gm.body x l z) b = refl
defining_same m (gm.within o site before) b = refl

by_use_same : (u : g.Use) (word : Keyword) (m : g.Mark) (site : gm.Site) (b : d.Block) → ss.by_use (use_img u) word (mark_of m) (site_of site b) ≡ step_of (gs.by_use rules u word m site b)
unfolding ss.by_use
by_use_same g.tests word m site b = part_same use_.Tests word m site b (λ spot. gm.operand (gm.lead_of (d.test word m) spot)) (λ spot. refl)
by_use_same g.loops word m site b = part_same use_.Loops word m site b (λ spot. gm.loop word m spot) (λ spot. refl)
by_use_same g.direct word m site b = part_same use_.Direct word m site b (λ spot. gm.start (gm.enter (d.unheaded word m) spot) d.empty) (λ spot. ap state.Start (enter_same (d.unheaded word m) spot))
by_use_same g.plain word m site b = part_same use_.Plain word m site b (λ spot. gm.ready (d.no_value word m) spot) (λ spot. refl)
by_use_same g.leaves word m site b = leaving_same word m site b
by_use_same g.ends word m site b = ending_same m site b
by_use_same g.defines word m site b = defining_same m site b
by_use_same g.unused word m site b = refl

begin_same : (word : Word) (m : g.Mark) (site : gm.Site) (b : d.Block) → ss.begin word (mark_of m) (site_of site b) ≡ step_of (gs.begin rules word m site b)
unfolding ss.begin
begin_same word m site b = rw (holds_same site b, room_site site b, operand_same word m (gm.goal_of d.shown site b)) (either step_of ((gm.scene site).holds)
    (gs.roomy (gs.room rules (suc (gm.site_nests site))) (gs.read_operand rules word m (gm.goal_of d.shown site b))) gs.refused
    (st.roomy (gs.room rules (suc (gm.site_nests site))) (step_of (gs.read_operand rules word m (gm.goal_of d.shown site b)))) st.refused
    (roomy_same (gs.room rules (suc (gm.site_nests site))) (gs.read_operand rules word m (gm.goal_of d.shown site b))) refl)

pub start_same : (word : Word) (m : g.Mark) (site : gm.Site) (b : d.Block) → ss.read_start word (mark_of m) (site_of site b) ≡ step_of (gs.read_start rules word m site b)
unfolding ss.read_start
start_same w.Comma m site b = refl
start_same w.Semicolon m site b = refl
start_same w.LineEnd m site b = refl
start_same (w.Key word) m site b = rw (use_same word) (by_use_same (g.use_of word) word m site b)
start_same word m site b = begin_same word m site b

pub statement_same : (word : Word) (m : g.Mark) (x : d.Smt) (site : gm.Site) (b : d.Block) → ss.behind_statement word (done_of x) (site_of site b) ≡ step_of (gs.on_sep (gs.sep_kind word) m (λ e. Ok (gm.start site (d.statement b x e))))
unfolding ss.behind_statement
statement_same w.Comma m x site b = rw (ended_same x site b (record { kind = g.comma; mark = m }))
statement_same w.Semicolon m x site b = rw (ended_same x site b (record { kind = g.semicolon; mark = m }))
statement_same w.LineEnd m x site b = rw (ended_same x site b (record { kind = g.line; mark = m }))
statement_same word m x site b = refl

-- ---- headers

pub loop_same : (word : Word) (m : g.Mark) (key : Keyword) (o : g.Mark) (spot : gm.Spot) → ss.behind_loop word (mark_of m) key (mark_of o) (spot_of spot) ≡ step_of (gs.behind_loop word m key o spot)
unfolding ss.behind_loop
loop_same (w.Name x) m key o spot = refl
loop_same w.Open m key o spot = refl
loop_same word m key o spot = refl

pub loop_in_same : (word : Word) (m : g.Mark) (key : Keyword) (o p : g.Mark) (spot : gm.Spot) → ss.behind_loop_in word (mark_of m) key (mark_of o) (spot_of spot) ≡ step_of (gs.behind_loop_in word m key o p spot)
unfolding ss.behind_loop_in
loop_in_same (w.Name x) m key o p spot = refl
loop_in_same word m key o p spot = refl

pub index_word_same : (word : Word) (m : g.Mark) (key : Keyword) (o : g.Mark) (x : g.Named) (spot : gm.Spot) → ss.behind_index word (bottom.Lead (lead.Each key (mark_of o) (t.name_of x)) (spot_of spot)) ≡ step_of (gs.behind_index word m (λ q. gm.operand (gm.lead_of (d.each key o x q) spot)))
index_word_same w.Equal m key o x spot = refl
index_word_same word m key o x spot = refl

pub index_in_same : (word : Word) (m : g.Mark) (key : Keyword) (o p : g.Mark) (x : g.Named) (spot : gm.Spot) → ss.behind_index word (bottom.Inner (inner.EachIn key (mark_of o) (t.name_of x)) (spot_of spot)) ≡ step_of (gs.behind_index word m (λ q. gm.operand (gm.inner_of (d.each_in key o p x q) spot)))
index_in_same w.Equal m key o p x spot = refl
index_in_same word m key o p x spot = refl

count_same : (o : g.Mark) (h : d.Heading) (spot : gm.Spot) → ss.count_of (heading_of h) (spot_of spot) ≡ step_of (gs.count_of o h spot)
count_same o (d.no_value k.Spmd m) spot = refl
count_same o (d.upto l e) spot = refl
count_same o (d.shut i e z) spot = refl
count_same o (d.no_value word m) spot = refl

pub heading_same : (word : Word) (m : g.Mark) (h : d.Heading) (spot : gm.Spot) → ss.behind_heading word (heading_of h) (spot_of spot) ≡ step_of (gs.behind_heading word m h spot)
unfolding ss.behind_heading
heading_same w.Open m h spot = count_same m h spot
heading_same w.Comma m h spot = ap (λ x. Ok (state.Start x)) (enter_same (d.headed h (record { kind = g.comma; mark = m })) spot)
heading_same w.Semicolon m h spot = ap (λ x. Ok (state.Start x)) (enter_same (d.headed h (record { kind = g.semicolon; mark = m })) spot)
heading_same w.LineEnd m h spot = ap (λ x. Ok (state.Start x)) (enter_same (d.headed h (record { kind = g.line; mark = m })) spot)
heading_same word m h spot = refl

-- ---- titles

or_false : (a : Bool) → (a || false) ≡ a
or_false true = refl
or_false false = refl

or_grows : (a b c e : Bool) → b ≡ (c || e) → (a || b) ≡ ((a || c) || e)
or_grows true b c e h = refl
or_grows false b c e h = h

any_snoc : (f : Function → Bool) (xs : List Function) (x : Function) → list_any f (xs ++ x ∷ []) ≡ (list_any f xs || f x)
any_snoc f [] x = or_false (f x)
any_snoc f (y ∷ xs) x = or_grows (f y) (list_any f (xs ++ x ∷ [])) (list_any f xs) (f x) (any_snoc f xs x)

fun_named : (text : List ℕ) (f : d.Fun) → g.same (t.fun_tree f).name.text text ≡ g.same (s.fun_name f) text
fun_named text (d.fun (d.title m o n y) z b e) = refl

has_function_same : (text : List ℕ) (x : d.Top) → ti.has_function text (t.functions_of x) ≡ s.has_function text x
has_function_same text (d.script b) = refl
has_function_same text (d.define x f) = any_snoc (λ y. g.same y.name.text text) (t.functions_of x) (t.fun_tree f) ∙ rw (has_function_same text x, fun_named text f)
has_function_same text (d.spaced x z) = has_function_same text x

-- a name that stands twice is a fault where the title goes on
once_same : (text : List ℕ) (x : d.Top) (y : gs.Step) → ti.once (ti.has_function text (t.functions_of x)) (step_of y) ≡ step_of (gs.unless_twice rules text x y)
once_same text x (Err f) = refl
once_same text x (Ok z) = rw (has_function_same text x) (by_twice (s.has_function text x))
  where
    by_twice : (b : Bool) → (if b then Err FunctionTwice else Ok (state_of z)) ≡ step_of (if b then Err FunctionTwice else Ok z)
    by_twice true = refl
    by_twice false = refl

kept_snoc : (xs : List (Option Name)) (x : Name) → t.kept (xs ++ Some x ∷ []) ≡ t.kept xs ++ x ∷ []
kept_snoc [] x = refl
kept_snoc (Some y ∷ xs) x = ap (λ z. y ∷ z) (kept_snoc xs x)
kept_snoc (None ∷ xs) x = kept_snoc xs x

titled_same : (word : Word) (m : g.Mark) (x : d.Top) (l : d.Title) → ti.titled_end word (top_of x) (title_of l) ≡ step_of (gs.titled_end word m x l)
titled_same w.Comma m x l = refl
titled_same w.Semicolon m x l = refl
titled_same w.LineEnd m x l = refl
titled_same word m x l = refl

title_same : (word : Word) (m : g.Mark) (x : d.Top) (f : g.Mark) (o : d.Outs) (n : g.Named) → ti.behind_title word (top_of x) (t.out_names o) (t.name_of n) ≡ step_of (gs.behind_title word m x f o n)
title_same w.Open m x f o n = refl
title_same word m x f o n = titled_same word m x (d.title f o n d.no_list)

word_same : (word : Word) (m : g.Mark) (x : d.Top) (f : g.Mark) (n : g.Named) → ti.behind_word word (top_of x) (t.name_of n) ≡ step_of (gs.behind_word rules word m x f n)
word_same w.Equal m x f n = refl
word_same word m x f n = ap (ti.once (ti.has_function n.text (t.functions_of x))) (title_same word m x f d.no_outs n) ∙ once_same n.text x (gs.behind_title word m x f d.no_outs n)

read_title_same : (word : Word) (m : g.Mark) (x : d.Top) (f : g.Mark) → ti.read_title word (mark_of m) (top_of x) ≡ step_of (gs.read_title word m x f)
read_title_same (w.Name n) m x f = refl
read_title_same w.OpenSquare m x f = refl
read_title_same word m x f = refl

out_name : (m o : g.Mark) (p : gm.Waiting) (n : g.Named) → ti.with_out (outs_waiting p) (t.name_of n) ≡ t.kept (t.param_names (gm.put_param p (d.taken n)))
out_name m o gm.fresh_params n = refl
out_name m o (gm.behind_params ps c) n = sym (kept_snoc (t.param_names ps) (t.name_of n))

read_out_same : (word : Word) (m : g.Mark) (x : d.Top) (f o : g.Mark) (p : gm.Waiting) → ti.read_out word (mark_of m) (top_of x) (outs_waiting p) ≡ step_of (gs.read_out word m x f o p)
read_out_same (w.Name n) m x f o p = rw (out_name m o p (record { mark = m; text = n }))
read_out_same w.CloseSquare m x f o gm.fresh_params = refl
read_out_same w.CloseSquare m x f o (gm.behind_params ps c) = refl
read_out_same word m x f o p = refl

behind_out_same : (word : Word) (m : g.Mark) (x : d.Top) (f o : g.Mark) (ps : d.Params) → ti.behind_out word (top_of x) (t.kept (t.param_names ps)) ≡ step_of (gs.behind_out word m x f o ps)
behind_out_same w.Comma m x f o ps = refl
behind_out_same w.CloseSquare m x f o ps = refl
behind_out_same word m x f o ps = refl

outs_shut_same : (word : Word) (m : g.Mark) (x : d.Top) (f o : g.Mark) (l : d.Listing) (z : g.Mark) → ti.behind_outs_shut word (top_of x) (t.kept (t.listed_names l)) ≡ step_of (gs.behind_outs_shut word m x f o l z)
outs_shut_same w.Equal m x f o l z = refl
outs_shut_same word m x f o l z = refl

unique_same : (text : List ℕ) (x : d.Top) (y : gm.State) → ti.once (ti.has_function text (t.functions_of x)) (Ok (state_of y)) ≡ step_of (gs.unique rules text x (Ok y))
unique_same text x y = once_same text x (Ok y)

read_name_same : (word : Word) (m : g.Mark) (x : d.Top) (f : g.Mark) (o : d.Outs) → ti.read_name word (mark_of m) (top_of x) (t.out_names o) ≡ step_of (gs.read_name rules word m x f o)
read_name_same (w.Name n) m x f o = unique_same n x (gm.titling x (gm.entitled f o (record { mark = m; text = n })))
read_name_same word m x f o = refl

param_put : (p : gm.Waiting) (y : d.Param) → ti.with_param (params_waiting p) (t.param_name y) ≡ t.param_names (gm.put_param p y)
param_put gm.fresh_params y = refl
param_put (gm.behind_params ps c) y = refl

read_param_same : (word : Word) (m : g.Mark) (x : d.Top) (f : g.Mark) (o : d.Outs) (n : g.Named) (z : g.Mark) (p : gm.Waiting) → ti.read_param word (mark_of m) (top_of x) (t.out_names o) (t.name_of n) (params_waiting p) ≡ step_of (gs.read_param word m x f o n z p)
read_param_same (w.Name y) m x f o n z p = ap (λ v. Ok (state.Titling (top_of x) (titling.ParamOf (t.out_names o) (t.name_of n) v))) (param_put p (d.taken (record { mark = m; text = y })))
read_param_same w.Not m x f o n z p = ap (λ v. Ok (state.Titling (top_of x) (titling.ParamOf (t.out_names o) (t.name_of n) v))) (param_put p (d.ignored m))
read_param_same w.Close m x f o n z gm.fresh_params = refl
read_param_same w.Close m x f o n z (gm.behind_params ps c) = refl
read_param_same word m x f o n z p = refl

behind_param_same : (word : Word) (m : g.Mark) (x : d.Top) (f : g.Mark) (o : d.Outs) (n : g.Named) (z : g.Mark) (ps : d.Params) → ti.behind_param word (top_of x) (t.out_names o) (t.name_of n) (t.param_names ps) ≡ step_of (gs.behind_param word m x f o n z ps)
behind_param_same w.Comma m x f o n z ps = refl
behind_param_same w.Close m x f o n z ps = refl
behind_param_same word m x f o n z ps = refl

pub titling_same : (word : Word) (m : g.Mark) (x : d.Top) (l : gm.Titling) → ti.read_titling word (mark_of m) (top_of x) (titling_of l) ≡ step_of (gs.read_titling rules word m x l)
unfolding ti.read_titling
titling_same word m x (gm.begun_title f) = read_title_same word m x f
titling_same word m x (gm.worded f n) = word_same word m x f n
titling_same word m x (gm.outs_of f o p) = read_out_same word m x f o p
titling_same word m x (gm.out_of f o ps) = behind_out_same word m x f o ps
titling_same word m x (gm.outs_shut f o l z) = outs_shut_same word m x f o l z
titling_same word m x (gm.naming f o) = read_name_same word m x f o
titling_same word m x (gm.entitled f o n) = title_same word m x f o n
titling_same word m x (gm.params_of f o n z p) = read_param_same word m x f o n z p
titling_same word m x (gm.param_of f o n z ps) = behind_param_same word m x f o n z ps
titling_same word m x (gm.titled l) = titled_same word m x l

pub function_same : (word : Word) (m : g.Mark) (x : d.Top) → ti.behind_function word (top_of x) ≡ step_of (gs.behind_function word m x)
function_same (w.Key k.Function) m x = refl
function_same w.Comma m x = refl
function_same w.Semicolon m x = refl
function_same w.LineEnd m x = refl
function_same word m x = refl
