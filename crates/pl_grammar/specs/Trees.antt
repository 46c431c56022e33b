-- The tree of a derivation. Each node has its place: a name, call or index that of its name, an operator that
-- of its sign, a bracket that of `[`, a range that of its first colon, a statement that of its first terminal.
use Rattle.std.specs.Prelude.{ℕ, Bool, true, false, Option, Some, None, List, [], ◌∷◌, ◌++◌, codes}
use Rattle.pl_base.specs.declared.errors.Place.{Place}
use Rattle.pl_syntax.specs.declared.expr.Name.{Name}
use Rattle.pl_syntax.specs.declared.expr.Un.{Un}
use Rattle.pl_syntax.specs.declared.expr.Un.TheVariants as un
use Rattle.pl_syntax.specs.declared.expr.Expr.{Expr, roll-Expr}
use Rattle.pl_syntax.specs.declared.expr.ExprKind as kind
use Rattle.pl_syntax.specs.declared.stmt.Stmt.{Stmt, roll-Stmt}
use Rattle.pl_syntax.specs.declared.stmt.StmtKind as what
use Rattle.pl_syntax.specs.declared.stmt.Arm.{Arm, roll-Arm}
use Rattle.pl_syntax.specs.declared.stmt.Target.{Target}
use Rattle.pl_syntax.specs.declared.stmt.Target.TheVariants as target
use Rattle.pl_syntax.specs.declared.stmt.Function.{Function}
use Rattle.pl_syntax.specs.declared.stmt.Program.{Program}
use Rattle.pl_grammar.specs.declared.owner.Owner.{Owner}
use Rattle.pl_grammar.specs.declared.owner.Owner.TheVariants as own
use Rattle.pl_grammar.specs.declared.terminal.Keyword.{Keyword}
use Rattle.pl_grammar.specs.declared.terminal.Keyword.TheVariants as k
use Rattle.pl_grammar.specs.Words.{Mark, Named, plus, minus, Sign, additive, tilde, SepKind, comma, semicolon, line}
use Rattle.pl_grammar.specs.Derivations.{Head, alone, dotted, Signs, no_signs, more_signs, Ex, number, chars, bare, call, state, paren, rows, rows_to, func, last, under, transposed, Op, joined, signed, from, stepped, Callee, head, braced, Args, no_args, listed, Elements, one, also, Item, value, colon, Rows, no_rows, broken, filled, Tgt, entire, indexed, in_braces, Output, to, skip, Outputs, only, beside, Goal, shown, into, spread, Lead, test, each, Inner, each_in, bound, workers, Heading, upto, shut, no_value, Part, headed, unheaded, Smt, simple, delete, leave, compound, Block, empty, blank, statement, Opened, first, next, Param, taken, ignored, Params, lone, further, Listing, no_params, params, Outs, no_outs, single, several, Given, no_list, given, Title, title, Fun, fun, Top, script, define, spaced, Prog, whole_of, unended}

-- ---- expressions

abbrev pub node : kind.ExprKind → Place → Expr
node w p = roll-Expr (record { kind = w; place = p })

-- a name with its dots
abbrev pub head_text : Head → List ℕ
head_text (alone n) = n.text
head_text (dotted h m n) = head_text h ++ codes "." ++ n.text

abbrev pub head_mark : Head → Mark
head_mark (alone n) = n.mark
head_mark (dotted h m n) = head_mark h

abbrev pub name_of : Named → Name
name_of n = record { text = n.text; place = n.mark.place }

abbrev pub head_name : Head → Name
head_name h = record { text = head_text h; place = (head_mark h).place }

abbrev pub un_of : Sign → Un
un_of (additive plus) = un.Plus
un_of (additive minus) = un.Minus
un_of tilde = un.Not

-- the signs of a power's right operand, over it
abbrev pub under_signs : Signs → Expr → Expr
under_signs no_signs e = e
under_signs (more_signs us m s) e = under_signs us (node (kind.Unary (un_of s) e) m.place)

-- a callee with nothing behind it
abbrev pub bare_tree : Name → Option Expr → Expr
bare_tree n None = node (kind.Var n) n.place
bare_tree n (Some e) = node (kind.Brace n e None) n.place

abbrev pub call_tree : Name → Option Expr → List Expr → Expr
call_tree n None es = node (kind.Apply n es) n.place
call_tree n (Some e) es = node (kind.Brace n e (Some es)) n.place

abbrev pub callee_name : Callee → Name
callee_name (head h) = head_name h
callee_name (braced n m e z) = name_of n

-- the mark of the first terminal
abbrev mutual
  pub mark : Ex → Mark
  mark (number m z) = m
  mark (chars m cs) = m
  mark (bare c) = callee_mark c
  mark (call c m a z) = callee_mark c
  mark (state e d m) = mark e
  mark (paren m e z) = m
  mark (rows m rs z) = m
  mark (rows_to m rs es t z) = m
  mark (func m n) = m
  mark (last m) = m
  mark (under p e) = op_mark p
  mark (transposed e m) = mark e

  pub op_mark : Op → Mark
  op_mark (joined a o m us) = mark a
  op_mark (signed m s) = m
  op_mark (from a m) = mark a
  op_mark (stepped a m b n) = mark a

  pub callee_mark : Callee → Mark
  callee_mark (head h) = head_mark h
  callee_mark (braced n m e z) = n.mark

abbrev mutual
  pub tree : Ex → Expr
  tree (number m z) = node (kind.Number z) m.place
  tree (chars m cs) = node (kind.Chars cs) m.place
  tree (bare c) = bare_tree (callee_name c) (callee_place c)
  tree (call c m a z) = call_tree (callee_name c) (callee_place c) (arg_trees a)
  tree (state e d m) = node (kind.StateOf (tree e)) (mark e).place
  tree (paren m e z) = tree e
  tree (rows m rs z) = node (kind.Rows (row_trees rs)) m.place
  tree (rows_to m rs es t z) = node (kind.Rows (row_trees rs ++ trees es ∷ [])) m.place
  tree (func m n) = node (kind.Func (name_of n)) n.mark.place
  tree (last m) = node kind.End m.place
  tree (under p e) = under_tree p (tree e)
  tree (transposed e m) = node (kind.Unary un.Transpose (tree e)) m.place

  pub under_tree : Op → Expr → Expr
  under_tree (joined a o m us) e = node (kind.Binary o (tree a) (under_signs us e)) m.place
  under_tree (signed m s) e = node (kind.Unary (un_of s) e) m.place
  under_tree (from a m) e = node (kind.Range (tree a) None e) m.place
  under_tree (stepped a m b n) e = node (kind.Range (tree a) (Some (tree b)) e) m.place

  -- what stands in the braces behind a name
  pub callee_place : Callee → Option Expr
  callee_place (head h) = None
  callee_place (braced n m e z) = Some (tree e)

  pub arg_trees : Args → List Expr
  arg_trees no_args = []
  arg_trees (listed es) = trees es

  pub trees : Elements → List Expr
  trees (one i) = item_tree i ∷ []
  trees (also es c i) = trees es ++ item_tree i ∷ []

  pub item_tree : Item → Expr
  item_tree (value e) = tree e
  item_tree (colon m) = node kind.Colon m.place

  pub row_trees : Rows → List (List Expr)
  row_trees no_rows = []
  row_trees (broken rs s) = row_trees rs
  row_trees (filled rs es t s) = row_trees rs ++ trees es ∷ []

-- ---- simple statements

abbrev pub tgt_tree : Tgt → Target
tgt_tree (entire n) = target.Whole (name_of n)
tgt_tree (indexed n m a z) = target.Indexed (name_of n) (arg_trees a)
tgt_tree (in_braces n m e z) = target.Braced (name_of n) (tree e)

abbrev pub tgt_mark : Tgt → Mark
tgt_mark (entire n) = n.mark
tgt_mark (indexed n m a z) = n.mark
tgt_mark (in_braces n m e z) = n.mark

abbrev pub output_tree : Output → Option Target
output_tree (to t) = Some (tgt_tree t)
output_tree (skip m) = None

abbrev pub output_trees : Outputs → List (Option Target)
output_trees (only o) = output_tree o ∷ []
output_trees (beside os c o) = output_trees os ++ output_tree o ∷ []

abbrev pub goal_tree : Goal → Expr → what.StmtKind
goal_tree shown e = what.Eval e
goal_tree (into t q) e = what.Assign (tgt_tree t) e
goal_tree (spread m os z q) e = what.AssignList (output_trees os) e

abbrev pub goal_mark : Goal → Ex → Mark
goal_mark shown e = mark e
goal_mark (into t q) e = tgt_mark t
goal_mark (spread m os z q) e = m

abbrev pub leave_tree : Keyword → what.StmtKind
leave_tree k.Continue = what.Continue
leave_tree k.Return = what.Return
leave_tree word = what.Break

-- ---- compound statements

abbrev pub arm : Expr → List Stmt → Arm
arm e ss = roll-Arm (record { test = e; body = ss })

abbrev pub for_owner : Keyword → Name → Expr → Owner
for_owner k.Parfor n e = own.Parfor n e None
for_owner word n e = own.For n e

abbrev pub test_owner : Keyword → Expr → Owner
test_owner k.While e = own.While e
test_owner k.Switch e = own.Switch e
test_owner word e = own.If [] e

abbrev pub lead_owner : Lead → Expr → Owner
lead_owner (test word m) e = test_owner word e
lead_owner (each word m n q) e = for_owner word (name_of n) e

abbrev pub inner_owner : Inner → Expr → Owner
inner_owner (each_in word m o n q) e = for_owner word (name_of n) e
inner_owner (bound m o n q e c) w = own.Parfor (name_of n) (tree e) (Some w)
inner_owner (workers m o) e = own.Spmd (Some e)

abbrev pub heading_owner : Heading → Owner
heading_owner (upto l e) = lead_owner l (tree e)
heading_owner (shut i e z) = inner_owner i (tree e)
heading_owner (no_value word m) = own.Spmd None

-- the first part of a compound statement
abbrev pub begun : Part → Owner
begun (headed h s) = heading_owner h
begun (unheaded word m) = own.Try

-- the block is done, and a further part has this value, or none
abbrev pub with_value : Owner → List Stmt → Expr → Owner
with_value (own.If arms t) ss e = own.If (arms ++ arm t ss ∷ []) e
with_value (own.Switch v) ss e = own.Case v [] e
with_value (own.Case v arms t) ss e = own.Case v (arms ++ arm t ss ∷ []) e
with_value o ss e = o

abbrev pub with_none : Owner → List Stmt → Owner
with_none (own.If arms t) ss = own.Else (arms ++ arm t ss ∷ [])
with_none (own.Switch v) ss = own.Otherwise v []
with_none (own.Case v arms t) ss = own.Otherwise v (arms ++ arm t ss ∷ [])
with_none o ss = o

abbrev pub with_heading : Owner → List Stmt → Heading → Owner
with_heading o ss (upto l e) = with_value o ss (tree e)
with_heading o ss (shut i e z) = o
with_heading o ss (no_value word m) = own.Catch ss

abbrev pub with_part : Owner → List Stmt → Part → Owner
with_part o ss (headed h s) = with_heading o ss h
with_part o ss (unheaded word m) = with_none o ss

-- the last block is done
abbrev pub closed : Owner → List Stmt → what.StmtKind
closed (own.If arms t) ss = what.If (arms ++ arm t ss ∷ []) []
closed (own.Else arms) ss = what.If arms ss
closed (own.While e) ss = what.While e ss
closed (own.For n e) ss = what.For n e ss
closed (own.Parfor n e w) ss = what.Parfor n e w ss
closed (own.Switch v) ss = what.Switch v [] []
closed (own.Case v arms t) ss = what.Switch v (arms ++ arm t ss ∷ []) []
closed (own.Otherwise v arms) ss = what.Switch v arms ss
closed own.Try ss = what.Try ss []
closed (own.Catch body) ss = what.Try body ss
closed (own.Spmd w) ss = what.Spmd w ss

abbrev pub lead_mark : Lead → Mark
lead_mark (test word m) = m
lead_mark (each word m n q) = m

abbrev pub inner_mark : Inner → Mark
inner_mark (each_in word m o n q) = m
inner_mark (bound m o n q e c) = m
inner_mark (workers m o) = m

abbrev pub heading_mark : Heading → Mark
heading_mark (upto l e) = lead_mark l
heading_mark (shut i e z) = inner_mark i
heading_mark (no_value word m) = m

abbrev pub part_mark : Part → Mark
part_mark (headed h s) = heading_mark h
part_mark (unheaded word m) = m

abbrev pub opened_mark : Opened → Mark
opened_mark (first p) = part_mark p
opened_mark (next o b p) = opened_mark o

-- a semicolon behind a statement hides its value
abbrev pub shows : SepKind → Bool
shows comma = true
shows semicolon = false
shows line = true

abbrev pub stmt : what.StmtKind → Place → Bool → Stmt
stmt w p s = roll-Stmt (record { kind = w; place = p; show = s })

abbrev mutual
  pub smt_tree : Smt → Bool → Stmt
  smt_tree (simple g e) s = stmt (goal_tree g (tree e)) (goal_mark g e).place s
  smt_tree (delete n m a z q o y) s = stmt (what.Delete (name_of n) (arg_trees a)) n.mark.place s
  smt_tree (leave word m) s = stmt (leave_tree word) m.place s
  smt_tree (compound o b m) s = stmt (closed (owner o) (stmts b)) (opened_mark o).place s

  pub stmts : Block → List Stmt
  stmts empty = []
  stmts (blank b s) = stmts b
  stmts (statement b s e) = stmts b ++ smt_tree s (shows e.kind) ∷ []

  pub owner : Opened → Owner
  owner (first p) = begun p
  owner (next o b p) = with_part (owner o) (stmts b) p

-- ---- functions and programs

abbrev pub param_name : Param → Option Name
param_name (taken n) = Some (name_of n)
param_name (ignored m) = None

abbrev pub param_names : Params → List (Option Name)
param_names (lone p) = param_name p ∷ []
param_names (further ps c p) = param_names ps ++ param_name p ∷ []

abbrev pub listed_names : Listing → List (Option Name)
listed_names no_params = []
listed_names (params ps) = param_names ps

abbrev pub given_names : Given → List (Option Name)
given_names no_list = []
given_names (given m l z) = listed_names l

abbrev pub kept : List (Option Name) → List Name
kept [] = []
kept (Some n ∷ ns) = n ∷ kept ns
kept (None ∷ ns) = kept ns

abbrev pub out_names : Outs → List Name
out_names no_outs = []
out_names (single n q) = name_of n ∷ []
out_names (several m l z q) = kept (listed_names l)

abbrev pub function_of : Title → Block → Function
function_of (title m o n g) b = record { name = name_of n; params = given_names g; outs = out_names o; body = stmts b }

abbrev pub fun_tree : Fun → Function
fun_tree (fun t s b m) = function_of t b

abbrev pub body_of : Top → List Stmt
body_of (script b) = stmts b
body_of (define t f) = body_of t
body_of (spaced t s) = body_of t

abbrev pub functions_of : Top → List Function
functions_of (script b) = []
functions_of (define t f) = functions_of t ++ fun_tree f ∷ []
functions_of (spaced t s) = functions_of t

abbrev pub program_of : Prog → Program
program_of (whole_of t) = record { body = body_of t; functions = functions_of t }
program_of (unended b s) = record { body = stmts b ++ smt_tree s true ∷ []; functions = [] }
