-- Statements and programs are no higher than their derivations nest.
use Rattle.std.proofs.Common.{◌≡◌, ◌∙◌, ℕ, suc, ◌+◌, ◌≤◌, Bool, true, Option, List, [], ◌∷◌, ◌++◌, map, ap, sym, subst, arith}
use Rattle.std.specs.Prelude.{max}
use Rattle.std.proofs.Math.Nat.{le-max_left, le-max_right}
use Rattle.pl_base.specs.declared.errors.Place.{Place}
use Rattle.pl_syntax.specs.declared.expr.Name.{Name}
use Rattle.pl_syntax.specs.declared.expr.Expr.{Expr}
use Rattle.pl_syntax.specs.declared.stmt.Stmt.{Stmt, fold-roll-Stmt}
use Rattle.pl_syntax.specs.declared.stmt.StmtKind as what
use Rattle.pl_syntax.specs.declared.stmt.StmtKind.{fold-StmtKind, fold-roll-StmtKind}
use Rattle.pl_syntax.specs.declared.stmt.StmtKind.TheOpen.{StmtKind-F}
use Rattle.pl_syntax.specs.declared.stmt.StmtKind.TheVariants.{rolls-Eval, rolls-Assign, rolls-AssignList, rolls-Delete, rolls-If, rolls-While, rolls-For, rolls-Parfor, rolls-Switch, rolls-Try, rolls-Spmd, rolls-Break, rolls-Continue, rolls-Return}
use Rattle.pl_syntax.specs.declared.stmt.Arm.{Arm, fold-roll-Arm}
use Rattle.pl_syntax.specs.declared.stmt.Target.{Target}
use Rattle.pl_syntax.specs.declared.stmt.Program.{Program}
use Rattle.pl_grammar.specs.declared.owner.Owner.{Owner}
use Rattle.pl_grammar.specs.declared.owner.Owner.TheVariants as own
use Rattle.pl_grammar.specs.declared.terminal.Terminal.{Terminal}
use Rattle.pl_grammar.specs.declared.terminal.Keyword.{Keyword}
use Rattle.pl_grammar.specs.declared.terminal.Keyword.TheVariants as k
use Rattle.pl_grammar.specs.Derivations.{Ex, Tgt, entire, indexed, in_braces, Output, to, skip, Outputs, only, beside, Goal, shown, into, spread, test, each, each_in, bound, workers, upto, shut, no_value, Part, headed, unheaded, Smt, simple, delete, leave, compound, Block, empty, blank, statement, Opened, first, next, title, Fun, fun, Top, script, define, spaced, Prog, whole_of, unended}
use Rattle.pl_grammar.specs.Trees.{name_of, tree, arg_trees, tgt_tree, output_tree, output_trees, goal_tree, goal_mark, leave_tree, arm, for_owner, test_owner, begun, with_value, with_none, with_part, closed, opened_mark, shows, stmt, smt_tree, stmts, owner, fun_tree, body_of, functions_of, program_of}
use Rattle.pl_grammar.specs.Nesting.{height, tgt_height, output_height, across, run_of, outputs_height, goal_height, part_height, smt_height, block_height, opened_height, fun_height, top_height, prog_height}
use Rattle.pl_grammar.specs.Levels.{most, levels, levels_all, levels_optional, target_levels, output_levels, of_stmt_kind, of_arm_layer, of_stmt_layer, stmt_levels, arm_levels, function_levels, program_levels}
use Rattle.pl_grammar.specs.Programs.{Rules, Parses}
use Rattle.pl_grammar.proofs.Operands.{max_room}
use Rattle.pl_grammar.proofs.Heights.{low, low_args, all_snoc}

-- ---- the levels of a statement

abbrev what_levels : what.StmtKind → ℕ
what_levels = fold-StmtKind ℕ ℕ ℕ of_stmt_kind of_arm_layer of_stmt_layer

abbrev all_levels : List Stmt → ℕ
all_levels ss = most (map stmt_levels ss)

abbrev all_arms : List Arm → ℕ
all_arms arms = most (map arm_levels arms)

at_stmt : (w : what.StmtKind) (p : Place) (s : Bool) → stmt_levels (stmt w p s) ≡ what_levels w
at_stmt w p s = fold-roll-Stmt ℕ ℕ ℕ of_stmt_kind of_arm_layer of_stmt_layer (record { kind = w; place = p; show = s })

at_arm : (e : Expr) (ss : List Stmt) → arm_levels (arm e ss) ≡ max (levels e) (all_levels ss)
at_arm e ss = fold-roll-Arm ℕ ℕ ℕ of_stmt_kind of_arm_layer of_stmt_layer (record { test = e; body = ss })

at_eval : (e : Expr) → what_levels (what.Eval e) ≡ suc (levels e)
at_eval e = ap what_levels (sym (rolls-Eval e)) ∙ fold-roll-StmtKind ℕ ℕ ℕ of_stmt_kind of_arm_layer of_stmt_layer (StmtKind-F.Eval e)

at_assign : (t : Target) (e : Expr) → what_levels (what.Assign t e) ≡ suc (max (target_levels t) (levels e))
at_assign t e = ap what_levels (sym (rolls-Assign t e)) ∙ fold-roll-StmtKind ℕ ℕ ℕ of_stmt_kind of_arm_layer of_stmt_layer (StmtKind-F.Assign t e)

at_assign_list : (ts : List (Option Target)) (e : Expr) → what_levels (what.AssignList ts e) ≡ suc (max (most (map output_levels ts)) (levels e))
at_assign_list ts e = ap what_levels (sym (rolls-AssignList ts e)) ∙ fold-roll-StmtKind ℕ ℕ ℕ of_stmt_kind of_arm_layer of_stmt_layer (StmtKind-F.AssignList ts e)

at_delete : (n : Name) (es : List Expr) → what_levels (what.Delete n es) ≡ suc (suc (levels_all es))
at_delete n es = ap what_levels (sym (rolls-Delete n es)) ∙ fold-roll-StmtKind ℕ ℕ ℕ of_stmt_kind of_arm_layer of_stmt_layer (StmtKind-F.Delete n es)

at_if : (arms : List Arm) (ss : List Stmt) → what_levels (what.If arms ss) ≡ suc (max (all_arms arms) (all_levels ss))
at_if arms ss = ap what_levels (sym (rolls-If arms ss)) ∙ fold-roll-StmtKind ℕ ℕ ℕ of_stmt_kind of_arm_layer of_stmt_layer (StmtKind-F.If arms ss)

at_while : (e : Expr) (ss : List Stmt) → what_levels (what.While e ss) ≡ suc (max (levels e) (all_levels ss))
at_while e ss = ap what_levels (sym (rolls-While e ss)) ∙ fold-roll-StmtKind ℕ ℕ ℕ of_stmt_kind of_arm_layer of_stmt_layer (StmtKind-F.While e ss)

at_for : (n : Name) (e : Expr) (ss : List Stmt) → what_levels (what.For n e ss) ≡ suc (max (levels e) (all_levels ss))
at_for n e ss = ap what_levels (sym (rolls-For n e ss)) ∙ fold-roll-StmtKind ℕ ℕ ℕ of_stmt_kind of_arm_layer of_stmt_layer (StmtKind-F.For n e ss)

at_parfor : (n : Name) (e : Expr) (w : Option Expr) (ss : List Stmt) → what_levels (what.Parfor n e w ss) ≡ suc (max (levels e) (max (levels_optional w) (all_levels ss)))
at_parfor n e w ss = ap what_levels (sym (rolls-Parfor n e w ss)) ∙ fold-roll-StmtKind ℕ ℕ ℕ of_stmt_kind of_arm_layer of_stmt_layer (StmtKind-F.Parfor n e w ss)

at_switch : (e : Expr) (arms : List Arm) (ss : List Stmt) → what_levels (what.Switch e arms ss) ≡ suc (max (levels e) (max (all_arms arms) (all_levels ss)))
at_switch e arms ss = ap what_levels (sym (rolls-Switch e arms ss)) ∙ fold-roll-StmtKind ℕ ℕ ℕ of_stmt_kind of_arm_layer of_stmt_layer (StmtKind-F.Switch e arms ss)

at_try : (ss : List Stmt) (hs : List Stmt) → what_levels (what.Try ss hs) ≡ suc (max (all_levels ss) (all_levels hs))
at_try ss hs = ap what_levels (sym (rolls-Try ss hs)) ∙ fold-roll-StmtKind ℕ ℕ ℕ of_stmt_kind of_arm_layer of_stmt_layer (StmtKind-F.Try ss hs)

at_spmd : (w : Option Expr) (ss : List Stmt) → what_levels (what.Spmd w ss) ≡ suc (max (levels_optional w) (all_levels ss))
at_spmd w ss = ap what_levels (sym (rolls-Spmd w ss)) ∙ fold-roll-StmtKind ℕ ℕ ℕ of_stmt_kind of_arm_layer of_stmt_layer (StmtKind-F.Spmd w ss)

at_break : what_levels what.Break ≡ 1
at_break = ap what_levels (sym rolls-Break) ∙ fold-roll-StmtKind ℕ ℕ ℕ of_stmt_kind of_arm_layer of_stmt_layer StmtKind-F.Break

at_continue : what_levels what.Continue ≡ 1
at_continue = ap what_levels (sym rolls-Continue) ∙ fold-roll-StmtKind ℕ ℕ ℕ of_stmt_kind of_arm_layer of_stmt_layer StmtKind-F.Continue

at_return : what_levels what.Return ≡ 1
at_return = ap what_levels (sym rolls-Return) ∙ fold-roll-StmtKind ℕ ℕ ℕ of_stmt_kind of_arm_layer of_stmt_layer StmtKind-F.Return

-- ---- targets

low_tgt : (t : Tgt) → target_levels (tgt_tree t) ≤ tgt_height t
low_tgt (entire n) = omega arith
low_tgt (indexed n m a z) = omega (arith, low_args a)
low_tgt (in_braces n m e z) = omega (arith, low e)

low_output : (o : Output) → output_levels (output_tree o) ≤ output_height o
low_output (to t) = low_tgt t
low_output (skip m) = omega arith

low_outputs : (os : Outputs) → most (map output_levels (output_trees os)) ≤ outputs_height os
low_outputs (only o) = let v : max (output_levels (output_tree o)) 0 + 0 ≤ output_height o = max_room (output_levels (output_tree o)) 0 0 (output_height o) (omega (arith, low_output o)) (omega arith) in omega (arith, v)
low_outputs (beside os c o) = all_snoc output_levels (output_trees os) (output_tree o) (max (outputs_height os) (across c (run_of os) + output_height o)) (omega (arith, low_outputs os, le-max_left (outputs_height os) (across c (run_of os) + output_height o))) (omega (arith, low_output o, le-max_right (outputs_height os) (across c (run_of os) + output_height o)))

low_goal : (g : Goal) (e : Ex) → what_levels (goal_tree g (tree e)) ≤ suc (max (goal_height g) (height e))
low_goal shown e = omega (arith, at_eval (tree e), low e, le-max_right 0 (height e))
low_goal (into t q) e =
    let v : max (target_levels (tgt_tree t)) (levels (tree e)) + 0 ≤ max (tgt_height t) (height e) = max_room (target_levels (tgt_tree t)) (levels (tree e)) 0 (max (tgt_height t) (height e)) (omega (arith, low_tgt t, le-max_left (tgt_height t) (height e))) (omega (arith, low e, le-max_right (tgt_height t) (height e))) in
    omega (arith, at_assign (tgt_tree t) (tree e), v)
low_goal (spread m os z q) e =
    let H : ℕ = max (suc (outputs_height os)) (height e) in
    let v : max (most (map output_levels (output_trees os))) (levels (tree e)) + 0 ≤ H = max_room (most (map output_levels (output_trees os))) (levels (tree e)) 0 H (omega (arith, low_outputs os, le-max_left (suc (outputs_height os)) (height e))) (omega (arith, low e, le-max_right (suc (outputs_height os)) (height e))) in
    omega (arith, at_assign_list (output_trees os) (tree e), v)

low_leave : (word : Keyword) → what_levels (leave_tree word) ≤ 1
low_leave k.Continue = omega (arith, at_continue)
low_leave k.Return = omega (arith, at_return)
low_leave k.Break = omega (arith, at_break)
low_leave k.Case = omega (arith, at_break)
low_leave k.Catch = omega (arith, at_break)
low_leave k.Classdef = omega (arith, at_break)
low_leave k.Else = omega (arith, at_break)
low_leave k.Elseif = omega (arith, at_break)
low_leave k.End = omega (arith, at_break)
low_leave k.For = omega (arith, at_break)
low_leave k.Function = omega (arith, at_break)
low_leave k.Global = omega (arith, at_break)
low_leave k.If = omega (arith, at_break)
low_leave k.Otherwise = omega (arith, at_break)
low_leave k.Parfor = omega (arith, at_break)
low_leave k.Persistent = omega (arith, at_break)
low_leave k.Spmd = omega (arith, at_break)
low_leave k.Switch = omega (arith, at_break)
low_leave k.Try = omega (arith, at_break)
low_leave k.While = omega (arith, at_break)

-- ---- compound statements

abbrev owner_levels : Owner → ℕ
owner_levels (own.If arms t) = max (all_arms arms) (levels t)
owner_levels (own.Else arms) = all_arms arms
owner_levels (own.While e) = levels e
owner_levels (own.For n e) = levels e
owner_levels (own.Parfor n e w) = max (levels e) (levels_optional w)
owner_levels (own.Switch v) = levels v
owner_levels (own.Case v arms t) = max (levels v) (max (all_arms arms) (levels t))
owner_levels (own.Otherwise v arms) = max (levels v) (all_arms arms)
owner_levels own.Try = 0
owner_levels (own.Catch ss) = all_levels ss
owner_levels (own.Spmd w) = levels_optional w

arms_snoc : (arms : List Arm) (t : Expr) (ss : List Stmt) (b : ℕ) → all_arms arms ≤ b → levels t ≤ b → all_levels ss ≤ b → all_arms (arms ++ arm t ss ∷ []) ≤ b
arms_snoc arms t ss b h i j = let v : max (levels t) (all_levels ss) + 0 ≤ b = max_room (levels t) (all_levels ss) 0 b (omega (arith, i)) (omega (arith, j)) in all_snoc arm_levels arms (arm t ss) b h (omega (arith, at_arm t ss, v))

under : (x y b : ℕ) → max x y ≤ b → (x ≤ b) × (y ≤ b)
under x y b h = (omega (arith, h, le-max_left x y), omega (arith, h, le-max_right x y))

over : (x y b : ℕ) → x ≤ b → y ≤ b → max x y ≤ b
over x y b h j = let v : max x y + 0 ≤ b = max_room x y 0 b (omega (arith, h)) (omega (arith, j)) in omega (arith, v)

low_closed : (o : Owner) (ss : List Stmt) (b : ℕ) → owner_levels o ≤ b → all_levels ss ≤ b → what_levels (closed o ss) ≤ suc b
low_closed (own.If arms t) ss b h j =
    let u : (all_arms arms ≤ b) × (levels t ≤ b) = under (all_arms arms) (levels t) b h in
    omega (arith, at_if (arms ++ arm t ss ∷ []) [], over (all_arms (arms ++ arm t ss ∷ [])) 0 b (arms_snoc arms t ss b u.0 u.1 j) (omega arith))
low_closed (own.Else arms) ss b h j = omega (arith, at_if arms ss, over (all_arms arms) (all_levels ss) b h j)
low_closed (own.While e) ss b h j = omega (arith, at_while e ss, over (levels e) (all_levels ss) b h j)
low_closed (own.For n e) ss b h j = omega (arith, at_for n e ss, over (levels e) (all_levels ss) b h j)
low_closed (own.Parfor n e w) ss b h j =
    let u : (levels e ≤ b) × (levels_optional w ≤ b) = under (levels e) (levels_optional w) b h in
    omega (arith, at_parfor n e w ss, over (levels e) (max (levels_optional w) (all_levels ss)) b u.0 (over (levels_optional w) (all_levels ss) b u.1 j))
low_closed (own.Switch v) ss b h j = omega (arith, at_switch v [] [], over (levels v) (max 0 0) b h (over 0 0 b (omega arith) (omega arith)))
low_closed (own.Case v arms t) ss b h j =
    let u : (levels v ≤ b) × (max (all_arms arms) (levels t) ≤ b) = under (levels v) (max (all_arms arms) (levels t)) b h in
    let x : (all_arms arms ≤ b) × (levels t ≤ b) = under (all_arms arms) (levels t) b u.1 in
    omega (arith, at_switch v (arms ++ arm t ss ∷ []) [], over (levels v) (max (all_arms (arms ++ arm t ss ∷ [])) 0) b u.0 (over (all_arms (arms ++ arm t ss ∷ [])) 0 b (arms_snoc arms t ss b x.0 x.1 j) (omega arith)))
low_closed (own.Otherwise v arms) ss b h j =
    let u : (levels v ≤ b) × (all_arms arms ≤ b) = under (levels v) (all_arms arms) b h in
    omega (arith, at_switch v arms ss, over (levels v) (max (all_arms arms) (all_levels ss)) b u.0 (over (all_arms arms) (all_levels ss) b u.1 j))
low_closed own.Try ss b h j = omega (arith, at_try ss [], over (all_levels ss) 0 b j (omega arith))
low_closed (own.Catch hs) ss b h j = omega (arith, at_try hs ss, over (all_levels hs) (all_levels ss) b h j)
low_closed (own.Spmd w) ss b h j = omega (arith, at_spmd w ss, over (levels_optional w) (all_levels ss) b h j)

low_value : (o : Owner) (ss : List Stmt) (e : Expr) (b : ℕ) → owner_levels o ≤ b → all_levels ss ≤ b → levels e ≤ b → owner_levels (with_value o ss e) ≤ b
low_value (own.If arms t) ss e b h j i = let u : (all_arms arms ≤ b) × (levels t ≤ b) = under (all_arms arms) (levels t) b h in over (all_arms (arms ++ arm t ss ∷ [])) (levels e) b (arms_snoc arms t ss b u.0 u.1 j) i
low_value (own.Switch v) ss e b h j i = over (levels v) (max 0 (levels e)) b h (over 0 (levels e) b (omega arith) i)
low_value (own.Case v arms t) ss e b h j i =
    let u : (levels v ≤ b) × (max (all_arms arms) (levels t) ≤ b) = under (levels v) (max (all_arms arms) (levels t)) b h in
    let x : (all_arms arms ≤ b) × (levels t ≤ b) = under (all_arms arms) (levels t) b u.1 in
    over (levels v) (max (all_arms (arms ++ arm t ss ∷ [])) (levels e)) b u.0 (over (all_arms (arms ++ arm t ss ∷ [])) (levels e) b (arms_snoc arms t ss b x.0 x.1 j) i)
low_value (own.Else arms) ss e b h j i = h
low_value (own.While x) ss e b h j i = h
low_value (own.For n x) ss e b h j i = h
low_value (own.Parfor n x w) ss e b h j i = h
low_value (own.Otherwise v arms) ss e b h j i = h
low_value own.Try ss e b h j i = h
low_value (own.Catch hs) ss e b h j i = h
low_value (own.Spmd w) ss e b h j i = h

low_none : (o : Owner) (ss : List Stmt) (b : ℕ) → owner_levels o ≤ b → all_levels ss ≤ b → owner_levels (with_none o ss) ≤ b
low_none (own.If arms t) ss b h j = let u : (all_arms arms ≤ b) × (levels t ≤ b) = under (all_arms arms) (levels t) b h in arms_snoc arms t ss b u.0 u.1 j
low_none (own.Switch v) ss b h j = over (levels v) 0 b h (omega arith)
low_none (own.Case v arms t) ss b h j =
    let u : (levels v ≤ b) × (max (all_arms arms) (levels t) ≤ b) = under (levels v) (max (all_arms arms) (levels t)) b h in
    let x : (all_arms arms ≤ b) × (levels t ≤ b) = under (all_arms arms) (levels t) b u.1 in
    over (levels v) (all_arms (arms ++ arm t ss ∷ [])) b u.0 (arms_snoc arms t ss b x.0 x.1 j)
low_none (own.Else arms) ss b h j = h
low_none (own.While x) ss b h j = h
low_none (own.For n x) ss b h j = h
low_none (own.Parfor n x w) ss b h j = h
low_none (own.Otherwise v arms) ss b h j = h
low_none own.Try ss b h j = h
low_none (own.Catch hs) ss b h j = h
low_none (own.Spmd w) ss b h j = h

low_part : (o : Owner) (ss : List Stmt) (p : Part) (b : ℕ) → owner_levels o ≤ b → all_levels ss ≤ b → part_height p ≤ b → owner_levels (with_part o ss p) ≤ b
low_part o ss (headed (upto l e) s) b h j i = low_value o ss (tree e) b h j (omega (arith, low e, i))
low_part o ss (headed (shut x e z) s) b h j i = h
low_part o ss (headed (no_value word m) s) b h j i = j
low_part o ss (unheaded word m) b h j i = low_none o ss b h j

low_for : (word : Keyword) (n : Name) (e : Expr) (b : ℕ) → levels e ≤ b → owner_levels (for_owner word n e) ≤ b
low_for k.Parfor n e b h = over (levels e) 0 b h (omega arith)
low_for k.Break n e b h = h
low_for k.Case n e b h = h
low_for k.Catch n e b h = h
low_for k.Classdef n e b h = h
low_for k.Continue n e b h = h
low_for k.Else n e b h = h
low_for k.Elseif n e b h = h
low_for k.End n e b h = h
low_for k.For n e b h = h
low_for k.Function n e b h = h
low_for k.Global n e b h = h
low_for k.If n e b h = h
low_for k.Otherwise n e b h = h
low_for k.Persistent n e b h = h
low_for k.Return n e b h = h
low_for k.Spmd n e b h = h
low_for k.Switch n e b h = h
low_for k.Try n e b h = h
low_for k.While n e b h = h

low_test : (word : Keyword) (e : Expr) (b : ℕ) → levels e ≤ b → owner_levels (test_owner word e) ≤ b
low_test k.While e b h = h
low_test k.Switch e b h = h
low_test k.Break e b h = over 0 (levels e) b (omega arith) h
low_test k.Case e b h = over 0 (levels e) b (omega arith) h
low_test k.Catch e b h = over 0 (levels e) b (omega arith) h
low_test k.Classdef e b h = over 0 (levels e) b (omega arith) h
low_test k.Continue e b h = over 0 (levels e) b (omega arith) h
low_test k.Else e b h = over 0 (levels e) b (omega arith) h
low_test k.Elseif e b h = over 0 (levels e) b (omega arith) h
low_test k.End e b h = over 0 (levels e) b (omega arith) h
low_test k.For e b h = over 0 (levels e) b (omega arith) h
low_test k.Function e b h = over 0 (levels e) b (omega arith) h
low_test k.Global e b h = over 0 (levels e) b (omega arith) h
low_test k.If e b h = over 0 (levels e) b (omega arith) h
low_test k.Otherwise e b h = over 0 (levels e) b (omega arith) h
low_test k.Parfor e b h = over 0 (levels e) b (omega arith) h
low_test k.Persistent e b h = over 0 (levels e) b (omega arith) h
low_test k.Return e b h = over 0 (levels e) b (omega arith) h
low_test k.Spmd e b h = over 0 (levels e) b (omega arith) h
low_test k.Try e b h = over 0 (levels e) b (omega arith) h

low_begun : (p : Part) → owner_levels (begun p) ≤ part_height p
low_begun (headed (upto (test word m) e) s) = low_test word (tree e) (height e) (low e)
low_begun (headed (upto (each word m n q) e) s) = low_for word (name_of n) (tree e) (height e) (low e)
low_begun (headed (shut (each_in word m o n q) e z) s) = low_for word (name_of n) (tree e) (max 0 (height e)) (omega (arith, low e, le-max_right 0 (height e)))
low_begun (headed (shut (bound m o n q x c) e z) s) = over (levels (tree x)) (levels (tree e)) (max (height x) (height e)) (omega (arith, low x, le-max_left (height x) (height e))) (omega (arith, low e, le-max_right (height x) (height e)))
low_begun (headed (shut (workers m o) e z) s) = omega (arith, low e, le-max_right 0 (height e))
low_begun (headed (no_value word m) s) = omega arith
low_begun (unheaded word m) = omega arith

-- ---- statements and programs

mutual
  low_smt : (s : Smt) (v : Bool) → stmt_levels (smt_tree s v) ≤ smt_height s
  low_smt (simple g e) v = omega (arith, at_stmt (goal_tree g (tree e)) (goal_mark g e).place v, low_goal g e)
  low_smt (delete n m a z q o y) v = omega (arith, at_stmt (what.Delete (name_of n) (arg_trees a)) n.mark.place v, at_delete (name_of n) (arg_trees a), low_args a)
  low_smt (leave word m) v = omega (arith, at_stmt (leave_tree word) m.place v, low_leave word)
  low_smt (compound o b m) v =
      let H : ℕ = max (opened_height o) (block_height b) in
      omega (arith, at_stmt (closed (owner o) (stmts b)) (opened_mark o).place v, low_closed (owner o) (stmts b) H (omega (arith, low_opened o, le-max_left (opened_height o) (block_height b))) (omega (arith, low_block b, le-max_right (opened_height o) (block_height b))))

  low_block : (b : Block) → all_levels (stmts b) ≤ block_height b
  low_block empty = omega arith
  low_block (blank b s) = low_block b
  low_block (statement b s e) = all_snoc stmt_levels (stmts b) (smt_tree s (shows e.kind)) (max (block_height b) (smt_height s)) (omega (arith, low_block b, le-max_left (block_height b) (smt_height s))) (omega (arith, low_smt s (shows e.kind), le-max_right (block_height b) (smt_height s)))

  low_opened : (o : Opened) → owner_levels (owner o) ≤ opened_height o
  low_opened (first p) = low_begun p
  low_opened (next o b p) =
      let G : ℕ = max (opened_height o) (block_height b) in
      low_part (owner o) (stmts b) p (max G (part_height p)) (omega (arith, low_opened o, le-max_left (opened_height o) (block_height b), le-max_left G (part_height p))) (omega (arith, low_block b, le-max_right (opened_height o) (block_height b), le-max_left G (part_height p))) (le-max_right G (part_height p))

low_fun : (f : Fun) → function_levels (fun_tree f) ≤ fun_height f
low_fun (fun (title m o n g) s b z) = low_block b

low_top : (t : Top) → (all_levels (body_of t) ≤ top_height t) × (most (map function_levels (functions_of t)) ≤ top_height t)
low_top (script b) = (low_block b, omega arith)
low_top (define t f) =
    let l : (all_levels (body_of t) ≤ top_height t) × (most (map function_levels (functions_of t)) ≤ top_height t) = low_top t in
    (omega (arith, l.0, le-max_left (top_height t) (fun_height f)), all_snoc function_levels (functions_of t) (fun_tree f) (max (top_height t) (fun_height f)) (omega (arith, l.1, le-max_left (top_height t) (fun_height f))) (omega (arith, low_fun f, le-max_right (top_height t) (fun_height f))))
low_top (spaced t s) = low_top t

low_prog : (p : Prog) → program_levels (program_of p) ≤ prog_height p
low_prog (whole_of t) = let l : (all_levels (body_of t) ≤ top_height t) × (most (map function_levels (functions_of t)) ≤ top_height t) = low_top t in over (all_levels (body_of t)) (most (map function_levels (functions_of t))) (top_height t) l.0 l.1
low_prog (unended b s) =
    let H : ℕ = max (block_height b) (smt_height s) in
    over (all_levels (stmts b ++ smt_tree s true ∷ [])) 0 H (all_snoc stmt_levels (stmts b) (smt_tree s true) H (omega (arith, low_block b, le-max_left (block_height b) (smt_height s))) (omega (arith, low_smt s true, le-max_right (block_height b) (smt_height s)))) (omega arith)

-- a program is no higher than the limit
pub within_limit : (r : Rules) (ts : List Terminal) (program : Program) → Parses r ts program → program_levels program ≤ r.limit
within_limit r ts program x = let v : program_levels (program_of x.rules) ≤ r.limit = omega (arith, low_prog x.rules, x.nested) in subst (λ y. program_levels y ≤ r.limit) x.means v
