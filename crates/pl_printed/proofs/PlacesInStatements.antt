-- A statement is printed the same whatever its places are: by induction on it.
use Rattle.std.proofs.Common.{◌≡◌, ◌∙◌, true, false, List, [], ◌∷◌, Option, Some, None, map, refl, ap, sym, subst}
use Rattle.std.specs.Prelude.{option_map}
use Rattle.pl_syntax.specs.declared.expr.Name.{Name}
use Rattle.pl_syntax.specs.declared.expr.Expr.{Expr}
use Rattle.pl_syntax.specs.declared.stmt.Stmt.{Stmt, Stmt-F, roll-Stmt, ind-Stmt}
use Rattle.pl_syntax.specs.declared.stmt.StmtKind as what
use Rattle.pl_syntax.specs.declared.stmt.StmtKind.{fold-StmtKind, map-StmtKind, roll-StmtKind}
use Rattle.pl_syntax.specs.declared.stmt.StmtKind.TheOpen.{StmtKind-F}
use Rattle.pl_syntax.specs.declared.stmt.StmtKind.TheVariants.{rolls-Eval, rolls-Assign, rolls-AssignList, rolls-Delete, rolls-If, rolls-While, rolls-For, rolls-Parfor, rolls-Switch, rolls-Try, rolls-Spmd, rolls-Break, rolls-Continue, rolls-Return}
use Rattle.pl_syntax.specs.declared.stmt.Arm.{Arm, fold-Arm, roll-Arm}
use Rattle.pl_syntax.specs.declared.stmt.Target.{Target}
use Rattle.pl_syntax.specs.declared.stmt.Target.TheVariants as target
use Rattle.pl_grammar.specs.declared.terminal.Word.TheVariants as w
use Rattle.pl_grammar.specs.declared.terminal.Keyword.{Keyword}
use Rattle.pl_grammar.specs.declared.terminal.Keyword.TheVariants as k
use Rattle.pl_grammar.specs.Trees.{stmt, arm}
use Rattle.pl_printing.specs.Places.{nowhere, moved, moved_what, moved_arm, moved_stmt, but_places_expr, but_places_exprs, but_places_target, but_places_stmt}
use Rattle.pl_printing.specs.Canonical.{Words, terminal, directly, apart, separated, name_words, in_brackets, in_braces, target_words, output_words, assigned, key, line_end, ending, block_words, finish, arms_words, last_words, workers_words, each_words, parfor_words, of_stmt_kind, of_arm_layer, of_stmt_layer, stmt_words}
use Rattle.pl_printing.proofs.Folds.{at_stmt, at_arm, at_eval, at_assign, at_assign_list, at_delete, at_if, at_while, at_for, at_parfor, at_switch, at_try, at_spmd, at_break, at_continue, at_return}
use Rattle.pl_printed.proofs.PlacesInExpressions.{kept_expr, kept_exprs}

-- ---- what has no statement in it

target_kept : (t : Target) → target_words (but_places_target t) ≡ target_words t
target_kept (target.Whole n) = refl
target_kept (target.Indexed n es) = λ i gap rest. name_words n.text gap (in_brackets (kept_exprs es i) rest)
target_kept (target.Braced n e) = λ i gap rest. name_words n.text gap (in_braces (kept_expr e i) rest)

assigned_kept : (t : Target) → assigned (but_places_target t) ≡ assigned t
assigned_kept (target.Whole n) = refl
assigned_kept (target.Indexed n es) = refl
assigned_kept (target.Braced n e) = refl

output_kept : (t : Option Target) → output_words (option_map but_places_target t) ≡ output_words t
output_kept None = refl
output_kept (Some t) = λ i gap rest. target_kept t i gap rest

outputs_kept : (ts : List (Option Target)) → map output_words (map (option_map but_places_target) ts) ≡ map output_words ts
outputs_kept [] = refl
outputs_kept (t ∷ ts) = λ i. output_kept t i ∷ outputs_kept ts i

workers_kept : (b : Option Expr) → workers_words (option_map but_places_expr b) ≡ workers_words b
workers_kept None = refl
workers_kept (Some e) = λ i rest. apart w.Open ∷ (kept_expr e i).words false (directly w.Close ∷ rest)

each_kept : (n : Name) (e : Expr) → each_words (moved n) (but_places_expr e) ≡ each_words n e
each_kept n e = λ i gap rest. name_words n.text gap (apart w.Equal ∷ (kept_expr e i).words true rest)

parfor_kept : (n : Name) (e : Expr) (b : Option Expr) → parfor_words (moved n) (but_places_expr e) (option_map but_places_expr b) ≡ parfor_words n e b
parfor_kept n e None = λ i rest. each_kept n e i true rest
parfor_kept n e (Some b) = λ i rest. apart w.Open ∷ each_kept n e i false (directly w.Comma ∷ (kept_expr b i).words true (directly w.Close ∷ rest))

-- ---- what is kept

abbrev K : Type 0
K = what.StmtKind

abbrev W : Type 0
W = Keyword → Words

abbrev without : what.StmtKind → what.StmtKind
without = fold-StmtKind K Arm Stmt moved_what moved_arm moved_stmt

abbrev arm_without : Arm → Arm
arm_without = fold-Arm K Arm Stmt moved_what moved_arm moved_stmt

abbrev kind_words : what.StmtKind → Words
kind_words = fold-StmtKind Words W Words of_stmt_kind of_arm_layer of_stmt_layer

abbrev arm_words : Arm → W
arm_words = fold-Arm Words W Words of_stmt_kind of_arm_layer of_stmt_layer

abbrev Kept : Stmt → Type 0
Kept s = stmt_words (but_places_stmt s) ≡ stmt_words s

abbrev KeptArm : Arm → Type 0
KeptArm a = arm_words (arm_without a) ≡ arm_words a

abbrev KeptKind : what.StmtKind → Type 0
KeptKind x = kind_words (without x) ≡ kind_words x

-- a part that is kept
abbrev Part : Type 0
Part = (s : Stmt) × Kept s

abbrev PartArm : Type 0
PartArm = (a : Arm) × KeptArm a

abbrev PartKind : Type 0
PartKind = (x : what.StmtKind) × KeptKind x

abbrev stmts : List Part → List Stmt
stmts ss = map (λ s. s.0) ss

abbrev arms : List PartArm → List Arm
arms xs = map (λ a. a.0) xs

abbrev without_all : List Stmt → List Stmt
without_all ss = map but_places_stmt ss

abbrev words_of_all : List Stmt → List Words
words_of_all ss = map stmt_words ss

abbrev arms_without : List Arm → List Arm
arms_without xs = map arm_without xs

abbrev words_of_arms : List Arm → List W
words_of_arms xs = map arm_words xs

stmts_kept : (ss : List Part) → words_of_all (without_all (stmts ss)) ≡ words_of_all (stmts ss)
stmts_kept [] = refl
stmts_kept (s ∷ ss) = λ i. s.1 i ∷ stmts_kept ss i

arms_kept : (xs : List PartArm) → words_of_arms (arms_without (arms xs)) ≡ words_of_arms (arms xs)
arms_kept [] = refl
arms_kept (a ∷ xs) = λ i. a.1 i ∷ arms_kept xs i

-- ---- each kind, of kept parts

kept_eval : (e : Expr) → KeptKind (what.Eval e)
kept_eval e =
    ap kind_words (at_eval K Arm Stmt moved_what moved_arm moved_stmt e)
    ∙ at_eval Words W Words of_stmt_kind of_arm_layer of_stmt_layer (but_places_expr e)
    ∙ (λ i gap rest. (kept_expr e i).words gap rest)
    ∙ sym (at_eval Words W Words of_stmt_kind of_arm_layer of_stmt_layer e)

kept_assign : (t : Target) (e : Expr) → KeptKind (what.Assign t e)
kept_assign t e =
    ap kind_words (at_assign K Arm Stmt moved_what moved_arm moved_stmt t e)
    ∙ at_assign Words W Words of_stmt_kind of_arm_layer of_stmt_layer (but_places_target t) (but_places_expr e)
    ∙ (λ i gap rest. target_kept t i gap (apart w.Equal ∷ assigned_kept t i (kept_expr e i) rest))
    ∙ sym (at_assign Words W Words of_stmt_kind of_arm_layer of_stmt_layer t e)

kept_assign_list : (ts : List (Option Target)) (e : Expr) → KeptKind (what.AssignList ts e)
kept_assign_list ts e =
    ap kind_words (at_assign_list K Arm Stmt moved_what moved_arm moved_stmt ts e)
    ∙ at_assign_list Words W Words of_stmt_kind of_arm_layer of_stmt_layer (map (option_map but_places_target) ts) (but_places_expr e)
    ∙ (λ i gap rest. terminal gap w.OpenSquare ∷ separated w.Comma (outputs_kept ts i) false (directly w.CloseSquare ∷ apart w.Equal ∷ (kept_expr e i).words true rest))
    ∙ sym (at_assign_list Words W Words of_stmt_kind of_arm_layer of_stmt_layer ts e)

kept_delete : (n : Name) (es : List Expr) → KeptKind (what.Delete n es)
kept_delete n es =
    ap kind_words (at_delete K Arm Stmt moved_what moved_arm moved_stmt n es)
    ∙ at_delete Words W Words of_stmt_kind of_arm_layer of_stmt_layer (moved n) (but_places_exprs es)
    ∙ (λ i gap rest. name_words n.text gap (in_brackets (kept_exprs es i) (apart w.Equal ∷ apart w.OpenSquare ∷ directly w.CloseSquare ∷ rest)))
    ∙ sym (at_delete Words W Words of_stmt_kind of_arm_layer of_stmt_layer n es)

kept_if : (xs : List PartArm) (ss : List Part) → KeptKind (what.If (arms xs) (stmts ss))
kept_if xs ss =
    ap kind_words (at_if K Arm Stmt moved_what moved_arm moved_stmt (arms xs) (stmts ss))
    ∙ at_if Words W Words of_stmt_kind of_arm_layer of_stmt_layer (arms_without (arms xs)) (without_all (stmts ss))
    ∙ (λ i. of_stmt_kind (StmtKind-F.If (arms_kept xs i) (stmts_kept ss i)))
    ∙ sym (at_if Words W Words of_stmt_kind of_arm_layer of_stmt_layer (arms xs) (stmts ss))

kept_while : (e : Expr) (ss : List Part) → KeptKind (what.While e (stmts ss))
kept_while e ss =
    ap kind_words (at_while K Arm Stmt moved_what moved_arm moved_stmt e (stmts ss))
    ∙ at_while Words W Words of_stmt_kind of_arm_layer of_stmt_layer (but_places_expr e) (without_all (stmts ss))
    ∙ (λ i gap rest. key gap k.While ∷ (kept_expr e i).words true (block_words (stmts_kept ss i) (finish gap rest)))
    ∙ sym (at_while Words W Words of_stmt_kind of_arm_layer of_stmt_layer e (stmts ss))

kept_for : (n : Name) (e : Expr) (ss : List Part) → KeptKind (what.For n e (stmts ss))
kept_for n e ss =
    ap kind_words (at_for K Arm Stmt moved_what moved_arm moved_stmt n e (stmts ss))
    ∙ at_for Words W Words of_stmt_kind of_arm_layer of_stmt_layer (moved n) (but_places_expr e) (without_all (stmts ss))
    ∙ (λ i gap rest. key gap k.For ∷ each_kept n e i true (block_words (stmts_kept ss i) (finish gap rest)))
    ∙ sym (at_for Words W Words of_stmt_kind of_arm_layer of_stmt_layer n e (stmts ss))

kept_parfor : (n : Name) (e : Expr) (b : Option Expr) (ss : List Part) → KeptKind (what.Parfor n e b (stmts ss))
kept_parfor n e b ss =
    ap kind_words (at_parfor K Arm Stmt moved_what moved_arm moved_stmt n e b (stmts ss))
    ∙ at_parfor Words W Words of_stmt_kind of_arm_layer of_stmt_layer (moved n) (but_places_expr e) (option_map but_places_expr b) (without_all (stmts ss))
    ∙ (λ i gap rest. key gap k.Parfor ∷ parfor_kept n e b i (block_words (stmts_kept ss i) (finish gap rest)))
    ∙ sym (at_parfor Words W Words of_stmt_kind of_arm_layer of_stmt_layer n e b (stmts ss))

kept_switch : (e : Expr) (xs : List PartArm) (ss : List Part) → KeptKind (what.Switch e (arms xs) (stmts ss))
kept_switch e xs ss =
    ap kind_words (at_switch K Arm Stmt moved_what moved_arm moved_stmt e (arms xs) (stmts ss))
    ∙ at_switch Words W Words of_stmt_kind of_arm_layer of_stmt_layer (but_places_expr e) (arms_without (arms xs)) (without_all (stmts ss))
    ∙ (λ i gap rest. key gap k.Switch ∷ (kept_expr e i).words true (line_end (arms_words k.Case k.Case (arms_kept xs i) gap (last_words k.Otherwise (stmts_kept ss i) gap (finish gap rest)))))
    ∙ sym (at_switch Words W Words of_stmt_kind of_arm_layer of_stmt_layer e (arms xs) (stmts ss))

kept_try : (ss hs : List Part) → KeptKind (what.Try (stmts ss) (stmts hs))
kept_try ss hs =
    ap kind_words (at_try K Arm Stmt moved_what moved_arm moved_stmt (stmts ss) (stmts hs))
    ∙ at_try Words W Words of_stmt_kind of_arm_layer of_stmt_layer (without_all (stmts ss)) (without_all (stmts hs))
    ∙ (λ i. of_stmt_kind (StmtKind-F.Try (stmts_kept ss i) (stmts_kept hs i)))
    ∙ sym (at_try Words W Words of_stmt_kind of_arm_layer of_stmt_layer (stmts ss) (stmts hs))

kept_spmd : (b : Option Expr) (ss : List Part) → KeptKind (what.Spmd b (stmts ss))
kept_spmd b ss =
    ap kind_words (at_spmd K Arm Stmt moved_what moved_arm moved_stmt b (stmts ss))
    ∙ at_spmd Words W Words of_stmt_kind of_arm_layer of_stmt_layer (option_map but_places_expr b) (without_all (stmts ss))
    ∙ (λ i gap rest. key gap k.Spmd ∷ workers_kept b i (block_words (stmts_kept ss i) (finish gap rest)))
    ∙ sym (at_spmd Words W Words of_stmt_kind of_arm_layer of_stmt_layer b (stmts ss))

kept_break : KeptKind what.Break
kept_break = ap kind_words (at_break K Arm Stmt moved_what moved_arm moved_stmt)

kept_continue : KeptKind what.Continue
kept_continue = ap kind_words (at_continue K Arm Stmt moved_what moved_arm moved_stmt)

kept_return : KeptKind what.Return
kept_return = ap kind_words (at_return K Arm Stmt moved_what moved_arm moved_stmt)

kept_arm : (e : Expr) (ss : List Part) → KeptArm (arm e (stmts ss))
kept_arm e ss =
    ap arm_words (at_arm K Arm Stmt moved_what moved_arm moved_stmt e (stmts ss))
    ∙ at_arm Words W Words of_stmt_kind of_arm_layer of_stmt_layer (but_places_expr e) (without_all (stmts ss))
    ∙ (λ i word gap rest. key gap word ∷ (kept_expr e i).words true (block_words (stmts_kept ss i) rest))
    ∙ sym (at_arm Words W Words of_stmt_kind of_arm_layer of_stmt_layer e (stmts ss))

kept_layer : (y : Stmt-F PartKind PartArm Part) → Kept (stmt y.kind.0 y.place y.show)
kept_layer y =
    ap stmt_words (at_stmt K Arm Stmt moved_what moved_arm moved_stmt y.kind.0 y.place y.show)
    ∙ at_stmt Words W Words of_stmt_kind of_arm_layer of_stmt_layer (without y.kind.0) nowhere y.show
    ∙ (λ i gap rest. y.kind.1 i gap (ending y.show rest))
    ∙ sym (at_stmt Words W Words of_stmt_kind of_arm_layer of_stmt_layer y.kind.0 y.place y.show)

-- ---- the induction

abbrev kind_of : StmtKind-F PartKind PartArm Part → what.StmtKind
kind_of y = roll-StmtKind (map-StmtKind PartKind PartArm Part what.StmtKind Arm Stmt (λ x. x.0) (λ a. a.0) (λ s. s.0) y)

kept_kind : (y : StmtKind-F PartKind PartArm Part) → KeptKind (kind_of y)
kept_kind (StmtKind-F.Eval e) = subst KeptKind (sym (rolls-Eval e)) (kept_eval e)
kept_kind (StmtKind-F.Assign t e) = subst KeptKind (sym (rolls-Assign t e)) (kept_assign t e)
kept_kind (StmtKind-F.AssignList ts e) = subst KeptKind (sym (rolls-AssignList ts e)) (kept_assign_list ts e)
kept_kind (StmtKind-F.Delete n es) = subst KeptKind (sym (rolls-Delete n es)) (kept_delete n es)
kept_kind (StmtKind-F.If xs ss) = subst KeptKind (sym (rolls-If (arms xs) (stmts ss))) (kept_if xs ss)
kept_kind (StmtKind-F.While e ss) = subst KeptKind (sym (rolls-While e (stmts ss))) (kept_while e ss)
kept_kind (StmtKind-F.For n e ss) = subst KeptKind (sym (rolls-For n e (stmts ss))) (kept_for n e ss)
kept_kind (StmtKind-F.Parfor n e b ss) = subst KeptKind (sym (rolls-Parfor n e b (stmts ss))) (kept_parfor n e b ss)
kept_kind (StmtKind-F.Switch e xs ss) = subst KeptKind (sym (rolls-Switch e (arms xs) (stmts ss))) (kept_switch e xs ss)
kept_kind (StmtKind-F.Try ss hs) = subst KeptKind (sym (rolls-Try (stmts ss) (stmts hs))) (kept_try ss hs)
kept_kind (StmtKind-F.Spmd b ss) = subst KeptKind (sym (rolls-Spmd b (stmts ss))) (kept_spmd b ss)
kept_kind StmtKind-F.Break = subst KeptKind (sym rolls-Break) kept_break
kept_kind StmtKind-F.Continue = subst KeptKind (sym rolls-Continue) kept_continue
kept_kind StmtKind-F.Return = subst KeptKind (sym rolls-Return) kept_return

pub kept_stmt : (s : Stmt) → stmt_words (but_places_stmt s) ≡ stmt_words s
kept_stmt = ind-Stmt KeptKind KeptArm Kept
    (λ x y is. subst (λ z. KeptKind (roll-StmtKind z)) is (kept_kind y))
    (λ x y is. subst (λ z. KeptArm (roll-Arm z)) is (kept_arm y.test y.body))
    (λ x y is. subst (λ z. Kept (roll-Stmt z)) is (kept_layer y))

pub kept_stmts : (ss : List Stmt) → map stmt_words (map but_places_stmt ss) ≡ map stmt_words ss
kept_stmts [] = refl
kept_stmts (s ∷ ss) = λ i. kept_stmt s i ∷ kept_stmts ss i
