-- Compound statements whose last block is still being read: their trees without places, and how they are spelled.
use Rattle.std.proofs.Common.{◌≡◌, ◌∙◌, Bool, true, false, Some, None, List, [], ◌∷◌, ◌++◌, map, refl, ap, sym}
use Rattle.std.specs.Prelude.{option_map}
use Rattle.pl_syntax.specs.declared.expr.Expr.{Expr}
use Rattle.pl_syntax.specs.declared.stmt.Stmt.{Stmt}
use Rattle.pl_syntax.specs.declared.stmt.Arm.{Arm, fold-Arm}
use Rattle.pl_syntax.specs.declared.stmt.StmtKind as what
use Rattle.pl_grammar.specs.declared.owner.Owner.{Owner}
use Rattle.pl_grammar.specs.declared.owner.Owner.TheVariants as own
use Rattle.pl_grammar.specs.declared.terminal.Terminal.{Terminal}
use Rattle.pl_grammar.specs.declared.terminal.Keyword.{Keyword}
use Rattle.pl_grammar.specs.declared.terminal.Keyword.TheVariants as k
use Rattle.pl_grammar.specs.Derivations.{upto, shut, no_value, Part, headed, unheaded}
use Rattle.pl_grammar.specs.Trees.{tree, arm, with_value, with_none, with_part, closed}
use Rattle.pl_printing.specs.Places.{moved, but_places_expr, moved_what, moved_arm, moved_stmt, but_places_stmt}
use Rattle.pl_printing.specs.Canonical.{Words, expr_words, key, line_end, lines, finish, arms_words, workers_words, each_words, parfor_words, of_stmt_kind, of_arm_layer, of_stmt_layer, stmt_words}
use Rattle.pl_printing.proofs.Folds.{at_arm, at_if, at_while, at_for, at_parfor, at_switch, at_try, at_spmd}
use Rattle.pl_printing.proofs.Taking.{map_snoc}
use Rattle.pl_printing.proofs.Expressions.{no_state}
use Rattle.pl_printing.proofs.Simple.{but_what, what_words}

abbrev pub but_arm : Arm → Arm
but_arm = fold-Arm what.StmtKind Arm Stmt moved_what moved_arm moved_stmt

abbrev pub but_stmts : List Stmt → List Stmt
but_stmts ss = map but_places_stmt ss

-- ---- trees without places

abbrev pub moved_owner : Owner → Owner
moved_owner (own.If arms t) = own.If (map but_arm arms) (but_places_expr t)
moved_owner (own.Else arms) = own.Else (map but_arm arms)
moved_owner (own.While e) = own.While (but_places_expr e)
moved_owner (own.For n e) = own.For (moved n) (but_places_expr e)
moved_owner (own.Parfor n e b) = own.Parfor (moved n) (but_places_expr e) (option_map but_places_expr b)
moved_owner (own.Switch v) = own.Switch (but_places_expr v)
moved_owner (own.Case v arms t) = own.Case (but_places_expr v) (map but_arm arms) (but_places_expr t)
moved_owner (own.Otherwise v arms) = own.Otherwise (but_places_expr v) (map but_arm arms)
moved_owner own.Try = own.Try
moved_owner (own.Catch ss) = own.Catch (but_stmts ss)
moved_owner (own.Spmd b) = own.Spmd (option_map but_places_expr b)

arms_moved : (arms : List Arm) (t : Expr) (ss : List Stmt) → map but_arm (arms ++ arm t ss ∷ []) ≡ map but_arm arms ++ arm (but_places_expr t) (but_stmts ss) ∷ []
arms_moved arms t ss = map_snoc but_arm arms (arm t ss) ∙ ap (λ v. map but_arm arms ++ v ∷ []) (at_arm what.StmtKind Arm Stmt moved_what moved_arm moved_stmt t ss)

moved_value : (o : Owner) (ss : List Stmt) (e : Expr) → moved_owner (with_value o ss e) ≡ with_value (moved_owner o) (but_stmts ss) (but_places_expr e)
moved_value (own.If arms t) ss e = ap (λ v. own.If v (but_places_expr e)) (arms_moved arms t ss)
moved_value (own.Case v arms t) ss e = ap (λ x. own.Case (but_places_expr v) x (but_places_expr e)) (arms_moved arms t ss)
moved_value (own.Else arms) ss e = refl
moved_value (own.While t) ss e = refl
moved_value (own.For n t) ss e = refl
moved_value (own.Parfor n t b) ss e = refl
moved_value (own.Switch v) ss e = refl
moved_value (own.Otherwise v arms) ss e = refl
moved_value own.Try ss e = refl
moved_value (own.Catch hs) ss e = refl
moved_value (own.Spmd b) ss e = refl

moved_none : (o : Owner) (ss : List Stmt) → moved_owner (with_none o ss) ≡ with_none (moved_owner o) (but_stmts ss)
moved_none (own.If arms t) ss = ap own.Else (arms_moved arms t ss)
moved_none (own.Case v arms t) ss = ap (own.Otherwise (but_places_expr v)) (arms_moved arms t ss)
moved_none (own.Else arms) ss = refl
moved_none (own.While t) ss = refl
moved_none (own.For n t) ss = refl
moved_none (own.Parfor n t b) ss = refl
moved_none (own.Switch v) ss = refl
moved_none (own.Otherwise v arms) ss = refl
moved_none own.Try ss = refl
moved_none (own.Catch hs) ss = refl
moved_none (own.Spmd b) ss = refl

-- what a further part makes of a tree without places
abbrev pub moved_step : Part → Owner → List Stmt → Owner
moved_step (headed (upto l e) s) o ss = with_value o ss (but_places_expr (tree e))
moved_step (headed (shut i e z) s) o ss = o
moved_step (headed (no_value word m) s) o ss = own.Catch ss
moved_step (unheaded word m) o ss = with_none o ss

pub moved_part : (o : Owner) (ss : List Stmt) (p : Part) → moved_owner (with_part o ss p) ≡ moved_step p (moved_owner o) (but_stmts ss)
moved_part o ss (headed (upto l e) s) = moved_value o ss (tree e)
moved_part o ss (headed (shut i e z) s) = refl
moved_part o ss (headed (no_value word m) s) = refl
moved_part o ss (unheaded word m) = moved_none o ss

pub moved_closed : (o : Owner) (ss : List Stmt) → but_what (closed o ss) ≡ closed (moved_owner o) (but_stmts ss)
moved_closed (own.If arms t) ss = at_if what.StmtKind Arm Stmt moved_what moved_arm moved_stmt (arms ++ arm t ss ∷ []) [] ∙ ap (λ v. what.If v []) (arms_moved arms t ss)
moved_closed (own.Else arms) ss = at_if what.StmtKind Arm Stmt moved_what moved_arm moved_stmt arms ss
moved_closed (own.While e) ss = at_while what.StmtKind Arm Stmt moved_what moved_arm moved_stmt e ss
moved_closed (own.For n e) ss = at_for what.StmtKind Arm Stmt moved_what moved_arm moved_stmt n e ss
moved_closed (own.Parfor n e b) ss = at_parfor what.StmtKind Arm Stmt moved_what moved_arm moved_stmt n e b ss
moved_closed (own.Switch v) ss = at_switch what.StmtKind Arm Stmt moved_what moved_arm moved_stmt v [] []
moved_closed (own.Case v arms t) ss = at_switch what.StmtKind Arm Stmt moved_what moved_arm moved_stmt v (arms ++ arm t ss ∷ []) [] ∙ ap (λ x. what.Switch (but_places_expr v) x []) (arms_moved arms t ss)
moved_closed (own.Otherwise v arms) ss = at_switch what.StmtKind Arm Stmt moved_what moved_arm moved_stmt v arms ss
moved_closed own.Try ss = at_try what.StmtKind Arm Stmt moved_what moved_arm moved_stmt ss []
moved_closed (own.Catch body) ss = at_try what.StmtKind Arm Stmt moved_what moved_arm moved_stmt body ss
moved_closed (own.Spmd b) ss = at_spmd what.StmtKind Arm Stmt moved_what moved_arm moved_stmt b ss

-- ---- spelling

abbrev pub arm_words : Arm → Keyword → Words
arm_words = fold-Arm Words (Keyword → Words) Words of_stmt_kind of_arm_layer of_stmt_layer

abbrev pub stmts_lines : List Stmt → List Terminal → List Terminal
stmts_lines ss rest = lines true (map stmt_words ss) rest

-- the keyword of the last part
abbrev pub owner_word : Owner → Keyword
owner_word (own.If [] t) = k.If
owner_word (own.If (a ∷ arms) t) = k.Elseif
owner_word (own.Else arms) = k.Else
owner_word (own.While e) = k.While
owner_word (own.For n e) = k.For
owner_word (own.Parfor n e b) = k.Parfor
owner_word (own.Switch v) = k.Switch
owner_word (own.Case v arms t) = k.Case
owner_word (own.Otherwise v arms) = k.Otherwise
owner_word own.Try = k.Try
owner_word (own.Catch ss) = k.Catch
owner_word (own.Spmd b) = k.Spmd

-- how what stands before the last block is spelled
abbrev pub owner_words : Owner → Words
owner_words (own.If arms t) gap rest = arms_words k.If k.Elseif (map arm_words arms) gap (key gap (owner_word (own.If arms t)) ∷ expr_words t true (line_end rest))
owner_words (own.Else arms) gap rest = arms_words k.If k.Elseif (map arm_words arms) gap (key gap k.Else ∷ line_end rest)
owner_words (own.While e) gap rest = key gap k.While ∷ expr_words e true (line_end rest)
owner_words (own.For n e) gap rest = key gap k.For ∷ each_words n e true (line_end rest)
owner_words (own.Parfor n e b) gap rest = key gap k.Parfor ∷ parfor_words n e b (line_end rest)
owner_words (own.Switch v) gap rest = key gap k.Switch ∷ expr_words v true (line_end rest)
owner_words (own.Case v arms t) gap rest = key gap k.Switch ∷ expr_words v true (line_end (arms_words k.Case k.Case (map arm_words arms) gap (key gap k.Case ∷ expr_words t true (line_end rest))))
owner_words (own.Otherwise v arms) gap rest = key gap k.Switch ∷ expr_words v true (line_end (arms_words k.Case k.Case (map arm_words arms) gap (key gap k.Otherwise ∷ line_end rest)))
owner_words own.Try gap rest = key gap k.Try ∷ line_end rest
owner_words (own.Catch ss) gap rest = key gap k.Try ∷ line_end (stmts_lines ss (key gap k.Catch ∷ line_end rest))
owner_words (own.Spmd b) gap rest = key gap k.Spmd ∷ workers_words b (line_end rest)

abbrev turn : {A : Type 0} → Keyword → Keyword → List A → Keyword
turn first other [] = first
turn first other (a ∷ arms) = other

-- one more arm behind arms
arms_more : (first other : Keyword) (arms : List Arm) (t : Expr) (ss : List Stmt) (gap : Bool) (r : List Terminal)
    → arms_words first other (map arm_words (arms ++ arm t ss ∷ [])) gap r ≡ arms_words first other (map arm_words arms) gap (key gap (turn first other arms) ∷ expr_words t true (line_end (stmts_lines ss r)))
arms_more first other [] t ss gap r = ap (λ (f : Keyword → Words). f first gap r) (at_arm Words (Keyword → Words) Words of_stmt_kind of_arm_layer of_stmt_layer t ss)
arms_more first other (a ∷ []) t ss gap r = ap (arm_words a first gap) (arms_more other other [] t ss gap r)
arms_more first other (a ∷ b ∷ arms) t ss gap r = ap (arm_words a first gap) (arms_more other other (b ∷ arms) t ss gap r)

-- of the same keyword
cases_more : (arms : List Arm) (t : Expr) (ss : List Stmt) (gap : Bool) (r : List Terminal)
    → arms_words k.Case k.Case (map arm_words (arms ++ arm t ss ∷ [])) gap r ≡ arms_words k.Case k.Case (map arm_words arms) gap (key gap k.Case ∷ expr_words t true (line_end (stmts_lines ss r)))
cases_more [] t ss gap r = arms_more k.Case k.Case [] t ss gap r
cases_more (a ∷ arms) t ss gap r = arms_more k.Case k.Case (a ∷ arms) t ss gap r

ifs_more : (arms : List Arm) (t : Expr) (ss : List Stmt) (gap : Bool) (r : List Terminal)
    → arms_words k.If k.Elseif (map arm_words (arms ++ arm t ss ∷ [])) gap r ≡ arms_words k.If k.Elseif (map arm_words arms) gap (key gap (owner_word (own.If arms t)) ∷ expr_words t true (line_end (stmts_lines ss r)))
ifs_more [] t ss gap r = arms_more k.If k.Elseif [] t ss gap r
ifs_more (a ∷ arms) t ss gap r = arms_more k.If k.Elseif (a ∷ arms) t ss gap r

pub elseif_word : (arms : List Arm) (a : Arm) (e : Expr) → owner_word (own.If (arms ++ a ∷ []) e) ≡ k.Elseif
elseif_word [] a e = refl
elseif_word (b ∷ arms) a e = refl

-- a further part with a value, or with none
pub elseif_words : (arms : List Arm) (t : Expr) (ss : List Stmt) (e : Expr) (gap : Bool) (r : List Terminal) → owner_words (own.If arms t) gap (stmts_lines ss (key gap k.Elseif ∷ expr_words e true (line_end r))) ≡ owner_words (with_value (own.If arms t) ss e) gap r
elseif_words arms t ss e gap r =
    sym (ifs_more arms t ss gap (key gap k.Elseif ∷ expr_words e true (line_end r)))
    ∙ ap (λ v. arms_words k.If k.Elseif (map arm_words (arms ++ arm t ss ∷ [])) gap (key gap v ∷ expr_words e true (line_end r))) (sym (elseif_word arms (arm t ss) e))

pub else_words : (arms : List Arm) (t : Expr) (ss : List Stmt) (gap : Bool) (r : List Terminal) → owner_words (own.If arms t) gap (stmts_lines ss (key gap k.Else ∷ line_end r)) ≡ owner_words (with_none (own.If arms t) ss) gap r
else_words arms t ss gap r = sym (ifs_more arms t ss gap (key gap k.Else ∷ line_end r))

pub case_words : (v : Expr) (arms : List Arm) (t : Expr) (ss : List Stmt) (e : Expr) (gap : Bool) (r : List Terminal) → owner_words (own.Case v arms t) gap (stmts_lines ss (key gap k.Case ∷ expr_words e true (line_end r))) ≡ owner_words (with_value (own.Case v arms t) ss e) gap r
case_words v arms t ss e gap r = ap (λ x. key gap k.Switch ∷ expr_words v true (line_end x)) (sym (cases_more arms t ss gap (key gap k.Case ∷ expr_words e true (line_end r))))

pub otherwise_words : (v : Expr) (arms : List Arm) (t : Expr) (ss : List Stmt) (gap : Bool) (r : List Terminal) → owner_words (own.Case v arms t) gap (stmts_lines ss (key gap k.Otherwise ∷ line_end r)) ≡ owner_words (with_none (own.Case v arms t) ss) gap r
otherwise_words v arms t ss gap r = ap (λ x. key gap k.Switch ∷ expr_words v true (line_end x)) (sym (cases_more arms t ss gap (key gap k.Otherwise ∷ line_end r)))

-- ---- the whole statement

-- the last part isn't printed, since its block is empty
abbrev pub drops : Owner → List Stmt → Bool
drops (own.Else arms) [] = true
drops (own.Otherwise v arms) [] = true
drops (own.Catch hs) [] = true
drops o ss = false

-- behind the value of `switch` stand no statements
abbrev pub IsApart : Owner → List Stmt → Type 0
IsApart (own.Switch v) ss = ss ≡ []
IsApart (own.If arms t) ss = Unit {0}
IsApart o ss = Unit {0}

pub closed_words : (o : Owner) (ss : List Stmt) (gap : Bool) (r : List Terminal) → IsApart o ss → drops o ss ≡ false → what_words (closed o ss) gap r ≡ owner_words o gap (stmts_lines ss (finish gap r))
closed_words (own.If arms t) ss gap r h d = ap (λ (v : Words). v gap r) (at_if Words (Keyword → Words) Words of_stmt_kind of_arm_layer of_stmt_layer (arms ++ arm t ss ∷ []) []) ∙ ifs_more arms t ss gap (finish gap r)
closed_words (own.Else arms) [] gap r h d = no_state (sym d)
closed_words (own.Else arms) (s ∷ ss) gap r h d = ap (λ (v : Words). v gap r) (at_if Words (Keyword → Words) Words of_stmt_kind of_arm_layer of_stmt_layer arms (s ∷ ss))
closed_words (own.While e) ss gap r h d = ap (λ (v : Words). v gap r) (at_while Words (Keyword → Words) Words of_stmt_kind of_arm_layer of_stmt_layer e ss)
closed_words (own.For n e) ss gap r h d = ap (λ (v : Words). v gap r) (at_for Words (Keyword → Words) Words of_stmt_kind of_arm_layer of_stmt_layer n e ss)
closed_words (own.Parfor n e None) ss gap r h d = ap (λ (v : Words). v gap r) (at_parfor Words (Keyword → Words) Words of_stmt_kind of_arm_layer of_stmt_layer n e None ss)
closed_words (own.Parfor n e (Some b)) ss gap r h d = ap (λ (v : Words). v gap r) (at_parfor Words (Keyword → Words) Words of_stmt_kind of_arm_layer of_stmt_layer n e (Some b) ss)
closed_words (own.Switch v) ss gap r h d = ap (λ (x : Words). x gap r) (at_switch Words (Keyword → Words) Words of_stmt_kind of_arm_layer of_stmt_layer v [] []) ∙ ap (λ x. owner_words (own.Switch v) gap (stmts_lines x (finish gap r))) (sym h)
closed_words (own.Case v arms t) ss gap r h d = ap (λ (x : Words). x gap r) (at_switch Words (Keyword → Words) Words of_stmt_kind of_arm_layer of_stmt_layer v (arms ++ arm t ss ∷ []) []) ∙ ap (λ x. key gap k.Switch ∷ expr_words v true (line_end x)) (cases_more arms t ss gap (finish gap r))
closed_words (own.Otherwise v arms) [] gap r h d = no_state (sym d)
closed_words (own.Otherwise v arms) (s ∷ ss) gap r h d = ap (λ (x : Words). x gap r) (at_switch Words (Keyword → Words) Words of_stmt_kind of_arm_layer of_stmt_layer v arms (s ∷ ss))
closed_words own.Try ss gap r h d = ap (λ (x : Words). x gap r) (at_try Words (Keyword → Words) Words of_stmt_kind of_arm_layer of_stmt_layer ss [])
closed_words (own.Catch hs) [] gap r h d = no_state (sym d)
closed_words (own.Catch hs) (s ∷ ss) gap r h d = ap (λ (x : Words). x gap r) (at_try Words (Keyword → Words) Words of_stmt_kind of_arm_layer of_stmt_layer hs (s ∷ ss))
closed_words (own.Spmd None) ss gap r h d = ap (λ (x : Words). x gap r) (at_spmd Words (Keyword → Words) Words of_stmt_kind of_arm_layer of_stmt_layer None ss)
closed_words (own.Spmd (Some b)) ss gap r h d = ap (λ (x : Words). x gap r) (at_spmd Words (Keyword → Words) Words of_stmt_kind of_arm_layer of_stmt_layer (Some b) ss)
