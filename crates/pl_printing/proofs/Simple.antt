-- Simple statements are read back.
use Rattle.pl_base.specs.declared.errors.Place.{Place}
use Rattle.std.proofs.Common.{◌≡◌, ◌∙◌, ℕ, suc, ◌+◌, ◌≤◌, Bool, true, false, Option, Some, List, [], ◌∷◌, ◌++◌, map, refl, ap, sym, subst, arith}
use Rattle.std.specs.Prelude.{max, option_map}
use Rattle.pl_syntax.specs.declared.expr.Expr.{Expr}
use Rattle.pl_syntax.specs.declared.expr.ExprKind as kind
use Rattle.pl_syntax.specs.declared.stmt.Stmt.{Stmt}
use Rattle.pl_syntax.specs.declared.stmt.Arm.{Arm}
use Rattle.pl_syntax.specs.declared.stmt.StmtKind as what
use Rattle.pl_syntax.specs.declared.stmt.StmtKind.{fold-StmtKind}
use Rattle.pl_syntax.specs.declared.stmt.Target.{Target}
use Rattle.pl_syntax.specs.declared.stmt.Target.TheVariants as target
use Rattle.pl_grammar.specs.declared.terminal.Terminal.{Terminal}
use Rattle.pl_grammar.specs.declared.terminal.Word.TheVariants as w
use Rattle.pl_grammar.specs.declared.terminal.Keyword.{Keyword}
use Rattle.pl_grammar.specs.declared.terminal.Keyword.TheVariants as k
use Rattle.pl_grammar.specs.Words.{Mark, term, Named, named, Use, leaves, use_of, semicolon}
use Rattle.pl_grammar.specs.Derivations.{written, Ex, rows, Args, no_rows, broken, Tgt, entire, indexed, in_braces, Output, to, skip, Outputs, only, beside, Goal, shown, into, spread, Smt, simple, delete, leave, compound}
use Rattle.pl_grammar.specs.Spelling.{ex, tgt, output_words, outputs, smt}
use Rattle.pl_grammar.specs.Trees.{node, name_of, tree, arg_trees, tgt_tree, output_tree, output_trees, goal_tree, goal_mark, leave_tree, closed, owner, opened_mark, stmts, stmt, smt_tree}
use Rattle.pl_grammar.specs.Nesting.{height, args_height, tgt_height, output_height, across, run_of, outputs_height, goal_height, smt_height}
use Rattle.pl_grammar.specs.Sound.{SoundEx, SoundArgs, SoundTgt, SoundOutput, SoundOutputs, is_nothing, deletes, Scene, may, SoundSmt}
use Rattle.pl_printing.specs.Places.{nowhere, moved_kind, moved_layer, but_places_expr, but_places_exprs, but_places_target, moved_what, moved_arm, moved_stmt}
use Rattle.pl_printing.specs.Canonical as canonical
use Rattle.pl_printing.specs.Canonical.{Words, terminal, directly, apart, behind, separated, name_words, Shown, in_brackets, all_shown, expr_words, target_words, nothing_or, assigned, key, of_stmt_kind, of_arm_layer, of_stmt_layer}
use Rattle.pl_printing.specs.ReadingBack.{AreAlike}
use Rattle.pl_printing.proofs.Folds.{at_rows, at_eval, at_assign, at_assign_list, at_delete, at_break, at_continue, at_return}
use Rattle.pl_printing.proofs.Taking.{Read, Taken, take, Noted, note, itself, max_grows, map_snoc}
use Rattle.pl_printing.proofs.Operands.{IsEx}
use Rattle.pl_printing.proofs.ReadLists.{Brackets, bracket_words, IsBrackets, read_brackets, Braces, brace_words, IsBraces, read_braces}
use Rattle.pl_printing.proofs.Expressions.{Claim, printed, printed_args, no_state, tight_open}

abbrev pub but_what : what.StmtKind → what.StmtKind
but_what = fold-StmtKind what.StmtKind Arm Stmt moved_what moved_arm moved_stmt

abbrev pub what_words : what.StmtKind → Words
what_words = fold-StmtKind Words (Keyword → Words) Words of_stmt_kind of_arm_layer of_stmt_layer

-- what a statement is
abbrev pub what_of : Smt → what.StmtKind
what_of (simple g e) = goal_tree g (tree e)
what_of (delete n m a z q o y) = what.Delete (name_of n) (arg_trees a)
what_of (leave word m) = leave_tree word
what_of (compound o b m) = closed (owner o) (stmts b)

abbrev pub place_of : Smt → Place
place_of (simple g e) = (goal_mark g e).place
place_of (delete n m a z q o y) = n.mark.place
place_of (leave word m) = m.place
place_of (compound o b m) = (opened_mark o).place

pub is_stmt : (s : Smt) (v : Bool) → smt_tree s v ≡ stmt (what_of s) (place_of s) v
is_stmt (simple g e) v = refl
is_stmt (delete n m a z q o y) v = refl
is_stmt (leave word m) v = refl
is_stmt (compound o b m) v = refl

pub record IsSmt (t : what.StmtKind) (h : ℕ) (c : Scene) (d : Smt) : Type 0 where
  pub tree_is : but_what (what_of d) ≡ t
  pub sound : SoundSmt c d
  pub low : smt_height d ≤ h

abbrev pub ReadsWhat : what.StmtKind → ℕ → Scene → Type 0
ReadsWhat s h c = (gap : Bool) (us r : List Terminal) → AreAlike us (what_words s gap r) → Read Smt smt (IsSmt (but_what s) h c) us r

-- ---- targets

abbrev is_list : Tgt → Bool
is_list (entire n) = false
is_list (indexed n m a z) = true
is_list (in_braces n m e z) = false

record IsTgt (t : Tgt) (d : Tgt) : Type 0 where
  tree_is : but_places_target (tgt_tree d) ≡ but_places_target (tgt_tree t)
  sound : (row : Bool) → SoundTgt row d
  low : tgt_height d ≤ tgt_height t
  list_is : is_list d ≡ is_list t

whole_same : (a b : List ℕ) → a ≡ b → target.Whole (record { text = a; place = nowhere }) ≡ target.Whole (record { text = b; place = nowhere })
whole_same a b e = ap (λ x. target.Whole (record { text = x; place = nowhere })) e

indexed_same : (a b : List ℕ) (es ts : List Expr) → a ≡ b → es ≡ ts → target.Indexed (record { text = a; place = nowhere }) es ≡ target.Indexed (record { text = b; place = nowhere }) ts
indexed_same a b es ts e f = ap (λ x. target.Indexed (record { text = x; place = nowhere }) es) e ∙ ap (λ x. target.Indexed (record { text = b; place = nowhere }) x) f

braced_same : (a b : List ℕ) (x t : Expr) → a ≡ b → x ≡ t → target.Braced (record { text = a; place = nowhere }) x ≡ target.Braced (record { text = b; place = nowhere }) t
braced_same a b x t e f = ap (λ z. target.Braced (record { text = z; place = nowhere }) x) e ∙ ap (λ z. target.Braced (record { text = b; place = nowhere }) z) f

reads_tgt : (t : Tgt) (row : Bool) → SoundTgt row t → (gap : Bool) (us r : List Terminal) → AreAlike us (target_words (tgt_tree t) gap r) → Read Tgt tgt (IsTgt t) us r
reads_tgt (entire n) row s gap us r a =
    let x : Noted n.text gap us r = note n.text gap us r a in
    record { it = entire x.n; rest = x.rest; spelled = x.spelled; alike = x.alike; is = record { tree_is = whole_same x.n.text n.text x.text_is; sound = λ b. tt; low = omega arith; list_is = refl } }
reads_tgt (indexed n m l z) row s gap us r a =
    let r1 : List Terminal = in_brackets (all_shown (arg_trees l)) r in
    let x : Noted n.text gap us r1 = note n.text gap us r1 a in
    let b : Read Brackets bracket_words (IsBrackets (but_places_exprs (arg_trees l)) (args_height l)) x.rest r = read_brackets (arg_trees l) (args_height l) (printed_args l s.1) x.rest r x.alike in
    record {
      it = indexed x.n b.it.0 b.it.1 b.it.2;
      rest = b.rest;
      spelled = x.spelled ∙ ap (λ v. named x.n ∷ v) b.spelled;
      alike = b.alike;
      is = record { tree_is = indexed_same x.n.text n.text _ _ x.text_is b.is.list.trees_are; sound = λ q. (tight_open q b.it.0.gap b.is.tight, b.is.list.sound); low = omega (arith, b.is.list.low); list_is = refl };
    }
reads_tgt (in_braces n m e z) row s gap us r a =
    let p : Claim e true = printed e false true s in
    let r1 : List Terminal = canonical.in_braces (canonical.shown (tree e)) r in
    let x : Noted n.text gap us r1 = note n.text gap us r1 a in
    let b : Read Braces brace_words (IsBraces (but_places_expr (tree e)) (height e)) x.rest r = read_braces (canonical.shown (tree e)) (but_places_expr (tree e)) _ (height e) _ p.words x.rest r x.alike in
    record {
      it = in_braces x.n b.it.0 b.it.1 b.it.2;
      rest = b.rest;
      spelled = x.spelled ∙ ap (λ v. named x.n ∷ v) b.spelled;
      alike = b.alike;
      is = record { tree_is = braced_same x.n.text n.text _ _ x.text_is b.is.tree_is; sound = λ q. b.is.sound; low = omega (arith, b.is.low); list_is = refl };
    }

-- ---- a value alone, and one that is assigned

pub record IsValue (e : Ex) (d : Ex) : Type 0 where
  pub tree_is : but_places_expr (tree d) ≡ but_places_expr (tree e)
  pub sound : SoundEx false false d
  pub low : height d ≤ height e

pub reads_value : (e : Ex) → SoundEx false false e → (gap : Bool) (us r : List Terminal) → AreAlike us (expr_words (tree e) gap r) → Read Ex ex (IsValue e) us r
reads_value e s gap us r a =
    let p : Claim e false = printed e false false s in
    let x : Read Ex ex (IsEx (but_places_expr (tree e)) gap (canonical.shown (tree e)).bind (height e) (canonical.shown (tree e)).is_nothing false) us r = p.words gap us r a in
    record { it = x.it; rest = x.rest; spelled = x.spelled; alike = x.alike; is = record { tree_is = x.is.tree_is; sound = x.is.sound false; low = x.is.low } }

record IsAssigned (t : Tgt) (e : Ex) (d : Ex) : Type 0 where
  value : IsValue e d
  fits : is_list t ≡ true → is_nothing d ≡ false

other_assigned : (t : Tgt) (e : Ex) → SoundEx false false e → is_list t ≡ false → (us r : List Terminal) → AreAlike us (expr_words (tree e) true r) → Read Ex ex (IsAssigned t e) us r
other_assigned t e s other us r a =
    let x : Read Ex ex (IsValue e) us r = reads_value e s true us r a in
    record { it = x.it; rest = x.rest; spelled = x.spelled; alike = x.alike; is = record { value = x.is; fits = λ is. no_state (sym other ∙ is) } }

-- exactly the two brackets
nothing_is : (d : Ex) → is_nothing d ≡ true → (but_places_expr (tree d) ≡ node (kind.Rows []) nowhere) × (1 ≤ height d)
nothing_is (rows m no_rows z) h = (at_rows kind.ExprKind Expr moved_kind moved_layer [] m.place, omega arith)
nothing_is d h = no_state h

list_assigned : (t : Tgt) (e : Ex) → SoundEx false false e → (us r : List Terminal) → AreAlike us (nothing_or (canonical.shown (tree e)).is_nothing (expr_words (tree e)) r) → Read Ex ex (IsAssigned t e) us r
list_assigned t e s us r = by_test (canonical.shown (tree e)).is_nothing refl
  where
    X : Shown
    X = canonical.shown (tree e)

    by_test : (v : Bool) → X.is_nothing ≡ v → AreAlike us (nothing_or v X.words r) → Read Ex ex (IsAssigned t e) us r
    by_test true g a =
        let us0 : List Terminal = X.words false [] in
        let y : Read Ex ex (IsEx (but_places_expr (tree e)) false X.bind (height e) X.is_nothing false) us0 [] = (printed e false false s).words false us0 [] (itself us0) in
        let z : (but_places_expr (tree y.it) ≡ node (kind.Rows []) nowhere) × (1 ≤ height y.it) = nothing_is y.it (y.is.nothing ∙ g) in
        let o : Taken w.OpenSquare true us (directly w.Semicolon ∷ directly w.CloseSquare ∷ r) = take w.OpenSquare true us (directly w.Semicolon ∷ directly w.CloseSquare ∷ r) a in
        let b : Taken w.Semicolon false o.rest (directly w.CloseSquare ∷ r) = take w.Semicolon false o.rest (directly w.CloseSquare ∷ r) o.alike in
        let c : Taken w.CloseSquare false b.rest r = take w.CloseSquare false b.rest r b.alike in
        record {
          it = rows o.m (broken no_rows (record { kind = semicolon; mark = b.m })) c.m;
          rest = c.rest;
          spelled = o.spelled ∙ ap (λ v. term w.OpenSquare o.m ∷ v) (b.spelled ∙ ap (λ v. term w.Semicolon b.m ∷ v) c.spelled);
          alike = c.alike;
          is = record {
            value = record { tree_is = at_rows kind.ExprKind Expr moved_kind moved_layer [] o.m.place ∙ sym z.0 ∙ y.is.tree_is; sound = (tt, tt); low = omega (arith, z.1, y.is.low) };
            fits = λ is. refl;
          };
        }
    by_test false g a =
        let x : Read Ex ex (IsEx (but_places_expr (tree e)) true X.bind (height e) X.is_nothing false) us r = (printed e false false s).words true us r a in
        record { it = x.it; rest = x.rest; spelled = x.spelled; alike = x.alike; is = record { value = record { tree_is = x.is.tree_is; sound = x.is.sound false; low = x.is.low }; fits = λ is. x.is.nothing ∙ g } }

reads_assigned : (t : Tgt) (e : Ex) → SoundEx false false e → (us r : List Terminal) → AreAlike us (assigned (tgt_tree t) (canonical.shown (tree e)) r) → Read Ex ex (IsAssigned t e) us r
reads_assigned (entire n) e s us r a = other_assigned (entire n) e s refl us r a
reads_assigned (indexed n m l z) e s us r a = list_assigned (indexed n m l z) e s us r a
reads_assigned (in_braces n m x z) e s us r a = other_assigned (in_braces n m x z) e s refl us r a

no_deletion : (d : Tgt) (q : Mark) (e : Ex) → (is_list d ≡ true → is_nothing e ≡ false) → deletes (into d q) e ≡ false
no_deletion (entire n) q e h = refl
no_deletion (indexed n m a z) q e h = h refl
no_deletion (in_braces n m x z) q e h = refl

-- ---- outputs

record IsOutput (t : Output) (d : Output) : Type 0 where
  tree_is : option_map but_places_target (output_tree d) ≡ option_map but_places_target (output_tree t)
  sound : SoundOutput d
  low : output_height d ≤ output_height t

abbrev moved_outputs : List (Option Target) → List (Option Target)
moved_outputs ts = map (option_map but_places_target) ts

abbrev outputs_list : List (Option Target) → Words
outputs_list ts = separated w.Comma (map canonical.output_words ts)

record IsOutputs (t : Outputs) (d : Outputs) : Type 0 where
  trees_are : moved_outputs (output_trees d) ≡ moved_outputs (output_trees t)
  sound : SoundOutputs d
  low : outputs_height d ≤ outputs_height t

reads_output : (o : Output) → SoundOutput o → (gap : Bool) (us r : List Terminal) → AreAlike us (canonical.output_words (output_tree o) gap r) → Read Output output_words (IsOutput o) us r
reads_output (to t) s gap us r a =
    let x : Read Tgt tgt (IsTgt t) us r = reads_tgt t true s gap us r a in
    record { it = to x.it; rest = x.rest; spelled = x.spelled; alike = x.alike; is = record { tree_is = ap (λ v. Some v) x.is.tree_is; sound = x.is.sound true; low = x.is.low } }
reads_output (skip m) s gap us r a =
    let x : Taken w.Not gap us r = take w.Not gap us r a in
    record { it = skip x.m; rest = x.rest; spelled = x.spelled; alike = x.alike; is = record { tree_is = refl; sound = tt; low = omega arith } }

first_output : (os : Outputs) → (z : Option Target) × (zs : List (Option Target)) × (output_trees os ≡ z ∷ zs)
first_output (only o) = (output_tree o, [], refl)
first_output (beside os c o) =
    let f : (z : Option Target) × (zs : List (Option Target)) × (output_trees os ≡ z ∷ zs) = first_output os in
    (f.0, f.1 ++ output_tree o ∷ [], ap (λ l. l ++ output_tree o ∷ []) f.2)

-- elements of any kind, separated by commas, and one more
pub behind_other : {A : Type 0} (f : A → Words) (zs : List A) (y : A) (r : List Terminal) → behind w.Comma (map f (zs ++ y ∷ [])) r ≡ behind w.Comma (map f zs) (directly w.Comma ∷ f y true r)
behind_other f [] y r = refl
behind_other f (z ∷ zs) y r = ap (λ x. directly w.Comma ∷ f z true x) (behind_other f zs y r)

pub another : {A : Type 0} (f : A → Words) (l : List A) (z : A) (zs : List A) (y : A) (gap : Bool) (r : List Terminal) → l ≡ z ∷ zs → separated w.Comma (map f (l ++ y ∷ [])) gap r ≡ separated w.Comma (map f l) gap (directly w.Comma ∷ f y true r)
another f l z zs y gap r e = subst (λ x. separated w.Comma (map f (x ++ y ∷ [])) gap r ≡ separated w.Comma (map f x) gap (directly w.Comma ∷ f y true r)) (sym e) (ap (f z gap) (behind_other f zs y r))

reads_outputs : (os : Outputs) → SoundOutputs os → (gap : Bool) (us r : List Terminal) → AreAlike us (outputs_list (output_trees os) gap r) → Read Outputs outputs (IsOutputs os) us r
reads_outputs (only o) s gap us r a =
    let x : Read Output output_words (IsOutput o) us r = reads_output o s gap us r a in
    record { it = only x.it; rest = x.rest; spelled = x.spelled; alike = x.alike; is = record { trees_are = ap (λ v. v ∷ []) x.is.tree_is; sound = x.is.sound; low = x.is.low } }
reads_outputs (beside os c o) s gap us r a =
    let r1 : List Terminal = canonical.output_words (output_tree o) true r in
    let q : (z : Option Target) × (zs : List (Option Target)) × (output_trees os ≡ z ∷ zs) = first_output os in
    let x : Read Outputs outputs (IsOutputs os) us (directly w.Comma ∷ r1) = reads_outputs os s.0 gap us (directly w.Comma ∷ r1) (subst (AreAlike us) (another canonical.output_words (output_trees os) q.0 q.1 (output_tree o) gap r q.2) a) in
    let k : Taken w.Comma false x.rest r1 = take w.Comma false x.rest r1 x.alike in
    let y : Read Output output_words (IsOutput o) k.rest r = reads_output o s.2 true k.rest r k.alike in
    record {
      it = beside x.it (written k.m) y.it;
      rest = y.rest;
      spelled = x.spelled ∙ ap (outputs x.it) (k.spelled ∙ ap (λ v. term w.Comma k.m ∷ v) y.spelled);
      alike = y.alike;
      is = record {
        trees_are = map_snoc (option_map but_places_target) (output_trees x.it) (output_tree y.it) ∙ ap (λ v. v ++ option_map but_places_target (output_tree y.it) ∷ []) x.is.trees_are ∙ ap (λ v. moved_outputs (output_trees os) ++ v ∷ []) y.is.tree_is ∙ sym (map_snoc (option_map but_places_target) (output_trees os) (output_tree o));
        sound = (x.is.sound, tt, y.is.sound);
        low = max_grows (outputs_height x.it) (0 + output_height y.it) (outputs_height os) (across c (run_of os) + output_height o) x.is.low (omega (arith, y.is.low));
      };
    }

-- ---- simple statements

pub reads_simple : (g : Goal) (e : Ex) (c : Scene) → SoundSmt c (simple g e) → ReadsWhat (goal_tree g (tree e)) (suc (max (goal_height g) (height e))) c
reads_simple shown e c s gap us r a =
    let x : Read Ex ex (IsValue e) us r = reads_value e s.1 gap us r (subst (λ (v : Words). AreAlike us (v gap r)) (at_eval Words (Keyword → Words) Words of_stmt_kind of_arm_layer of_stmt_layer (tree e)) a) in
    record {
      it = simple shown x.it;
      rest = x.rest;
      spelled = x.spelled;
      alike = x.alike;
      is = record {
        tree_is = at_eval what.StmtKind Arm Stmt moved_what moved_arm moved_stmt (tree x.it) ∙ ap (λ v. what.Eval v) x.is.tree_is ∙ sym (at_eval what.StmtKind Arm Stmt moved_what moved_arm moved_stmt (tree e));
        sound = (tt, x.is.sound, refl);
        low = omega (arith, max_grows 0 (height x.it) 0 (height e) (omega arith) x.is.low);
      };
    }
reads_simple (into t q) e c s gap us r a =
    let r1 : List Terminal = assigned (tgt_tree t) (canonical.shown (tree e)) r in
    let x : Read Tgt tgt (IsTgt t) us (apart w.Equal ∷ r1) = reads_tgt t false s.0 gap us (apart w.Equal ∷ r1) (subst (λ (v : Words). AreAlike us (v gap r)) (at_assign Words (Keyword → Words) Words of_stmt_kind of_arm_layer of_stmt_layer (tgt_tree t) (tree e)) a) in
    let k : Taken w.Equal true x.rest r1 = take w.Equal true x.rest r1 x.alike in
    let y : Read Ex ex (IsAssigned t e) k.rest r = reads_assigned t e s.1 k.rest r k.alike in
    record {
      it = simple (into x.it k.m) y.it;
      rest = y.rest;
      spelled = x.spelled ∙ ap (tgt x.it) (k.spelled ∙ ap (λ v. term w.Equal k.m ∷ v) y.spelled);
      alike = y.alike;
      is = record {
        tree_is = at_assign what.StmtKind Arm Stmt moved_what moved_arm moved_stmt (tgt_tree x.it) (tree y.it) ∙ ap (λ v. what.Assign v (but_places_expr (tree y.it))) x.is.tree_is ∙ ap (λ v. what.Assign (but_places_target (tgt_tree t)) v) y.is.value.tree_is ∙ sym (at_assign what.StmtKind Arm Stmt moved_what moved_arm moved_stmt (tgt_tree t) (tree e));
        sound = (x.is.sound false, y.is.value.sound, no_deletion x.it k.m y.it (λ h. y.is.fits (sym x.is.list_is ∙ h)));
        low = omega (arith, max_grows (tgt_height x.it) (height y.it) (tgt_height t) (height e) x.is.low y.is.value.low);
      };
    }
reads_simple (spread m os z q) e c s gap us r a =
    let r2 : List Terminal = expr_words (tree e) true r in
    let r1 : List Terminal = directly w.CloseSquare ∷ apart w.Equal ∷ r2 in
    let o : Taken w.OpenSquare gap us (outputs_list (output_trees os) false r1) = take w.OpenSquare gap us (outputs_list (output_trees os) false r1) (subst (λ (v : Words). AreAlike us (v gap r)) (at_assign_list Words (Keyword → Words) Words of_stmt_kind of_arm_layer of_stmt_layer (output_trees os) (tree e)) a) in
    let x : Read Outputs outputs (IsOutputs os) o.rest r1 = reads_outputs os s.0 false o.rest r1 o.alike in
    let b : Taken w.CloseSquare false x.rest (apart w.Equal ∷ r2) = take w.CloseSquare false x.rest (apart w.Equal ∷ r2) x.alike in
    let k : Taken w.Equal true b.rest r2 = take w.Equal true b.rest r2 b.alike in
    let y : Read Ex ex (IsValue e) k.rest r = reads_value e s.1 true k.rest r k.alike in
    record {
      it = simple (spread o.m x.it b.m k.m) y.it;
      rest = y.rest;
      spelled = o.spelled ∙ ap (λ v. term w.OpenSquare o.m ∷ v) (x.spelled ∙ ap (outputs x.it) (b.spelled ∙ ap (λ v. term w.CloseSquare b.m ∷ v) (k.spelled ∙ ap (λ v. term w.Equal k.m ∷ v) y.spelled)));
      alike = y.alike;
      is = record {
        tree_is = at_assign_list what.StmtKind Arm Stmt moved_what moved_arm moved_stmt (output_trees x.it) (tree y.it) ∙ ap (λ v. what.AssignList v (but_places_expr (tree y.it))) x.is.trees_are ∙ ap (λ v. what.AssignList (moved_outputs (output_trees os)) v) y.is.tree_is ∙ sym (at_assign_list what.StmtKind Arm Stmt moved_what moved_arm moved_stmt (output_trees os) (tree e));
        sound = (x.is.sound, y.is.sound, refl);
        low = omega (arith, max_grows (suc (outputs_height x.it)) (height y.it) (suc (outputs_height os)) (height e) (omega (arith, x.is.low)) y.is.low);
      };
    }

delete_same : (a b : List ℕ) (es ts : List Expr) → a ≡ b → es ≡ ts → what.Delete (record { text = a; place = nowhere }) es ≡ what.Delete (record { text = b; place = nowhere }) ts
delete_same a b es ts e f = ap (λ x. what.Delete (record { text = x; place = nowhere }) es) e ∙ ap (λ x. what.Delete (record { text = b; place = nowhere }) x) f

pub reads_delete : (n : Named) (l : Args) (c : Scene) → SoundArgs l → ReadsWhat (what.Delete (name_of n) (arg_trees l)) (suc (suc (args_height l))) c
reads_delete n l c s gap us r a =
    let r2 : List Terminal = apart w.Equal ∷ apart w.OpenSquare ∷ directly w.CloseSquare ∷ r in
    let r1 : List Terminal = in_brackets (all_shown (arg_trees l)) r2 in
    let x : Noted n.text gap us r1 = note n.text gap us r1 (subst (λ (v : Words). AreAlike us (v gap r)) (at_delete Words (Keyword → Words) Words of_stmt_kind of_arm_layer of_stmt_layer (name_of n) (arg_trees l)) a) in
    let b : Read Brackets bracket_words (IsBrackets (but_places_exprs (arg_trees l)) (args_height l)) x.rest r2 = read_brackets (arg_trees l) (args_height l) (printed_args l s) x.rest r2 x.alike in
    let q : Taken w.Equal true b.rest (apart w.OpenSquare ∷ directly w.CloseSquare ∷ r) = take w.Equal true b.rest (apart w.OpenSquare ∷ directly w.CloseSquare ∷ r) b.alike in
    let o : Taken w.OpenSquare true q.rest (directly w.CloseSquare ∷ r) = take w.OpenSquare true q.rest (directly w.CloseSquare ∷ r) q.alike in
    let y : Taken w.CloseSquare false o.rest r = take w.CloseSquare false o.rest r o.alike in
    record {
      it = delete x.n b.it.0 b.it.1 b.it.2 q.m o.m y.m;
      rest = y.rest;
      spelled = x.spelled ∙ ap (λ v. named x.n ∷ v) (b.spelled ∙ ap (bracket_words b.it) (q.spelled ∙ ap (λ v. term w.Equal q.m ∷ v) (o.spelled ∙ ap (λ v. term w.OpenSquare o.m ∷ v) y.spelled)));
      alike = y.alike;
      is = record {
        tree_is = at_delete what.StmtKind Arm Stmt moved_what moved_arm moved_stmt (name_of x.n) (arg_trees b.it.1) ∙ delete_same x.n.text n.text _ (but_places_exprs (arg_trees l)) x.text_is b.is.list.trees_are ∙ sym (at_delete what.StmtKind Arm Stmt moved_what moved_arm moved_stmt (name_of n) (arg_trees l));
        sound = b.is.list.sound;
        low = omega (arith, b.is.list.low);
      };
    }

-- ---- `break`, `continue`, `return`

left_by : (word : Keyword) (c : Scene) → use_of word ≡ leaves → may c word ≡ true → ((gap : Bool) (r : List Terminal) → what_words (leave_tree word) gap r ≡ key gap word ∷ r) → ReadsWhat (leave_tree word) 1 c
left_by word c u m is gap us r a =
    let x : Taken (w.Key word) gap us r = take (w.Key word) gap us r (subst (AreAlike us) (is gap r) a) in
    record { it = leave word x.m; rest = x.rest; spelled = x.spelled; alike = x.alike; is = record { tree_is = refl; sound = (u, m); low = omega arith } }

wrong_use : {A : Type 0} (u v : Use) → (u ≡ v → ⊥) → u ≡ v → A
wrong_use u v differ h = elim (differ h) [ ]

pub reads_leave : (word : Keyword) (c : Scene) → use_of word ≡ leaves → may c word ≡ true → ReadsWhat (leave_tree word) 1 c
reads_leave k.Break c u m = left_by k.Break c u m (λ gap r. ap (λ (v : Words). v gap r) (at_break Words (Keyword → Words) Words of_stmt_kind of_arm_layer of_stmt_layer))
reads_leave k.Continue c u m = left_by k.Continue c u m (λ gap r. ap (λ (v : Words). v gap r) (at_continue Words (Keyword → Words) Words of_stmt_kind of_arm_layer of_stmt_layer))
reads_leave k.Return c u m = left_by k.Return c u m (λ gap r. ap (λ (v : Words). v gap r) (at_return Words (Keyword → Words) Words of_stmt_kind of_arm_layer of_stmt_layer))
reads_leave word c u m = wrong_use (use_of word) leaves (λ h. cc) u
