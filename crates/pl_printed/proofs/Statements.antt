-- Each statement and each block of a source can be laid out.
use Rattle.std.proofs.Common.{Bool, true, false, List, [], ◌∷◌, ◌++◌, map, sym, subst}
use Rattle.pl_syntax.specs.declared.expr.Name.{Name}
use Rattle.pl_syntax.specs.declared.expr.Expr.{Expr}
use Rattle.pl_syntax.specs.declared.stmt.Stmt.{Stmt}
use Rattle.pl_syntax.specs.declared.stmt.StmtKind as what
use Rattle.pl_grammar.specs.declared.owner.Owner.{Owner}
use Rattle.pl_grammar.specs.declared.terminal.Terminal.{Terminal}
use Rattle.pl_grammar.specs.declared.terminal.Word.TheVariants as w
use Rattle.pl_grammar.specs.declared.terminal.Keyword.{Keyword}
use Rattle.pl_grammar.specs.declared.terminal.Keyword.TheVariants as k
use Rattle.pl_grammar.specs.Words.{term}
use Rattle.pl_grammar.specs.Derivations.{Tgt, entire, indexed, in_braces, Output, to, skip, Outputs, only, beside, Goal, shown, into, spread, test, each, each_in, bound, workers, Heading, upto, shut, no_value, Part, headed, unheaded, Smt, simple, delete, leave, compound, Block, empty, blank, statement, Opened, first, next}
use Rattle.pl_grammar.specs.Spelling.{sep, comma_words, ex, tgt, output_words, outputs, heading, part, smt, block, opened}
use Rattle.pl_grammar.specs.Trees.{name_of, tree, tgt_tree, output_tree, output_trees, arg_trees, leave_tree, for_owner, test_owner, heading_owner, begun, with_part, shows, smt_tree, stmts, owner}
use Rattle.pl_grammar.specs.Sound.{SoundEx, SoundTgt, SoundOutput, SoundOutputs, SoundHeading, SoundPart, Scene, inside, opened_word, SoundSmt, SoundBlock, SoundOpened}
use Rattle.pl_lex.specs.Tokens.{IsName}
use Rattle.pl_printing.specs.Canonical as canonical
use Rattle.pl_printing.specs.Canonical.{Words, ending, of_stmt_kind, of_arm_layer, of_stmt_layer, stmt_words}
use Rattle.pl_printing.proofs.Folds.{at_eval, at_assign, at_assign_list, at_delete, at_break, at_continue, at_return}
use Rattle.pl_printing.proofs.Simple.{what_words, what_of}
use Rattle.pl_printing.proofs.Statements.{words_of_stmt}
use Rattle.pl_printing.proofs.Taking.{map_snoc}
use Rattle.pl_printed.proofs.Nodes.{Good}
use Rattle.pl_printed.proofs.Words.{AreWords}
use Rattle.pl_printed.proofs.Expressions.{GoodEx, comma_rest, good, good_args}
use Rattle.pl_printed.proofs.Lines.{Begins, Holds, Stands, AllStand, ends}
use Rattle.pl_printed.proofs.Simple.{TargetGoes, OutputGoes, OutputsGo, eval_holds, assign_holds, spread_holds, delete_holds, break_holds, continue_holds, return_holds}
use Rattle.pl_printed.proofs.Compound.{StmtsGo, OwnerGoes, value_owner, none_owner, made, closed_holds}

-- a value outside of indices
good_value : (e : _) (rest : List Terminal) → SoundEx false false e → AreWords (ex e rest) → GoodEx false (tree e) rest
good_value e rest s a = good e false false rest s a

-- ---- targets and outputs

good_tgt : (t : Tgt) (row : Bool) (rest : List Terminal) → SoundTgt row t → AreWords (tgt t rest) → TargetGoes (tgt_tree t) × AreWords rest
good_tgt (entire n) row rest s a = (a.0, a.1)
good_tgt (indexed n m l z) row rest s a = let x = good_args l (term w.Close z ∷ rest) s.1 a.1.1 in ((a.0, x.0), x.1.1)
good_tgt (in_braces n m e z) row rest s a = let x = good e false true (term w.CloseBrace z ∷ rest) s a.1.1 in ((a.0, x.0), x.1.1)

good_output : (o : Output) (rest : List Terminal) → SoundOutput o → AreWords (output_words o rest) → OutputGoes (output_tree o) × AreWords rest
good_output (to t) rest s a = good_tgt t true rest s a
good_output (skip m) rest s a = (tt, a.1)

outputs_snoc : (os : List _) (o : _) → OutputsGo os → OutputGoes o → OutputsGo (os ++ o ∷ [])
outputs_snoc [] o h k = (k, tt)
outputs_snoc (p ∷ os) o h k = (h.0, outputs_snoc os o h.1 k)

good_outputs : (os : Outputs) (rest : List Terminal) → SoundOutputs os → AreWords (outputs os rest) → OutputsGo (output_trees os) × AreWords rest
good_outputs (only o) rest s a = let x = good_output o rest s a in ((x.0, tt), x.1)
good_outputs (beside os c o) rest s a =
    let x = good_outputs os (comma_words c (output_words o rest)) s.0 a in
    let y = good_output o rest s.2 (comma_rest c (output_words o rest) x.1) in
    (outputs_snoc (output_trees os) (output_tree o) x.0 y.0, y.1)

-- ---- simple statements

-- a statement can be laid out, and the words behind it can be written
abbrev GoodWhat : what.StmtKind → List Terminal → Type 0
GoodWhat s rest = Holds (what_words s) × AreWords rest

good_simple : (g : Goal) (e : _) (c : Scene) (rest : List Terminal) → SoundSmt c (simple g e) → AreWords (smt (simple g e) rest) → GoodWhat (what_of (simple g e)) rest
good_simple shown e c rest s a =
    let x = good_value e rest s.1 a in
    (made _ _ (at_eval Words (Keyword → Words) Words of_stmt_kind of_arm_layer of_stmt_layer (tree e)) (eval_holds (tree e) x.0), x.1)
good_simple (into t q) e c rest s a =
    let y = good_tgt t false (term w.Equal q ∷ ex e rest) s.0 a in
    let x = good_value e rest s.1 y.1.1 in
    (made _ _ (at_assign Words (Keyword → Words) Words of_stmt_kind of_arm_layer of_stmt_layer (tgt_tree t) (tree e)) (assign_holds (tgt_tree t) (tree e) y.0 x.0), x.1)
good_simple (spread m os z q) e c rest s a =
    let y = good_outputs os (term w.CloseSquare z ∷ term w.Equal q ∷ ex e rest) s.0 a.1 in
    let x = good_value e rest s.1 y.1.1.1 in
    (made _ _ (at_assign_list Words (Keyword → Words) Words of_stmt_kind of_arm_layer of_stmt_layer (output_trees os) (tree e)) (spread_holds (output_trees os) (tree e) y.0 x.0), x.1)

leave_holds : (word : Keyword) → Holds (what_words (leave_tree word))
leave_holds k.Continue = made _ _ (at_continue Words (Keyword → Words) Words of_stmt_kind of_arm_layer of_stmt_layer) continue_holds
leave_holds k.Return = made _ _ (at_return Words (Keyword → Words) Words of_stmt_kind of_arm_layer of_stmt_layer) return_holds
leave_holds word = made _ _ (at_break Words (Keyword → Words) Words of_stmt_kind of_arm_layer of_stmt_layer) break_holds

-- ---- parts of compound statements

test_goes : (word : Keyword) (e : Expr) → Good false (canonical.shown e) → OwnerGoes (test_owner word e)
test_goes k.While e h = h
test_goes k.Switch e h = h
test_goes word e h = (tt, h)

for_goes : (word : Keyword) (n : Name) (e : Expr) → IsName n.text → Good false (canonical.shown e) → OwnerGoes (for_owner word n e)
for_goes k.Parfor n e i h = (i, h, tt)
for_goes word n e i h = (i, h)

-- what a heading begins, and the value that it has
abbrev GoodHeading : Heading → List Terminal → Type 0
GoodHeading h rest = OwnerGoes (heading_owner h) × AreWords rest

good_heading : (h : Heading) (rest : List Terminal) → SoundHeading h → AreWords (heading h rest) → GoodHeading h rest
good_heading (upto (test word m) e) rest s a = let x = good_value e rest s.1 a.1 in (test_goes word (tree e) x.0, x.1)
good_heading (upto (each word m n q) e) rest s a = let x = good_value e rest s.1 a.1.1.1 in (for_goes word (name_of n) (tree e) a.1.0 x.0, x.1)
good_heading (shut (each_in word m o n q) e z) rest s a = let x = good_value e (term w.Close z ∷ rest) s.1 a.1.1.1.1 in (for_goes word (name_of n) (tree e) a.1.1.0 x.0, x.1.1)
good_heading (shut (bound m o n q e c) f z) rest s a =
    let x = good_value e (term w.Comma c ∷ ex f (term w.Close z ∷ rest)) s.0 a.1.1.1.1 in
    let y = good_value f (term w.Close z ∷ rest) s.1 x.1.1 in
    ((a.1.1.0, x.0, y.0), y.1.1)
good_heading (shut (workers m o) e z) rest s a = let x = good_value e (term w.Close z ∷ rest) s.1 a.1.1 in (x.0, x.1.1)
good_heading (no_value word m) rest s a = (tt, a.1)

good_first : (p : Part) (rest : List Terminal) → SoundPart p → AreWords (part p rest) → OwnerGoes (begun p) × AreWords rest
good_first (headed h e) rest s a = let x = good_heading h (sep e rest) s a in (x.0, x.1.1)
good_first (unheaded word m) rest s a = (tt, a.1)

good_next : (o : Owner) (ss : List Stmt) (p : Part) (rest : List Terminal) → OwnerGoes o → StmtsGo ss → SoundPart p → AreWords (part p rest) → OwnerGoes (with_part o ss p) × AreWords rest
good_next o ss (headed (upto (test word m) e) z) rest h g s a = let x = good_value e (sep z rest) s.1 a.1 in (value_owner o ss (tree e) h g x.0, x.1.1)
good_next o ss (headed (upto (each word m n q) e) z) rest h g s a = let x = good_value e (sep z rest) s.1 a.1.1.1 in (value_owner o ss (tree e) h g x.0, x.1.1)
good_next o ss (headed (shut i e c) z) rest h g s a = let x = good_heading (shut i e c) (sep z rest) s a in (h, x.1.1)
good_next o ss (headed (no_value word m) z) rest h g s a = (g, a.1.1)
good_next o ss (unheaded word m) rest h g s a = (none_owner o ss h g, a.1)

-- ---- statements and blocks

stmt_stands : (s : Smt) (v : Bool) → Holds (what_words (what_of s)) → Stands (stmt_words (smt_tree s v))
stmt_stands s v h d gap rest g b = subst (Begins d) (sym (words_of_stmt s v gap rest)) (h d gap (ending v rest) g (ends v d rest b))

stands_snoc : (xs : List Words) (x : Words) → AllStand xs → Stands x → AllStand (xs ++ x ∷ [])
stands_snoc [] x h k = (k, tt)
stands_snoc (y ∷ xs) x h k = (h.0, stands_snoc xs x h.1 k)

stmts_snoc : (ss : List Stmt) (s : Stmt) → StmtsGo ss → Stands (stmt_words s) → StmtsGo (ss ++ s ∷ [])
stmts_snoc ss s h k = subst AllStand (sym (map_snoc stmt_words ss s)) (stands_snoc (map stmt_words ss) (stmt_words s) h k)

mutual
  pub good_smt : (s : Smt) (c : Scene) (rest : List Terminal) → SoundSmt c s → AreWords (smt s rest) → GoodWhat (what_of s) rest
  good_smt (simple g e) c rest s a = good_simple g e c rest s a
  good_smt (delete n m l z q o y) c rest s a =
      let x = good_args l (term w.Close z ∷ term w.Equal q ∷ term w.OpenSquare o ∷ term w.CloseSquare y ∷ rest) s a.1.1 in
      (made _ _ (at_delete Words (Keyword → Words) Words of_stmt_kind of_arm_layer of_stmt_layer (name_of n) (arg_trees l)) (delete_holds (name_of n) (arg_trees l) a.0 x.0), x.1.1.1.1.1)
  good_smt (leave word m) c rest s a = (leave_holds word, a.1)
  good_smt (compound o b m) c rest s a =
      let x = good_opened o c (block b (term (w.Key k.End) m ∷ rest)) s.0 a in
      let y = good_block b (inside (opened_word o) c) (term (w.Key k.End) m ∷ rest) s.1 x.1 in
      (closed_holds (owner o) (stmts b) x.0 y.0, y.1.1)

  pub good_block : (b : Block) (c : Scene) (rest : List Terminal) → SoundBlock c b → AreWords (block b rest) → StmtsGo (stmts b) × AreWords rest
  good_block empty c rest s a = (tt, a)
  good_block (blank b e) c rest s a = let x = good_block b c (sep e rest) s a in (x.0, x.1.1)
  good_block (statement b t e) c rest s a =
      let x = good_block b c (smt t (sep e rest)) s.0 a in
      let y = good_smt t c (sep e rest) s.2 x.1 in
      (stmts_snoc (stmts b) (smt_tree t (shows e.kind)) x.0 (stmt_stands t (shows e.kind) y.0), y.1.1)

  good_opened : (o : Opened) (c : Scene) (rest : List Terminal) → SoundOpened c o → AreWords (opened o rest) → OwnerGoes (owner o) × AreWords rest
  good_opened (first p) c rest s a = good_first p rest s.2 a
  good_opened (next o b p) c rest s a =
      let x = good_opened o c (block b (part p rest)) s.0 a in
      let y = good_block b (inside (opened_word o) c) (part p rest) s.1 x.1 in
      good_next (owner o) (stmts b) p rest x.0 y.0 s.3 y.1

pub good_line : (s : Smt) (v : Bool) (ss : List Stmt) → StmtsGo ss → Holds (what_words (what_of s)) → StmtsGo (ss ++ smt_tree s v ∷ [])
good_line s v ss h k = stmts_snoc ss (smt_tree s v) h (stmt_stands s v k)
