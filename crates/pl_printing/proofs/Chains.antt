-- How the parts of a compound statement go on: their keywords, their spelling, and the last of them where its block is empty.
use Rattle.std.proofs.Common.{◌≡◌, ◌∙◌, Bool, true, false, List, [], ◌∷◌, ◌++◌, refl, ap, sym, subst}
use Rattle.pl_syntax.specs.declared.expr.Expr.{Expr}
use Rattle.pl_syntax.specs.declared.stmt.Stmt.{Stmt}
use Rattle.pl_syntax.specs.declared.stmt.Arm.{Arm}
use Rattle.pl_grammar.specs.declared.owner.Owner.{Owner}
use Rattle.pl_grammar.specs.declared.owner.Owner.TheVariants as own
use Rattle.pl_grammar.specs.declared.terminal.Terminal.{Terminal}
use Rattle.pl_grammar.specs.declared.terminal.Keyword.{Keyword}
use Rattle.pl_grammar.specs.declared.terminal.Keyword.TheVariants as k
use Rattle.pl_grammar.specs.Words.{tests, loops, direct, plain, use_of, is_link, follows, Mark, Sep}
use Rattle.pl_grammar.specs.Derivations.{test, each, each_in, bound, workers, upto, shut, no_value, Part, headed, unheaded, Block, empty, blank, statement, Opened, first, next, Ex}
use Rattle.pl_grammar.specs.Trees.{tree, arm, begun, with_part, closed, stmts, owner}
use Rattle.pl_grammar.specs.Sound.{Scene, inside, SoundPart, part_word, opened_word, SoundBlock, SoundOpened}
use Rattle.pl_printing.proofs.Expressions.{no_state}
use Rattle.pl_printing.proofs.Owners.{stmts_lines, owner_word, owner_words, elseif_word, elseif_words, else_words, case_words, otherwise_words, drops, IsApart}
use Rattle.pl_printing.proofs.Parts.{part_words, wrong}

-- ---- the first part

pub record Begins (p : Part) : Type 0 where
  pub word_is : owner_word (begun p) ≡ part_word p
  pub words_are : (gap : Bool) (r : List Terminal) → part_words p gap r ≡ owner_words (begun p) gap r

pub begins : (p : Part) → is_link (part_word p) ≡ false → SoundPart p → Begins p
begins (headed (upto (test k.If m) e) s) h g = record { word_is = refl; words_are = λ gap r. refl }
begins (headed (upto (test k.While m) e) s) h g = record { word_is = refl; words_are = λ gap r. refl }
begins (headed (upto (test k.Switch m) e) s) h g = record { word_is = refl; words_are = λ gap r. refl }
begins (headed (upto (test k.Elseif m) e) s) h g = no_state (sym h)
begins (headed (upto (test k.Case m) e) s) h g = no_state (sym h)
begins (headed (upto (test word m) e) s) h g = wrong (use_of word) tests (λ x. cc) g.0
begins (headed (upto (each k.For m n q) e) s) h g = record { word_is = refl; words_are = λ gap r. refl }
begins (headed (upto (each k.Parfor m n q) e) s) h g = record { word_is = refl; words_are = λ gap r. refl }
begins (headed (upto (each word m n q) e) s) h g = wrong (use_of word) loops (λ x. cc) g.0
begins (headed (shut (each_in k.For m o n q) e z) s) h g = record { word_is = refl; words_are = λ gap r. refl }
begins (headed (shut (each_in k.Parfor m o n q) e z) s) h g = record { word_is = refl; words_are = λ gap r. refl }
begins (headed (shut (each_in word m o n q) e z) s) h g = wrong (use_of word) loops (λ x. cc) g.0
begins (headed (shut (bound m o n q e c) f z) s) h g = record { word_is = refl; words_are = λ gap r. refl }
begins (headed (shut (workers m o) e z) s) h g = record { word_is = refl; words_are = λ gap r. refl }
begins (headed (no_value k.Spmd m) s) h g = record { word_is = refl; words_are = λ gap r. refl }
begins (headed (no_value k.Catch m) s) h g = no_state (sym h)
begins (headed (no_value word m) s) h g = wrong (use_of word) plain (λ x. cc) g
begins (unheaded k.Try m) h g = record { word_is = refl; words_are = λ gap r. refl }
begins (unheaded k.Else m) h g = no_state (sym h)
begins (unheaded k.Otherwise m) h g = no_state (sym h)
begins (unheaded word m) h g = wrong (use_of word) direct (λ x. cc) g

-- ---- a further part

-- without the part, whose block is empty, the statement is the same
abbrev Without : Owner → List Stmt → Owner → List Stmt → Type 0
Without o ss more ts = (closed more ts ≡ closed o ss) × (drops o ss ≡ false)

pub record Next (o : Owner) (ss : List Stmt) (p : Part) : Type 0 where
  pub word_is : owner_word (with_part o ss p) ≡ part_word p
  pub words_are : (gap : Bool) (r : List Terminal) → owner_words o gap (stmts_lines ss (part_words p gap r)) ≡ owner_words (with_part o ss p) gap r
  pub dropping : (ts : List Stmt) → drops (with_part o ss p) ts ≡ true → (closed (with_part o ss p) ts ≡ closed o ss) × (drops o ss ≡ false)

else_drops : (arms : List Arm) (t : Expr) (ss ts : List Stmt) → drops (own.Else (arms ++ arm t ss ∷ [])) ts ≡ true → Without (own.If arms t) ss (own.Else (arms ++ arm t ss ∷ [])) ts
else_drops arms t ss [] h = (refl, refl)
else_drops arms t ss (x ∷ ts) h = no_state h

otherwise_drops : (v : Expr) (arms : List Arm) (t : Expr) (ss ts : List Stmt) → drops (own.Otherwise v (arms ++ arm t ss ∷ [])) ts ≡ true → Without (own.Case v arms t) ss (own.Otherwise v (arms ++ arm t ss ∷ [])) ts
otherwise_drops v arms t ss [] h = (refl, refl)
otherwise_drops v arms t ss (x ∷ ts) h = no_state h

alone_drops : (v : Expr) (ss ts : List Stmt) → drops (own.Otherwise v []) ts ≡ true → Without (own.Switch v) ss (own.Otherwise v []) ts
alone_drops v ss [] h = (refl, refl)
alone_drops v ss (x ∷ ts) h = no_state h

catch_drops : (ss ts : List Stmt) → drops (own.Catch ss) ts ≡ true → Without own.Try ss (own.Catch ss) ts
catch_drops ss [] h = (refl, refl)
catch_drops ss (x ∷ ts) h = no_state h

elseif_next : (o : Owner) (ss : List Stmt) (m : Mark) (e : Ex) (s : Sep) → follows (owner_word o) k.Elseif ≡ true → Next o ss (headed (upto (test k.Elseif m) e) s)
elseif_next (own.If arms t) ss m e s h = record { word_is = elseif_word arms (arm t ss) (tree e); words_are = elseif_words arms t ss (tree e); dropping = λ ts g. no_state g }
elseif_next o ss m e s h = no_state h

case_next : (o : Owner) (ss : List Stmt) (m : Mark) (e : Ex) (s : Sep) → IsApart o ss → follows (owner_word o) k.Case ≡ true → Next o ss (headed (upto (test k.Case m) e) s)
case_next (own.Switch v) ss m e s a h = record { word_is = refl; words_are = λ gap r. ap (λ x. owner_words (own.Switch v) gap (stmts_lines x (part_words (headed (upto (test k.Case m) e) s) gap r))) a; dropping = λ ts g. no_state g }
case_next (own.Case v arms t) ss m e s a h = record { word_is = refl; words_are = case_words v arms t ss (tree e); dropping = λ ts g. no_state g }
case_next (own.If [] t) ss m e s a h = no_state h
case_next (own.If (x ∷ arms) t) ss m e s a h = no_state h
case_next o ss m e s a h = no_state h

else_next : (o : Owner) (ss : List Stmt) (m : Mark) → follows (owner_word o) k.Else ≡ true → Next o ss (unheaded k.Else m)
else_next (own.If arms t) ss m h = record { word_is = refl; words_are = else_words arms t ss; dropping = else_drops arms t ss }
else_next o ss m h = no_state h

otherwise_next : (o : Owner) (ss : List Stmt) (m : Mark) → IsApart o ss → follows (owner_word o) k.Otherwise ≡ true → Next o ss (unheaded k.Otherwise m)
otherwise_next (own.Switch v) ss m a h = record { word_is = refl; words_are = λ gap r. ap (λ x. owner_words (own.Switch v) gap (stmts_lines x (part_words (unheaded k.Otherwise m) gap r))) a; dropping = alone_drops v ss }
otherwise_next (own.Case v arms t) ss m a h = record { word_is = refl; words_are = otherwise_words v arms t ss; dropping = otherwise_drops v arms t ss }
otherwise_next (own.If [] t) ss m a h = no_state h
otherwise_next (own.If (x ∷ arms) t) ss m a h = no_state h
otherwise_next o ss m a h = no_state h

catch_next : (o : Owner) (ss : List Stmt) (m : Mark) (s : Sep) → follows (owner_word o) k.Catch ≡ true → Next o ss (headed (no_value k.Catch m) s)
catch_next own.Try ss m s h = record { word_is = refl; words_are = λ gap r. refl; dropping = catch_drops ss }
catch_next (own.If [] t) ss m s h = no_state h
catch_next (own.If (x ∷ arms) t) ss m s h = no_state h
catch_next o ss m s h = no_state h

no_loop : {A : Type 0} (before word : Keyword) → use_of word ≡ loops → follows before word ≡ true → A
no_loop before k.Elseif u h = wrong tests loops (λ e. cc) u
no_loop before k.Else u h = wrong direct loops (λ e. cc) u
no_loop before k.Case u h = wrong tests loops (λ e. cc) u
no_loop before k.Otherwise u h = wrong direct loops (λ e. cc) u
no_loop before k.Catch u h = wrong plain loops (λ e. cc) u
no_loop before word u h = no_state h

pub goes_on : (o : Owner) (ss : List Stmt) (p : Part) → IsApart o ss → follows (owner_word o) (part_word p) ≡ true → SoundPart p → Next o ss p
goes_on o ss (headed (upto (test k.Elseif m) e) s) a h g = elseif_next o ss m e s h
goes_on o ss (headed (upto (test k.Case m) e) s) a h g = case_next o ss m e s a h
goes_on o ss (headed (upto (test k.Else m) e) s) a h g = wrong direct tests (λ x. cc) g.0
goes_on o ss (headed (upto (test k.Otherwise m) e) s) a h g = wrong direct tests (λ x. cc) g.0
goes_on o ss (headed (upto (test k.Catch m) e) s) a h g = wrong plain tests (λ x. cc) g.0
goes_on o ss (headed (upto (test word m) e) s) a h g = no_state h
goes_on o ss (headed (upto (each word m n q) e) s) a h g = no_loop (owner_word o) word g.0 h
goes_on o ss (headed (shut (each_in word m b n q) e z) s) a h g = no_loop (owner_word o) word g.0 h
goes_on o ss (headed (shut (bound m b n q e c) f z) s) a h g = no_state h
goes_on o ss (headed (shut (workers m b) e z) s) a h g = no_state h
goes_on o ss (headed (no_value k.Catch m) s) a h g = catch_next o ss m s h
goes_on o ss (headed (no_value k.Elseif m) s) a h g = wrong tests plain (λ x. cc) g
goes_on o ss (headed (no_value k.Else m) s) a h g = wrong direct plain (λ x. cc) g
goes_on o ss (headed (no_value k.Case m) s) a h g = wrong tests plain (λ x. cc) g
goes_on o ss (headed (no_value k.Otherwise m) s) a h g = wrong direct plain (λ x. cc) g
goes_on o ss (headed (no_value word m) s) a h g = no_state h
goes_on o ss (unheaded k.Else m) a h g = else_next o ss m h
goes_on o ss (unheaded k.Otherwise m) a h g = otherwise_next o ss m a h
goes_on o ss (unheaded k.Elseif m) a h g = wrong tests direct (λ x. cc) g
goes_on o ss (unheaded k.Case m) a h g = wrong tests direct (λ x. cc) g
goes_on o ss (unheaded k.Catch m) a h g = wrong plain direct (λ x. cc) g
goes_on o ss (unheaded word m) a h g = no_state h

-- ---- what stands behind a part

no_statements : (c : Scene) (b : Block) → c.holds ≡ false → SoundBlock c b → stmts b ≡ []
no_statements c empty h g = refl
no_statements c (blank b s) h g = no_statements c b h g
no_statements c (statement b s e) h g = no_state (sym h ∙ g.1)

pub apart_of : (o : Owner) (c : Scene) (b : Block) → SoundBlock (inside (owner_word o) c) b → IsApart o (stmts b)
apart_of (own.Switch v) c b h = no_statements (inside k.Switch c) b refl h
apart_of (own.If arms t) c b h = tt
apart_of o c b h = tt

pub kept_first : (o : Owner) (ss : List Stmt) → is_link (owner_word o) ≡ false → drops o ss ≡ false
kept_first (own.Else arms) ss h = no_state (sym h)
kept_first (own.Otherwise v arms) ss h = no_state (sym h)
kept_first (own.Catch hs) ss h = no_state (sym h)
kept_first (own.If arms t) ss h = refl
kept_first o ss h = refl

-- the keyword of what was read is that of its tree
pub word_of : (c : Scene) (o : Opened) → SoundOpened c o → owner_word (owner o) ≡ opened_word o
word_of c (first p) h = (begins p h.0 h.2).word_is
word_of c (next o b p) h =
    let e : owner_word (owner o) ≡ opened_word o = word_of c o h.0 in
    (goes_on (owner o) (stmts b) p (apart_of (owner o) c b (subst (λ x. SoundBlock (inside x c) b) (sym e) h.1)) (subst (λ x. follows x (part_word p) ≡ true) (sym e) h.2) h.3).word_is

pub apart_in : (c : Scene) (o : Opened) (b : Block) → SoundOpened c o → SoundBlock (inside (opened_word o) c) b → IsApart (owner o) (stmts b)
apart_in c o b h g = apart_of (owner o) c b (subst (λ x. SoundBlock (inside x c) b) (sym (word_of c o h)) g)

pub next_in : (c : Scene) (o : Opened) (b : Block) (p : Part) → SoundOpened c (next o b p) → Next (owner o) (stmts b) p
next_in c o b p h = goes_on (owner o) (stmts b) p (apart_in c o b h.0 h.1) (subst (λ x. follows x (part_word p) ≡ true) (sym (word_of c o h.0)) h.2) h.3
