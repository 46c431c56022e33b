-- Each statement and each block that a source has is read back.
use Rattle.pl_printing.proofs.Expressions.{no_state}
use Rattle.std.proofs.Common.{◌≡◌, ◌∙◌, ℕ, suc, ◌≤◌, Bool, true, false, List, [], ◌∷◌, ◌++◌, map, refl, ap, sym, subst, arith}
use Rattle.std.specs.Prelude.{max}
use Rattle.std.proofs.Math.Nat.{le-max_left}
use Rattle.pl_syntax.specs.declared.stmt.Stmt.{Stmt}
use Rattle.pl_syntax.specs.declared.stmt.Arm.{Arm}
use Rattle.pl_syntax.specs.declared.stmt.StmtKind as what
use Rattle.pl_grammar.specs.declared.terminal.Terminal.{Terminal}
use Rattle.pl_grammar.specs.declared.terminal.Word.TheVariants as w
use Rattle.pl_grammar.specs.declared.terminal.Keyword.{Keyword}
use Rattle.pl_grammar.specs.declared.terminal.Keyword.TheVariants as k
use Rattle.pl_grammar.specs.Words.{term, Sep, semicolon, line, is_link, follows}
use Rattle.pl_grammar.specs.Derivations.{Part, Smt, simple, delete, leave, compound, Block, empty, blank, statement, Opened, first, next}
use Rattle.pl_grammar.specs.Spelling.{smt, block, opened}
use Rattle.pl_grammar.specs.Trees.{with_part, closed, begun, shows, stmt, smt_tree, stmts, owner}
use Rattle.pl_grammar.specs.Nesting.{part_height, smt_height, block_height, opened_height}
use Rattle.pl_grammar.specs.Sound.{Scene, inside, may, part_word, opened_word, SoundSmt, SoundBlock, SoundOpened}
use Rattle.pl_printing.specs.Places.{nowhere, moved_what, moved_arm, moved_stmt, but_places_stmt}
use Rattle.pl_printing.specs.Canonical.{Words, ending, line_end, lines, finish, of_stmt_kind, of_arm_layer, of_stmt_layer, stmt_words}
use Rattle.pl_printing.specs.ReadingBack.{AreAlike}
use Rattle.pl_printing.proofs.Folds.{at_stmt}
use Rattle.pl_printing.proofs.Taking.{Read, Taken, take, max_grows, map_snoc}
use Rattle.pl_printing.proofs.Simple.{but_what, what_words, what_of, place_of, is_stmt, IsSmt, ReadsWhat, reads_simple, reads_delete, reads_leave}
use Rattle.pl_printing.proofs.Owners.{but_stmts, moved_owner, moved_step, moved_part, moved_closed, stmts_lines, owner_words, drops, closed_words}
use Rattle.pl_printing.proofs.Parts.{IsStart, Begun, begun_words, IsPart, part_words, read_part}
use Rattle.pl_printing.proofs.Chains.{begins, kept_first, apart_in, next_in}

-- ---- statements on lines

pub words_of_stmt : (s : Smt) (v : Bool) (gap : Bool) (r : List Terminal) → stmt_words (smt_tree s v) gap r ≡ what_words (what_of s) gap (ending v r)
words_of_stmt s v gap r = ap (λ x. stmt_words x gap r) (is_stmt s v) ∙ ap (λ (f : Words). f gap r) (at_stmt Words (Keyword → Words) Words of_stmt_kind of_arm_layer of_stmt_layer (what_of s) (place_of s) v)

but_stmt_is : (s : Smt) (v : Bool) → but_places_stmt (smt_tree s v) ≡ stmt (but_what (what_of s)) nowhere v
but_stmt_is s v = ap but_places_stmt (is_stmt s v) ∙ at_stmt what.StmtKind Arm Stmt moved_what moved_arm moved_stmt (what_of s) (place_of s) v

pub one_stmt_same : (s d : Smt) (v u : Bool) → u ≡ v → but_what (what_of d) ≡ but_what (what_of s) → but_places_stmt (smt_tree d u) ≡ but_places_stmt (smt_tree s v)
one_stmt_same s d v u e h = but_stmt_is d u ∙ ap (λ x. stmt x nowhere u) h ∙ ap (λ x. stmt (but_what (what_of s)) nowhere x) e ∙ sym (but_stmt_is s v)

pub lines_more : (g : Bool) (ss : List Stmt) (s : Stmt) (r : List Terminal) → lines g (map stmt_words (ss ++ s ∷ [])) r ≡ lines g (map stmt_words ss) (stmt_words s g r)
lines_more g [] s r = refl
lines_more g (x ∷ ss) s r = ap (stmt_words x g) (lines_more g ss s r)

-- a block that was read behind its beginning
pub record ReadBlock (b start : Block) (c : Scene) (us r : List Terminal) : Type 0 where
  pub it : Block
  pub rest : List Terminal
  pub spelled : block start us ≡ block it rest
  pub alike : AreAlike rest r
  pub trees_are : but_stmts (stmts it) ≡ but_stmts (stmts b)
  pub sound : SoundBlock c it
  pub low : block_height it ≤ block_height b

abbrev pub ReadsBlock : Block → Scene → Type 0
ReadsBlock b c = (indented : Bool) (start : Block) → IsStart start → (us r : List Terminal) → AreAlike us (lines indented (map stmt_words (stmts b)) r) → ReadBlock b start c us r

-- the end of a statement's line
record Ended (v : Bool) (us r : List Terminal) : Type 0 where
  sep : Sep
  more : Block → Block
  rest : List Terminal
  spelled : (b : Block) (s : Smt) → block b (smt s us) ≡ block (more (statement b s sep)) rest
  alike : AreAlike rest r
  shows_is : shows sep.kind ≡ v
  same : (b : Block) → stmts (more b) ≡ stmts b
  sound : (c : Scene) (b : Block) → SoundBlock c b → SoundBlock c (more b)
  low : (b : Block) → block_height (more b) ≤ block_height b

read_ending : (v : Bool) (us r : List Terminal) → AreAlike us (ending v r) → Ended v us r
read_ending true us r a =
    let l : Taken w.LineEnd false us r = take w.LineEnd false us r a in
    record {
      sep = record { kind = line; mark = l.m };
      more = λ b. b;
      rest = l.rest;
      spelled = λ b s. ap (λ x. block b (smt s x)) l.spelled;
      alike = l.alike;
      shows_is = refl;
      same = λ b. refl;
      sound = λ c b h. h;
      low = λ b. omega arith;
    }
read_ending false us r a =
    let q : Taken w.Semicolon false us (line_end r) = take w.Semicolon false us (line_end r) a in
    let l : Taken w.LineEnd false q.rest r = take w.LineEnd false q.rest r q.alike in
    record {
      sep = record { kind = semicolon; mark = q.m };
      more = λ b. blank b (record { kind = line; mark = l.m });
      rest = l.rest;
      spelled = λ b s. ap (λ x. block b (smt s x)) (q.spelled ∙ ap (λ x. term w.Semicolon q.m ∷ x) l.spelled);
      alike = l.alike;
      shows_is = refl;
      same = λ b. refl;
      sound = λ c b h. h;
      low = λ b. omega arith;
    }

snoc_same : (ss ts : List Stmt) (s t : Stmt) → but_stmts ss ≡ but_stmts ts → but_places_stmt s ≡ but_places_stmt t → but_stmts (ss ++ s ∷ []) ≡ but_stmts (ts ++ t ∷ [])
snoc_same ss ts s t e f = map_snoc but_places_stmt ss s ∙ ap (λ x. x ++ but_places_stmt s ∷ []) e ∙ ap (λ x. but_stmts ts ++ x ∷ []) f ∙ sym (map_snoc but_places_stmt ts t)

pub reads_empty : (c : Scene) → ReadsBlock empty c
reads_empty c indented start begin us r a = record { it = start; rest = us; spelled = refl; alike = a; trees_are = ap but_stmts begin.none; sound = begin.sound c; low = begin.low }

reads_blank : (b : Block) (s : Sep) (c : Scene) → ReadsBlock b c → ReadsBlock (blank b s) c
reads_blank b s c f indented start begin us r a =
    let x : ReadBlock b start c us r = f indented start begin us r a in
    record { it = x.it; rest = x.rest; spelled = x.spelled; alike = x.alike; trees_are = x.trees_are; sound = x.sound; low = x.low }

reads_statement : (b : Block) (s : Smt) (e : Sep) (c : Scene) → c.holds ≡ true → ReadsBlock b c → ReadsWhat (what_of s) (smt_height s) c → ReadsBlock (statement b s e) c
reads_statement b s e c holds f g indented start begin us r a =
    let v : Bool = shows e.kind in
    let r1 : List Terminal = stmt_words (smt_tree s (shows e.kind)) indented r in
    let x : ReadBlock b start c us r1 = f indented start begin us r1 (subst (AreAlike us) (lines_more indented (stmts b) (smt_tree s (shows e.kind)) r) a) in
    let y : Read Smt smt (IsSmt (but_what (what_of s)) (smt_height s) c) x.rest (ending (shows e.kind) r) = g indented x.rest (ending (shows e.kind) r) (subst (AreAlike x.rest) (words_of_stmt s (shows e.kind) indented r) x.alike) in
    let z : Ended (shows e.kind) y.rest r = read_ending (shows e.kind) y.rest r y.alike in
    record {
      it = z.more (statement x.it y.it z.sep);
      rest = z.rest;
      spelled = x.spelled ∙ ap (block x.it) y.spelled ∙ z.spelled x.it y.it;
      alike = z.alike;
      trees_are = ap but_stmts (z.same (statement x.it y.it z.sep)) ∙ snoc_same (stmts x.it) (stmts b) (smt_tree y.it (shows z.sep.kind)) (smt_tree s (shows e.kind)) x.trees_are (one_stmt_same s y.it (shows e.kind) (shows z.sep.kind) z.shows_is y.is.tree_is);
      sound = z.sound c (statement x.it y.it z.sep) (x.sound, holds, y.is.sound);
      low = omega (arith, z.low (statement x.it y.it z.sep), max_grows (block_height x.it) (smt_height y.it) (block_height b) (smt_height s) x.low y.is.low);
    }

-- ---- compound statements

abbrev pub Started : Type 0
Started = Opened × Block

abbrev started_words : Started → List Terminal → List Terminal
started_words q rest = opened q.0 (block q.1 rest)

record IsOpened (o : Opened) (c : Scene) (q : Started) : Type 0 where
  word_is : opened_word q.0 ≡ opened_word o
  sound : SoundOpened c q.0
  low : opened_height q.0 ≤ opened_height o
  owner_is : moved_owner (owner q.0) ≡ moved_owner (owner o)
  start : IsStart q.1

abbrev ReadsOpened : Opened → Scene → Type 0
ReadsOpened o c = (gap : Bool) (us r : List Terminal) → AreAlike us (owner_words (owner o) gap r) → Read Started started_words (IsOpened o c) us r

reads_first : (p : Part) (c : Scene) → SoundOpened c (first p) → ReadsOpened (first p) c
reads_first p c h gap us r a =
    let x : Read Begun begun_words (IsPart p) us r = read_part p h.2 gap us r (subst (AreAlike us) (sym ((begins p h.0 h.2).words_are gap r)) a) in
    record {
      it = (first x.it.0, x.it.1);
      rest = x.rest;
      spelled = x.spelled;
      alike = x.alike;
      is = record {
        word_is = x.is.word_is;
        sound = (ap is_link x.is.word_is ∙ h.0, ap (may c) x.is.word_is ∙ h.1, x.is.sound);
        low = x.is.low;
        owner_is = x.is.begun_is;
        start = x.is.start;
      };
    }

-- a further part goes on with what stands before
link_of : (before word : Keyword) → follows before word ≡ true → is_link word ≡ true
link_of before k.Elseif h = refl
link_of before k.Else h = refl
link_of before k.Case h = refl
link_of before k.Otherwise h = refl
link_of before k.Catch h = refl
link_of before word h = no_state h

reads_next : (o : Opened) (b : Block) (p : Part) (c : Scene) → SoundOpened c (next o b p) → ReadsOpened o c → ReadsBlock b (inside (opened_word o) c) → ReadsOpened (next o b p) c
reads_next o b p c h f g gap us r a =
    let r2 : List Terminal = part_words p gap r in
    let r1 : List Terminal = stmts_lines (stmts b) r2 in
    let x : Read Started started_words (IsOpened o c) us r1 = f gap us r1 (subst (AreAlike us) (sym ((next_in c o b p h).words_are gap r)) a) in
    let y : ReadBlock b x.it.1 (inside (opened_word o) c) x.rest r2 = g true x.it.1 x.is.start x.rest r2 x.alike in
    let z : Read Begun begun_words (IsPart p) y.rest r = read_part p h.3 gap y.rest r y.alike in
    record {
      it = (next x.it.0 y.it z.it.0, z.it.1);
      rest = z.rest;
      spelled = x.spelled ∙ ap (opened x.it.0) (y.spelled ∙ ap (block y.it) z.spelled);
      alike = z.alike;
      is = record {
        word_is = z.is.word_is;
        sound = (x.is.sound, subst (λ v. SoundBlock (inside v c) y.it) (sym x.is.word_is) y.sound, ap (λ v. follows v (part_word z.it.0)) x.is.word_is ∙ ap (follows (opened_word o)) z.is.word_is ∙ h.2, z.is.sound);
        low = max_grows (max (opened_height x.it.0) (block_height y.it)) (part_height z.it.0) (max (opened_height o) (block_height b)) (part_height p) (max_grows (opened_height x.it.0) (block_height y.it) (opened_height o) (block_height b) x.is.low y.low) z.is.low;
        owner_is = moved_part (owner x.it.0) (stmts y.it) z.it.0 ∙ ap (λ v. moved_step z.it.0 v (but_stmts (stmts y.it))) x.is.owner_is ∙ ap (moved_step z.it.0 (moved_owner (owner o))) y.trees_are ∙ z.is.step_is (link_of (opened_word o) (part_word p) h.2) (moved_owner (owner o)) (but_stmts (stmts b)) ∙ sym (moved_part (owner o) (stmts b) p);
        start = z.is.start;
      };
    }

reads_compound : (o : Opened) (b : Block) (c : Scene) → SoundOpened c o → SoundBlock (inside (opened_word o) c) b → drops (owner o) (stmts b) ≡ false → ReadsOpened o c → ReadsBlock b (inside (opened_word o) c) → ReadsWhat (closed (owner o) (stmts b)) (suc (max (opened_height o) (block_height b))) c
reads_compound o b c so sb kept f g gap us r a =
    let r1 : List Terminal = stmts_lines (stmts b) (finish gap r) in
    let x : Read Started started_words (IsOpened o c) us r1 = f gap us r1 (subst (AreAlike us) (closed_words (owner o) (stmts b) gap r (apart_in c o b so sb) kept) a) in
    let y : ReadBlock b x.it.1 (inside (opened_word o) c) x.rest (finish gap r) = g true x.it.1 x.is.start x.rest (finish gap r) x.alike in
    let z : Taken (w.Key k.End) gap y.rest r = take (w.Key k.End) gap y.rest r y.alike in
    record {
      it = compound x.it.0 y.it z.m;
      rest = z.rest;
      spelled = x.spelled ∙ ap (opened x.it.0) (y.spelled ∙ ap (block y.it) z.spelled);
      alike = z.alike;
      is = record {
        tree_is = moved_closed (owner x.it.0) (stmts y.it) ∙ ap (λ v. closed v (but_stmts (stmts y.it))) x.is.owner_is ∙ ap (closed (moved_owner (owner o))) y.trees_are ∙ sym (moved_closed (owner o) (stmts b));
        sound = (x.is.sound, subst (λ v. SoundBlock (inside v c) y.it) (sym x.is.word_is) y.sound);
        low = omega (arith, max_grows (opened_height x.it.0) (block_height y.it) (opened_height o) (block_height b) x.is.low y.low);
      };
    }

-- the same statement, of a source that is no higher
lowered : (s t : what.StmtKind) (g h : ℕ) (c : Scene) → t ≡ s → g ≤ h → ReadsWhat s g c → ReadsWhat t h c
lowered s t g h c e l f gap us r a =
    let x : Read Smt smt (IsSmt (but_what s) g c) us r = f gap us r (subst (λ v. AreAlike us (what_words v gap r)) e a) in
    record { it = x.it; rest = x.rest; spelled = x.spelled; alike = x.alike; is = record { tree_is = x.is.tree_is ∙ ap but_what (sym e); sound = x.is.sound; low = omega (arith, x.is.low, l) } }

-- a last part whose block is empty isn't printed
reads_chain : (o : Opened) (b : Block) (p : Part) (d : Block) (c : Scene) → SoundOpened c (next o b p) → SoundBlock (inside (part_word p) c) d → ReadsOpened o c → ReadsBlock b (inside (opened_word o) c) → ReadsOpened (next o b p) c → ReadsBlock d (inside (part_word p) c) → ReadsWhat (closed (with_part (owner o) (stmts b) p) (stmts d)) (suc (max (opened_height (next o b p)) (block_height d))) c
reads_chain o b p d c so sd fo fb fp fd = by_test (drops (with_part (owner o) (stmts b) p) (stmts d)) refl
  where
    by_test : (v : Bool) → drops (with_part (owner o) (stmts b) p) (stmts d) ≡ v → ReadsWhat (closed (with_part (owner o) (stmts b) p) (stmts d)) (suc (max (opened_height (next o b p)) (block_height d))) c
    by_test false e = reads_compound (next o b p) d c so sd e fp fd
    by_test true e =
        let q : (closed (with_part (owner o) (stmts b) p) (stmts d) ≡ closed (owner o) (stmts b)) × (drops (owner o) (stmts b) ≡ false) = (next_in c o b p so).dropping (stmts d) e in
        let H : ℕ = max (opened_height o) (block_height b) in
        lowered (closed (owner o) (stmts b)) (closed (with_part (owner o) (stmts b) p) (stmts d)) (suc H) (suc (max (max H (part_height p)) (block_height d))) c q.0
        (omega (arith, le-max_left H (part_height p), le-max_left (max H (part_height p)) (block_height d)))
        (reads_compound o b c so.0 so.1 q.1 fo fb)

-- ---- all statements

mutual
  pub printed_smt : (s : Smt) (c : Scene) → SoundSmt c s → ReadsWhat (what_of s) (smt_height s) c
  printed_smt (simple g e) c h = reads_simple g e c h
  printed_smt (delete n m a z q o y) c h = reads_delete n a c h
  printed_smt (leave word m) c h = reads_leave word c h.0 h.1
  printed_smt (compound (first p) b m) c h = reads_compound (first p) b c h.0 h.1 (kept_first (begun p) (stmts b) (ap is_link (begins p h.0.0 h.0.2).word_is ∙ h.0.0)) (printed_opened (first p) c h.0) (printed_block b (inside (part_word p) c) h.1)
  printed_smt (compound (next o d p) b m) c h = reads_chain o d p b c h.0 h.1 (printed_opened o c h.0.0) (printed_block d (inside (opened_word o) c) h.0.1) (printed_opened (next o d p) c h.0) (printed_block b (inside (part_word p) c) h.1)

  pub printed_block : (b : Block) (c : Scene) → SoundBlock c b → ReadsBlock b c
  printed_block empty c h = reads_empty c
  printed_block (blank b s) c h = reads_blank b s c (printed_block b c h)
  printed_block (statement b s e) c h = reads_statement b s e c h.1 (printed_block b c h.0) (printed_smt s c h.2)

  printed_opened : (o : Opened) (c : Scene) → SoundOpened c o → ReadsOpened o c
  printed_opened (first p) c h = reads_first p c h
  printed_opened (next o b p) c h = reads_next o b p c h (printed_opened o c h.0) (printed_block b (inside (opened_word o) c) h.1)
