-- The machine reads the terminals of each sound program.
use Rattle.std.proofs.Common.{◌≡◌, ◌∙◌, suc, ◌+◌, ◌≤◌, Bool, true, false, not, ◌&&◌, Some, List, [], ◌∷◌, Ok, refl, ap, sym, arith}
use Rattle.std.specs.Prelude.{max}
use Rattle.pl_grammar.specs.declared.terminal.Terminal.{Terminal}
use Rattle.pl_grammar.specs.declared.terminal.Word.{Word}
use Rattle.pl_grammar.specs.declared.terminal.Word.TheVariants as w
use Rattle.pl_grammar.specs.declared.terminal.Keyword.{Keyword}
use Rattle.pl_grammar.specs.declared.terminal.Keyword.TheVariants as k
use Rattle.pl_grammar.specs.Words.{Mark, term, Named, named, SepKind, comma, semicolon, line, Sep, tests, loops, direct, plain, use_of, is_link, follows}
use Rattle.pl_grammar.specs.Derivations.{Ex, rows, no_rows, entire, indexed, in_braces, Goal, shown, into, spread, Lead, test, each, each_in, bound, workers, Heading, upto, shut, no_value, Part, headed, unheaded, Smt, simple, delete, leave, compound, Block, empty, blank, statement, Opened, first, next, taken, ignored, Params, lone, further, no_params, params, Outs, no_outs, single, several, Given, no_list, given, Title, title, fun, Top, script, define, spaced, Prog, whole_of, unended}
use Rattle.pl_grammar.specs.Spelling.{sep, ex, goal, outputs, heading, part, smt, block, opened, param_words, outs_words, given_words, top, prog}
use Rattle.pl_grammar.specs.Trees.{mark}
use Rattle.pl_grammar.specs.Nesting.{height, goal_height, heading_height, part_height, smt_height, block_height, opened_height, top_height, prog_height}
use Rattle.pl_grammar.specs.Sound.{tightness, sticks, SoundEx, SoundGoal, deletes, Scene, outermost, SoundHeading, SoundPart, heading_word, part_word, opened_word, SoundSmt, SoundBlock, SoundOpened, AreNamed, SoundOuts, has_function, SoundFun, IsBehind, SoundTop, SoundProg}
use Rattle.pl_grammar.specs.Programs.{Rules}
use Rattle.pl_grammar.specs.Machine.{fresh, fresh_params, Site, main, body, within, Spot, here, linked, goal_of, lead_of, inner_of, row_of, begun_title, worded, outs_of, out_of, entitled, params_of, param_of, titled, State, start, finished, operand, after, loop, ready, titling, between, beginning, site_nests, spot_site, scene, enter}
use Rattle.pl_grammar.specs.Steps.{Step, Answer, roomy, room, onward, run, begins_element, settle, spot_of}
use Rattle.pl_grammar.specs.Steps as steps
use Rattle.pl_grammar.proofs.Basics.{has_room, left_room, right_room}
use Rattle.pl_grammar.proofs.Fore.{Fore, plainly, by_sign, fore_ex}
use Rattle.pl_grammar.proofs.Reading.{Follows, read_ex}
use Rattle.pl_grammar.proofs.Outputs.{tgt_ex, tgt_of_ex, tgt_words, sound_tgt, tgt_ex_height, read_spread}

module _ (r : Rules) where
  -- ---- single steps

  seps_follow : (x : SepKind) (m : Mark) (ts : List Terminal) → Follows r false (sep (record { kind = x; mark = m }) ts)
  seps_follow comma m ts k = tt
  seps_follow semicolon m ts k = tt
  seps_follow line m ts k = tt

  -- an expression begins a statement
  begin_fore : (site : Site) (b : Block) (m : Mark) (sticky : Bool) (ts : List Terminal) → (scene site).holds ≡ true → suc (site_nests site) ≤ r.limit → Fore (goal_of shown site b) m sticky ts
      → run r (start site b) ts ≡ run r (operand (goal_of shown site b)) ts
  begin_fore site b m sticky ts h l (by_sign a rest e f) = rw (e, h, has_room r (suc (site_nests site)) l) refl
  begin_fore site b m sticky ts h l (plainly word rest e f) = rw e (by_word word f)
    where
      by_word : (x : Word) → begins_element x (goal_of shown site b) ≡ true → run r (start site b) (term x m ∷ rest) ≡ run r (operand (goal_of shown site b)) (term x m ∷ rest)
      by_word (w.Name y) g = rw (h, has_room r (suc (site_nests site)) l) refl
      by_word (w.Chars y) g = rw (h, has_room r (suc (site_nests site)) l) refl
      by_word (w.Number y) g = rw (h, has_room r (suc (site_nests site)) l) refl
      by_word w.Not g = rw (h, has_room r (suc (site_nests site)) l) refl
      by_word w.Open g = rw (h, has_room r (suc (site_nests site)) l) refl
      by_word w.OpenSquare g = rw (h, has_room r (suc (site_nests site)) l) refl
      by_word w.At g = rw (h, has_room r (suc (site_nests site)) l) refl
      by_word (w.Key word) g = no_end word g
        where
          no_end : (y : Keyword) → (steps.end_word y && false) ≡ true → run r (start site b) (term (w.Key y) m ∷ rest) ≡ run r (operand (goal_of shown site b)) (term (w.Key y) m ∷ rest)
          no_end y g = absurd (never (steps.end_word y) g)
            where
              never : (v : Bool) → (v && false) ≡ true → ⊥
              never true g = cc
              never false g = cc
      by_word (w.Binary o) g = cc
      by_word w.Quote g = cc
      by_word w.Equal g = cc
      by_word w.Colon g = cc
      by_word w.Comma g = cc
      by_word w.Semicolon g = cc
      by_word w.LineEnd g = cc
      by_word w.Close g = cc
      by_word w.CloseSquare g = cc
      by_word w.OpenBrace g = cc
      by_word w.CloseBrace g = cc
      by_word w.Dot g = cc

  begin_ex : (site : Site) (b : Block) (e : Ex) (ts : List Terminal) → (scene site).holds ≡ true → suc (site_nests site) ≤ r.limit → SoundEx false false e
      → run r (start site b) (ex e ts) ≡ run r (operand (goal_of shown site b)) (ex e ts)
  begin_ex site b e ts h l s = begin_fore site b (mark e) (sticks e) (ex e ts) h l (fore_ex e (goal_of shown site b) false ts s)

  -- what stands before a statement's last expression
  read_goal : (g : Goal) (site : Site) (b : Block) (e : Ex) (ts : List Terminal) → (scene site).holds ≡ true → SoundGoal g → SoundEx false false e → suc (goal_height g) + site_nests site ≤ r.limit
      → run r (start site b) (goal g (ex e ts)) ≡ run r (operand (goal_of g site b)) (ex e ts)
  read_goal shown site b e ts h g s l = begin_ex site b e ts h (omega (arith, l)) s
  read_goal (into t q) site b e ts h g s l =
      let X : List Terminal = term w.Equal q ∷ ex e ts in
      let assigned : run r (after (tgt_ex t) (goal_of shown site b)) X ≡ run r (operand (goal_of (into t q) site b)) (ex e ts) = rw (tgt_of_ex t) refl in
      ap (λ x. run r (start site b) x) (sym (tgt_words t X))
      ∙ begin_ex site b (tgt_ex t) X h (omega (arith, l)) (sound_tgt false false t g)
      ∙ read_ex r (tgt_ex t) (goal_of shown site b) X (sound_tgt false false t g) tt (omega (arith, l, tgt_ex_height t)) tt
      ∙ assigned
  read_goal (spread m os z q) site b e ts h g s l =
      let X : List Terminal = outputs os (term w.CloseSquare z ∷ term w.Equal q ∷ ex e ts) in
      let opened : run r (start site b) (term w.OpenSquare m ∷ X) ≡ run r (operand (row_of m no_rows fresh (goal_of shown site b))) X =
      rw (h, has_room r (suc (site_nests site)) (omega (arith, l)), has_room r (suc (suc (site_nests site))) (omega (arith, l))) refl in
      opened ∙ read_spread r m site b os z q (ex e ts) g (omega (arith, l))

  -- a statement that has been read up to its separator
  abbrev smt_state : Smt → Site → Block → State
  smt_state (simple g e) site b = after e (goal_of g site b)
  smt_state (delete n m a z q o y) site b = after (rows o no_rows y) (goal_of (into (indexed n m a z) q) site b)
  smt_state s site b = finished s site b

  settles : (g : Goal) (e : Ex) → deletes g e ≡ false → settle g e ≡ simple g e
  settles shown e h = refl
  settles (spread m os z q) e h = refl
  settles (into (entire n) q) e h = refl
  settles (into (in_braces n m x z) q) e h = refl
  settles (into (indexed n m a z) q) (rows o no_rows y) h = cc
  settles (into (indexed n m a z) q) e h = refl

  end_smt : (s : Smt) (site : Site) (b : Block) (x : SepKind) (m : Mark) (ts : List Terminal) (c : Scene) → SoundSmt c s
      → run r (smt_state s site b) (sep (record { kind = x; mark = m }) ts) ≡ run r (start site (statement b s (record { kind = x; mark = m }))) ts
  end_smt (simple g e) site b comma m ts c h = ap (λ s. run r (start site (statement b s (record { kind = comma; mark = m }))) ts) (settles g e h.2)
  end_smt (simple g e) site b semicolon m ts c h = ap (λ s. run r (start site (statement b s (record { kind = semicolon; mark = m }))) ts) (settles g e h.2)
  end_smt (simple g e) site b line m ts c h = ap (λ s. run r (start site (statement b s (record { kind = line; mark = m }))) ts) (settles g e h.2)
  end_smt (delete n i a z q o y) site b comma m ts c h = refl
  end_smt (delete n i a z q o y) site b semicolon m ts c h = refl
  end_smt (delete n i a z q o y) site b line m ts c h = refl
  end_smt (leave word i) site b comma m ts c h = refl
  end_smt (leave word i) site b semicolon m ts c h = refl
  end_smt (leave word i) site b line m ts c h = refl
  end_smt (compound o x y) site b comma m ts c h = refl
  end_smt (compound o x y) site b semicolon m ts c h = refl
  end_smt (compound o x y) site b line m ts c h = refl

  end_file : (s : Smt) (b : Block) (c : Scene) → SoundSmt c s → run r (smt_state s main b) [] ≡ Ok (unended b s)
  end_file (simple g e) b c h = ap (λ s. Ok (unended b s)) (settles g e h.2)
  end_file (delete n i a z q o y) b c h = refl
  end_file (leave word i) b c h = refl
  end_file (compound o x y) b c h = refl

  start_sep : (site : Site) (b : Block) (x : SepKind) (m : Mark) (ts : List Terminal) → run r (start site b) (sep (record { kind = x; mark = m }) ts) ≡ run r (start site (blank b (record { kind = x; mark = m }))) ts
  start_sep site b comma m ts = refl
  start_sep site b semicolon m ts = refl
  start_sep site b line m ts = refl

  -- ---- parts of compound statements

  lead_sep : (l : Lead) (e : Ex) (spot : Spot) (x : SepKind) (m : Mark) (ts : List Terminal)
      → run r (after e (lead_of l spot)) (sep (record { kind = x; mark = m }) ts) ≡ run r (start (enter (headed (upto l e) (record { kind = x; mark = m })) spot) empty) ts
  lead_sep l e spot comma m ts = refl
  lead_sep l e spot semicolon m ts = refl
  lead_sep l e spot line m ts = refl

  ready_sep : (h : Heading) (spot : Spot) (x : SepKind) (m : Mark) (ts : List Terminal)
      → run r (ready h spot) (sep (record { kind = x; mark = m }) ts) ≡ run r (start (enter (headed h (record { kind = x; mark = m })) spot) empty) ts
  ready_sep h spot comma m ts = refl
  ready_sep h spot semicolon m ts = refl
  ready_sep h spot line m ts = refl

  -- a keyword that begins a part
  key_test : (word : Keyword) (m : Mark) (site : Site) (b : Block) (spot : Spot) (ts : List Terminal) → use_of word ≡ tests → spot_of word site b ≡ Some spot → suc (site_nests (spot_site spot)) ≤ r.limit
      → run r (start site b) (term (w.Key word) m ∷ ts) ≡ run r (operand (lead_of (test word m) spot)) ts
  key_test word m site b spot ts u s l = rw (u, s, has_room r (suc (site_nests (spot_site spot))) l) refl

  key_loop : (word : Keyword) (m : Mark) (site : Site) (b : Block) (spot : Spot) (ts : List Terminal) → use_of word ≡ loops → spot_of word site b ≡ Some spot → suc (site_nests (spot_site spot)) ≤ r.limit
      → run r (start site b) (term (w.Key word) m ∷ ts) ≡ run r (loop word m spot) ts
  key_loop word m site b spot ts u s l = rw (u, s, has_room r (suc (site_nests (spot_site spot))) l) refl

  key_direct : (word : Keyword) (m : Mark) (site : Site) (b : Block) (spot : Spot) (ts : List Terminal) → use_of word ≡ direct → spot_of word site b ≡ Some spot → suc (site_nests (spot_site spot)) ≤ r.limit
      → run r (start site b) (term (w.Key word) m ∷ ts) ≡ run r (start (enter (unheaded word m) spot) empty) ts
  key_direct word m site b spot ts u s l = rw (u, s, has_room r (suc (site_nests (spot_site spot))) l) refl

  key_plain : (word : Keyword) (m : Mark) (site : Site) (b : Block) (spot : Spot) (ts : List Terminal) → use_of word ≡ plain → spot_of word site b ≡ Some spot → suc (site_nests (spot_site spot)) ≤ r.limit
      → run r (start site b) (term (w.Key word) m ∷ ts) ≡ run r (ready (no_value word m) spot) ts
  key_plain word m site b spot ts u s l = rw (u, s, has_room r (suc (site_nests (spot_site spot))) l) refl

  read_heading : (h : Heading) (site : Site) (b : Block) (spot : Spot) (s : Sep) (ts : List Terminal) → SoundHeading h → spot_of (heading_word h) site b ≡ Some spot → heading_height h + suc (site_nests (spot_site spot)) ≤ r.limit
      → run r (start site b) (heading h (sep s ts)) ≡ run r (start (enter (headed h s) spot) empty) ts
  read_heading (upto (test word m) e) site b spot s ts h g l =
      key_test word m site b spot (ex e (sep s ts)) h.0 g (omega (arith, l))
      ∙ read_ex r e (lead_of (test word m) spot) (sep s ts) h.1 tt l (seps_follow s.kind s.mark ts (tightness e))
      ∙ lead_sep (test word m) e spot s.kind s.mark ts
  read_heading (upto (each word m n q) e) site b spot s ts h g l =
      key_loop word m site b spot (named n ∷ term w.Equal q ∷ ex e (sep s ts)) h.0 g (omega (arith, l))
      ∙ read_ex r e (lead_of (each word m n q) spot) (sep s ts) h.1 tt l (seps_follow s.kind s.mark ts (tightness e))
      ∙ lead_sep (each word m n q) e spot s.kind s.mark ts
  read_heading (shut (each_in word m o n q) e z) site b spot s ts h g l =
      key_loop word m site b spot (term w.Open o ∷ named n ∷ term w.Equal q ∷ ex e (term w.Close z ∷ sep s ts)) h.0 g (omega (arith, l))
      ∙ read_ex r e (inner_of (each_in word m o n q) spot) (term w.Close z ∷ sep s ts) h.1 tt (right_room 0 (height e) (suc (site_nests (spot_site spot))) r.limit l) tt
      ∙ ready_sep (shut (each_in word m o n q) e z) spot s.kind s.mark ts
  read_heading (shut (bound m o n q x c) e z) site b spot s ts h g l =
      key_loop k.Parfor m site b spot (term w.Open o ∷ named n ∷ term w.Equal q ∷ ex x (term w.Comma c ∷ ex e (term w.Close z ∷ sep s ts))) refl g (omega (arith, l))
      ∙ read_ex r x (inner_of (each_in k.Parfor m o n q) spot) (term w.Comma c ∷ ex e (term w.Close z ∷ sep s ts)) h.0 tt (left_room (height x) (height e) (suc (site_nests (spot_site spot))) r.limit l) tt
      ∙ read_ex r e (inner_of (bound m o n q x c) spot) (term w.Close z ∷ sep s ts) h.1 tt (right_room (height x) (height e) (suc (site_nests (spot_site spot))) r.limit l) tt
      ∙ ready_sep (shut (bound m o n q x c) e z) spot s.kind s.mark ts
  read_heading (shut (workers m o) e z) site b spot s ts h g l =
      key_plain k.Spmd m site b spot (term w.Open o ∷ ex e (term w.Close z ∷ sep s ts)) refl g (omega (arith, l))
      ∙ read_ex r e (inner_of (workers m o) spot) (term w.Close z ∷ sep s ts) h.1 tt (right_room 0 (height e) (suc (site_nests (spot_site spot))) r.limit l) tt
      ∙ ready_sep (shut (workers m o) e z) spot s.kind s.mark ts
  read_heading (no_value word m) site b spot s ts h g l = key_plain word m site b spot (sep s ts) h g (omega (arith, l)) ∙ ready_sep (no_value word m) spot s.kind s.mark ts

  read_part : (p : Part) (site : Site) (b : Block) (spot : Spot) (ts : List Terminal) → SoundPart p → spot_of (part_word p) site b ≡ Some spot → part_height p + suc (site_nests (spot_site spot)) ≤ r.limit
      → run r (start site b) (part p ts) ≡ run r (start (enter p spot) empty) ts
  read_part (headed h s) site b spot ts d g l = read_heading h site b spot s ts d g l
  read_part (unheaded word m) site b spot ts d g l = key_direct word m site b spot ts d g (omega (arith, l))

  follows_link : (a c : Keyword) → follows a c ≡ true → is_link c ≡ true
  follows_link a k.Elseif h = refl
  follows_link a k.Else h = refl
  follows_link a k.Case h = refl
  follows_link a k.Otherwise h = refl
  follows_link a k.Catch h = refl
  follows_link a k.If h = cc
  follows_link a k.While h = cc
  follows_link a k.Switch h = cc
  follows_link a k.For h = cc
  follows_link a k.Parfor h = cc
  follows_link a k.Try h = cc
  follows_link a k.Spmd h = cc
  follows_link a k.Break h = cc
  follows_link a k.Continue h = cc
  follows_link a k.Return h = cc
  follows_link a k.End h = cc
  follows_link a k.Function h = cc
  follows_link a k.Classdef h = cc
  follows_link a k.Global h = cc
  follows_link a k.Persistent h = cc

  -- ---- statements

  mutual
    pub read_smt : (s : Smt) (site : Site) (b : Block) (ts : List Terminal) → (scene site).holds ≡ true → SoundSmt (scene site) s → smt_height s + site_nests site ≤ r.limit → Follows r false ts
        → run r (start site b) (smt s ts) ≡ run r (smt_state s site b) ts
    read_smt (simple g e) site b ts h d l f =
        let v : max (goal_height g) (height e) + suc (site_nests site) ≤ r.limit = omega (arith, l) in
        let x : goal_height g + suc (site_nests site) ≤ r.limit = left_room (goal_height g) (height e) (suc (site_nests site)) r.limit v in
        read_goal g site b e ts h d.0 d.1 (omega (arith, x)) ∙ read_ex r e (goal_of g site b) ts d.1 tt (right_room (goal_height g) (height e) (suc (site_nests site)) r.limit v) (f (tightness e))
    read_smt (delete n m a z q o y) site b ts h d l f =
        read_goal (into (indexed n m a z) q) site b (rows o no_rows y) ts h (refl, d) tt (omega (arith, l)) ∙ read_ex r (rows o no_rows y) (goal_of (into (indexed n m a z) q) site b) ts tt tt (omega (arith, l)) (f 11)
    read_smt (leave word m) site b ts h d l f = rw (d.0, h, d.1, has_room r (suc (site_nests site)) (omega (arith, l))) refl
    read_smt (compound o x m) site b ts h d l f =
        let v : max (opened_height o) (block_height x) + suc (site_nests site) ≤ r.limit = omega (arith, l) in
        read_opened o site b (block x (term (w.Key k.End) m ∷ ts)) h d.0 (left_room (opened_height o) (block_height x) (suc (site_nests site)) r.limit v)
        ∙ read_block x (within o site b) (term (w.Key k.End) m ∷ ts) d.1 (right_room (opened_height o) (block_height x) (suc (site_nests site)) r.limit v)

    pub read_block : (b : Block) (site : Site) (ts : List Terminal) → SoundBlock (scene site) b → block_height b + site_nests site ≤ r.limit
        → run r (start site empty) (block b ts) ≡ run r (start site b) ts
    read_block empty site ts d l = refl
    read_block (blank b s) site ts d l = read_block b site (sep s ts) d l ∙ start_sep site b s.kind s.mark ts
    read_block (statement b s e) site ts d l =
        read_block b site (smt s (sep e ts)) d.0 (left_room (block_height b) (smt_height s) (site_nests site) r.limit l)
        ∙ read_smt s site b (sep e ts) d.1 d.2 (right_room (block_height b) (smt_height s) (site_nests site) r.limit l) (seps_follow e.kind e.mark ts)
        ∙ end_smt s site b e.kind e.mark ts (scene site) d.2

    pub read_opened : (o : Opened) (site : Site) (b : Block) (ts : List Terminal) → (scene site).holds ≡ true → SoundOpened (scene site) o → opened_height o + suc (site_nests site) ≤ r.limit
        → run r (start site b) (opened o ts) ≡ run r (start (within o site b) empty) ts
    read_opened (first p) site b ts h d l = read_part p site b (here site b) ts d.2 (rw (d.0, h, d.1) refl) l
    read_opened (next o x p) site b ts h d l =
        let v : max (opened_height o) (block_height x) + suc (site_nests site) ≤ r.limit = left_room (max (opened_height o) (block_height x)) (part_height p) (suc (site_nests site)) r.limit l in
        read_opened o site b (block x (part p ts)) h d.0 (left_room (opened_height o) (block_height x) (suc (site_nests site)) r.limit v)
        ∙ read_block x (within o site b) (part p ts) d.1 (right_room (opened_height o) (block_height x) (suc (site_nests site)) r.limit v)
        ∙ read_part p (within o site b) x (linked o x site b) ts d.3 (rw (follows_link (opened_word o) (part_word p) d.2, d.2) refl) (right_room (max (opened_height o) (block_height x)) (part_height p) (suc (site_nests site)) r.limit l)

  -- ---- functions

  read_names : (ps : Params) (t : Top) (m o : Mark) (ts : List Terminal) → AreNamed ps → run r (titling t (outs_of m o fresh_params)) (param_words ps ts) ≡ run r (titling t (out_of m o ps)) ts
  read_names (lone (taken n)) t m o ts h = refl
  read_names (lone (ignored i)) t m o ts h = absurd h
  read_names (further ps c (taken n)) t m o ts h = read_names ps t m o (term w.Comma c ∷ named n ∷ ts) h.0
  read_names (further ps c (ignored i)) t m o ts h = absurd h.1

  read_params : (ps : Params) (t : Top) (m : Mark) (o : Outs) (n : Named) (z : Mark) (ts : List Terminal) → run r (titling t (params_of m o n z fresh_params)) (param_words ps ts) ≡ run r (titling t (param_of m o n z ps)) ts
  read_params (lone (taken x)) t m o n z ts = refl
  read_params (lone (ignored i)) t m o n z ts = refl
  read_params (further ps c (taken x)) t m o n z ts = read_params ps t m o n z (term w.Comma c ∷ named x ∷ ts)
  read_params (further ps c (ignored i)) t m o n z ts = read_params ps t m o n z (term w.Comma c ∷ term w.Not i ∷ ts)

  titled_sep : (t : Top) (l : Title) (x : SepKind) (m : Mark) (ts : List Terminal) → run r (titling t (titled l)) (sep (record { kind = x; mark = m }) ts) ≡ run r (start (body t l (record { kind = x; mark = m })) empty) ts
  titled_sep t l comma m ts = refl
  titled_sep t l semicolon m ts = refl
  titled_sep t l line m ts = refl

  name_sep : (t : Top) (m : Mark) (o : Outs) (n : Named) (x : SepKind) (i : Mark) (ts : List Terminal)
      → run r (titling t (entitled m o n)) (sep (record { kind = x; mark = i }) ts) ≡ run r (start (body t (title m o n no_list) (record { kind = x; mark = i })) empty) ts
  name_sep t m o n comma i ts = refl
  name_sep t m o n semicolon i ts = refl
  name_sep t m o n line i ts = refl

  read_given : (g : Given) (t : Top) (m : Mark) (o : Outs) (n : Named) (s : Sep) (ts : List Terminal)
      → run r (titling t (entitled m o n)) (given_words g (sep s ts)) ≡ run r (start (body t (title m o n g) s) empty) ts
  read_given no_list t m o n s ts = name_sep t m o n s.kind s.mark ts
  read_given (given i no_params z) t m o n s ts = titled_sep t (title m o n (given i no_params z)) s.kind s.mark ts
  read_given (given i (params ps) z) t m o n s ts = read_params ps t m o n i (term w.Close z ∷ sep s ts) ∙ titled_sep t (title m o n (given i (params ps) z)) s.kind s.mark ts

  -- a name that no function has may be a function's name
  own_sep : (t : Top) (m : Mark) (n : Named) (x : SepKind) (i : Mark) (ts : List Terminal) → (not r.twice && has_function n.text t) ≡ false
      → run r (titling t (worded m n)) (sep (record { kind = x; mark = i }) ts) ≡ run r (titling t (entitled m no_outs n)) (sep (record { kind = x; mark = i }) ts)
  own_sep t m n comma i ts h = rw h refl
  own_sep t m n semicolon i ts h = rw h refl
  own_sep t m n line i ts h = rw h refl

  own_name : (g : Given) (t : Top) (m : Mark) (n : Named) (s : Sep) (ts : List Terminal) → (not r.twice && has_function n.text t) ≡ false
      → run r (titling t (worded m n)) (given_words g (sep s ts)) ≡ run r (titling t (entitled m no_outs n)) (given_words g (sep s ts))
  own_name no_list t m n s ts h = own_sep t m n s.kind s.mark ts h
  own_name (given i l z) t m n s ts h = rw h refl

  read_title : (l : Title) (t : Top) (s : Sep) (m : Mark) (o : Outs) (n : Named) (g : Given) (ts : List Terminal) → SoundOuts o → (not r.twice && has_function n.text t) ≡ false
      → run r (titling t (begun_title m)) (outs_words o (named n ∷ given_words g (sep s ts))) ≡ run r (start (body t (title m o n g) s) empty) ts
  read_title l t s m no_outs n g ts h u = own_name g t m n s ts u ∙ read_given g t m no_outs n s ts
  read_title l t s m (single x q) n g ts h u = rw u (read_given g t m (single x q) n s ts)
  read_title l t s m (several o no_params z q) n g ts h u = rw u (read_given g t m (several o no_params z q) n s ts)
  read_title l t s m (several o (params ps) z q) n g ts h u =
      let named_so : run r (titling t (out_of m o ps)) (term w.CloseSquare z ∷ term w.Equal q ∷ named n ∷ given_words g (sep s ts)) ≡ run r (titling t (entitled m (several o (params ps) z q) n)) (given_words g (sep s ts)) = rw u refl in
      read_names ps t m o (term w.CloseSquare z ∷ term w.Equal q ∷ named n ∷ given_words g (sep s ts)) h ∙ named_so ∙ read_given g t m (several o (params ps) z q) n s ts

  read_fun : (t : Top) (m : Mark) (o : Outs) (n : Named) (g : Given) (s : Sep) (b : Block) (z : Mark) (ts : List Terminal) → SoundFun (fun (title m o n g) s b z) → block_height b ≤ r.limit → (not r.twice && has_function n.text t) ≡ false
      → run r (titling t (begun_title m)) (outs_words o (named n ∷ given_words g (sep s (block b (term (w.Key k.End) z ∷ ts))))) ≡ run r (between (define t (fun (title m o n g) s b z))) ts
  read_fun t m o n g s b z ts d l u =
      read_title (title m o n g) t s m o n g (block b (term (w.Key k.End) z ∷ ts)) d.0 u ∙ read_block b (body t (title m o n g) s) (term (w.Key k.End) z ∷ ts) d.1 (omega (arith, l))

  -- ---- programs

  abbrev top_state : Top → State
  top_state (script b) = start main b
  top_state (define t f) = between (define t f)
  top_state (spaced t s) = between (spaced t s)

  define_on : (t : Top) (m : Mark) (ts : List Terminal) → run r (top_state t) (term (w.Key k.Function) m ∷ ts) ≡ run r (titling t (begun_title m)) ts
  define_on (script b) m ts = refl
  define_on (define t f) m ts = refl
  define_on (spaced t s) m ts = refl

  between_sep : (t : Top) (x : SepKind) (m : Mark) (ts : List Terminal) → run r (between t) (sep (record { kind = x; mark = m }) ts) ≡ run r (between (spaced t (record { kind = x; mark = m }))) ts
  between_sep t comma m ts = refl
  between_sep t semicolon m ts = refl
  between_sep t line m ts = refl

  space_on : (t : Top) (s : Sep) (ts : List Terminal) → IsBehind t → run r (top_state t) (sep s ts) ≡ run r (between (spaced t s)) ts
  space_on (script b) s ts h = absurd h
  space_on (define t f) s ts h = between_sep (define t f) s.kind s.mark ts
  space_on (spaced t x) s ts h = between_sep (spaced t x) s.kind s.mark ts

  read_top : (t : Top) (ts : List Terminal) → SoundTop r.twice t → top_height t ≤ r.limit → run r beginning (top t ts) ≡ run r (top_state t) ts
  read_top (script b) ts d l = read_block b main ts d (omega (arith, l))
  read_top (define t (fun (title m o n g) s b z)) ts d l =
      let v : max (top_height t) (block_height b) + 0 ≤ r.limit = omega (arith, l) in
      let x : top_height t + 0 ≤ r.limit = left_room (top_height t) (block_height b) 0 r.limit v in
      let y : block_height b + 0 ≤ r.limit = right_room (top_height t) (block_height b) 0 r.limit v in
      let X : List Terminal = outs_words o (named n ∷ given_words g (sep s (block b (term (w.Key k.End) z ∷ ts)))) in
      read_top t (term (w.Key k.Function) m ∷ X) d.0 (omega (arith, x)) ∙ define_on t m X ∙ read_fun t m o n g s b z ts d.2 (omega (arith, y)) d.1
  read_top (spaced t s) ts d l = read_top t (sep s ts) d.0 l ∙ space_on t s ts d.1

  end_top : (t : Top) → run r (top_state t) [] ≡ Ok (whole_of t)
  end_top (script b) = refl
  end_top (define t f) = refl
  end_top (spaced t s) = refl

  -- the terminals of a sound derivation drive the machine to its end
  pub reads : (p : Prog) → SoundProg r.twice p → prog_height p ≤ r.limit → run r beginning (prog p) ≡ Ok p
  reads (whole_of t) d l = read_top t [] d l ∙ end_top t
  reads (unended b s) d l =
      let v : max (block_height b) (smt_height s) + 0 ≤ r.limit = omega (arith, l) in
      read_block b main (smt s []) d.0 (left_room (block_height b) (smt_height s) 0 r.limit v)
      ∙ read_smt s main b [] refl d.1 (right_room (block_height b) (smt_height s) 0 r.limit v) (λ k. tt)
      ∙ end_file s b outermost d.1
