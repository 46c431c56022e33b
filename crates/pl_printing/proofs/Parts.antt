-- The parts of compound statements are read back, each with the beginning of its block.
use Rattle.std.proofs.Common.{◌≡◌, ◌∙◌, ℕ, ◌≤◌, Bool, true, false, Some, None, List, [], ◌∷◌, refl, ap, sym, arith}
use Rattle.std.proofs.Math.Nat.{le-max_right}
use Rattle.pl_syntax.specs.declared.expr.Expr.{Expr}
use Rattle.pl_syntax.specs.declared.stmt.Stmt.{Stmt}
use Rattle.pl_grammar.specs.declared.owner.Owner.{Owner}
use Rattle.pl_grammar.specs.declared.owner.Owner.TheVariants as own
use Rattle.pl_grammar.specs.declared.terminal.Terminal.{Terminal}
use Rattle.pl_grammar.specs.declared.terminal.Word.TheVariants as w
use Rattle.pl_grammar.specs.declared.terminal.Keyword.{Keyword}
use Rattle.pl_grammar.specs.declared.terminal.Keyword.TheVariants as k
use Rattle.pl_grammar.specs.Words.{Mark, term, Named, named, line, Use, tests, loops, direct, plain, use_of, is_link}
use Rattle.pl_grammar.specs.Derivations.{Ex, test, each, each_in, bound, workers, upto, shut, no_value, Part, headed, unheaded, Block, empty, blank}
use Rattle.pl_grammar.specs.Spelling.{ex, part, block}
use Rattle.pl_grammar.specs.Trees.{name_of, tree, test_owner, for_owner, begun, with_value, stmts}
use Rattle.pl_grammar.specs.Nesting.{height, part_height, block_height}
use Rattle.pl_grammar.specs.Sound.{SoundEx, SoundPart, part_word, Scene, SoundBlock}
use Rattle.pl_printing.specs.Places.{nowhere, moved, but_places_expr}
use Rattle.pl_printing.specs.Canonical.{Words, directly, apart, expr_words, key, line_end, workers_words, each_words, parfor_words}
use Rattle.pl_printing.specs.ReadingBack.{AreAlike}
use Rattle.pl_printing.proofs.Taking.{Read, Taken, take, Noted, note, max_grows}
use Rattle.pl_printing.proofs.Expressions.{no_state}
use Rattle.pl_printing.proofs.Simple.{IsValue, reads_value}
use Rattle.pl_printing.proofs.Owners.{moved_owner, moved_step}

-- a block without statements
pub record IsStart (b : Block) : Type 0 where
  pub none : stmts b ≡ []
  pub sound : (c : Scene) → SoundBlock c b
  pub low : block_height b ≤ 0

pub nothing_yet : IsStart empty
nothing_yet = record { none = refl; sound = λ c. tt; low = omega arith }

pub line_only : (m : Mark) → IsStart (blank empty (record { kind = line; mark = m }))
line_only m = record { none = refl; sound = λ c. tt; low = omega arith }

-- a part, and the separators of its block
abbrev pub Begun : Type 0
Begun = Part × Block

abbrev pub begun_words : Begun → List Terminal → List Terminal
begun_words q rest = part q.0 (block q.1 rest)

pub record IsPart (p : Part) (q : Begun) : Type 0 where
  pub word_is : part_word q.0 ≡ part_word p
  pub sound : SoundPart q.0
  pub low : part_height q.0 ≤ part_height p
  pub begun_is : moved_owner (begun q.0) ≡ moved_owner (begun p)
  pub step_is : is_link (part_word p) ≡ true → (o : Owner) (ss : List Stmt) → moved_step q.0 o ss ≡ moved_step p o ss
  pub start : IsStart q.1

-- how a part is spelled
abbrev pub part_words : Part → Words
part_words (headed (upto (test word m) e) s) gap rest = key gap word ∷ expr_words (tree e) true (line_end rest)
part_words (headed (upto (each word m n q) e) s) gap rest = key gap word ∷ each_words (name_of n) (tree e) true (line_end rest)
part_words (headed (shut (each_in word m o n q) e z) s) gap rest = key gap word ∷ each_words (name_of n) (tree e) true (line_end rest)
part_words (headed (shut (bound m o n q e c) x z) s) gap rest = key gap k.Parfor ∷ parfor_words (name_of n) (tree e) (Some (tree x)) (line_end rest)
part_words (headed (shut (workers m o) e z) s) gap rest = key gap k.Spmd ∷ workers_words (Some (tree e)) (line_end rest)
part_words (headed (no_value word m) s) gap rest = key gap word ∷ line_end rest
part_words (unheaded word m) gap rest = key gap word ∷ line_end rest

-- ---- words

test_same : (word : Keyword) (e t : Expr) → but_places_expr e ≡ but_places_expr t → moved_owner (test_owner word e) ≡ moved_owner (test_owner word t)
test_same k.While e t h = ap own.While h
test_same k.Switch e t h = ap own.Switch h
test_same word e t h = ap (own.If []) h

name_same : (n m : Named) → n.text ≡ m.text → moved (name_of n) ≡ moved (name_of m)
name_same n m h = ap (λ (x : List ℕ). record { text = x; place = nowhere }) h

for_same : (word : Keyword) (n m : Named) (e t : Expr) → n.text ≡ m.text → but_places_expr e ≡ but_places_expr t → moved_owner (for_owner word (name_of n) e) ≡ moved_owner (for_owner word (name_of m) t)
for_same k.Parfor n m e t g h = ap (λ v. own.Parfor v (but_places_expr e) None) (name_same n m g) ∙ ap (λ v. own.Parfor (moved (name_of m)) v None) h
for_same word n m e t g h = ap (λ v. own.For v (but_places_expr e)) (name_same n m g) ∙ ap (λ v. own.For (moved (name_of m)) v) h

bound_same : (n m : Named) (e t x y : Expr) → n.text ≡ m.text → but_places_expr e ≡ but_places_expr t → but_places_expr x ≡ but_places_expr y → moved_owner (own.Parfor (name_of n) e (Some x)) ≡ moved_owner (own.Parfor (name_of m) t (Some y))
bound_same n m e t x y g h i = ap (λ v. own.Parfor v (but_places_expr e) (Some (but_places_expr x))) (name_same n m g) ∙ ap (λ v. own.Parfor (moved (name_of m)) v (Some (but_places_expr x))) h ∙ ap (λ v. own.Parfor (moved (name_of m)) (but_places_expr t) (Some v)) i

pub wrong : {A : Type 0} (u v : Use) → (u ≡ v → ⊥) → u ≡ v → A
wrong u v differ h = elim (differ h) [ ]

-- a loop goes on with nothing
loops_begin : {A : Type 0} (word : Keyword) → use_of word ≡ loops → is_link word ≡ true → A
loops_begin k.Elseif u h = wrong tests loops (λ e. cc) u
loops_begin k.Else u h = wrong direct loops (λ e. cc) u
loops_begin k.Case u h = wrong tests loops (λ e. cc) u
loops_begin k.Otherwise u h = wrong direct loops (λ e. cc) u
loops_begin k.Catch u h = wrong plain loops (λ e. cc) u
loops_begin word u h = no_state h

-- ---- loops

pub record IsEach (n : Named) (e : Ex) (q : Named × Mark × Ex) : Type 0 where
  pub text_is : q.0.text ≡ n.text
  pub value : IsValue e q.2

abbrev pub each_spelled : Named × Mark × Ex → List Terminal → List Terminal
each_spelled q rest = named q.0 ∷ term w.Equal q.1 ∷ ex q.2 rest

read_each : (n : Named) (e : Ex) → SoundEx false false e → (gap : Bool) (us r : List Terminal) → AreAlike us (each_words (name_of n) (tree e) gap r) → Read (Named × Mark × Ex) each_spelled (IsEach n e) us r
read_each n e s gap us r a =
    let r1 : List Terminal = expr_words (tree e) true r in
    let x : Noted n.text gap us (apart w.Equal ∷ r1) = note n.text gap us (apart w.Equal ∷ r1) a in
    let q : Taken w.Equal true x.rest r1 = take w.Equal true x.rest r1 x.alike in
    let y : Read Ex ex (IsValue e) q.rest r = reads_value e s true q.rest r q.alike in
    record { it = (x.n, q.m, y.it); rest = y.rest; spelled = x.spelled ∙ ap (λ v. named x.n ∷ v) (q.spelled ∙ ap (λ v. term w.Equal q.m ∷ v) y.spelled); alike = y.alike; is = record { text_is = x.text_is; value = y.is } }

-- a loop without a parenthesis, of a source that has one or not
read_loop : (word : Keyword) (n : Named) (e : Ex) → use_of word ≡ loops → SoundEx false false e → (p : Part) → part_word p ≡ word → height e ≤ part_height p → moved_owner (begun p) ≡ moved_owner (for_owner word (name_of n) (tree e))
    → (gap : Bool) (us r : List Terminal) → AreAlike us (key gap word ∷ each_words (name_of n) (tree e) true (line_end r)) → Read Begun begun_words (IsPart p) us r
read_loop word n e u s p word_is low begun_is gap us r a =
    let r1 : List Terminal = each_words (name_of n) (tree e) true (line_end r) in
    let x : Taken (w.Key word) gap us r1 = take (w.Key word) gap us r1 a in
    let y : Read (Named × Mark × Ex) each_spelled (IsEach n e) x.rest (line_end r) = read_each n e s true x.rest (line_end r) x.alike in
    let l : Taken w.LineEnd false y.rest r = take w.LineEnd false y.rest r y.alike in
    record {
      it = (headed (upto (each word x.m y.it.0 y.it.1) y.it.2) (record { kind = line; mark = l.m }), empty);
      rest = l.rest;
      spelled = x.spelled ∙ ap (λ v. term (w.Key word) x.m ∷ v) (y.spelled ∙ ap (each_spelled y.it) l.spelled);
      alike = l.alike;
      is = record {
        word_is = sym word_is;
        sound = (u, y.is.value.sound);
        low = omega (arith, low, y.is.value.low);
        begun_is = for_same word y.it.0 n (tree y.it.2) (tree e) y.is.text_is y.is.value.tree_is ∙ sym begun_is;
        step_is = λ h o ss. loops_begin word u (ap is_link (sym word_is) ∙ h);
        start = nothing_yet;
      };
    }

-- ---- parts

pub read_part : (p : Part) → SoundPart p → (gap : Bool) (us r : List Terminal) → AreAlike us (part_words p gap r) → Read Begun begun_words (IsPart p) us r
read_part (headed (upto (test word m) e) s) h gap us r a =
    let r1 : List Terminal = expr_words (tree e) true (line_end r) in
    let x : Taken (w.Key word) gap us r1 = take (w.Key word) gap us r1 a in
    let y : Read Ex ex (IsValue e) x.rest (line_end r) = reads_value e h.1 true x.rest (line_end r) x.alike in
    let l : Taken w.LineEnd false y.rest r = take w.LineEnd false y.rest r y.alike in
    record {
      it = (headed (upto (test word x.m) y.it) (record { kind = line; mark = l.m }), empty);
      rest = l.rest;
      spelled = x.spelled ∙ ap (λ v. term (w.Key word) x.m ∷ v) (y.spelled ∙ ap (ex y.it) l.spelled);
      alike = l.alike;
      is = record {
        word_is = refl;
        sound = (h.0, y.is.sound);
        low = y.is.low;
        begun_is = test_same word (tree y.it) (tree e) y.is.tree_is;
        step_is = λ g o ss. ap (with_value o ss) y.is.tree_is;
        start = nothing_yet;
      };
    }
read_part (headed (upto (each word m n q) e) s) h gap us r a = read_loop word n e h.0 h.1 (headed (upto (each word m n q) e) s) refl (omega arith) refl gap us r a
read_part (headed (shut (each_in word m o n q) e z) s) h gap us r a = read_loop word n e h.0 h.1 (headed (shut (each_in word m o n q) e z) s) refl (le-max_right 0 (height e)) refl gap us r a
read_part (headed (shut (bound m o n q e c) f z) s) h gap us r a =
    let r3 : List Terminal = expr_words (tree f) true (directly w.Close ∷ line_end r) in
    let r2 : List Terminal = each_words (name_of n) (tree e) false (directly w.Comma ∷ r3) in
    let x : Taken (w.Key k.Parfor) gap us (apart w.Open ∷ r2) = take (w.Key k.Parfor) gap us (apart w.Open ∷ r2) a in
    let b : Taken w.Open true x.rest r2 = take w.Open true x.rest r2 x.alike in
    let y : Read (Named × Mark × Ex) each_spelled (IsEach n e) b.rest (directly w.Comma ∷ r3) = read_each n e h.0 false b.rest (directly w.Comma ∷ r3) b.alike in
    let d : Taken w.Comma false y.rest r3 = take w.Comma false y.rest r3 y.alike in
    let v : Read Ex ex (IsValue f) d.rest (directly w.Close ∷ line_end r) = reads_value f h.1 true d.rest (directly w.Close ∷ line_end r) d.alike in
    let g : Taken w.Close false v.rest (line_end r) = take w.Close false v.rest (line_end r) v.alike in
    let l : Taken w.LineEnd false g.rest r = take w.LineEnd false g.rest r g.alike in
    record {
      it = (headed (shut (bound x.m b.m y.it.0 y.it.1 y.it.2 d.m) v.it g.m) (record { kind = line; mark = l.m }), empty);
      rest = l.rest;
      spelled = x.spelled ∙ ap (λ i. term (w.Key k.Parfor) x.m ∷ i) (b.spelled ∙ ap (λ i. term w.Open b.m ∷ i) (y.spelled ∙ ap (each_spelled y.it) (d.spelled ∙ ap (λ i. term w.Comma d.m ∷ i) (v.spelled ∙ ap (ex v.it) (g.spelled ∙ ap (λ i. term w.Close g.m ∷ i) l.spelled)))));
      alike = l.alike;
      is = record {
        word_is = refl;
        sound = (y.is.value.sound, v.is.sound);
        low = max_grows (height y.it.2) (height v.it) (height e) (height f) y.is.value.low v.is.low;
        begun_is = bound_same y.it.0 n (tree y.it.2) (tree e) (tree v.it) (tree f) y.is.text_is y.is.value.tree_is v.is.tree_is;
        step_is = λ i o ss. no_state i;
        start = nothing_yet;
      };
    }
read_part (headed (shut (workers m o) e z) s) h gap us r a =
    let r1 : List Terminal = expr_words (tree e) false (directly w.Close ∷ line_end r) in
    let x : Taken (w.Key k.Spmd) gap us (apart w.Open ∷ r1) = take (w.Key k.Spmd) gap us (apart w.Open ∷ r1) a in
    let b : Taken w.Open true x.rest r1 = take w.Open true x.rest r1 x.alike in
    let v : Read Ex ex (IsValue e) b.rest (directly w.Close ∷ line_end r) = reads_value e h.1 false b.rest (directly w.Close ∷ line_end r) b.alike in
    let g : Taken w.Close false v.rest (line_end r) = take w.Close false v.rest (line_end r) v.alike in
    let l : Taken w.LineEnd false g.rest r = take w.LineEnd false g.rest r g.alike in
    record {
      it = (headed (shut (workers x.m b.m) v.it g.m) (record { kind = line; mark = l.m }), empty);
      rest = l.rest;
      spelled = x.spelled ∙ ap (λ i. term (w.Key k.Spmd) x.m ∷ i) (b.spelled ∙ ap (λ i. term w.Open b.m ∷ i) (v.spelled ∙ ap (ex v.it) (g.spelled ∙ ap (λ i. term w.Close g.m ∷ i) l.spelled)));
      alike = l.alike;
      is = record {
        word_is = refl;
        sound = (tt, v.is.sound);
        low = max_grows 0 (height v.it) 0 (height e) (omega arith) v.is.low;
        begun_is = ap (λ i. own.Spmd (Some i)) v.is.tree_is;
        step_is = λ i o ss. refl;
        start = nothing_yet;
      };
    }
read_part (headed (no_value word m) s) h gap us r a =
    let x : Taken (w.Key word) gap us (line_end r) = take (w.Key word) gap us (line_end r) a in
    let l : Taken w.LineEnd false x.rest r = take w.LineEnd false x.rest r x.alike in
    record {
      it = (headed (no_value word x.m) (record { kind = line; mark = l.m }), empty);
      rest = l.rest;
      spelled = x.spelled ∙ ap (λ i. term (w.Key word) x.m ∷ i) l.spelled;
      alike = l.alike;
      is = record { word_is = refl; sound = h; low = omega arith; begun_is = refl; step_is = λ i o ss. refl; start = nothing_yet };
    }
read_part (unheaded word m) h gap us r a =
    let x : Taken (w.Key word) gap us (line_end r) = take (w.Key word) gap us (line_end r) a in
    let l : Taken w.LineEnd false x.rest r = take w.LineEnd false x.rest r x.alike in
    record {
      it = (unheaded word x.m, blank empty (record { kind = line; mark = l.m }));
      rest = l.rest;
      spelled = x.spelled ∙ ap (λ i. term (w.Key word) x.m ∷ i) l.spelled;
      alike = l.alike;
      is = record { word_is = refl; sound = h; low = omega arith; begun_is = refl; step_is = λ i o ss. refl; start = line_only l.m };
    }
