-- Names are read back, those of the language with their dots too.
use Rattle.std.specs.List.{list_any}
use Rattle.std.proofs.Common.{◌≡◌, ◌∙◌, ℕ, Bool, true, false, List, [], ◌∷◌, ◌++◌, refl, ap, subst}
use Rattle.std.specs.Prelude.{codes, ◌||◌, if◌then◌else◌}
use Rattle.pl_grammar.specs.declared.terminal.Terminal.{Terminal}
use Rattle.pl_grammar.specs.declared.terminal.Word.TheVariants as w
use Rattle.pl_grammar.specs.Words.{term, Named, named, same, Dots, whole, stem, neither, dotted_names, dots, is_state}
use Rattle.pl_grammar.specs.Derivations.{Head, alone, dotted}
use Rattle.pl_grammar.specs.Spelling as spelling
use Rattle.pl_grammar.specs.Trees.{head_text, head_mark, name_of}
use Rattle.pl_grammar.specs.Sound.{IsHead}
use Rattle.pl_grammar.proofs.Kept.{same_lists}
use Rattle.pl_printing.specs.Places.{nowhere, moved}
use Rattle.pl_printing.specs.Canonical.{directly, parts_of, dotted_words, is_whole, name_words, split_words, head_words}
use Rattle.pl_printing.specs.ReadingBack.{AreAlike}
use Rattle.pl_printing.proofs.Taking.{Read, Taken, take, Noted, note}

pub record IsHeadOf (text : List ℕ) (gap : Bool) (h : Head) : Type 0 where
  pub text_is : head_text h ≡ text
  pub sound : IsHead h
  pub gap_is : (head_mark h).gap ≡ gap

abbrev ReadsParts : List ℕ → Type 0
ReadsParts text = (gap : Bool) (us r : List Terminal) → AreAlike us (dotted_words (parts_of text) gap r) → Read Head spelling.head_words (IsHeadOf text gap) us r

two_parts : (text a b : List ℕ) → parts_of text ≡ a ∷ b ∷ [] → a ++ codes "." ++ b ≡ text → is_state b ≡ false → dots (a ++ codes "." ++ b) ≡ whole → ReadsParts text
two_parts text a b parts is plain known gap us r h =
    let x : Noted a gap us (directly w.Dot ∷ directly (w.Name b) ∷ r) = note a gap us (directly w.Dot ∷ directly (w.Name b) ∷ r) (subst (λ ps. AreAlike us (dotted_words ps gap r)) parts h) in
    let d : Taken w.Dot false x.rest (directly (w.Name b) ∷ r) = take w.Dot false x.rest (directly (w.Name b) ∷ r) x.alike in
    let y : Taken (w.Name b) false d.rest r = take (w.Name b) false d.rest r d.alike in
    record {
      it = dotted (alone (record { mark = x.n.mark; text = a })) d.m (record { mark = y.m; text = b });
      rest = y.rest;
      spelled = x.spelled ∙ ap (λ t. named (record { mark = x.n.mark; text = t }) ∷ x.rest) x.text_is ∙ ap (λ z. named (record { mark = x.n.mark; text = a }) ∷ z) (d.spelled ∙ ap (λ z. term w.Dot d.m ∷ z) y.spelled);
      alike = y.alike;
      is = record { text_is = is; sound = (plain, known, tt); gap_is = x.gap_is };
    }

three_parts : (text a b c : List ℕ) → parts_of text ≡ a ∷ b ∷ c ∷ [] → (a ++ codes "." ++ b) ++ codes "." ++ c ≡ text → is_state b ≡ false → dots (a ++ codes "." ++ b) ≡ stem → is_state c ≡ false → dots ((a ++ codes "." ++ b) ++ codes "." ++ c) ≡ whole → ReadsParts text
three_parts text a b c parts is plain begun plain' known gap us r h =
    let r1 : List Terminal = directly w.Dot ∷ directly (w.Name c) ∷ r in
    let x : Noted a gap us (directly w.Dot ∷ directly (w.Name b) ∷ r1) = note a gap us (directly w.Dot ∷ directly (w.Name b) ∷ r1) (subst (λ ps. AreAlike us (dotted_words ps gap r)) parts h) in
    let d : Taken w.Dot false x.rest (directly (w.Name b) ∷ r1) = take w.Dot false x.rest (directly (w.Name b) ∷ r1) x.alike in
    let y : Taken (w.Name b) false d.rest r1 = take (w.Name b) false d.rest r1 d.alike in
    let e : Taken w.Dot false y.rest (directly (w.Name c) ∷ r) = take w.Dot false y.rest (directly (w.Name c) ∷ r) y.alike in
    let z : Taken (w.Name c) false e.rest r = take (w.Name c) false e.rest r e.alike in
    record {
      it = dotted (dotted (alone (record { mark = x.n.mark; text = a })) d.m (record { mark = y.m; text = b })) e.m (record { mark = z.m; text = c });
      rest = z.rest;
      spelled = x.spelled ∙ ap (λ t. named (record { mark = x.n.mark; text = t }) ∷ x.rest) x.text_is ∙ ap (λ q. named (record { mark = x.n.mark; text = a }) ∷ q) (d.spelled ∙ ap (λ q. term w.Dot d.m ∷ q) (y.spelled ∙ ap (λ q. term (w.Name b) y.m ∷ q) (e.spelled ∙ ap (λ q. term w.Dot e.m ∷ q) z.spelled)));
      alike = z.alike;
      is = record { text_is = is; sound = (plain', known, (plain, begun, tt)); gap_is = x.gap_is };
    }

-- the names of the language
queue : ReadsParts (codes "parallel.pool.DataQueue")
unfolding dots is_state
queue = three_parts (codes "parallel.pool.DataQueue") (codes "parallel") (codes "pool") (codes "DataQueue") refl refl refl refl refl refl

pollable : ReadsParts (codes "parallel.pool.PollableDataQueue")
unfolding dots is_state
pollable = three_parts (codes "parallel.pool.PollableDataQueue") (codes "parallel") (codes "pool") (codes "PollableDataQueue") refl refl refl refl refl refl

build : ReadsParts (codes "codistributed.build")
unfolding dots is_state
build = two_parts (codes "codistributed.build") (codes "codistributed") (codes "build") refl refl refl refl

zeros : ReadsParts (codes "codistributed.zeros")
unfolding dots is_state
zeros = two_parts (codes "codistributed.zeros") (codes "codistributed") (codes "zeros") refl refl refl refl

ones : ReadsParts (codes "codistributed.ones")
unfolding dots is_state
ones = two_parts (codes "codistributed.ones") (codes "codistributed") (codes "ones") refl refl refl refl

unset : ReadsParts (codes "codistributor1d.unsetPartition")
unfolding dots is_state
unset = two_parts (codes "codistributor1d.unsetPartition") (codes "codistributor1d") (codes "unsetPartition") refl refl refl refl

-- each of these
abbrev All : List (List ℕ) → Type 0
All [] = Unit {0}
All (n ∷ ns) = ReadsParts n × All ns

among : (ns : List (List ℕ)) (text : List ℕ) → All ns → list_any (λ n. same n text) ns ≡ true → ReadsParts text
among [] text all h = elim (no h) [ ]
  where
    no : false ≡ true → ⊥
    no e = cc
among (n ∷ ns) text all h = by_test (among ns text all.1) (same n text) refl h
  where
    by_test : (list_any (λ m. same m text) ns ≡ true → ReadsParts text) → (v : Bool) → same n text ≡ v → v || list_any (λ m. same m text) ns ≡ true → ReadsParts text
    by_test others true e g = subst ReadsParts (same_lists n text e) all.0
    by_test others false e g = others g

all_known : All dotted_names
all_known = (queue, (pollable, (build, (zeros, (ones, (unset, tt))))))

known : (text : List ℕ) → dots text ≡ whole → list_any (λ n. same n text) dotted_names ≡ true
unfolding dots
known text h = by_test (list_any (λ n. same n text) dotted_names) h
  where
    by_test : (v : Bool) → (if v then whole else (if same (codes "parallel.pool") text then stem else neither)) ≡ whole → v ≡ true
    by_test true e = refl
    by_test false e = elim (no_whole (same (codes "parallel.pool") text) e) [ ]
      where
        no_whole : (v : Bool) → (if v then stem else neither) ≡ whole → ⊥
        no_whole true e = cc
        no_whole false e = cc

pub read_head : (text : List ℕ) (gap : Bool) (us r : List Terminal) → AreAlike us (head_words text gap r) → Read Head spelling.head_words (IsHeadOf text gap) us r
read_head text gap us r = by_dots (dots text) refl
  where
    as_it_is : AreAlike us (name_words text gap r) → Read Head spelling.head_words (IsHeadOf text gap) us r
    as_it_is h = let x : Noted text gap us r = note text gap us r h in record { it = alone x.n; rest = x.rest; spelled = x.spelled; alike = x.alike; is = record { text_is = x.text_is; sound = tt; gap_is = x.gap_is } }

    by_dots : (v : Dots) → dots text ≡ v → AreAlike us (split_words (is_whole v) text gap r) → Read Head spelling.head_words (IsHeadOf text gap) us r
    by_dots whole e h = among dotted_names text all_known (known text e) gap us r h
    by_dots stem e h = as_it_is h
    by_dots neither e h = as_it_is h

-- a name but for its place
pub moved_same : (n m : Named) → n.text ≡ m.text → moved (name_of n) ≡ moved (name_of m)
moved_same n m h = ap (λ t. record { text = t; place = nowhere }) h
