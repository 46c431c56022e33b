-- Expressions that are read back: as they are, as operands, and as the right operand of a power.
use Rattle.std.proofs.Common.{◌≡◌, ◌∙◌, ℕ, suc, ◌+◌, ◌≤◌, Bool, true, false, List, ◌∷◌, refl, ap, sym, subst, arith}
use Rattle.std.specs.Prelude.{nat_le}
use Rattle.std.proofs.lemmas.Bool.{le-leb, leb-true}
use Rattle.pl_syntax.specs.declared.expr.Expr.{Expr}
use Rattle.pl_syntax.specs.declared.expr.ExprKind as kind
use Rattle.pl_grammar.specs.declared.terminal.Terminal.{Terminal}
use Rattle.pl_grammar.specs.declared.terminal.Word.TheVariants as w
use Rattle.pl_grammar.specs.Words.{Mark, term, Sign, sign_word}
use Rattle.pl_grammar.specs.Derivations.{Signs, no_signs, more_signs, Ex, paren}
use Rattle.pl_grammar.specs.Spelling.{ex, signs}
use Rattle.pl_grammar.specs.Trees.{node, un_of, under_signs, mark, tree}
use Rattle.pl_grammar.specs.Nesting.{count, height}
use Rattle.pl_grammar.specs.Sound.{SoundEx, tightness, is_nothing}
use Rattle.pl_printing.specs.Places.{nowhere, moved_kind, moved_layer, but_places_expr}
use Rattle.pl_printing.specs.Canonical.{Words, terminal, directly, in_parentheses, held, operand, as_tight, Shown}
use Rattle.pl_printing.specs.ReadingBack.{AreAlike}
use Rattle.pl_printing.proofs.Folds.{at_unary}
use Rattle.pl_printing.proofs.Taking.{Read, Taken, take}

-- an expression of this tree, of this tightness, and no higher
pub record IsEx (t : Expr) (gap : Bool) (k h : ℕ) (n i : Bool) (d : Ex) : Type 0 where
  pub tree_is : but_places_expr (tree d) ≡ t
  pub sound : (row : Bool) → SoundEx row i d
  pub low : height d ≤ h
  pub tight : tightness d ≡ k
  pub gap_is : (mark d).gap ≡ gap
  pub nothing : is_nothing d ≡ n

-- one that binds at least so tightly
pub record IsOperand (t : Expr) (gap : Bool) (l h : ℕ) (i : Bool) (d : Ex) : Type 0 where
  pub tree_is : but_places_expr (tree d) ≡ t
  pub sound : (row : Bool) → SoundEx row i d
  pub low : height d ≤ h
  pub tight : l ≤ tightness d
  pub gap_is : (mark d).gap ≡ gap

-- signs, and an operand that needs no parentheses
abbrev pub Raised : Type 0
Raised = Signs × Ex

abbrev pub raised_words : Raised → List Terminal → List Terminal
raised_words q rest = signs q.0 (ex q.1 rest)

abbrev pub BeginsAt : Signs → Ex → Bool → Type 0
BeginsAt no_signs e gap = (mark e).gap ≡ gap
BeginsAt (more_signs us m s) e gap = Unit {0}

pub record IsRaised (t : Expr) (gap : Bool) (h : ℕ) (i : Bool) (q : Raised) : Type 0 where
  pub tree_is : but_places_expr (under_signs q.0 (tree q.1)) ≡ t
  pub sound : (row : Bool) → SoundEx row i q.1
  pub low : count q.0 + height q.1 ≤ h
  pub tight : 11 ≤ tightness q.1
  pub gap_is : BeginsAt q.0 q.1 gap

abbrev pub ReadsEx : Words → Expr → ℕ → ℕ → Bool → Bool → Type 0
ReadsEx ws t k h n i = (gap : Bool) (us r : List Terminal) → AreAlike us (ws gap r) → Read Ex ex (IsEx t gap k h n i) us r

abbrev pub ReadsOperand : Words → Expr → ℕ → ℕ → Bool → Type 0
ReadsOperand ws t l h i = (gap : Bool) (us r : List Terminal) → AreAlike us (ws gap r) → Read Ex ex (IsOperand t gap l h i) us r

abbrev pub ReadsRaised : Words → Expr → ℕ → Bool → Type 0
ReadsRaised ws t h i = (gap : Bool) (us r : List Terminal) → AreAlike us (ws gap r) → Read Raised raised_words (IsRaised t gap h i) us r

-- what is read back of an expression: its spelling, the tree without places, how tightly its source binds, and how high that is
pub record Printed (x : Shown) (t : Expr) (k h : ℕ) (i : Bool) : Type 0 where
  pub words : ReadsEx x.words t x.bind h x.is_nothing i
  pub operand : (l : ℕ) → l ≤ k → ReadsOperand (as_tight l x) t l h i
  pub raised : ReadsRaised x.raised t (suc h) i
  pub raised_tight : 11 ≤ k → ReadsRaised x.raised t h i

-- the same of an equal spelling and an equal tree
pub printed_at : (x y : Shown) (t s : Expr) (k h : ℕ) (i : Bool) → x ≡ y → t ≡ s → Printed y s k h i → Printed x t k h i
printed_at x y t s k h i e f p = subst (λ z. Printed z t k h i) (sym e) (subst (λ z. Printed y z k h i) (sym f) p)

-- ---- operands

pub as_operand : (t : Expr) (gap : Bool) (k l h : ℕ) (n i : Bool) (us r : List Terminal) → l ≤ k → Read Ex ex (IsEx t gap k h n i) us r → Read Ex ex (IsOperand t gap l h i) us r
as_operand t gap k l h n i us r g x = record {
  it = x.it;
  rest = x.rest;
  spelled = x.spelled;
  alike = x.alike;
  is = record { tree_is = x.is.tree_is; sound = x.is.sound; low = x.is.low; tight = omega (arith, g, x.is.tight); gap_is = x.is.gap_is };
}

-- it binds tightly enough
pub without : (ws : Words) (t : Expr) (k h : ℕ) (n i : Bool) → ReadsEx ws t k h n i → (l : ℕ) → l ≤ k → ReadsOperand (operand l k ws) t l h i
without ws t k h n i f l g gap us r a = as_operand t gap k l h n i us r g (f gap us r (subst (λ v. AreAlike us (held v ws gap r)) (le-leb l k g) a))

pub parenthesised : (ws : Words) (t : Expr) (k h : ℕ) (n i : Bool) → ReadsEx ws t k h n i → ReadsEx (in_parentheses ws) t 11 (suc h) false i
parenthesised ws t k h n i f gap us r a =
    let o : Taken w.Open gap us (ws false (directly w.Close ∷ r)) = take w.Open gap us (ws false (directly w.Close ∷ r)) a in
    let x : Read Ex ex (IsEx t false k h n i) o.rest (directly w.Close ∷ r) = f false o.rest (directly w.Close ∷ r) o.alike in
    let c : Taken w.Close false x.rest r = take w.Close false x.rest r x.alike in
    record {
      it = paren o.m x.it c.m;
      rest = c.rest;
      spelled = o.spelled ∙ ap (λ z. term w.Open o.m ∷ z) (x.spelled ∙ ap (ex x.it) c.spelled);
      alike = c.alike;
      is = record { tree_is = x.is.tree_is; sound = λ row. x.is.sound false; low = omega (arith, x.is.low); tight = refl; gap_is = o.gap_is; nothing = refl };
    }

-- in parentheses where they are needed
pub perhaps : (ws : Words) (t : Expr) (k h : ℕ) (n i : Bool) → ReadsEx ws t k h n i → (l : ℕ) → l ≤ 11 → ReadsOperand (operand l k ws) t l (suc h) i
perhaps ws t k h n i f l g gap us r = by_test (nat_le l k) refl
  where
    by_test : (v : Bool) → nat_le l k ≡ v → AreAlike us (held v ws gap r) → Read Ex ex (IsOperand t gap l (suc h) i) us r
    by_test true e a =
        let x : Read Ex ex (IsOperand t gap l h i) us r = as_operand t gap k l h n i us r (leb-true l k e) (f gap us r a) in
        record { it = x.it; rest = x.rest; spelled = x.spelled; alike = x.alike; is = record { tree_is = x.is.tree_is; sound = x.is.sound; low = omega (arith, x.is.low); tight = x.is.tight; gap_is = x.is.gap_is } }
    by_test false e a = as_operand t gap 11 l (suc h) false i us r g (parenthesised ws t k h n i f gap us r a)

-- no sign
pub unsigned : (ws : Words) (t : Expr) (h : ℕ) (i : Bool) → ReadsOperand ws t 11 h i → ReadsRaised ws t h i
unsigned ws t h i f gap us r a =
    let x : Read Ex ex (IsOperand t gap 11 h i) us r = f gap us r a in
    record { it = (no_signs, x.it); rest = x.rest; spelled = x.spelled; alike = x.alike; is = record { tree_is = x.is.tree_is; sound = x.is.sound; low = omega (arith, x.is.low); tight = x.is.tight; gap_is = x.is.gap_is } }

-- what is no sign before an operand, and whose source has no parentheses around it
pub plain : (ws stated : Words) (n : Bool) (t : Expr) (k h : ℕ) (i : Bool) → ReadsEx ws t k h n i → Printed (record { bind = k; words = ws; raised = operand 11 k ws; stated = stated; is_nothing = n }) t k h i
plain ws stated n t k h i f = record {
  words = f;
  operand = without ws t k h n i f;
  raised = unsigned (operand 11 k ws) t (suc h) i (perhaps ws t k h n i f 11 (omega arith));
  raised_tight = λ g. unsigned (operand 11 k ws) t h i (without ws t k h n i f 11 g);
}

-- in parentheses that the source has
pub in_source : (x : Shown) (t : Expr) (k h : ℕ) (i : Bool) → Printed x t k h i → Printed x t 11 (suc h) i
in_source x t k h i p = record {
  words = λ gap us r a. higher gap us r (p.words gap us r a);
  operand = λ l g. perhaps x.words t x.bind h x.is_nothing i p.words l g;
  raised = λ gap us r a. higher_raised gap us r (p.raised gap us r a);
  raised_tight = λ g. p.raised;
}
  where
    higher : (gap : Bool) (us r : List Terminal) → Read Ex ex (IsEx t gap x.bind h x.is_nothing i) us r → Read Ex ex (IsEx t gap x.bind (suc h) x.is_nothing i) us r
    higher gap us r y = record {
      it = y.it;
      rest = y.rest;
      spelled = y.spelled;
      alike = y.alike;
      is = record { tree_is = y.is.tree_is; sound = y.is.sound; low = omega (arith, y.is.low); tight = y.is.tight; gap_is = y.is.gap_is; nothing = y.is.nothing };
    }

    higher_raised : (gap : Bool) (us r : List Terminal) → Read Raised raised_words (IsRaised t gap (suc h) i) us r → Read Raised raised_words (IsRaised t gap (suc (suc h)) i) us r
    higher_raised gap us r y = record {
      it = y.it;
      rest = y.rest;
      spelled = y.spelled;
      alike = y.alike;
      is = record { tree_is = y.is.tree_is; sound = y.is.sound; low = omega (arith, y.is.low); tight = y.is.tight; gap_is = y.is.gap_is };
    }

-- ---- the signs of a power's right operand

-- one more sign before the others
abbrev front : Mark → Sign → Signs → Signs
front m s no_signs = more_signs no_signs m s
front m s (more_signs us n u) = more_signs (front m s us) n u

front_spelled : (m : Mark) (s : Sign) (us : Signs) (r : List Terminal) → signs (front m s us) r ≡ term (sign_word s) m ∷ signs us r
front_spelled m s no_signs r = refl
front_spelled m s (more_signs us n u) r = front_spelled m s us (term (sign_word u) n ∷ r)

front_tree : (m : Mark) (s : Sign) (us : Signs) (e : Expr) → under_signs (front m s us) e ≡ node (kind.Unary (un_of s) (under_signs us e)) m.place
front_tree m s no_signs e = refl
front_tree m s (more_signs us n u) e = front_tree m s us (node (kind.Unary (un_of u) e) n.place)

front_count : (m : Mark) (s : Sign) (us : Signs) → count (front m s us) ≡ suc (count us)
front_count m s no_signs = refl
front_count m s (more_signs us n u) = omega (arith, front_count m s us)

front_begins : (m : Mark) (s : Sign) (us : Signs) (e : Ex) (gap : Bool) → BeginsAt (front m s us) e gap
front_begins m s no_signs e gap = tt
front_begins m s (more_signs us n u) e gap = tt

pub raise : (s : Sign) (ws : Words) (t : Expr) (h : ℕ) (i : Bool) → ReadsRaised ws t h i → ReadsRaised (λ gap rest. terminal gap (sign_word s) ∷ ws false rest) (node (kind.Unary (un_of s) t) nowhere) (suc h) i
raise s ws t h i f gap us r a =
    let o : Taken (sign_word s) gap us (ws false r) = take (sign_word s) gap us (ws false r) a in
    let x : Read Raised raised_words (IsRaised t false h i) o.rest r = f false o.rest r o.alike in
    record {
      it = (front o.m s x.it.0, x.it.1);
      rest = x.rest;
      spelled = o.spelled ∙ ap (λ z. term (sign_word s) o.m ∷ z) x.spelled ∙ sym (front_spelled o.m s x.it.0 (ex x.it.1 x.rest));
      alike = x.alike;
      is = record {
        tree_is = ap but_places_expr (front_tree o.m s x.it.0 (tree x.it.1)) ∙ at_unary kind.ExprKind Expr moved_kind moved_layer (un_of s) (under_signs x.it.0 (tree x.it.1)) o.m.place ∙ ap (λ z. node (kind.Unary (un_of s) z) nowhere) x.is.tree_is;
        sound = x.is.sound;
        low = omega (arith, front_count o.m s x.it.0, x.is.low);
        tight = x.is.tight;
        gap_is = front_begins o.m s x.it.0 x.it.1 gap;
      };
    }
