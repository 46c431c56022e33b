-- Operators are read back, given that their operands are.
use Rattle.std.proofs.Common.{◌≡◌, ◌∙◌, ℕ, suc, ◌+◌, ◌≤◌, Bool, true, false, Some, None, List, ◌∷◌, refl, ap, sym, subst, arith}
use Rattle.std.specs.Prelude.{max}
use Rattle.std.proofs.Math.Nat.{le-max_right}
use Rattle.std.proofs.lemmas.Bool.{eqb-true}
use Rattle.pl_syntax.specs.declared.expr.Bin.{Bin}
use Rattle.pl_syntax.specs.declared.expr.Un.TheVariants as un
use Rattle.pl_syntax.specs.declared.expr.Expr.{Expr}
use Rattle.pl_syntax.specs.declared.expr.ExprKind as kind
use Rattle.pl_grammar.specs.declared.terminal.Terminal.{Terminal}
use Rattle.pl_grammar.specs.declared.terminal.Word.TheVariants as w
use Rattle.pl_grammar.specs.Words.{Mark, term, plus, minus, Sign, additive, tilde, sign_word, level, is_power}
use Rattle.pl_grammar.specs.Derivations.{Signs, no_signs, more_signs, Ex, under, transposed, joined, signed, from, stepped}
use Rattle.pl_grammar.specs.Spelling.{ex}
use Rattle.pl_grammar.specs.Trees.{node, un_of, under_signs, tree}
use Rattle.pl_grammar.specs.Nesting.{count, height}
use Rattle.pl_grammar.specs.Sound.{signs_fit, IsSpaced}
use Rattle.pl_printing.specs.Places.{nowhere, moved_kind, moved_layer}
use Rattle.pl_printing.specs.Canonical.{Words, terminal, directly, apart, as_tight, Shown, signed_by, unary}
use Rattle.pl_printing.proofs.Folds.{at_unary, at_binary, at_range, at_stepped}
use Rattle.pl_printing.proofs.Taking.{Read, Taken, take, max_grows}
use Rattle.pl_printing.proofs.Operands.{IsOperand, Raised, raised_words, BeginsAt, IsRaised, ReadsEx, ReadsRaised, Printed, without, raise}

binary_same : (o : Bin) (a b s t : Expr) → a ≡ s → b ≡ t → node (kind.Binary o a b) nowhere ≡ node (kind.Binary o s t) nowhere
binary_same o a b s t e f = ap (λ x. node (kind.Binary o x b) nowhere) e ∙ ap (λ x. node (kind.Binary o s x) nowhere) f

range_same : (a b s t : Expr) → a ≡ s → b ≡ t → node (kind.Range a None b) nowhere ≡ node (kind.Range s None t) nowhere
range_same a b s t e f = ap (λ x. node (kind.Range x None b) nowhere) e ∙ ap (λ x. node (kind.Range s None x) nowhere) f

stepped_same : (a c b s u t : Expr) → a ≡ s → c ≡ u → b ≡ t → node (kind.Range a (Some c) b) nowhere ≡ node (kind.Range s (Some u) t) nowhere
stepped_same a c b s u t e g f = ap (λ x. node (kind.Range x (Some c) b) nowhere) e ∙ ap (λ x. node (kind.Range s (Some x) b) nowhere) g ∙ ap (λ x. node (kind.Range s (Some u) x) nowhere) f

-- ---- operators of two operands

-- an operator that is no power
pub reads_binary : (o : Bin) (xa xb : Shown) (ta tb : Expr) (ka ha kb hb : ℕ) (i : Bool) → Printed xa ta ka ha i → Printed xb tb kb hb i → level o ≤ ka → suc (level o) ≤ kb
    → ReadsEx (λ gap rest. as_tight (level o) xa gap (apart (w.Binary o) ∷ as_tight (suc (level o)) xb true rest)) (node (kind.Binary o ta tb) nowhere) (level o) (max (suc ha) (1 + hb)) false i
reads_binary o xa xb ta tb ka ha kb hb i pa pb la lb gap us r h =
    let a : Read Ex ex (IsOperand ta gap (level o) ha i) us (apart (w.Binary o) ∷ as_tight (suc (level o)) xb true r) = pa.operand (level o) la gap us (apart (w.Binary o) ∷ as_tight (suc (level o)) xb true r) h in
    let s : Taken (w.Binary o) true a.rest (as_tight (suc (level o)) xb true r) = take (w.Binary o) true a.rest (as_tight (suc (level o)) xb true r) a.alike in
    let b : Read Ex ex (IsOperand tb true (suc (level o)) hb i) s.rest r = pb.operand (suc (level o)) lb true s.rest r s.alike in
    record {
      it = under (joined a.it o s.m no_signs) b.it;
      rest = b.rest;
      spelled = a.spelled ∙ ap (ex a.it) (s.spelled ∙ ap (λ z. term (w.Binary o) s.m ∷ z) b.spelled);
      alike = b.alike;
      is = record {
        tree_is = at_binary kind.ExprKind Expr moved_kind moved_layer o (tree a.it) (tree b.it) s.m.place ∙ binary_same o _ _ ta tb a.is.tree_is b.is.tree_is;
        sound = λ row. ((a.is.tight, refl, a.is.sound row), b.is.tight, λ g. b.is.gap_is, b.is.sound row);
        low = max_grows (suc (height a.it)) (1 + height b.it) (suc ha) (1 + hb) (omega (arith, a.is.low)) (omega (arith, b.is.low));
        tight = refl;
        gap_is = a.is.gap_is;
        nothing = refl;
      };
    }

pub power_level : (o : Bin) → is_power o ≡ true → level o ≡ 10
power_level o h = eqb-true (level o) 10 h

signs_fit_power : (o : Bin) → is_power o ≡ true → (us : Signs) → signs_fit o us ≡ true
signs_fit_power o h no_signs = refl
signs_fit_power o h (more_signs us m s) = h

spaced_power : (row : Bool) (a : Ex) (o : Bin) (m : Mark) (us : Signs) (e : Ex) → BeginsAt us e true → IsSpaced row (joined a o m us) e
spaced_power row a o m no_signs e h = λ g. h
spaced_power row a o m (more_signs us n s) e h = tt

pub reads_power : (o : Bin) (xa : Shown) (ws : Words) (ta tb : Expr) (ka ha hb : ℕ) (i : Bool) → is_power o ≡ true → Printed xa ta ka ha i → ReadsRaised ws tb hb i → level o ≤ ka
    → ReadsEx (λ gap rest. as_tight (level o) xa gap (apart (w.Binary o) ∷ ws true rest)) (node (kind.Binary o ta tb) nowhere) (level o) (max (suc ha) (suc hb)) false i
reads_power o xa ws ta tb ka ha hb i power pa f la gap us r h =
    let a : Read Ex ex (IsOperand ta gap (level o) ha i) us (apart (w.Binary o) ∷ ws true r) = pa.operand (level o) la gap us (apart (w.Binary o) ∷ ws true r) h in
    let s : Taken (w.Binary o) true a.rest (ws true r) = take (w.Binary o) true a.rest (ws true r) a.alike in
    let b : Read Raised raised_words (IsRaised tb true hb i) s.rest r = f true s.rest r s.alike in
    record {
      it = under (joined a.it o s.m b.it.0) b.it.1;
      rest = b.rest;
      spelled = a.spelled ∙ ap (ex a.it) (s.spelled ∙ ap (λ z. term (w.Binary o) s.m ∷ z) b.spelled);
      alike = b.alike;
      is = record {
        tree_is = at_binary kind.ExprKind Expr moved_kind moved_layer o (tree a.it) (under_signs b.it.0 (tree b.it.1)) s.m.place ∙ binary_same o _ _ ta tb a.is.tree_is b.is.tree_is;
        sound = λ row. ((a.is.tight, signs_fit_power o power b.it.0, a.is.sound row), omega (arith, power_level o power, b.is.tight), spaced_power row a.it o s.m b.it.0 b.it.1 b.is.gap_is, b.is.sound row);
        low = max_grows (suc (height a.it)) (suc (count b.it.0) + height b.it.1) (suc ha) (suc hb) (omega (arith, a.is.low)) (omega (arith, b.is.low));
        tight = refl;
        gap_is = a.is.gap_is;
        nothing = refl;
      };
    }

-- ---- signs before an operand

signed_words : (s : Sign) (x : Shown) → unary (un_of s) x ≡ signed_by (sign_word s) x
signed_words (additive plus) x = refl
signed_words (additive minus) x = refl
signed_words tilde x = refl

reads_signed : (s : Sign) (x : Shown) (t : Expr) (k h : ℕ) (i : Bool) → Printed x t k h i → 9 ≤ k
    → ReadsEx (λ gap rest. terminal gap (sign_word s) ∷ as_tight 9 x false rest) (node (kind.Unary (un_of s) t) nowhere) 9 (max 1 (1 + h)) false i
reads_signed s x t k h i p l gap us r a =
    let o : Taken (sign_word s) gap us (as_tight 9 x false r) = take (sign_word s) gap us (as_tight 9 x false r) a in
    let e : Read Ex ex (IsOperand t false 9 h i) o.rest r = p.operand 9 l false o.rest r o.alike in
    record {
      it = under (signed o.m s) e.it;
      rest = e.rest;
      spelled = o.spelled ∙ ap (λ z. term (sign_word s) o.m ∷ z) e.spelled;
      alike = e.alike;
      is = record {
        tree_is = at_unary kind.ExprKind Expr moved_kind moved_layer (un_of s) (tree e.it) o.m.place ∙ ap (λ z. node (kind.Unary (un_of s) z) nowhere) e.is.tree_is;
        sound = λ row. (tt, e.is.tight, tt, e.is.sound row);
        low = max_grows 1 (1 + height e.it) 1 (1 + h) (omega arith) (omega (arith, e.is.low));
        tight = refl;
        gap_is = o.gap_is;
        nothing = refl;
      };
    }

pub higher_raised : (ws : Words) (t : Expr) (g h : ℕ) (i : Bool) → g ≤ h → ReadsRaised ws t g i → ReadsRaised ws t h i
higher_raised ws t g h i l f gap us r a =
    let x : Read Raised raised_words (IsRaised t gap g i) us r = f gap us r a in
    record { it = x.it; rest = x.rest; spelled = x.spelled; alike = x.alike; is = record { tree_is = x.is.tree_is; sound = x.is.sound; low = omega (arith, x.is.low, l); tight = x.is.tight; gap_is = x.is.gap_is } }

pub printed_signed : (s : Sign) (x : Shown) (t : Expr) (k h : ℕ) (i : Bool) → Printed x t k h i → 9 ≤ k → Printed (unary (un_of s) x) (node (kind.Unary (un_of s) t) nowhere) 9 (max 1 (1 + h)) i
printed_signed s x t k h i p l =
    let T : Expr = node (kind.Unary (un_of s) t) nowhere in
    let f : ReadsEx (λ gap rest. terminal gap (sign_word s) ∷ as_tight 9 x false rest) T 9 (max 1 (1 + h)) false i = reads_signed s x t k h i p l in
    let y : Printed (signed_by (sign_word s) x) T 9 (max 1 (1 + h)) i = record {
      words = f;
      operand = without (λ gap rest. terminal gap (sign_word s) ∷ as_tight 9 x false rest) T 9 (max 1 (1 + h)) false i f;
      raised = higher_raised (λ gap rest. terminal gap (sign_word s) ∷ x.raised false rest) T (suc (suc h)) (suc (max 1 (1 + h))) i (omega (arith, le-max_right 1 (1 + h))) (raise s x.raised t (suc h) i p.raised);
      raised_tight = λ g. absurd (omega (arith, g));
    } in
    subst (λ z. Printed z T 9 (max 1 (1 + h)) i) (sym (signed_words s x)) y

-- the signs of a source's right operand of a power
pub raised_words_of : (s : Sign) (x : Shown) → (gap : Bool) (r : List Terminal) → (unary (un_of s) x).raised gap r ≡ terminal gap (sign_word s) ∷ x.raised false r
raised_words_of (additive plus) x gap r = refl
raised_words_of (additive minus) x gap r = refl
raised_words_of tilde x gap r = refl

-- ---- transposition

pub reads_transposed : (x : Shown) (t : Expr) (k h : ℕ) (i : Bool) → Printed x t k h i → 10 ≤ k
    → ReadsEx (λ gap rest. as_tight 10 x gap (directly w.Quote ∷ rest)) (node (kind.Unary un.Transpose t) nowhere) 10 (suc h) false i
reads_transposed x t k h i p l gap us r a =
    let e : Read Ex ex (IsOperand t gap 10 h i) us (directly w.Quote ∷ r) = p.operand 10 l gap us (directly w.Quote ∷ r) a in
    let q : Taken w.Quote false e.rest r = take w.Quote false e.rest r e.alike in
    record {
      it = transposed e.it q.m;
      rest = q.rest;
      spelled = e.spelled ∙ ap (ex e.it) q.spelled;
      alike = q.alike;
      is = record {
        tree_is = at_unary kind.ExprKind Expr moved_kind moved_layer un.Transpose (tree e.it) q.m.place ∙ ap (λ z. node (kind.Unary un.Transpose z) nowhere) e.is.tree_is;
        sound = λ row. (e.is.tight, e.is.sound row);
        low = omega (arith, e.is.low);
        tight = refl;
        gap_is = e.is.gap_is;
        nothing = refl;
      };
    }

-- ---- ranges

pub reads_range : (xa xb : Shown) (ta tb : Expr) (ka ha kb hb : ℕ) (i : Bool) → Printed xa ta ka ha i → Printed xb tb kb hb i → 7 ≤ ka → 7 ≤ kb
    → ReadsEx (λ gap rest. as_tight 7 xa gap (directly w.Colon ∷ as_tight 7 xb false rest)) (node (kind.Range ta None tb) nowhere) 6 (max (suc ha) (1 + hb)) false i
reads_range xa xb ta tb ka ha kb hb i pa pb la lb gap us r h =
    let a : Read Ex ex (IsOperand ta gap 7 ha i) us (directly w.Colon ∷ as_tight 7 xb false r) = pa.operand 7 la gap us (directly w.Colon ∷ as_tight 7 xb false r) h in
    let s : Taken w.Colon false a.rest (as_tight 7 xb false r) = take w.Colon false a.rest (as_tight 7 xb false r) a.alike in
    let b : Read Ex ex (IsOperand tb false 7 hb i) s.rest r = pb.operand 7 lb false s.rest r s.alike in
    record {
      it = under (from a.it s.m) b.it;
      rest = b.rest;
      spelled = a.spelled ∙ ap (ex a.it) (s.spelled ∙ ap (λ z. term w.Colon s.m ∷ z) b.spelled);
      alike = b.alike;
      is = record {
        tree_is = at_range kind.ExprKind Expr moved_kind moved_layer (tree a.it) (tree b.it) s.m.place ∙ range_same _ _ ta tb a.is.tree_is b.is.tree_is;
        sound = λ row. ((a.is.tight, a.is.sound row), b.is.tight, tt, b.is.sound row);
        low = max_grows (suc (height a.it)) (1 + height b.it) (suc ha) (1 + hb) (omega (arith, a.is.low)) (omega (arith, b.is.low));
        tight = refl;
        gap_is = a.is.gap_is;
        nothing = refl;
      };
    }

pub reads_stepped : (xa xc xb : Shown) (ta tc tb : Expr) (ka ha kc hc kb hb : ℕ) (i : Bool) → Printed xa ta ka ha i → Printed xc tc kc hc i → Printed xb tb kb hb i → 7 ≤ ka → 7 ≤ kc → 7 ≤ kb
    → ReadsEx (λ gap rest. as_tight 7 xa gap (directly w.Colon ∷ as_tight 7 xc false (directly w.Colon ∷ as_tight 7 xb false rest))) (node (kind.Range ta (Some tc) tb) nowhere) 6 (max (suc (max ha hc)) (1 + hb)) false i
reads_stepped xa xc xb ta tc tb ka ha kc hc kb hb i pa pc pb la lc lb gap us r h =
    let r1 : List Terminal = as_tight 7 xb false r in
    let r2 : List Terminal = as_tight 7 xc false (directly w.Colon ∷ r1) in
    let a : Read Ex ex (IsOperand ta gap 7 ha i) us (directly w.Colon ∷ r2) = pa.operand 7 la gap us (directly w.Colon ∷ r2) h in
    let s : Taken w.Colon false a.rest r2 = take w.Colon false a.rest r2 a.alike in
    let c : Read Ex ex (IsOperand tc false 7 hc i) s.rest (directly w.Colon ∷ r1) = pc.operand 7 lc false s.rest (directly w.Colon ∷ r1) s.alike in
    let q : Taken w.Colon false c.rest r1 = take w.Colon false c.rest r1 c.alike in
    let b : Read Ex ex (IsOperand tb false 7 hb i) q.rest r = pb.operand 7 lb false q.rest r q.alike in
    record {
      it = under (stepped a.it s.m c.it q.m) b.it;
      rest = b.rest;
      spelled = a.spelled ∙ ap (ex a.it) (s.spelled ∙ ap (λ z. term w.Colon s.m ∷ z) (c.spelled ∙ ap (ex c.it) (q.spelled ∙ ap (λ z. term w.Colon q.m ∷ z) b.spelled)));
      alike = b.alike;
      is = record {
        tree_is = at_stepped kind.ExprKind Expr moved_kind moved_layer (tree a.it) (tree c.it) (tree b.it) s.m.place ∙ stepped_same _ _ _ ta tc tb a.is.tree_is c.is.tree_is b.is.tree_is;
        sound = λ row. ((a.is.tight, c.is.tight, a.is.sound row, c.is.sound row), b.is.tight, tt, b.is.sound row);
        low = max_grows (suc (max (height a.it) (height c.it))) (1 + height b.it) (suc (max ha hc)) (1 + hb) (omega (arith, max_grows (height a.it) (height c.it) ha hc a.is.low c.is.low)) (omega (arith, b.is.low));
        tight = refl;
        gap_is = a.is.gap_is;
        nothing = refl;
      };
    }
