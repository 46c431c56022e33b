-- Each expression that a source has is read back.
use Rattle.pl_base.specs.declared.errors.Place.{Place}
use Rattle.std.proofs.Common.{◌≡◌, ◌∙◌, ℕ, ℤ, suc, ◌+◌, ◌≤◌, Bool, true, false, Some, None, List, [], ◌∷◌, ◌++◌, refl, ap, sym, subst, arith}
use Rattle.std.specs.Prelude.{max, codes, ◌&&◌}
use Rattle.pl_syntax.specs.declared.expr.Name.{Name}
use Rattle.pl_syntax.specs.declared.expr.Un.TheVariants as un
use Rattle.pl_syntax.specs.declared.expr.Bin.{Bin}
use Rattle.pl_syntax.specs.declared.expr.Expr.{Expr}
use Rattle.pl_syntax.specs.declared.expr.ExprKind as kind
use Rattle.pl_grammar.specs.declared.terminal.Terminal.{Terminal}
use Rattle.pl_grammar.specs.declared.terminal.Word.TheVariants as w
use Rattle.pl_grammar.specs.declared.terminal.Keyword.TheVariants as k
use Rattle.pl_grammar.specs.Words.{Mark, term, named, sign_word, level, is_power}
use Rattle.pl_grammar.specs.Derivations.{Head, alone, Signs, no_signs, more_signs, Ex, number, chars, bare, call, state, paren, rows, rows_to, func, last, under, transposed, joined, signed, from, stepped, head, braced, Args, no_args, listed, Elements, one, also, Item, value, colon, Rows, no_rows, broken, filled}
use Rattle.pl_grammar.specs.Spelling as spelling
use Rattle.pl_grammar.specs.Spelling.{ex, args, elements, item, row_words}
use Rattle.pl_grammar.specs.Trees.{node, name_of, head_name, head_text, un_of, under_signs, mark, tree, arg_trees, trees, item_tree, row_trees}
use Rattle.pl_grammar.specs.Nesting.{count, height, args_height, elements_height, item_height, rows_height}
use Rattle.pl_grammar.specs.Sound.{SoundEx, SoundArgs, SoundElements, SoundItem, SoundRows, tightness, has_state, signs_fit}
use Rattle.pl_printing.specs.Places.{nowhere, moved_kind, moved_layer, but_places_expr, but_places_exprs}
use Rattle.pl_printing.specs.Canonical.{Words, terminal, directly, apart, name_words, head_words, as_tight, Shown, in_brackets, in_braces, unary, right_words, spelled, is_no_row, of_kind, of_layer, shown, all_shown}
use Rattle.pl_printing.specs.ReadingBack.{AreAlike}
use Rattle.pl_printing.proofs.Folds.{at_number, at_chars, at_var, at_apply, at_brace, at_brace_list, at_unary, at_binary, at_range, at_stepped, at_rows, at_func, at_end, at_colon, at_state}
use Rattle.pl_printing.proofs.Taking.{Read, Taken, take, Noted, note, max_grows}
use Rattle.pl_printing.proofs.Operands.{IsEx, ReadsEx, ReadsRaised, Printed, printed_at, plain, in_source, raise}
use Rattle.pl_printing.proofs.Operators.{reads_binary, reads_power, power_level, higher_raised, printed_signed, raised_words_of, reads_transposed, reads_range, reads_stepped}
use Rattle.pl_printing.proofs.Names.{IsHeadOf, read_head}
use Rattle.pl_printing.proofs.ReadLists.{ReadsItem, ReadsElements, ReadsArgs, reads_one, reads_also, reads_none, reads_listed, Brackets, bracket_words, IsBrackets, read_brackets, Braces, brace_words, IsBraces, read_braces, ReadsRows, shown_rows, reads_row, reads_rows}

-- a name of this text, nowhere
abbrev at_nowhere : List ℕ → Name
at_nowhere text = record { text = text; place = nowhere }

var_same : (a b : List ℕ) → a ≡ b → node (kind.Var (at_nowhere a)) nowhere ≡ node (kind.Var (at_nowhere b)) nowhere
var_same a b e = ap (λ t. node (kind.Var (at_nowhere t)) nowhere) e

apply_same : (a b : List ℕ) (es ts : List Expr) → a ≡ b → es ≡ ts → node (kind.Apply (at_nowhere a) es) nowhere ≡ node (kind.Apply (at_nowhere b) ts) nowhere
apply_same a b es ts e f = ap (λ t. node (kind.Apply (at_nowhere t) es) nowhere) e ∙ ap (λ t. node (kind.Apply (at_nowhere b) t) nowhere) f

brace_same : (a b : List ℕ) (x t : Expr) → a ≡ b → x ≡ t → node (kind.Brace (at_nowhere a) x None) nowhere ≡ node (kind.Brace (at_nowhere b) t None) nowhere
brace_same a b x t e f = ap (λ z. node (kind.Brace (at_nowhere z) x None) nowhere) e ∙ ap (λ z. node (kind.Brace (at_nowhere b) z None) nowhere) f

brace_list_same : (a b : List ℕ) (x t : Expr) (es ts : List Expr) → a ≡ b → x ≡ t → es ≡ ts → node (kind.Brace (at_nowhere a) x (Some es)) nowhere ≡ node (kind.Brace (at_nowhere b) t (Some ts)) nowhere
brace_list_same a b x t es ts e f g = ap (λ z. node (kind.Brace (at_nowhere z) x (Some es)) nowhere) e ∙ ap (λ z. node (kind.Brace (at_nowhere b) z (Some es)) nowhere) f ∙ ap (λ z. node (kind.Brace (at_nowhere b) t (Some z)) nowhere) g

-- ---- operands of one terminal or a few

reads_number : (z : ℤ) (i : Bool) → ReadsEx (λ gap rest. terminal gap (w.Number z) ∷ rest) (node (kind.Number z) nowhere) 11 0 false i
reads_number z i gap us r a =
    let o : Taken (w.Number z) gap us r = take (w.Number z) gap us r a in
    record { it = number o.m z; rest = o.rest; spelled = o.spelled; alike = o.alike; is = record { tree_is = at_number kind.ExprKind Expr moved_kind moved_layer z o.m.place; sound = λ row. tt; low = omega arith; tight = refl; gap_is = o.gap_is; nothing = refl } }

reads_chars : (t : List ℕ) (i : Bool) → ReadsEx (λ gap rest. terminal gap (w.Chars t) ∷ rest) (node (kind.Chars t) nowhere) 11 0 false i
reads_chars t i gap us r a =
    let o : Taken (w.Chars t) gap us r = take (w.Chars t) gap us r a in
    record { it = chars o.m t; rest = o.rest; spelled = o.spelled; alike = o.alike; is = record { tree_is = at_chars kind.ExprKind Expr moved_kind moved_layer t o.m.place; sound = λ row. tt; low = omega arith; tight = refl; gap_is = o.gap_is; nothing = refl } }

reads_end : ReadsEx (λ gap rest. terminal gap (w.Key k.End) ∷ rest) (node kind.End nowhere) 11 0 false true
reads_end gap us r a =
    let o : Taken (w.Key k.End) gap us r = take (w.Key k.End) gap us r a in
    record { it = last o.m; rest = o.rest; spelled = o.spelled; alike = o.alike; is = record { tree_is = at_end kind.ExprKind Expr moved_kind moved_layer o.m.place; sound = λ row. refl; low = omega arith; tight = refl; gap_is = o.gap_is; nothing = refl } }

reads_func : (text : List ℕ) (i : Bool) → ReadsEx (λ gap rest. terminal gap w.At ∷ directly (w.Name text) ∷ rest) (node (kind.Func (at_nowhere text)) nowhere) 11 0 false i
reads_func text i gap us r a =
    let o : Taken w.At gap us (directly (w.Name text) ∷ r) = take w.At gap us (directly (w.Name text) ∷ r) a in
    let n : Noted text false o.rest r = note text false o.rest r o.alike in
    record {
      it = func o.m n.n;
      rest = n.rest;
      spelled = o.spelled ∙ ap (λ z. term w.At o.m ∷ z) n.spelled;
      alike = n.alike;
      is = record { tree_is = at_func kind.ExprKind Expr moved_kind moved_layer (name_of n.n) n.n.mark.place ∙ ap (λ t. node (kind.Func (at_nowhere t)) nowhere) n.text_is; sound = λ row. tt; low = omega arith; tight = refl; gap_is = o.gap_is; nothing = refl };
    }

-- ---- names and calls

reads_var : (text : List ℕ) (i : Bool) → ReadsEx (head_words text) (node (kind.Var (at_nowhere text)) nowhere) 11 0 false i
reads_var text i gap us r a =
    let x : Read Head spelling.head_words (IsHeadOf text gap) us r = read_head text gap us r a in
    record {
      it = bare (head x.it);
      rest = x.rest;
      spelled = x.spelled;
      alike = x.alike;
      is = record { tree_is = at_var kind.ExprKind Expr moved_kind moved_layer (head_name x.it) (head_name x.it).place ∙ var_same (head_text x.it) text x.is.text_is; sound = λ row. x.is.sound; low = omega arith; tight = refl; gap_is = x.is.gap_is; nothing = refl };
    }

-- in a row or not, the parenthesis stands directly behind the name
pub tight_open : (row gap : Bool) → gap ≡ false → (row && gap) ≡ false
tight_open true gap e = e
tight_open false gap e = refl

reads_apply : (text : List ℕ) (es : List Expr) (h : ℕ) (i : Bool) → ReadsArgs es h → ReadsEx (λ gap rest. head_words text gap (in_brackets (all_shown es) rest)) (node (kind.Apply (at_nowhere text) (but_places_exprs es)) nowhere) 11 (max 0 (suc h)) false i
reads_apply text es h i f gap us r a =
    let x : Read Head spelling.head_words (IsHeadOf text gap) us (in_brackets (all_shown es) r) = read_head text gap us (in_brackets (all_shown es) r) a in
    let b : Read Brackets bracket_words (IsBrackets (but_places_exprs es) h) x.rest r = read_brackets es h f x.rest r x.alike in
    record {
      it = call (head x.it) b.it.0 b.it.1 b.it.2;
      rest = b.rest;
      spelled = x.spelled ∙ ap (spelling.head_words x.it) b.spelled;
      alike = b.alike;
      is = record {
        tree_is = at_apply kind.ExprKind Expr moved_kind moved_layer (head_name x.it) (arg_trees b.it.1) (head_name x.it).place ∙ apply_same (head_text x.it) text _ (but_places_exprs es) x.is.text_is b.is.list.trees_are;
        sound = λ row. (x.is.sound, tight_open row b.it.0.gap b.is.tight, b.is.list.sound);
        low = max_grows 0 (suc (args_height b.it.1)) 0 (suc h) (omega arith) (omega (arith, b.is.list.low));
        tight = refl;
        gap_is = x.is.gap_is;
        nothing = refl;
      };
    }

reads_brace : (text : List ℕ) (x : Shown) (t : Expr) (kx h : ℕ) (n i : Bool) → ReadsEx x.words t kx h n true → ReadsEx (λ gap rest. name_words text gap (in_braces x rest)) (node (kind.Brace (at_nowhere text) t None) nowhere) 11 (suc h) false i
reads_brace text x t kx h n i f gap us r a =
    let y : Noted text gap us (in_braces x r) = note text gap us (in_braces x r) a in
    let b : Read Braces brace_words (IsBraces t h) y.rest r = read_braces x t kx h n f y.rest r y.alike in
    record {
      it = bare (braced y.n b.it.0 b.it.1 b.it.2);
      rest = b.rest;
      spelled = y.spelled ∙ ap (λ z. named y.n ∷ z) b.spelled;
      alike = b.alike;
      is = record {
        tree_is = at_brace kind.ExprKind Expr moved_kind moved_layer (name_of y.n) (tree b.it.1) y.n.mark.place ∙ brace_same y.n.text text _ t y.text_is b.is.tree_is;
        sound = λ row. b.is.sound;
        low = omega (arith, b.is.low);
        tight = refl;
        gap_is = y.gap_is;
        nothing = refl;
      };
    }

reads_brace_list : (text : List ℕ) (x : Shown) (t : Expr) (kx h : ℕ) (n : Bool) (es : List Expr) (g : ℕ) (i : Bool) → ReadsEx x.words t kx h n true → ReadsArgs es g
    → ReadsEx (λ gap rest. name_words text gap (in_braces x (in_brackets (all_shown es) rest))) (node (kind.Brace (at_nowhere text) t (Some (but_places_exprs es))) nowhere) 11 (max (suc h) (suc g)) false i
reads_brace_list text x t kx h n es g i f e gap us r a =
    let r1 : List Terminal = in_brackets (all_shown es) r in
    let y : Noted text gap us (in_braces x r1) = note text gap us (in_braces x r1) a in
    let b : Read Braces brace_words (IsBraces t h) y.rest r1 = read_braces x t kx h n f y.rest r1 y.alike in
    let c : Read Brackets bracket_words (IsBrackets (but_places_exprs es) g) b.rest r = read_brackets es g e b.rest r b.alike in
    record {
      it = call (braced y.n b.it.0 b.it.1 b.it.2) c.it.0 c.it.1 c.it.2;
      rest = c.rest;
      spelled = y.spelled ∙ ap (λ z. named y.n ∷ z) (b.spelled ∙ ap (brace_words b.it) c.spelled);
      alike = c.alike;
      is = record {
        tree_is = at_brace_list kind.ExprKind Expr moved_kind moved_layer (name_of y.n) (tree b.it.1) (arg_trees c.it.1) y.n.mark.place ∙ brace_list_same y.n.text text _ t _ (but_places_exprs es) y.text_is b.is.tree_is c.is.list.trees_are;
        sound = λ row. (b.is.sound, tight_open row c.it.0.gap c.is.tight, c.is.list.sound);
        low = max_grows (suc (height b.it.1)) (suc (args_height c.it.1)) (suc h) (suc g) (omega (arith, b.is.low)) (omega (arith, c.is.list.low));
        tight = refl;
        gap_is = y.gap_is;
        nothing = refl;
      };
    }

-- ---- the state of a name or of its call

record IsStated (t : Expr) (gap : Bool) (h : ℕ) (i : Bool) (d : Ex) : Type 0 where
  tree_is : but_places_expr (tree d) ≡ t
  sound : (row : Bool) → SoundEx row i d
  low : height d ≤ h
  gap_is : (mark d).gap ≡ gap
  has : has_state d ≡ true

abbrev ReadsStated : Words → Expr → ℕ → Bool → Type 0
ReadsStated ws t h i = (gap : Bool) (us r : List Terminal) → AreAlike us (ws gap r) → Read Ex ex (IsStated t gap h i) us r

stated_at : (x y : Shown) (t s : Expr) (h : ℕ) (i : Bool) → x ≡ y → t ≡ s → ReadsStated y.stated s h i → ReadsStated x.stated t h i
stated_at x y t s h i e f p = subst (λ (z : Shown). ReadsStated z.stated t h i) (sym e) (subst (λ z. ReadsStated y.stated z h i) (sym f) p)

stated_var : (text : List ℕ) (i : Bool) → ReadsStated (name_words text) (node (kind.Var (at_nowhere text)) nowhere) 0 i
stated_var text i gap us r a =
    let x : Noted text gap us r = note text gap us r a in
    record {
      it = bare (head (alone x.n));
      rest = x.rest;
      spelled = x.spelled;
      alike = x.alike;
      is = record { tree_is = at_var kind.ExprKind Expr moved_kind moved_layer (name_of x.n) x.n.mark.place ∙ var_same x.n.text text x.text_is; sound = λ row. tt; low = omega arith; gap_is = x.gap_is; has = refl };
    }

stated_apply : (text : List ℕ) (es : List Expr) (h : ℕ) (i : Bool) → ReadsArgs es h → ReadsStated (λ gap rest. name_words text gap (in_brackets (all_shown es) rest)) (node (kind.Apply (at_nowhere text) (but_places_exprs es)) nowhere) (max 0 (suc h)) i
stated_apply text es h i f gap us r a =
    let x : Noted text gap us (in_brackets (all_shown es) r) = note text gap us (in_brackets (all_shown es) r) a in
    let b : Read Brackets bracket_words (IsBrackets (but_places_exprs es) h) x.rest r = read_brackets es h f x.rest r x.alike in
    record {
      it = call (head (alone x.n)) b.it.0 b.it.1 b.it.2;
      rest = b.rest;
      spelled = x.spelled ∙ ap (λ z. named x.n ∷ z) b.spelled;
      alike = b.alike;
      is = record {
        tree_is = at_apply kind.ExprKind Expr moved_kind moved_layer (name_of x.n) (arg_trees b.it.1) x.n.mark.place ∙ apply_same x.n.text text _ (but_places_exprs es) x.text_is b.is.list.trees_are;
        sound = λ row. (tt, tight_open row b.it.0.gap b.is.tight, b.is.list.sound);
        low = max_grows 0 (suc (args_height b.it.1)) 0 (suc h) (omega arith) (omega (arith, b.is.list.low));
        gap_is = x.gap_is;
        has = refl;
      };
    }

reads_state : (ws : Words) (t : Expr) (h : ℕ) (i : Bool) → ReadsStated ws t h i → ReadsEx (λ gap rest. ws gap (directly w.Dot ∷ directly (w.Name (codes "State")) ∷ rest)) (node (kind.StateOf t) nowhere) 11 h false i
reads_state ws t h i f gap us r a =
    let r1 : List Terminal = directly (w.Name (codes "State")) ∷ r in
    let x : Read Ex ex (IsStated t gap h i) us (directly w.Dot ∷ r1) = f gap us (directly w.Dot ∷ r1) a in
    let d : Taken w.Dot false x.rest r1 = take w.Dot false x.rest r1 x.alike in
    let n : Taken (w.Name (codes "State")) false d.rest r = take (w.Name (codes "State")) false d.rest r d.alike in
    record {
      it = state x.it d.m n.m;
      rest = n.rest;
      spelled = x.spelled ∙ ap (ex x.it) (d.spelled ∙ ap (λ z. term w.Dot d.m ∷ z) n.spelled);
      alike = n.alike;
      is = record {
        tree_is = at_state kind.ExprKind Expr moved_kind moved_layer (tree x.it) (mark x.it).place ∙ ap (λ z. node (kind.StateOf z) nowhere) x.is.tree_is;
        sound = λ row. (x.is.has, x.is.sound row);
        low = x.is.low;
        tight = refl;
        gap_is = x.is.gap_is;
        nothing = refl;
      };
    }

-- ---- the signs of a power's right operand

raised_signs : (us : Signs) (e : Expr) (h : ℕ) (i : Bool) → ReadsRaised (shown e).raised (but_places_expr e) h i → ReadsRaised (shown (under_signs us e)).raised (but_places_expr (under_signs us e)) (count us + h) i
raised_signs no_signs e h i f = higher_raised (shown e).raised (but_places_expr e) h (0 + h) i (omega arith) f
raised_signs (more_signs us m s) e h i f =
    let E : Expr = node (kind.Unary (un_of s) e) m.place in
    let T : Expr = node (kind.Unary (un_of s) (but_places_expr e)) nowhere in
    let g : ReadsRaised (λ gap rest. terminal gap (sign_word s) ∷ (shown e).raised false rest) T (suc h) i = raise s (shown e).raised (but_places_expr e) h i f in
    let g1 : ReadsRaised (unary (un_of s) (shown e)).raised T (suc h) i = λ gap us r a. g gap us r (subst (AreAlike us) (raised_words_of s (shown e) gap r) a) in
    let g2 : ReadsRaised (shown E).raised T (suc h) i = subst (λ (z : Shown). ReadsRaised z.raised T (suc h) i) (sym (at_unary Shown Shown of_kind of_layer (un_of s) e m.place)) g1 in
    let g3 : ReadsRaised (shown E).raised (but_places_expr E) (suc h) i = subst (λ z. ReadsRaised (shown E).raised z (suc h) i) (sym (at_unary kind.ExprKind Expr moved_kind moved_layer (un_of s) e m.place)) g2 in
    higher_raised (shown (under_signs us E)).raised (but_places_expr (under_signs us E)) (count us + suc h) (suc (count us) + h) i (omega arith) (raised_signs us E (suc h) i g3)

-- ---- operators

abbrev pub Claim : Ex → Bool → Type 0
Claim e i = Printed (shown (tree e)) (but_places_expr (tree e)) (tightness e) (height e) i

no_more_signs : (o : Bin) (us : Signs) → is_power o ≡ false → signs_fit o us ≡ true → us ≡ no_signs
no_more_signs o no_signs e f = refl
no_more_signs o (more_signs us m s) e f = elim (both (is_power o) e f) [ ]
  where
    both : (v : Bool) → v ≡ false → v ≡ true → ⊥
    both v e f = cc

-- an operator of two operands, which is a power or not
abbrev joined_shown : Bool → Bin → Shown → Shown → Shown
joined_shown v o a b = spelled (level o) (λ gap rest. as_tight (level o) a gap (apart (w.Binary o) ∷ right_words v (level o) b rest))

-- what is said of it
abbrev Joins : Bool → Ex → Bin → Mark → Signs → Ex → Bool → Type 0
Joins v a o m us e i = Printed (joined_shown v o (shown (tree a)) (shown (under_signs us (tree e)))) (node (kind.Binary o (but_places_expr (tree a)) (but_places_expr (under_signs us (tree e)))) nowhere) (level o) (max (suc (height a)) (suc (count us) + height e)) i

joins_power : (a : Ex) (o : Bin) (m : Mark) (us : Signs) (e : Ex) (i : Bool) → is_power o ≡ true → level o ≤ tightness a → suc (level o) ≤ tightness e → Claim a i → Claim e i → Joins true a o m us e i
joins_power a o m us e i power la le pa pe =
    let T : Expr = under_signs us (tree e) in
    let f : ReadsRaised (shown T).raised (but_places_expr T) (count us + height e) i = raised_signs us (tree e) (height e) i (pe.raised_tight (omega (arith, le, power_level o power))) in
    let x : Printed (joined_shown true o (shown (tree a)) (shown T)) (node (kind.Binary o (but_places_expr (tree a)) (but_places_expr T)) nowhere) (level o) (max (suc (height a)) (suc (count us + height e))) i =
    plain _ _ false _ (level o) _ i (reads_power o (shown (tree a)) (shown T).raised (but_places_expr (tree a)) (but_places_expr T) (tightness a) (height a) (count us + height e) i power pa f la) in
    let same : suc (count us + height e) ≡ suc (count us) + height e = omega arith in
    subst (λ z. Printed (joined_shown true o (shown (tree a)) (shown T)) (node (kind.Binary o (but_places_expr (tree a)) (but_places_expr T)) nowhere) (level o) (max (suc (height a)) z) i) same x

joins_other : (a : Ex) (o : Bin) (m : Mark) (e : Ex) (i : Bool) → level o ≤ tightness a → suc (level o) ≤ tightness e → Claim a i → Claim e i → Joins false a o m no_signs e i
joins_other a o m e i la le pa pe = plain _ _ false _ (level o) _ i (reads_binary o (shown (tree a)) (shown (tree e)) (but_places_expr (tree a)) (but_places_expr (tree e)) (tightness a) (height a) (tightness e) (height e) i pa pe la le)

printed_joined : (a : Ex) (o : Bin) (m : Mark) (us : Signs) (e : Ex) (i : Bool) → level o ≤ tightness a → signs_fit o us ≡ true → suc (level o) ≤ tightness e → Claim a i → Claim e i → Claim (under (joined a o m us) e) i
printed_joined a o m us e i la fit le pa pe = printed_at _ _ _ _ _ _ i (at_binary Shown Shown of_kind of_layer o (tree a) (under_signs us (tree e)) m.place) (at_binary kind.ExprKind Expr moved_kind moved_layer o (tree a) (under_signs us (tree e)) m.place) (by_power (is_power o) refl)
  where
    by_power : (v : Bool) → is_power o ≡ v → Joins v a o m us e i
    by_power true p = joins_power a o m us e i p la le pa pe
    by_power false p = subst (λ z. Joins false a o m z e i) (sym (no_more_signs o us p fit)) (joins_other a o m e i la le pa pe)

-- ---- all expressions

pub no_state : {A : Type 0} → false ≡ true → A
no_state h = elim (no h) [ ]
  where
    no : false ≡ true → ⊥
    no e = cc

item_of_expr : (x : Shown) (t : Expr) (kx h : ℕ) (row i : Bool) → Printed x t kx h i → ReadsItem x.words t h row i
item_of_expr x t kx h row i p gap us r a =
    let e : Read Ex ex (IsEx t gap x.bind h x.is_nothing i) us r = p.words gap us r a in
    record { it = value e.it; rest = e.rest; spelled = e.spelled; alike = e.alike; is = record { tree_is = e.is.tree_is; sound = e.is.sound row; low = e.is.low } }

reads_colon : (m : Mark) (row i : Bool) → row ≡ false → ReadsItem (shown (node kind.Colon m.place)).words (but_places_expr (node kind.Colon m.place)) 0 row i
reads_colon m row i s gap us r a =
    let o : Taken w.Colon gap us r = take w.Colon gap us r (subst (λ (z : Shown). AreAlike us (z.words gap r)) (at_colon Shown Shown of_kind of_layer m.place) a) in
    record { it = colon o.m; rest = o.rest; spelled = o.spelled; alike = o.alike; is = record { tree_is = at_colon kind.ExprKind Expr moved_kind moved_layer o.m.place ∙ sym (at_colon kind.ExprKind Expr moved_kind moved_layer m.place); sound = s; low = omega arith } }

-- what is said of the rows of a source
abbrev RowsClaim : Rows → Bool → Type 0
RowsClaim rs i = ReadsRows (row_trees rs) (rows_height rs) i

printed_rows_node : (l : List (List Expr)) (p : Place) (h : ℕ) (i : Bool) → ReadsRows l h i → Printed (shown (node (kind.Rows l) p)) (but_places_expr (node (kind.Rows l) p)) 11 (suc h) i
printed_rows_node l p h i f = printed_at _ _ _ _ 11 (suc h) i (at_rows Shown Shown of_kind of_layer l p) (at_rows kind.ExprKind Expr moved_kind moved_layer l p) (plain _ _ (is_no_row (shown_rows l)) _ 11 (suc h) i (reads_rows l h i f))

mutual
  pub printed : (e : Ex) (row i : Bool) → SoundEx row i e → Claim e i
  printed (number m z) row i s = printed_at _ _ _ _ 11 0 i (at_number Shown Shown of_kind of_layer z m.place) (at_number kind.ExprKind Expr moved_kind moved_layer z m.place) (plain _ _ false _ 11 0 i (reads_number z i))
  printed (chars m t) row i s = printed_at _ _ _ _ 11 0 i (at_chars Shown Shown of_kind of_layer t m.place) (at_chars kind.ExprKind Expr moved_kind moved_layer t m.place) (plain _ _ false _ 11 0 i (reads_chars t i))
  printed (bare (head h)) row i s = printed_at _ _ _ _ 11 0 i (at_var Shown Shown of_kind of_layer (head_name h) (head_name h).place) (at_var kind.ExprKind Expr moved_kind moved_layer (head_name h) (head_name h).place) (plain _ _ false _ 11 0 i (reads_var (head_text h) i))
  printed (bare (braced n m e z)) row i s =
      let p : Claim e true = printed e false true s in
      printed_at _ _ _ _ 11 (suc (height e)) i (at_brace Shown Shown of_kind of_layer (name_of n) (tree e) n.mark.place) (at_brace kind.ExprKind Expr moved_kind moved_layer (name_of n) (tree e) n.mark.place) (plain _ _ false _ 11 (suc (height e)) i (reads_brace n.text (shown (tree e)) (but_places_expr (tree e)) _ (height e) _ i p.words))
  printed (call (head h) m a z) row i s =
      printed_at _ _ _ _ 11 (max 0 (suc (args_height a))) i (at_apply Shown Shown of_kind of_layer (head_name h) (arg_trees a) (head_name h).place) (at_apply kind.ExprKind Expr moved_kind moved_layer (head_name h) (arg_trees a) (head_name h).place) (plain _ _ false _ 11 (max 0 (suc (args_height a))) i (reads_apply (head_text h) (arg_trees a) (args_height a) i (printed_args a s.2)))
  printed (call (braced n b e y) m a z) row i s =
      let p : Claim e true = printed e false true s.0 in
      printed_at _ _ _ _ 11 (max (suc (height e)) (suc (args_height a))) i (at_brace_list Shown Shown of_kind of_layer (name_of n) (tree e) (arg_trees a) n.mark.place) (at_brace_list kind.ExprKind Expr moved_kind moved_layer (name_of n) (tree e) (arg_trees a) n.mark.place) (plain _ _ false _ 11 (max (suc (height e)) (suc (args_height a))) i (reads_brace_list n.text (shown (tree e)) (but_places_expr (tree e)) _ (height e) _ (arg_trees a) (args_height a) i p.words (printed_args a s.2)))
  printed (state e d m) row i s = printed_at _ _ _ _ 11 (height e) i (at_state Shown Shown of_kind of_layer (tree e) (mark e).place) (at_state kind.ExprKind Expr moved_kind moved_layer (tree e) (mark e).place) (plain _ _ false _ 11 (height e) i (reads_state (shown (tree e)).stated (but_places_expr (tree e)) (height e) i (printed_state e row i s.0 s.1)))
  printed (paren m e z) row i s = in_source (shown (tree e)) (but_places_expr (tree e)) (tightness e) (height e) i (printed e false i s)
  printed (rows m rs z) row i s = printed_rows_node (row_trees rs) m.place (rows_height rs) i (printed_rows rs i s)
  printed (rows_to m rs es t z) row i s = printed_rows_node (row_trees rs ++ trees es ∷ []) m.place (max (rows_height rs) (elements_height es)) i (reads_row (row_trees rs) (rows_height rs) (elements_height es) i es (printed_rows rs i s.0) (printed_elements es true i s.1))
  printed (func m n) row i s = printed_at _ _ _ _ 11 0 i (at_func Shown Shown of_kind of_layer (name_of n) n.mark.place) (at_func kind.ExprKind Expr moved_kind moved_layer (name_of n) n.mark.place) (plain _ _ false _ 11 0 i (reads_func n.text i))
  printed (last m) row i s = subst (Claim (last m)) (sym s) (printed_at _ _ _ _ 11 0 true (at_end Shown Shown of_kind of_layer m.place) (at_end kind.ExprKind Expr moved_kind moved_layer m.place) (plain _ _ false _ 11 0 true reads_end))
  printed (under (joined a o m us) e) row i s = printed_joined a o m us e i s.0.0 s.0.1 s.1 (printed a row i s.0.2) (printed e row i s.3)
  printed (under (signed m g) e) row i s = printed_at _ _ _ _ 9 (max 1 (1 + height e)) i (at_unary Shown Shown of_kind of_layer (un_of g) (tree e) m.place) (at_unary kind.ExprKind Expr moved_kind moved_layer (un_of g) (tree e) m.place) (printed_signed g (shown (tree e)) (but_places_expr (tree e)) (tightness e) (height e) i (printed e row i s.3) s.1)
  printed (under (from a m) e) row i s = printed_at _ _ _ _ 6 (max (suc (height a)) (1 + height e)) i (at_range Shown Shown of_kind of_layer (tree a) (tree e) m.place) (at_range kind.ExprKind Expr moved_kind moved_layer (tree a) (tree e) m.place)
      (plain _ _ false _ 6 (max (suc (height a)) (1 + height e)) i (reads_range (shown (tree a)) (shown (tree e)) (but_places_expr (tree a)) (but_places_expr (tree e)) (tightness a) (height a) (tightness e) (height e) i (printed a row i s.0.1) (printed e row i s.3) s.0.0 s.1))
  printed (under (stepped a m b n) e) row i s = printed_at _ _ _ _ 6 (max (suc (max (height a) (height b))) (1 + height e)) i (at_stepped Shown Shown of_kind of_layer (tree a) (tree b) (tree e) m.place) (at_stepped kind.ExprKind Expr moved_kind moved_layer (tree a) (tree b) (tree e) m.place)
      (plain _ _ false _ 6 (max (suc (max (height a) (height b))) (1 + height e)) i (reads_stepped (shown (tree a)) (shown (tree b)) (shown (tree e)) (but_places_expr (tree a)) (but_places_expr (tree b)) (but_places_expr (tree e)) (tightness a) (height a) (tightness b) (height b) (tightness e) (height e) i (printed a row i s.0.2) (printed b row i s.0.3) (printed e row i s.3) s.0.0 s.0.1 s.1))
  printed (transposed e m) row i s = printed_at _ _ _ _ 10 (suc (height e)) i (at_unary Shown Shown of_kind of_layer un.Transpose (tree e) m.place) (at_unary kind.ExprKind Expr moved_kind moved_layer un.Transpose (tree e) m.place) (plain _ _ false _ 10 (suc (height e)) i (reads_transposed (shown (tree e)) (but_places_expr (tree e)) (tightness e) (height e) i (printed e row i s.1) s.0))

  printed_state : (e : Ex) (row i : Bool) → has_state e ≡ true → SoundEx row i e → ReadsStated (shown (tree e)).stated (but_places_expr (tree e)) (height e) i
  printed_state (bare (head (alone n))) row i h s = stated_at _ _ _ _ 0 i (at_var Shown Shown of_kind of_layer (name_of n) n.mark.place) (at_var kind.ExprKind Expr moved_kind moved_layer (name_of n) n.mark.place) (stated_var n.text i)
  printed_state (call (head (alone n)) m a z) row i h s = stated_at _ _ _ _ (max 0 (suc (args_height a))) i (at_apply Shown Shown of_kind of_layer (name_of n) (arg_trees a) n.mark.place) (at_apply kind.ExprKind Expr moved_kind moved_layer (name_of n) (arg_trees a) n.mark.place) (stated_apply n.text (arg_trees a) (args_height a) i (printed_args a s.2))
  printed_state e row i h s = no_state h

  pub printed_args : (a : Args) → SoundArgs a → ReadsArgs (arg_trees a) (args_height a)
  printed_args no_args s = reads_none
  printed_args (listed es) s = reads_listed (trees es) (elements_height es) (printed_elements es false true s)

  pub printed_elements : (es : Elements) (row i : Bool) → SoundElements row i es → ReadsElements (trees es) (elements_height es) row i
  printed_elements (one x) row i s = reads_one x (item_height x) row i (printed_item x row i s)
  printed_elements (also es c x) row i s = reads_also es (item_tree x) (elements_height es) (item_height x) row i (printed_elements es row i s.0) (printed_item x row i s.2)

  pub printed_item : (x : Item) (row i : Bool) → SoundItem row i x → ReadsItem (shown (item_tree x)).words (but_places_expr (item_tree x)) (item_height x) row i
  printed_item (value e) row i s = item_of_expr (shown (tree e)) (but_places_expr (tree e)) (tightness e) (height e) row i (printed e row i s)
  printed_item (colon m) row i s = reads_colon m row i s

  pub printed_rows : (rs : Rows) (i : Bool) → SoundRows i rs → RowsClaim rs i
  printed_rows no_rows i s = tt
  printed_rows (broken rs b) i s = printed_rows rs i s.0
  printed_rows (filled rs es t b) i s = reads_row (row_trees rs) (rows_height rs) (elements_height es) i es (printed_rows rs i s.0) (printed_elements es true i s.1)
