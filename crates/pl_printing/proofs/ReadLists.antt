-- Lists in parentheses, places in braces and rows in square brackets are read back, given that their elements are.
use Rattle.std.proofs.Common.{◌≡◌, ◌∙◌, ℕ, suc, ◌≤◌, Bool, true, false, List, [], ◌∷◌, ◌++◌, map, refl, ap, sym, subst, arith}
use Rattle.std.specs.Prelude.{max}
use Rattle.pl_syntax.specs.declared.expr.Expr.{Expr}
use Rattle.pl_syntax.specs.declared.expr.ExprKind as kind
use Rattle.pl_grammar.specs.declared.terminal.Terminal.{Terminal}
use Rattle.pl_grammar.specs.declared.terminal.Word.TheVariants as w
use Rattle.pl_grammar.specs.Words.{Mark, term, semicolon}
use Rattle.pl_grammar.specs.Derivations.{written, no_trail, Ex, rows, rows_to, Args, no_args, listed, Elements, one, also, Item, Rows, no_rows, filled}
use Rattle.pl_grammar.specs.Spelling.{ex, args, elements, item, row_words}
use Rattle.pl_grammar.specs.Trees.{node, tree, arg_trees, trees, item_tree, row_trees}
use Rattle.pl_grammar.specs.Nesting.{height, args_height, elements_height, item_height, rows_height}
use Rattle.pl_grammar.specs.Sound.{SoundEx, SoundArgs, SoundElements, SoundItem, SoundRows}
use Rattle.pl_printing.specs.Places.{nowhere, moved_kind, moved_layer, but_places_expr, but_places_exprs}
use Rattle.pl_printing.specs.Canonical.{Words, directly, behind, separated, Shown, words_of, list_words, rows_words, is_no_row, in_brackets, in_braces, shown, all_shown}
use Rattle.pl_printing.specs.ReadingBack.{AreAlike}
use Rattle.pl_printing.proofs.Folds.{at_rows}
use Rattle.pl_printing.proofs.Taking.{Read, Taken, take, max_grows, map_snoc}
use Rattle.pl_printing.proofs.Operands.{IsEx, ReadsEx}

-- ---- elements

pub record IsItem (t : Expr) (h : ℕ) (row i : Bool) (d : Item) : Type 0 where
  pub tree_is : but_places_expr (item_tree d) ≡ t
  pub sound : SoundItem row i d
  pub low : item_height d ≤ h

pub record IsElements (ts : List Expr) (h : ℕ) (row i : Bool) (es : Elements) : Type 0 where
  pub trees_are : but_places_exprs (trees es) ≡ ts
  pub sound : SoundElements row i es
  pub low : elements_height es ≤ h

pub record IsArgs (ts : List Expr) (h : ℕ) (a : Args) : Type 0 where
  pub trees_are : but_places_exprs (arg_trees a) ≡ ts
  pub sound : SoundArgs a
  pub low : args_height a ≤ h

abbrev pub ReadsItem : Words → Expr → ℕ → Bool → Bool → Type 0
ReadsItem ws t h row i = (gap : Bool) (us r : List Terminal) → AreAlike us (ws gap r) → Read Item item (IsItem t h row i) us r

abbrev pub ReadsElements : List Expr → ℕ → Bool → Bool → Type 0
ReadsElements es h row i = (gap : Bool) (us r : List Terminal) → AreAlike us (list_words (all_shown es) gap r) → Read Elements elements (IsElements (but_places_exprs es) h row i) us r

abbrev pub ReadsArgs : List Expr → ℕ → Type 0
ReadsArgs es h = (us r : List Terminal) → AreAlike us (list_words (all_shown es) false r) → Read Args args (IsArgs (but_places_exprs es) h) us r

-- there is a first element
pub first_of_all : (es : Elements) → (z : Expr) × (zs : List Expr) × (trees es ≡ z ∷ zs)
first_of_all (one i) = (item_tree i, [], refl)
first_of_all (also es c i) =
    let f : (z : Expr) × (zs : List Expr) × (trees es ≡ z ∷ zs) = first_of_all es in
    (f.0, f.1 ++ item_tree i ∷ [], ap (λ l. l ++ item_tree i ∷ []) f.2)

behind_more : (zs : List Expr) (y : Expr) (r : List Terminal) → behind w.Comma (words_of (all_shown (zs ++ y ∷ []))) r ≡ behind w.Comma (words_of (all_shown zs)) (directly w.Comma ∷ (shown y).words true r)
behind_more [] y r = refl
behind_more (z ∷ zs) y r = ap (λ x. directly w.Comma ∷ (shown z).words true x) (behind_more zs y r)

more_words : (l : List Expr) (z : Expr) (zs : List Expr) (y : Expr) (gap : Bool) (r : List Terminal) → l ≡ z ∷ zs → list_words (all_shown (l ++ y ∷ [])) gap r ≡ list_words (all_shown l) gap (directly w.Comma ∷ (shown y).words true r)
more_words l z zs y gap r e = subst (λ x. list_words (all_shown (x ++ y ∷ [])) gap r ≡ list_words (all_shown x) gap (directly w.Comma ∷ (shown y).words true r)) (sym e) (ap ((shown z).words gap) (behind_more zs y r))

snoc_same : (es : List Expr) (x : Expr) (ts : List Expr) (t : Expr) → but_places_exprs es ≡ ts → but_places_expr x ≡ t → but_places_exprs (es ++ x ∷ []) ≡ ts ++ t ∷ []
snoc_same es x ts t e f = map_snoc but_places_expr es x ∙ ap (λ z. z ++ but_places_expr x ∷ []) e ∙ ap (λ z. ts ++ z ∷ []) f

pub reads_one : (i : Item) (h : ℕ) (row j : Bool) → ReadsItem (shown (item_tree i)).words (but_places_expr (item_tree i)) h row j → ReadsElements (trees (one i)) h row j
reads_one i h row j f gap us r a =
    let x : Read Item item (IsItem (but_places_expr (item_tree i)) h row j) us r = f gap us r a in
    record { it = one x.it; rest = x.rest; spelled = x.spelled; alike = x.alike; is = record { trees_are = ap (λ z. z ∷ []) x.is.tree_is; sound = x.is.sound; low = x.is.low } }

pub reads_also : (es : Elements) (t : Expr) (g h : ℕ) (row j : Bool) → ReadsElements (trees es) g row j → ReadsItem (shown t).words (but_places_expr t) h row j → ReadsElements (trees es ++ t ∷ []) (max g h) row j
reads_also es t g h row j e f gap us r a =
    let r1 : List Terminal = (shown t).words true r in
    let q : (z : Expr) × (zs : List Expr) × (trees es ≡ z ∷ zs) = first_of_all es in
    let x : Read Elements elements (IsElements (but_places_exprs (trees es)) g row j) us (directly w.Comma ∷ r1) = e gap us (directly w.Comma ∷ r1) (subst (AreAlike us) (more_words (trees es) q.0 q.1 t gap r q.2) a) in
    let s : Taken w.Comma false x.rest r1 = take w.Comma false x.rest r1 x.alike in
    let y : Read Item item (IsItem (but_places_expr t) h row j) s.rest r = f true s.rest r s.alike in
    record {
      it = also x.it (written s.m) y.it;
      rest = y.rest;
      spelled = x.spelled ∙ ap (elements x.it) (s.spelled ∙ ap (λ z. term w.Comma s.m ∷ z) y.spelled);
      alike = y.alike;
      is = record {
        trees_are = snoc_same (trees x.it) (item_tree y.it) (but_places_exprs (trees es)) (but_places_expr t) x.is.trees_are y.is.tree_is ∙ sym (map_snoc but_places_expr (trees es) t);
        sound = (x.is.sound, tt, y.is.sound);
        low = max_grows (elements_height x.it) (item_height y.it) g h x.is.low y.is.low;
      };
    }

pub reads_none : ReadsArgs [] 0
reads_none us r a = record { it = no_args; rest = us; spelled = refl; alike = a; is = record { trees_are = refl; sound = tt; low = omega arith } }

pub reads_listed : (es : List Expr) (h : ℕ) → ReadsElements es h false true → ReadsArgs es h
reads_listed es h f us r a =
    let x : Read Elements elements (IsElements (but_places_exprs es) h false true) us r = f false us r a in
    record { it = listed x.it; rest = x.rest; spelled = x.spelled; alike = x.alike; is = record { trees_are = x.is.trees_are; sound = x.is.sound; low = x.is.low } }

-- ---- a list in parentheses

abbrev pub Brackets : Type 0
Brackets = Mark × Args × Mark

abbrev pub bracket_words : Brackets → List Terminal → List Terminal
bracket_words b rest = term w.Open b.0 ∷ args b.1 (term w.Close b.2 ∷ rest)

pub record IsBrackets (ts : List Expr) (h : ℕ) (b : Brackets) : Type 0 where
  pub list : IsArgs ts h b.1
  pub tight : b.0.gap ≡ false

pub read_brackets : (es : List Expr) (h : ℕ) → ReadsArgs es h → (us r : List Terminal) → AreAlike us (in_brackets (all_shown es) r) → Read Brackets bracket_words (IsBrackets (but_places_exprs es) h) us r
read_brackets es h f us r a =
    let r1 : List Terminal = list_words (all_shown es) false (directly w.Close ∷ r) in
    let o : Taken w.Open false us r1 = take w.Open false us r1 a in
    let x : Read Args args (IsArgs (but_places_exprs es) h) o.rest (directly w.Close ∷ r) = f o.rest (directly w.Close ∷ r) o.alike in
    let c : Taken w.Close false x.rest r = take w.Close false x.rest r x.alike in
    record {
      it = (o.m, x.it, c.m);
      rest = c.rest;
      spelled = o.spelled ∙ ap (λ z. term w.Open o.m ∷ z) (x.spelled ∙ ap (args x.it) c.spelled);
      alike = c.alike;
      is = record { list = x.is; tight = o.gap_is };
    }

-- ---- a place in braces

abbrev pub Braces : Type 0
Braces = Mark × Ex × Mark

abbrev pub brace_words : Braces → List Terminal → List Terminal
brace_words b rest = term w.OpenBrace b.0 ∷ ex b.1 (term w.CloseBrace b.2 ∷ rest)

pub record IsBraces (t : Expr) (h : ℕ) (b : Braces) : Type 0 where
  pub tree_is : but_places_expr (tree b.1) ≡ t
  pub sound : SoundEx false true b.1
  pub low : height b.1 ≤ h

pub read_braces : (x : Shown) (t : Expr) (k h : ℕ) (n : Bool) → ReadsEx x.words t k h n true → (us r : List Terminal) → AreAlike us (in_braces x r) → Read Braces brace_words (IsBraces t h) us r
read_braces x t k h n f us r a =
    let r1 : List Terminal = x.words false (directly w.CloseBrace ∷ r) in
    let o : Taken w.OpenBrace false us r1 = take w.OpenBrace false us r1 a in
    let e : Read Ex ex (IsEx t false k h n true) o.rest (directly w.CloseBrace ∷ r) = f false o.rest (directly w.CloseBrace ∷ r) o.alike in
    let c : Taken w.CloseBrace false e.rest r = take w.CloseBrace false e.rest r e.alike in
    record {
      it = (o.m, e.it, c.m);
      rest = c.rest;
      spelled = o.spelled ∙ ap (λ z. term w.OpenBrace o.m ∷ z) (e.spelled ∙ ap (ex e.it) c.spelled);
      alike = c.alike;
      is = record { tree_is = e.is.tree_is; sound = e.is.sound false; low = e.is.low };
    }

-- ---- rows

-- rows up to a break, and one more
abbrev pub LastRow : Type 0
LastRow = Rows × Elements

abbrev pub last_row_words : LastRow → List Terminal → List Terminal
last_row_words q rest = row_words q.0 (elements q.1 rest)

abbrev pub moved_rows : List (List Expr) → List (List Expr)
moved_rows l = map (map but_places_expr) l

abbrev pub shown_rows : List (List Expr) → List (List Shown)
shown_rows l = map (map shown) l

pub record IsLastRow (l : List (List Expr)) (h : ℕ) (i : Bool) (q : LastRow) : Type 0 where
  pub rows_are : moved_rows (row_trees q.0 ++ trees q.1 ∷ []) ≡ moved_rows l
  pub sound : SoundRows i q.0 × SoundElements true i q.1
  pub low : max (rows_height q.0) (elements_height q.1) ≤ h

-- rows that are read back, if there are any
abbrev pub ReadsRows : List (List Expr) → ℕ → Bool → Type 0
ReadsRows [] h i = Unit {0}
ReadsRows (x ∷ l) h i = (us r : List Terminal) → AreAlike us (separated w.Semicolon (map list_words (shown_rows (x ∷ l))) false r) → Read LastRow last_row_words (IsLastRow (x ∷ l) h i) us r

behind_row : (l : List (List Expr)) (y : List Expr) (r : List Terminal) → behind w.Semicolon (map list_words (shown_rows (l ++ y ∷ []))) r ≡ behind w.Semicolon (map list_words (shown_rows l)) (directly w.Semicolon ∷ list_words (all_shown y) true r)
behind_row [] y r = refl
behind_row (x ∷ l) y r = ap (λ z. directly w.Semicolon ∷ list_words (all_shown x) true z) (behind_row l y r)

pub reads_row : (l : List (List Expr)) (g h : ℕ) (i : Bool) (es : Elements) → ReadsRows l g i → ReadsElements (trees es) h true i → ReadsRows (l ++ trees es ∷ []) (max g h) i
reads_row [] g h i es f e = λ us r a.
    let x : Read Elements elements (IsElements (but_places_exprs (trees es)) h true i) us r = e false us r a in
    record {
      it = (no_rows, x.it);
      rest = x.rest;
      spelled = x.spelled;
      alike = x.alike;
      is = record { rows_are = ap (λ z. z ∷ []) x.is.trees_are; sound = (tt, x.is.sound); low = max_grows 0 (elements_height x.it) g h (omega arith) x.is.low };
    }
reads_row (y ∷ l) g h i es f e = λ us r a.
    let r1 : List Terminal = list_words (all_shown (trees es)) true r in
    let x : Read LastRow last_row_words (IsLastRow (y ∷ l) g i) us (directly w.Semicolon ∷ r1) = f us (directly w.Semicolon ∷ r1) (subst (AreAlike us) (ap (list_words (all_shown y) false) (behind_row l (trees es) r)) a) in
    let s : Taken w.Semicolon false x.rest r1 = take w.Semicolon false x.rest r1 x.alike in
    let z : Read Elements elements (IsElements (but_places_exprs (trees es)) h true i) s.rest r = e true s.rest r s.alike in
    record {
      it = (filled x.it.0 x.it.1 no_trail (record { kind = semicolon; mark = s.m }), z.it);
      rest = z.rest;
      spelled = x.spelled ∙ ap (λ v. row_words x.it.0 (elements x.it.1 v)) (s.spelled ∙ ap (λ v. term w.Semicolon s.m ∷ v) z.spelled);
      alike = z.alike;
      is = record {
        rows_are = map_snoc (map but_places_expr) (row_trees x.it.0 ++ trees x.it.1 ∷ []) (trees z.it) ∙ ap (λ v. v ++ but_places_exprs (trees z.it) ∷ []) x.is.rows_are ∙ ap (λ v. moved_rows (y ∷ l) ++ v ∷ []) z.is.trees_are ∙ sym (map_snoc (map but_places_expr) (y ∷ l) (trees es));
        sound = ((x.is.sound.0, x.is.sound.1, tt), z.is.sound);
        low = max_grows (max (rows_height x.it.0) (elements_height x.it.1)) (elements_height z.it) g h x.is.low z.is.low;
      };
    }

pub reads_rows : (l : List (List Expr)) (h : ℕ) (i : Bool) → ReadsRows l h i → ReadsEx (rows_words (shown_rows l)) (node (kind.Rows (moved_rows l)) nowhere) 11 (suc h) (is_no_row (shown_rows l)) i
reads_rows [] h i f gap us r a =
    let o : Taken w.OpenSquare gap us (directly w.CloseSquare ∷ r) = take w.OpenSquare gap us (directly w.CloseSquare ∷ r) a in
    let c : Taken w.CloseSquare false o.rest r = take w.CloseSquare false o.rest r o.alike in
    record {
      it = rows o.m no_rows c.m;
      rest = c.rest;
      spelled = o.spelled ∙ ap (λ z. term w.OpenSquare o.m ∷ z) c.spelled;
      alike = c.alike;
      is = record { tree_is = at_rows kind.ExprKind Expr moved_kind moved_layer [] o.m.place; sound = λ row. tt; low = omega arith; tight = refl; gap_is = o.gap_is; nothing = refl };
    }
reads_rows (y ∷ l) h i f gap us r a =
    let r1 : List Terminal = separated w.Semicolon (map list_words (shown_rows (y ∷ l))) false (directly w.CloseSquare ∷ r) in
    let o : Taken w.OpenSquare gap us r1 = take w.OpenSquare gap us r1 a in
    let x : Read LastRow last_row_words (IsLastRow (y ∷ l) h i) o.rest (directly w.CloseSquare ∷ r) = f o.rest (directly w.CloseSquare ∷ r) o.alike in
    let c : Taken w.CloseSquare false x.rest r = take w.CloseSquare false x.rest r x.alike in
    record {
      it = rows_to o.m x.it.0 x.it.1 no_trail c.m;
      rest = c.rest;
      spelled = o.spelled ∙ ap (λ z. term w.OpenSquare o.m ∷ z) (x.spelled ∙ ap (λ v. row_words x.it.0 (elements x.it.1 v)) c.spelled);
      alike = c.alike;
      is = record {
        tree_is = at_rows kind.ExprKind Expr moved_kind moved_layer (row_trees x.it.0 ++ trees x.it.1 ∷ []) o.m.place ∙ ap (λ v. node (kind.Rows v) nowhere) x.is.rows_are;
        sound = λ row. x.is.sound;
        low = omega (arith, x.is.low);
        tight = refl;
        gap_is = o.gap_is;
        nothing = refl;
      };
    }
