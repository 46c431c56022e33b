-- Each expression of a source can be laid out.
use Rattle.std.proofs.Common.{◌≡◌, ◌∙◌, Bool, true, false, Some, None, List, [], ◌∷◌, ◌++◌, map, ap, sym, subst}
use Rattle.pl_syntax.specs.declared.expr.Expr.{Expr}
use Rattle.pl_grammar.specs.declared.terminal.Terminal.{Terminal}
use Rattle.pl_grammar.specs.declared.terminal.Word.TheVariants as w
use Rattle.pl_grammar.specs.Words.{term}
use Rattle.pl_grammar.specs.Derivations.{Head, alone, dotted, Signs, no_signs, more_signs, Comma, written, space, Trail, no_trail, trail, Ex, number, chars, bare, call, state, paren, rows, rows_to, func, last, under, transposed, joined, signed, from, stepped, head, braced, Args, no_args, listed, Elements, one, also, Item, value, colon, Rows, no_rows, broken, filled}
use Rattle.pl_grammar.specs.Spelling as spelling
use Rattle.pl_grammar.specs.Spelling.{ex, elements, args, item, row_words, callee}
use Rattle.pl_grammar.specs.Trees.{head_text, head_name, name_of, un_of, under_signs, tree, arg_trees, trees, item_tree, row_trees}
use Rattle.pl_grammar.specs.Sound.{IsHead, SoundEx, SoundArgs, SoundElements, SoundItem, SoundRows}
use Rattle.pl_printing.specs.Canonical.{Shown, of_kind, of_layer, shown, all_shown, is_whole}
use Rattle.pl_printing.proofs.Folds.{at_number, at_chars, at_var, at_apply, at_brace, at_brace_list, at_unary, at_binary, at_range, at_stepped, at_rows, at_func, at_end, at_colon, at_state}
use Rattle.pl_printing.proofs.Taking.{map_snoc}
use Rattle.pl_printed.proofs.Operands.{Goes, Items, AllItems, weaken}
use Rattle.pl_printed.proofs.Heads.{IsHeadText}
use Rattle.pl_printed.proofs.Nodes.{Good, number_good, chars_good, var_good, apply_good, brace_good, func_good, state_good, state_call_good, end_good, colon_goes, unary_good, transposed_good, binary_good, range_good, stepped_good, rows_good}
use Rattle.pl_printed.proofs.Words.{AreWords}

-- the expression can be laid out, and the words behind it can be written
abbrev pub GoodEx : Bool → Expr → List Terminal → Type 0
GoodEx i e rest = Good i (shown e) × AreWords rest

abbrev GoodList : Bool → List Expr → List Terminal → Type 0
GoodList i es rest = Items i (all_shown es) × AreWords rest

abbrev GoodRows : Bool → List (List Expr) → List Terminal → Type 0
GoodRows i all rest = AllItems i (map (map shown) all) × AreWords rest

-- ---- lists

items_snoc : (i : Bool) (xs : List Shown) (x : Shown) → Items i xs → Goes false i x.words → Items i (xs ++ x ∷ [])
items_snoc i [] x h k = (k, tt)
items_snoc i (y ∷ xs) x h k = (h.0, items_snoc i xs x h.1 k)

list_snoc : (i : Bool) (es : List Expr) (e : Expr) → Items i (all_shown es) → Goes false i (shown e).words → Items i (all_shown (es ++ e ∷ []))
list_snoc i es e h k = subst (Items i) (sym (map_snoc shown es e)) (items_snoc i (all_shown es) (shown e) h k)

rows_snoc : (i : Bool) (all : List (List Expr)) (es : List Expr) → AllItems i (map (map shown) all) → Items i (all_shown es) → AllItems i (map (map shown) (all ++ es ∷ []))
rows_snoc i [] es h k = (k, tt)
rows_snoc i (r ∷ more) es h k = (h.0, rows_snoc i more es h.1 k)

-- ---- names and signs

head_rest : (h : Head) (rest : List Terminal) → AreWords (spelling.head_words h rest) → AreWords rest
head_rest (alone n) rest a = a.1
head_rest (dotted h m n) rest a = (head_rest h _ a).1.1

head_is : (h : Head) (rest : List Terminal) → IsHead h → AreWords (spelling.head_words h rest) → IsHeadText (head_text h)
head_is (alone n) rest s a = λ e. a.0
head_is (dotted h m n) rest s a = λ e. let f : true ≡ false = sym (ap is_whole s.1) ∙ e in cc

signs_rest : (us : Signs) (rest : List Terminal) → AreWords (spelling.signs us rest) → AreWords rest
signs_rest no_signs rest a = a
signs_rest (more_signs us m g) rest a = (signs_rest us _ a).1

pub comma_rest : (c : Comma) (rest : List Terminal) → AreWords (spelling.comma_words c rest) → AreWords rest
comma_rest (written m) rest a = a.1
comma_rest space rest a = a

trail_rest : (t : Trail) (rest : List Terminal) → AreWords (spelling.trail_words t rest) → AreWords rest
trail_rest no_trail rest a = a
trail_rest (trail m) rest a = a.1

-- what a fold makes of a node is good
made : (i : Bool) (e : Expr) (x : Shown) → shown e ≡ x → Good i x → Good i (shown e)
made i e x h g = subst (Good i) (sym h) g

signs_good : (i : Bool) (us : Signs) (e : Expr) → Good i (shown e) → Good i (shown (under_signs us e))
signs_good i no_signs e h = h
signs_good i (more_signs us m g) e h = signs_good i us _ (made i _ _ (at_unary Shown Shown of_kind of_layer (un_of g) e m.place) (unary_good g i (shown e) h))

-- ---- expressions

mutual
  pub good : (e : Ex) (row i : Bool) (rest : List Terminal) → SoundEx row i e → AreWords (ex e rest) → GoodEx i (tree e) rest
  good (number m z) row i rest s a = (made i _ _ (at_number Shown Shown of_kind of_layer z m.place) (number_good i z a.0), a.1)
  good (chars m cs) row i rest s a = (made i _ _ (at_chars Shown Shown of_kind of_layer cs m.place) (chars_good i cs a.0), a.1)
  good (bare (head h)) row i rest s a = (made i _ _ (at_var Shown Shown of_kind of_layer (head_name h) _) (var_good i (head_name h) (head_is h rest s a)), head_rest h rest a)
  good (bare (braced n m e z)) row i rest s a =
      let x = good e false true (term w.CloseBrace z ∷ rest) s a.1.1 in
      (made i _ _ (at_brace Shown Shown of_kind of_layer (name_of n) (tree e) _) (brace_good i (name_of n) (shown (tree e)) None a.0 x.0 tt), x.1.1)
  good (call (head h) m l z) row i rest s a =
      let b = head_rest h _ a in
      let x = good_args l (term w.Close z ∷ rest) s.2 b.1 in
      (made i _ _ (at_apply Shown Shown of_kind of_layer (head_name h) (arg_trees l) _) (apply_good i (head_name h) (all_shown (arg_trees l)) (head_is h _ s.0 a) x.0), x.1.1)
  good (call (braced n o e c) m l z) row i rest s a =
      let y = good e false true (term w.CloseBrace c ∷ term w.Open m ∷ args l (term w.Close z ∷ rest)) s.0 a.1.1 in
      let x = good_args l (term w.Close z ∷ rest) s.2 y.1.1.1 in
      (made i _ _ (at_brace_list Shown Shown of_kind of_layer (name_of n) (tree e) (arg_trees l) _) (brace_good i (name_of n) (shown (tree e)) (Some (all_shown (arg_trees l))) a.0 y.0 x.0), x.1.1)
  good (state (bare (head (alone n))) d m) row i rest s a =
      (made i _ _ (at_state Shown Shown of_kind of_layer _ _) (state_good i (name_of n) a.0 (shown (tree (bare (head (alone n))))) (ap (λ (x : Shown). x.stated) (at_var Shown Shown of_kind of_layer (name_of n) _))), a.1.1.1)
  good (state (call (head (alone n)) o l z) d m) row i rest s a =
      let x = good_args l _ s.1.2 a.1.1 in
      (made i _ _ (at_state Shown Shown of_kind of_layer _ _) (state_call_good i (name_of n) (all_shown (arg_trees l)) a.0 x.0 (shown (tree (call (head (alone n)) o l z))) (ap (λ (x : Shown). x.stated) (at_apply Shown Shown of_kind of_layer (name_of n) (arg_trees l) _))), x.1.1.1.1)
  good (state e d m) row i rest s a = let f : false ≡ true = s.0 in cc
  good (paren m e z) row i rest s a = let x = good e false i (term w.Close z ∷ rest) s a.1 in (x.0, x.1.1)
  good (rows m rs z) row i rest s a =
      let x = good_rows i rs (term w.CloseSquare z ∷ rest) s a.1 in
      (made i _ _ (at_rows Shown Shown of_kind of_layer (row_trees rs) m.place) (rows_good i _ x.0), x.1.1)
  good (rows_to m rs es t z) row i rest s a =
      let x = good_rows i rs (elements es (spelling.trail_words t (term w.CloseSquare z ∷ rest))) s.0 a.1 in
      let y = good_elements true i es (spelling.trail_words t (term w.CloseSquare z ∷ rest)) s.1 x.1 in
      (made i _ _ (at_rows Shown Shown of_kind of_layer (row_trees rs ++ trees es ∷ []) m.place) (rows_good i _ (rows_snoc i (row_trees rs) (trees es) x.0 y.0)), (trail_rest t _ y.1).1)
  good (func m n) row i rest s a = (made i _ _ (at_func Shown Shown of_kind of_layer (name_of n) _) (func_good i (name_of n) a.1.0), a.1.1)
  good (last m) row true rest s a = (made true _ _ (at_end Shown Shown of_kind of_layer m.place) end_good, a.1)
  good (last m) row false rest s a = let f : false ≡ true = s in cc
  good (under (joined b o m us) e) row i rest s a =
      let x = good b row i (term (w.Binary o) m ∷ spelling.signs us (ex e rest)) s.0.2 a in
      let y = good e row i rest s.3 (signs_rest us (ex e rest) x.1.1) in
      (made i _ _ (at_binary Shown Shown of_kind of_layer o (tree b) (under_signs us (tree e)) m.place) (binary_good o i _ _ x.0 (signs_good i us (tree e) y.0)), y.1)
  good (under (signed m g) e) row i rest s a =
      let y = good e row i rest s.3 a.1 in
      (made i _ _ (at_unary Shown Shown of_kind of_layer (un_of g) (tree e) m.place) (unary_good g i _ y.0), y.1)
  good (under (from b m) e) row i rest s a =
      let x = good b row i (term w.Colon m ∷ ex e rest) s.0.1 a in
      let y = good e row i rest s.3 x.1.1 in
      (made i _ _ (at_range Shown Shown of_kind of_layer (tree b) (tree e) m.place) (range_good i _ _ x.0 y.0), y.1)
  good (under (stepped b m v n) e) row i rest s a =
      let x = good b row i (term w.Colon m ∷ ex v (term w.Colon n ∷ ex e rest)) s.0.2 a in
      let q = good v row i (term w.Colon n ∷ ex e rest) s.0.3 x.1.1 in
      let y = good e row i rest s.3 q.1.1 in
      (made i _ _ (at_stepped Shown Shown of_kind of_layer (tree b) (tree v) (tree e) m.place) (stepped_good i _ _ _ x.0 q.0 y.0), y.1)
  good (transposed e m) row i rest s a =
      let x = good e row i (term w.Quote m ∷ rest) s.1 a in
      (made i _ _ (at_unary Shown Shown of_kind of_layer _ (tree e) m.place) (transposed_good i _ x.0), x.1.1)

  pub good_args : (l : Args) (rest : List Terminal) → SoundArgs l → AreWords (args l rest) → GoodList true (arg_trees l) rest
  good_args no_args rest s a = (tt, a)
  good_args (listed es) rest s a = good_elements false true es rest s a

  good_elements : (row i : Bool) (es : Elements) (rest : List Terminal) → SoundElements row i es → AreWords (elements es rest) → GoodList i (trees es) rest
  good_elements row i (one it) rest s a = let x = good_item row i it rest s a in ((x.0, tt), x.1)
  good_elements row i (also es c it) rest s a =
      let x = good_elements row i es (spelling.comma_words c (item it rest)) s.0 a in
      let y = good_item row i it rest s.2 (comma_rest c (item it rest) x.1) in
      (list_snoc i (trees es) (item_tree it) x.0 y.0, y.1)

  good_item : (row i : Bool) (it : Item) (rest : List Terminal) → SoundItem row i it → AreWords (item it rest) → Goes false i (shown (item_tree it)).words × AreWords rest
  good_item row i (value e) rest s a = let x = good e row i rest s a in (weaken i _ x.0.words, x.1)
  good_item row i (colon m) rest s a = (subst (λ (x : Shown). Goes false i x.words) (sym (at_colon Shown Shown of_kind of_layer m.place)) (colon_goes i), a.1)

  good_rows : (i : Bool) (rs : Rows) (rest : List Terminal) → SoundRows i rs → AreWords (row_words rs rest) → GoodRows i (row_trees rs) rest
  good_rows i no_rows rest s a = (tt, a)
  good_rows i (broken rs p) rest s a = let x = good_rows i rs (spelling.sep p rest) s.0 a in (x.0, x.1.1)
  good_rows i (filled rs es t p) rest s a =
      let x = good_rows i rs (elements es (spelling.trail_words t (spelling.sep p rest))) s.0 a in
      let y = good_elements true i es (spelling.trail_words t (spelling.sep p rest)) s.1 x.1 in
      (rows_snoc i (row_trees rs) (trees es) x.0 y.0, (trail_rest t _ y.1).1)
