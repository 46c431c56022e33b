-- Names, operands and lists can be laid out.
use Rattle.std.proofs.Common.{◌≡◌, ℕ, ◌+◌, Bool, true, false, ◌&&◌, ◌||◌, List, [], ◌∷◌, map, refl, ap, sym, subst, ◌∙◌, ◌++◌}
use Rattle.std.specs.Prelude.{◌==◌}
use Rattle.std.proofs.lemmas.Bool.{ne_eqb}
use Rattle.pl_grammar.specs.declared.terminal.Terminal.{Terminal}
use Rattle.pl_grammar.specs.declared.terminal.Word.TheVariants as w
use Rattle.pl_lex.specs.Bytes.{class_of, is_part, part_class, begins, Stops}
use Rattle.pl_lex.specs.State.{signed}
use Rattle.pl_lex.specs.Pieces.{joins, continues, scale_class}
use Rattle.pl_lex.specs.Tokens.{IsName}
use Rattle.pl_layout.specs.Layout.{text_from}
use Rattle.pl_layout.specs.Shown.{LineFits}
use Rattle.pl_layout.proofs.Parts.{Brackets, Last}
use Rattle.pl_printing.specs.Canonical.{Words, directly, behind, separated, behind_dots, dotted_words, name_words, Shown, in_parentheses, held, words_of, list_words, in_brackets, in_braces}
use Rattle.pl_printed.proofs.States.{Fits, at, other, named, operand, grouped, called, braced, In, in_group, in_call, in_brace, Behind, behind_comma, behind_semicolon, behind_close, behind_close_brace, behind_operand}

-- words with white space before them, or such that `~` may stand directly before
abbrev pub Opens : Bool → List ℕ → Type 0
Opens true bytes = begins 32 bytes ≡ true
Opens false bytes = begins 61 bytes ≡ false

-- an operand, or any element of a list, can be laid out where one may stand
pub record Goes (o i : Bool) (words : Words) : Type 0 where
  pub starts : (gap : Bool) (d n : ℕ) (t : Bool) (rest : List Terminal) → Opens gap (text_from (at d n false t) (words gap rest))
  pub shown : (d n : ℕ) (f t : Bool) (s : Brackets) (gap : Bool) (rest : List Terminal) → In i n s → LineFits f gap d → Behind o d n s rest → Fits d n f t s other (words gap rest)

-- a name, with what may stand behind it, can be laid out wherever white space fits
pub record Names (words : Words) : Type 0 where
  pub starts : (gap : Bool) (d n : ℕ) (t : Bool) (rest : List Terminal) → Opens gap (text_from (at d n false t) (words gap rest))
  pub shown : (d n : ℕ) (f t : Bool) (s : Brackets) (l : Last) (gap : Bool) (rest : List Terminal) → LineFits f gap d → Stops is_part (text_from (at d n false false) rest) → Fits d n false false s named rest → Fits d n f t s l (words gap rest)

-- ---- names

-- a letter is none of the bytes that are signs
pub letter_is_not : (c b : ℕ) → part_class (class_of c) ≡ true → part_class (class_of b) ≡ false → (c == b) ≡ false
letter_is_not c b h k = ne_eqb c b (λ e. let P : ℕ → Type 0 = λ x. part_class (class_of x) ≡ true in let f : part_class (class_of b) ≡ true = subst P e h in let g : true ≡ false = sym f ∙ k in cc)

name_opens : (text : List ℕ) → IsName text → (gap : Bool) (d n : ℕ) (t : Bool) (rest : List Terminal) → Opens gap (text_from (at d n false t) (name_words text gap rest))
unfolding class_of
name_opens text h true d n t rest = refl
name_opens [] h false d n t rest = absurd h
name_opens (c ∷ cs) h false d n t rest = letter_is_not c 61 (ap part_class h.0) refl

pub name_goes : (text : List ℕ) → IsName text → Names (name_words text)
name_goes text h = record { starts = name_opens text h; shown = λ d n f t s l gap rest j k a. (h, j, tt, k, a) }

abbrev pub AreNames : List (List ℕ) → Type 0
AreNames [] = Unit {0}
AreNames (text ∷ texts) = IsName text × AreNames texts

or_false : (a b : Bool) → a ≡ false → b ≡ false → (a || b) ≡ false
or_false a b h k = rw (h, k) refl

and_false : (a b : Bool) → a ≡ false → (a && b) ≡ false
and_false a b h = rw h refl

-- a name leaves a dot before it alone
dot_alone : (text rest : List ℕ) → IsName text → (joins (class_of 46) 46 (text ++ rest) ≡ false) × (continues (class_of 46) (text ++ rest) ≡ false)
unfolding class_of
dot_alone [] rest h = absurd h
dot_alone (c ∷ cs) rest h =
    let part : part_class (class_of c) ≡ true = ap part_class h.0 in
    (or_false (scale_class (class_of c)) (c == 39) (ap scale_class h.0) (letter_is_not c 39 part refl), and_false (c == 46) (begins 46 (cs ++ rest)) (letter_is_not c 46 part refl))

-- a dot and a name
pub dot_goes : (text : List ℕ) → IsName text → (d n : ℕ) (s : Brackets) (l : Last) (rest : List Terminal) → Stops is_part (text_from (at d n false false) rest) → Fits d n false false s named rest
    → Fits d n false false s l (directly w.Dot ∷ directly (w.Name text) ∷ rest)
unfolding class_of signed
dot_goes text h d n s l rest k a = (tt, tt, tt, dot_alone text (text_from (at d n false false) rest) h, (h, tt, tt, k, a))

dots_part : (texts : List (List ℕ)) (d n : ℕ) (rest : List Terminal) → Stops is_part (text_from (at d n false false) rest) → Stops is_part (text_from (at d n false false) (behind_dots texts rest))
unfolding class_of
dots_part [] d n rest k = k
dots_part (text ∷ texts) d n rest k = refl

dots_go : (texts : List (List ℕ)) → AreNames texts → (d n : ℕ) (s : Brackets) (rest : List Terminal) → Stops is_part (text_from (at d n false false) rest) → Fits d n false false s named rest → Fits d n false false s named (behind_dots texts rest)
dots_go [] h d n s rest k a = a
dots_go (text ∷ texts) h d n s rest k a = dot_goes text h.0 d n s named (behind_dots texts rest) (dots_part texts d n rest k) (dots_go texts h.1 d n s rest k a)

-- names with dots between
pub dotted_goes : (text : List ℕ) (texts : List (List ℕ)) → AreNames (text ∷ texts) → Names (dotted_words (text ∷ texts))
dotted_goes text texts h = record {
  starts = λ gap d n t rest. name_opens text h.0 gap d n t (behind_dots texts rest);
  shown = λ d n f t s l gap rest j k a. (h.0, j, tt, dots_part texts d n rest k, dots_go texts h.1 d n s rest k a);
}

-- ---- lists

abbrev pub AllGo : Bool → List Words → Type 0
AllGo i [] = Unit {0}
AllGo i (x ∷ xs) = Goes false i x × AllGo i xs

pub commas_go : (i : Bool) (xs : List Words) → AllGo i xs → (d n : ℕ) (s : Brackets) (rest : List Terminal) → In i n s → Behind false d n s rest → Behind false d n s (behind w.Comma xs rest)
commas_go i [] h d n s rest j b = b
commas_go i (x ∷ xs) h d n s rest j b = behind_comma false d n s (x true (behind w.Comma xs rest)) (h.0.shown d n false false s true (behind w.Comma xs rest) j tt (commas_go i xs h.1 d n s rest j b))

pub list_goes : (i : Bool) (xs : List Words) → AllGo i xs → (d n : ℕ) (t : Bool) (s : Brackets) (gap : Bool) (rest : List Terminal) → In i n s → Behind false d n s rest → Fits d n false t s other (separated w.Comma xs gap rest)
list_goes i [] h d n t s gap rest j b = b.shown t other refl
list_goes i (x ∷ xs) h d n t s gap rest j b = h.0.shown d n false t s gap (behind w.Comma xs rest) j tt (commas_go i xs h.1 d n s rest j b)

abbrev pub Items : Bool → List Shown → Type 0
Items i [] = Unit {0}
Items i (x ∷ xs) = Goes false i x.words × Items i xs

items_go : (i : Bool) (xs : List Shown) → Items i xs → AllGo i (words_of xs)
items_go i [] h = tt
items_go i (x ∷ xs) h = (h.0, items_go i xs h.1)

abbrev pub AllItems : Bool → List (List Shown) → Type 0
AllItems i [] = Unit {0}
AllItems i (xs ∷ rows) = Items i xs × AllItems i rows

pub rows_behind : (i : Bool) (rows : List (List Shown)) → AllItems i rows → (d n : ℕ) (s : Brackets) (rest : List Terminal) → In i n s → Behind false d n s rest → Behind false d n s (behind w.Semicolon (map list_words rows) rest)
rows_behind i [] h d n s rest j b = b
rows_behind i (xs ∷ rows) h d n s rest j b =
    let after : List Terminal = behind w.Semicolon (map list_words rows) rest in
    behind_semicolon false d n s (list_words xs true after) (list_goes i (words_of xs) (items_go i xs h.0) d n false s true after j (rows_behind i rows h.1 d n s rest j b))

pub rows_go : (i : Bool) (rows : List (List Shown)) → AllItems i rows → (d n : ℕ) (t : Bool) (s : Brackets) (rest : List Terminal) → In i n s → Behind false d n s rest → Fits d n false t s other (separated w.Semicolon (map list_words rows) false rest)
rows_go i [] h d n t s rest j b = b.shown t other refl
rows_go i (xs ∷ rows) h d n t s rest j b = list_goes i (words_of xs) (items_go i xs h.0) d n t s false (behind w.Semicolon (map list_words rows) rest) j (rows_behind i rows h.1 d n s rest j b)

-- a list in parentheses directly behind a name
pub brackets_go : (xs : List Shown) → Items true xs → (d n : ℕ) (s : Brackets) (rest : List Terminal) → Fits d n false false s operand rest → Fits d n false false s named (in_brackets xs rest)
unfolding class_of signed
brackets_go xs h d n s rest a = (tt, tt, tt, tt, list_goes true (words_of xs) (items_go true xs h) d (n + 1) false (called s) false (directly w.Close ∷ rest) (in_call n s) (behind_close false d n s (called s) rest refl a))

-- an operand in braces directly behind a name
pub braces_go : (x : Shown) → Goes true true x.words → (d n : ℕ) (s : Brackets) (rest : List Terminal) → Fits d n false false s named rest → Fits d n false false s named (in_braces x rest)
unfolding class_of signed
braces_go x h d n s rest a = (tt, tt, tt, tt, h.shown d (n + 1) false false (braced s) false (directly w.CloseBrace ∷ rest) (in_brace n s) tt (behind_close_brace true d n s (braced s) rest refl a))

-- ---- operands

-- what may stand anywhere in a list may stand before what follows an operand
pub weaken : (i : Bool) (words : Words) → Goes true i words → Goes false i words
weaken i words h = record { starts = h.starts; shown = λ d n f t s gap rest j k b. h.shown d n f t s gap rest j k (behind_operand d n s rest b) }

pub in_parentheses_goes : (i : Bool) (words : Words) → Goes true i words → Goes true i (in_parentheses words)
unfolding class_of signed
in_parentheses_goes i words h = record { starts = starts; shown = λ d n f t s gap rest j k b. (tt, k, tt, tt, h.shown d (n + 1) false false (grouped s) false (directly w.Close ∷ rest) (in_group i n s j) tt (behind_close true d n s (grouped s) rest refl (b.shown false operand refl))) }
  where
    starts : (gap : Bool) (d n : ℕ) (t : Bool) (rest : List Terminal) → Opens gap (text_from (at d n false t) (in_parentheses words gap rest))
    starts true d n t rest = refl
    starts false d n t rest = refl

pub held_goes : (v i : Bool) (words : Words) → Goes true i words → Goes true i (held v words)
held_goes true i words h = h
held_goes false i words h = in_parentheses_goes i words h
