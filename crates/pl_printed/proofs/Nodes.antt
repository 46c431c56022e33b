-- Each kind of expression can be laid out where its parts can.
use Rattle.std.proofs.Common.{◌≡◌, ℕ, ◌+◌, ◌<◌, suc, ℤ, pos, negsuc, Bool, true, false, Option, Some, None, List, [], ◌∷◌, ◌++◌, length, refl, ap, sym, subst, arith}
use Rattle.std.specs.Prelude.{codes, ◌==◌, nat_le}
use Rattle.std.specs.Fmt.{decimal, signed_decimal}
use Rattle.std.proofs.lemmas.Bool.{eqb-true}
use Rattle.pl_syntax.specs.declared.expr.Name.{Name}
use Rattle.pl_syntax.specs.declared.expr.Un.TheVariants as un
use Rattle.pl_syntax.specs.declared.expr.Bin.{Bin}
use Rattle.pl_syntax.specs.declared.expr.Bin.TheVariants as bin
use Rattle.pl_syntax.specs.declared.expr.ExprKind.TheOpen.{ExprKind-F}
use Rattle.pl_grammar.specs.declared.terminal.Terminal.{Terminal}
use Rattle.pl_grammar.specs.declared.terminal.Word.TheVariants as w
use Rattle.pl_grammar.specs.declared.terminal.Keyword.TheVariants as k
use Rattle.pl_grammar.specs.Words.{plus, minus, Sign, additive, tilde, sign_word, level, is_power}
use Rattle.pl_grammar.specs.Trees.{un_of}
use Rattle.pl_lex.specs.Bytes.{class_of, part_class, begins, Each}
use Rattle.pl_lex.specs.Keywords.{is_keyword, is_end}
use Rattle.pl_lex.specs.State.{signed}
use Rattle.pl_lex.specs.Tokens.{IsName}
use Rattle.pl_layout.specs.Layout.{written, text_from}
use Rattle.pl_layout.specs.Shown.{IsNumber, in_line, OperatorStays, LineFits, beyond, AreShownFrom}
use Rattle.pl_layout.proofs.Parts.{Brackets}
use Rattle.pl_layout.proofs.Spelt.{calm}
use Rattle.pl_layout.proofs.Decimals.{AreDigits, Digits, decimals}
use Rattle.pl_printing.specs.Canonical.{Words, terminal, directly, apart, name_words, Shown, as_tight, spelled, whole_words, signed_by, unary, right_words, right_of, rows_words, in_brackets, in_braces, perhaps_list, of_kind}
use Rattle.pl_printed.proofs.States.{Fits, at, other, named, operand, squared, In, in_square, Behind, behind_colon, behind_close_square, behind_quote, behind_binary, beyond_operator}
use Rattle.pl_printed.proofs.Operands.{Opens, Goes, Names, name_goes, letter_is_not, dot_goes, Items, AllItems, rows_go, brackets_go, braces_go, held_goes}
use Rattle.pl_printed.proofs.Heads.{IsHeadText, head_goes}

-- an expression can be laid out, in an index or not
pub record Good (i : Bool) (x : Shown) : Type 0 where
  pub words : Goes true i x.words
  pub raised : Goes true i x.raised

pub whole_good : (i : Bool) (words : Words) → Goes true i words → Good i (whole_words words)
whole_good i words h = record { words = h; raised = h }

pub spelled_good : (i : Bool) (bind : ℕ) (words : Words) → Goes true i words → Good i (spelled bind words)
spelled_good i bind words h = record { words = h; raised = held_goes (nat_le 11 bind) i words h }

pub tight_goes : (i : Bool) (least : ℕ) (x : Shown) → Good i x → Goes true i (as_tight least x)
tight_goes i least x h = held_goes (nat_le least x.bind) i x.words h.words

-- ---- literals

digits_open : (ds rest : List ℕ) → AreDigits ds → 0 < length ds → begins 61 (ds ++ rest) ≡ false
unfolding class_of
digits_open [] rest h k = let x : ⊥ = omega (arith, k) in absurd x
digits_open (c ∷ cs) rest h k = letter_is_not c 61 (ap part_class h.0) refl

number_opens : (z : ℤ) → IsNumber z → (rest : List ℕ) → begins 61 (signed_decimal z ++ rest) ≡ false
number_opens (pos n) h rest = let d : Digits n (decimal n) = decimals n (omega arith) in digits_open (decimal n) rest d.0 d.2
number_opens (negsuc n) h rest = absurd h

pub number_good : (i : Bool) (z : ℤ) → IsNumber z → Good i (of_kind (ExprKind-F.Number z))
number_good i z h = whole_good i _ (record { starts = starts; shown = λ d n f t s gap rest j k b. (h, k, tt, (b.digits false, b.whole false), b.shown false operand refl) })
  where
    starts : (gap : Bool) (d n : ℕ) (t : Bool) (rest : List Terminal) → Opens gap (text_from (at d n false t) (terminal gap (w.Number z) ∷ rest))
    starts true d n t rest = refl
    starts false d n t rest = number_opens z h (text_from (at d n false false) rest)

pub chars_good : (i : Bool) (text : List ℕ) → Each in_line text → Good i (of_kind (ExprKind-F.Chars text))
chars_good i text h = whole_good i _ (record { starts = starts; shown = λ d n f t s gap rest j k b. (h, k, refl, b.quote, b.shown true operand refl) })
  where
    starts : (gap : Bool) (d n : ℕ) (t : Bool) (rest : List Terminal) → Opens gap (text_from (at d n false t) (terminal gap (w.Chars text) ∷ rest))
    starts true d n t rest = refl
    starts false d n t rest = refl

-- ---- names, calls and places

pub names_goes : (i : Bool) (words : Words) → Names words → Goes true i words
names_goes i words h = record { starts = h.starts; shown = λ d n f t s gap rest j k b. h.shown d n f t s other gap rest k (b.parts false) (b.shown false named refl) }

pub var_good : (i : Bool) (n : Name) → IsHeadText n.text → Good i (of_kind (ExprKind-F.Var n))
var_good i n h = let g = names_goes i _ (head_goes n.text h) in record { words = g; raised = g }

apply_goes : (i : Bool) (words : Words) (xs : List Shown) → Names words → Items true xs → Goes true i (λ gap rest. words gap (in_brackets xs rest))
unfolding class_of
apply_goes i words xs h g = record {
  starts = λ gap d n t rest. h.starts gap d n t (in_brackets xs rest);
  shown = λ d n f t s gap rest j k b. h.shown d n f t s other gap (in_brackets xs rest) k refl (brackets_go xs g d n s rest (b.shown false operand refl));
}

pub apply_good : (i : Bool) (n : Name) (xs : List Shown) → IsHeadText n.text → Items true xs → Good i (of_kind (ExprKind-F.Apply n xs))
apply_good i n xs h g = let a = apply_goes i _ xs (head_goes n.text h) g in record { words = a; raised = a }

-- an index behind braces, or none
abbrev pub Perhaps : Option (List Shown) → Type 0
Perhaps None = Unit {0}
Perhaps (Some xs) = Items true xs

pub brace_good : (i : Bool) (n : Name) (x : Shown) (xs : Option (List Shown)) → IsName n.text → Good true x → Perhaps xs → Good i (of_kind (ExprKind-F.Brace n x xs))
unfolding class_of
brace_good i n x xs h g list =
    whole_good i _ (record {
      starts = λ gap d n' t rest. (name_goes n.text h).starts gap d n' t (in_braces x (perhaps_list xs rest));
      shown = λ d n' f t s gap rest j k b. (name_goes n.text h).shown d n' f t s other gap (in_braces x (perhaps_list xs rest)) k refl (braces_go x g.words d n' s (perhaps_list xs rest) (perhaps xs list d n' s rest b));
    })
  where
    perhaps : (ys : Option (List Shown)) → Perhaps ys → (d n' : ℕ) (s : Brackets) (rest : List Terminal) → Behind true d n' s rest → Fits d n' false false s named (perhaps_list ys rest)
    perhaps None e d n' s rest b = b.shown false named refl
    perhaps (Some ys) e d n' s rest b = brackets_go ys e d n' s rest (b.shown false operand refl)

pub func_good : (i : Bool) (n : Name) → IsName n.text → Good i (of_kind (ExprKind-F.Func n))
unfolding class_of signed
func_good i n h = whole_good i _ (record { starts = starts; shown = λ d n' f t s gap rest j k b. (tt, k, tt, tt, (h, tt, tt, b.parts false, b.shown false named refl)) })
  where
    starts : (gap : Bool) (d n' : ℕ) (t : Bool) (rest : List Terminal) → Opens gap (text_from (at d n' false t) (terminal gap w.At ∷ directly (w.Name n.text) ∷ rest))
    starts true d n' t rest = refl
    starts false d n' t rest = refl

state : IsName (codes "State")
unfolding class_of is_keyword
state = (refl, (refl, (refl, (refl, (refl, tt)))), refl)

pub state_good : (i : Bool) (n : Name) → IsName n.text → (x : Shown) → x.stated ≡ name_words n.text → Good i (of_kind (ExprKind-F.StateOf x))
unfolding class_of
state_good i n h x e =
    let P : Words → Type 0 = λ words. Goes true i (λ gap rest. words gap (directly w.Dot ∷ directly (w.Name (codes "State")) ∷ rest)) in
    whole_good i _ (subst P (sym e) (record {
      starts = λ gap d n' t rest. (name_goes n.text h).starts gap d n' t (directly w.Dot ∷ directly (w.Name (codes "State")) ∷ rest);
      shown = λ d n' f t s gap rest j k b. (name_goes n.text h).shown d n' f t s other gap (directly w.Dot ∷ directly (w.Name (codes "State")) ∷ rest) k refl (dot_goes (codes "State") state d n' s named rest (b.parts false) (b.shown false named refl));
    }))

pub state_call_good : (i : Bool) (n : Name) (xs : List Shown) → IsName n.text → Items true xs → (x : Shown) → x.stated ≡ (λ gap rest. name_words n.text gap (in_brackets xs rest)) → Good i (of_kind (ExprKind-F.StateOf x))
unfolding class_of
state_call_good i n xs h g x e =
    let P : Words → Type 0 = λ words. Goes true i (λ gap rest. words gap (directly w.Dot ∷ directly (w.Name (codes "State")) ∷ rest)) in
    whole_good i _ (subst P (sym e) (record {
      starts = λ gap d n' t rest. (name_goes n.text h).starts gap d n' t (in_brackets xs (directly w.Dot ∷ directly (w.Name (codes "State")) ∷ rest));
      shown = λ d n' f t s gap rest j k b. (name_goes n.text h).shown d n' f t s other gap (in_brackets xs (directly w.Dot ∷ directly (w.Name (codes "State")) ∷ rest)) k refl (brackets_go xs g d n' s (directly w.Dot ∷ directly (w.Name (codes "State")) ∷ rest) (dot_goes (codes "State") state d n' s operand rest (b.parts false) (b.shown false named refl)));
    }))

-- ---- `end` and colons

pub end_good : Good true (of_kind ExprKind-F.End)
unfolding class_of is_end
end_good = whole_good true _ (record { starts = starts; shown = λ d n f t s gap rest j k b. rw (j.0, j.1) (tt, k, tt, b.parts false, b.shown false operand refl) })
  where
    starts : (gap : Bool) (d n : ℕ) (t : Bool) (rest : List Terminal) → Opens gap (text_from (at d n false t) (terminal gap (w.Key k.End) ∷ rest))
    starts true d n t rest = refl
    starts false d n t rest = refl

pub colon_goes : (i : Bool) → Goes false i (of_kind ExprKind-F.Colon).words
unfolding class_of signed
colon_goes i = record { starts = starts; shown = λ d n f t s gap rest j k b. (tt, k, tt, tt, b.shown false other refl) }
  where
    starts : (gap : Bool) (d n : ℕ) (t : Bool) (rest : List Terminal) → Opens gap (text_from (at d n false t) (terminal gap w.Colon ∷ rest))
    starts true d n t rest = refl
    starts false d n t rest = refl

-- ---- operators

beyond_tilde : (g f : Bool) (d n : ℕ) (s : Brackets) (rest : List Terminal) → Fits d n false false s other rest → AreShownFrom (at d n false false) (beyond w.Not (written false w.Not) (calm s other g f)) rest
unfolding signed class_of
beyond_tilde g f d n s rest h = h

sign_goes : (g : Sign) (i : Bool) (words : Words) → Goes true i words → Goes true i (λ gap rest. terminal gap (sign_word g) ∷ words false rest)
sign_goes g i words h = record { starts = starts g; shown = shown g }
  where
    starts : (g : Sign) (gap : Bool) (d n : ℕ) (t : Bool) (rest : List Terminal) → Opens gap (text_from (at d n false t) (terminal gap (sign_word g) ∷ words false rest))
    starts g true d n t rest = refl
    starts (additive plus) false d n t rest = refl
    starts (additive minus) false d n t rest = refl
    starts tilde false d n t rest = refl

    shown : (g : Sign) (d n : ℕ) (f t : Bool) (s : Brackets) (gap : Bool) (rest : List Terminal) → In i n s → LineFits f gap d → Behind true d n s rest → Fits d n f t s other (terminal gap (sign_word g) ∷ words false rest)
    shown (additive plus) d n f t s gap rest j k b = (tt, k, tt, tt, beyond_operator bin.Add gap f d n s other (words false rest) (h.shown d n false false s false rest j tt b))
    shown (additive minus) d n f t s gap rest j k b = (tt, k, tt, tt, beyond_operator bin.Sub gap f d n s other (words false rest) (h.shown d n false false s false rest j tt b))
    shown tilde d n f t s gap rest j k b = (tt, k, tt, h.starts false d n false rest, beyond_tilde gap f d n s (words false rest) (h.shown d n false false s false rest j tt b))

signed_good : (g : Sign) (i : Bool) (x : Shown) → Good i x → Good i (signed_by (sign_word g) x)
signed_good g i x h = record { words = sign_goes g i (as_tight 9 x) (tight_goes i 9 x h); raised = sign_goes g i x.raised h.raised }

pub unary_good : (g : Sign) (i : Bool) (x : Shown) → Good i x → Good i (unary (un_of g) x)
unary_good (additive plus) i x h = signed_good (additive plus) i x h
unary_good (additive minus) i x h = signed_good (additive minus) i x h
unary_good tilde i x h = signed_good tilde i x h

pub transposed_good : (i : Bool) (x : Shown) → Good i x → Good i (unary un.Transpose x)
transposed_good i x h =
    let g : Goes true i (as_tight 10 x) = tight_goes i 10 x h in
    spelled_good i 10 _ (record {
      starts = λ gap d n t rest. g.starts gap d n t (directly w.Quote ∷ rest);
      shown = λ d n f t s gap rest j k b. g.shown d n f t s gap (directly w.Quote ∷ rest) j k (behind_quote d n s rest (b.shown false operand refl));
    })

-- behind an operator stands a blank
pub blank_is_not : (c : ℕ) (bytes : List ℕ) → begins 32 bytes ≡ true → (32 == c) ≡ false → begins c bytes ≡ false
blank_is_not c [] h k = refl
blank_is_not c (x ∷ xs) h k = let P : ℕ → Type 0 = λ y. (y == c) ≡ false in subst P (sym (eqb-true x 32 h)) k

operator_stays : (o : Bin) (bytes : List ℕ) → begins 32 bytes ≡ true → OperatorStays o bytes
operator_stays bin.Lt bytes h = blank_is_not 61 bytes h refl
operator_stays bin.Gt bytes h = blank_is_not 61 bytes h refl
operator_stays bin.And bytes h = blank_is_not 38 bytes h refl
operator_stays bin.Or bytes h = blank_is_not 124 bytes h refl
operator_stays bin.Add bytes h = tt
operator_stays bin.Sub bytes h = tt
operator_stays bin.Mul bytes h = tt
operator_stays bin.Div bytes h = tt
operator_stays bin.Pow bytes h = tt
operator_stays bin.DotMul bytes h = tt
operator_stays bin.DotDiv bytes h = tt
operator_stays bin.DotPow bytes h = tt
operator_stays bin.Le bytes h = tt
operator_stays bin.Ge bytes h = tt
operator_stays bin.Eq bytes h = tt
operator_stays bin.Ne bytes h = tt
operator_stays bin.AndAlso bytes h = tt
operator_stays bin.OrElse bytes h = tt

-- the right operand of an operator
abbrev right_by : Bool → ℕ → Shown → Words
right_by true least x = x.raised
right_by false least x = as_tight (suc least) x

right_goes : (v i : Bool) (least : ℕ) (x : Shown) → Good i x → Goes true i (right_by v least x)
right_goes true i least x h = h.raised
right_goes false i least x h = tight_goes i (suc least) x h

right_is : (v : Bool) (least : ℕ) (x : Shown) (rest : List Terminal) → right_words v least x rest ≡ right_by v least x true rest
right_is true least x rest = refl
right_is false least x rest = refl

pub binary_good : (o : Bin) (i : Bool) (x y : Shown) → Good i x → Good i y → Good i (of_kind (ExprKind-F.Binary o x y))
binary_good o i x y h g =
    let a : Goes true i (as_tight (level o) x) = tight_goes i (level o) x h in
    let r : Goes true i (right_by (is_power o) (level o) y) = right_goes (is_power o) i (level o) y g in
    spelled_good i (level o) _ (record {
      starts = λ gap d n t rest. a.starts gap d n t (apart (w.Binary o) ∷ right_of o y rest);
      shown = λ d n f t s gap rest j k b. a.shown d n f t s gap (apart (w.Binary o) ∷ right_of o y rest) j k
          (let P : List Terminal → Type 0 = λ ts. Behind true d n s (apart (w.Binary o) ∷ ts) in
          subst P (sym (right_is (is_power o) (level o) y rest)) (behind_binary o true d n s (right_by (is_power o) (level o) y true rest) (operator_stays o _ (r.starts true d n false rest)) (r.shown d n false false s true rest j tt b)));
    })

-- ---- ranges and rows

pub range_good : (i : Bool) (x y : Shown) → Good i x → Good i y → Good i (of_kind (ExprKind-F.Range x None y))
range_good i x y h g =
    let a : Goes true i (as_tight 7 x) = tight_goes i 7 x h in
    let z : Goes true i (as_tight 7 y) = tight_goes i 7 y g in
    spelled_good i 6 _ (record {
      starts = λ gap d n t rest. a.starts gap d n t (directly w.Colon ∷ as_tight 7 y false rest);
      shown = λ d n f t s gap rest j k b. a.shown d n f t s gap (directly w.Colon ∷ as_tight 7 y false rest) j k (behind_colon true d n s (as_tight 7 y false rest) (z.shown d n false false s false rest j tt b));
    })

pub stepped_good : (i : Bool) (x v y : Shown) → Good i x → Good i v → Good i y → Good i (of_kind (ExprKind-F.Range x (Some v) y))
stepped_good i x v y h m g =
    let a : Goes true i (as_tight 7 x) = tight_goes i 7 x h in
    let q : Goes true i (as_tight 7 v) = tight_goes i 7 v m in
    let z : Goes true i (as_tight 7 y) = tight_goes i 7 y g in
    spelled_good i 6 _ (record {
      starts = λ gap d n t rest. a.starts gap d n t (directly w.Colon ∷ as_tight 7 v false (directly w.Colon ∷ as_tight 7 y false rest));
      shown = λ d n f t s gap rest j k b. a.shown d n f t s gap (directly w.Colon ∷ as_tight 7 v false (directly w.Colon ∷ as_tight 7 y false rest)) j k
          (behind_colon true d n s (as_tight 7 v false (directly w.Colon ∷ as_tight 7 y false rest)) (q.shown d n false false s false (directly w.Colon ∷ as_tight 7 y false rest) j tt
          (behind_colon true d n s (as_tight 7 y false rest) (z.shown d n false false s false rest j tt b))));
    })

rows_goes : (i : Bool) (rows : List (List Shown)) → AllItems i rows → Goes true i (rows_words rows)
unfolding class_of signed
rows_goes i rows h = record { starts = starts; shown = λ d n f t s gap rest j k b. (tt, k, tt, tt, rows_go i rows h d (n + 1) false (squared s) (directly w.CloseSquare ∷ rest) (in_square i n s j) (behind_close_square false d n s (squared s) rest refl (b.shown false operand refl))) }
  where
    starts : (gap : Bool) (d n : ℕ) (t : Bool) (rest : List Terminal) → Opens gap (text_from (at d n false t) (rows_words rows gap rest))
    starts true d n t rest = refl
    starts false d n t rest = refl

pub rows_good : (i : Bool) (rows : List (List Shown)) → AllItems i rows → Good i (of_kind (ExprKind-F.Rows rows))
rows_good i rows h = record { words = rows_goes i rows h; raised = rows_goes i rows h }
