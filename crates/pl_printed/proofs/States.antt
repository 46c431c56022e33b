-- Where words are laid out, and what may stand behind an operand there.
use Rattle.std.proofs.Common.{◌≡◌, ℕ, ◌+◌, ◌-◌, Bool, true, false, not, ◌||◌, List, ◌∷◌, drop, refl, ap, sym, subst, arith}
use Rattle.std.specs.Prelude.{◌==◌}
use Rattle.std.proofs.lemmas.Bool.{ne_eqb}
use Rattle.pl_syntax.specs.declared.expr.Bin.{Bin}
use Rattle.pl_syntax.specs.declared.expr.Bin.TheVariants as bin
use Rattle.pl_grammar.specs.declared.terminal.Terminal.{Terminal}
use Rattle.pl_grammar.specs.declared.terminal.Word.{Word}
use Rattle.pl_grammar.specs.declared.terminal.Word.TheVariants as w
use Rattle.pl_lex.specs.Bytes.{class_of, is_part, is_digit, begins, Stops}
use Rattle.pl_lex.specs.State.{start, inside, ends_operand, closed, signed}
use Rattle.pl_lex.specs.Pieces.{is_whole}
use Rattle.pl_layout.specs.Layout.{Line, written, text_from}
use Rattle.pl_layout.specs.Shown.{OperatorStays, beyond, AreShownFrom}
use Rattle.pl_layout.proofs.Parts.{Brackets, Last}
use Rattle.pl_layout.proofs.Spelt.{calm}
use Rattle.pl_printing.specs.Canonical.{directly, apart}

-- ---- where words are laid out

abbrev pub at : ℕ → ℕ → Bool → Bool → Line
at d n f t = record { depth = d; brackets = n; fresh = f; behind_text = t }

-- the terminals can be laid out: so many blocks and brackets are open, a line begins or not, and a text stands before or not
abbrev pub Fits : ℕ → ℕ → Bool → Bool → Brackets → Last → List Terminal → Type 0
Fits d n f t s l ts = AreShownFrom (at d n f t) (calm s l false f) ts

-- behind what is no operand, behind a name or `}`, and behind another operand
abbrev pub other : Last
other = start.last

abbrev pub named : Last
named = (closed 125 start).last

abbrev pub operand : Last
operand = (closed 41 start).last

-- the brackets behind one that opens
abbrev pub opened_by : Word → Last → Brackets → Brackets
opened_by word l s = (beyond word (written false word) (calm s l false false)).brackets

abbrev pub grouped : Brackets → Brackets
grouped s = opened_by w.Open other s

abbrev pub called : Brackets → Brackets
called s = opened_by w.Open named s

abbrev pub squared : Brackets → Brackets
squared s = opened_by w.OpenSquare other s

abbrev pub braced : Brackets → Brackets
braced s = opened_by w.OpenBrace other s

-- inside an index some bracket is open, and the innermost one is in an index
abbrev pub In : Bool → ℕ → Brackets → Type 0
In false n s = Unit {0}
In true n s = ((n == 0) ≡ false) × (inside s ≡ true)

one_more : (n : ℕ) → (n + 1 == 0) ≡ false
one_more n = ne_eqb (n + 1) 0 (λ e. omega (arith, e))

pub one_less : (n : ℕ) → n + 1 - 1 ≡ n
one_less n = omega arith

pub in_group : (i : Bool) (n : ℕ) (s : Brackets) → In i n s → In i (n + 1) (grouped s)
unfolding signed class_of
in_group false n s h = tt
in_group true n s h = (one_more n, h.1)

pub in_square : (i : Bool) (n : ℕ) (s : Brackets) → In i n s → In i (n + 1) (squared s)
unfolding signed class_of
in_square false n s h = tt
in_square true n s h = (one_more n, h.1)

pub in_call : (n : ℕ) (s : Brackets) → In true (n + 1) (called s)
unfolding signed class_of
in_call n s = (one_more n, refl)

pub in_brace : (n : ℕ) (s : Brackets) → In true (n + 1) (braced s)
unfolding signed class_of
in_brace n s = (one_more n, refl)

-- ---- what may stand behind an operand

abbrev pub allowed : Bool → Last → Bool
allowed true l = ends_operand l
allowed false l = true

-- the terminals can be laid out directly behind an operand, or behind any element of a list
pub record Behind (o : Bool) (d n : ℕ) (s : Brackets) (rest : List Terminal) : Type 0 where
  pub shown : (t : Bool) (l : Last) → allowed o l ≡ true → Fits d n false t s l rest
  pub parts : (t : Bool) → Stops is_part (text_from (at d n false t) rest)
  pub equal : (t : Bool) → begins 61 (text_from (at d n false t) rest) ≡ false
  pub digits : (t : Bool) → Stops is_digit (text_from (at d n false t) rest)
  pub whole : (t : Bool) → is_whole (text_from (at d n false t) rest) ≡ true
  pub quote : begins 39 (text_from (at d n false true) rest) ≡ false

pub behind_comma : (o : Bool) (d n : ℕ) (s : Brackets) (rest : List Terminal) → Fits d n false false s other rest → Behind o d n s (directly w.Comma ∷ rest)
unfolding signed class_of
behind_comma o d n s rest h = record { shown = λ t l a. (tt, tt, tt, tt, h); parts = λ t. refl; equal = λ t. refl; digits = λ t. refl; whole = λ t. refl; quote = refl }

pub behind_semicolon : (o : Bool) (d n : ℕ) (s : Brackets) (rest : List Terminal) → Fits d n false false s other rest → Behind o d n s (directly w.Semicolon ∷ rest)
unfolding signed class_of
behind_semicolon o d n s rest h = record { shown = λ t l a. (tt, tt, tt, tt, h); parts = λ t. refl; equal = λ t. refl; digits = λ t. refl; whole = λ t. refl; quote = refl }

pub behind_colon : (o : Bool) (d n : ℕ) (s : Brackets) (rest : List Terminal) → Fits d n false false s other rest → Behind o d n s (directly w.Colon ∷ rest)
unfolding signed class_of
behind_colon o d n s rest h = record { shown = λ t l a. (tt, tt, tt, tt, h); parts = λ t. refl; equal = λ t. refl; digits = λ t. refl; whole = λ t. refl; quote = refl }

pub behind_line : (o : Bool) (d n : ℕ) (s : Brackets) (rest : List Terminal) → Fits d n true false s other rest → Behind o d n s (directly w.LineEnd ∷ rest)
unfolding signed class_of
behind_line o d n s rest h = record { shown = λ t l a. (tt, tt, tt, tt, h); parts = λ t. refl; equal = λ t. refl; digits = λ t. refl; whole = λ t. refl; quote = refl }

closes : (d n : ℕ) (s z : Brackets) (l : Last) (rest : List Terminal) → drop 1 z ≡ s → Fits d n false false s l rest → Fits d (n + 1 - 1) false false (drop 1 z) l rest
closes d n s z l rest e h =
    let P : ℕ → Type 0 = λ m. Fits d m false false (drop 1 z) l rest in
    let Q : Brackets → Type 0 = λ x. Fits d n false false x l rest in
    subst P (sym (one_less n)) (subst Q (sym e) h)

pub behind_close : (o : Bool) (d n : ℕ) (s z : Brackets) (rest : List Terminal) → drop 1 z ≡ s → Fits d n false false s operand rest → Behind o d (n + 1) z (directly w.Close ∷ rest)
unfolding signed class_of
behind_close o d n s z rest e h = record { shown = λ t l a. (tt, tt, tt, tt, closes d n s z operand rest e h); parts = λ t. refl; equal = λ t. refl; digits = λ t. refl; whole = λ t. refl; quote = refl }

pub behind_close_square : (o : Bool) (d n : ℕ) (s z : Brackets) (rest : List Terminal) → drop 1 z ≡ s → Fits d n false false s operand rest → Behind o d (n + 1) z (directly w.CloseSquare ∷ rest)
unfolding signed class_of
behind_close_square o d n s z rest e h = record { shown = λ t l a. (tt, tt, tt, tt, closes d n s z operand rest e h); parts = λ t. refl; equal = λ t. refl; digits = λ t. refl; whole = λ t. refl; quote = refl }

pub behind_close_brace : (o : Bool) (d n : ℕ) (s z : Brackets) (rest : List Terminal) → drop 1 z ≡ s → Fits d n false false s named rest → Behind o d (n + 1) z (directly w.CloseBrace ∷ rest)
unfolding signed class_of
behind_close_brace o d n s z rest e h = record { shown = λ t l a. (tt, tt, tt, tt, closes d n s z named rest e h); parts = λ t. refl; equal = λ t. refl; digits = λ t. refl; whole = λ t. refl; quote = refl }

pub behind_quote : (d n : ℕ) (s : Brackets) (rest : List Terminal) → Fits d n false false s operand rest → Behind true d n s (directly w.Quote ∷ rest)
unfolding signed class_of
behind_quote d n s rest h = record { shown = at_quote; parts = parts; equal = equal; digits = digits; whole = whole; quote = refl }
  where
    at_quote : (t : Bool) (l : Last) → ends_operand l ≡ true → Fits d n false t s l (directly w.Quote ∷ rest)
    at_quote true l a = (tt, tt, tt, tt, h)
    at_quote false l a = (tt, tt, ap (λ x. not x || false) a, tt, h)

    parts : (t : Bool) → Stops is_part (text_from (at d n false t) (directly w.Quote ∷ rest))
    parts true = refl
    parts false = refl

    equal : (t : Bool) → begins 61 (text_from (at d n false t) (directly w.Quote ∷ rest)) ≡ false
    equal true = refl
    equal false = refl

    digits : (t : Bool) → Stops is_digit (text_from (at d n false t) (directly w.Quote ∷ rest))
    digits true = refl
    digits false = refl

    whole : (t : Bool) → is_whole (text_from (at d n false t) (directly w.Quote ∷ rest)) ≡ true
    whole true = refl
    whole false = refl

pub beyond_operator : (op : Bin) (g f : Bool) (d n : ℕ) (s : Brackets) (l : Last) (rest : List Terminal) → Fits d n false false s other rest → AreShownFrom (at d n false false) (beyond (w.Binary op) (written false (w.Binary op)) (calm s l g f)) rest
unfolding signed class_of
beyond_operator bin.Add g f d n s l rest h = h
beyond_operator bin.Sub g f d n s l rest h = h
beyond_operator bin.Mul g f d n s l rest h = h
beyond_operator bin.Div g f d n s l rest h = h
beyond_operator bin.Pow g f d n s l rest h = h
beyond_operator bin.DotMul g f d n s l rest h = h
beyond_operator bin.DotDiv g f d n s l rest h = h
beyond_operator bin.DotPow g f d n s l rest h = h
beyond_operator bin.Lt g f d n s l rest h = h
beyond_operator bin.Le g f d n s l rest h = h
beyond_operator bin.Gt g f d n s l rest h = h
beyond_operator bin.Ge g f d n s l rest h = h
beyond_operator bin.Eq g f d n s l rest h = h
beyond_operator bin.Ne g f d n s l rest h = h
beyond_operator bin.And g f d n s l rest h = h
beyond_operator bin.Or g f d n s l rest h = h
beyond_operator bin.AndAlso g f d n s l rest h = h
beyond_operator bin.OrElse g f d n s l rest h = h

pub behind_binary : (op : Bin) (o : Bool) (d n : ℕ) (s : Brackets) (rest : List Terminal) → OperatorStays op (text_from (at d n false false) rest) → Fits d n false false s other rest → Behind o d n s (apart (w.Binary op) ∷ rest)
unfolding class_of
behind_binary op o d n s rest k h = record { shown = λ t l a. (tt, tt, tt, k, beyond_operator op true false d n s l rest h); parts = λ t. refl; equal = λ t. refl; digits = λ t. refl; whole = λ t. refl; quote = refl }

pub behind_equal : (o : Bool) (d n : ℕ) (s : Brackets) (rest : List Terminal) → begins 61 (text_from (at d n false false) rest) ≡ false → Fits d n false false s other rest → Behind o d n s (apart w.Equal ∷ rest)
unfolding signed class_of
behind_equal o d n s rest k h = record { shown = λ t l a. (tt, tt, tt, k, h); parts = λ t. refl; equal = λ t. refl; digits = λ t. refl; whole = λ t. refl; quote = refl }

-- what may stand behind any element of a list may stand behind an operand
pub behind_operand : (d n : ℕ) (s : Brackets) (rest : List Terminal) → Behind false d n s rest → Behind true d n s rest
behind_operand d n s rest b = record { shown = λ t l a. b.shown t l refl; parts = b.parts; equal = b.equal; digits = b.digits; whole = b.whole; quote = b.quote }
