-- How far an assignment by one subscript makes a shape grow, and that growth in two steps is growth in one.
use Rattle.std.specs.Prelude.{if◌then◌else◌, nat_le, nat_lt, ◌||◌, ◌&&◌}
use Rattle.std.proofs.Common.{◌≡◌, ◌∙◌, ℕ, ◌*◌, ◌<◌, ◌≤◌, ◌==◌, max, ◌⊎◌, inl, inr, Bool, true, false, Result, Ok, Err, arith, refl, sym, ap, subst}
use Rattle.std.proofs.lemmas.Bool.{leb-true, leb-false, ltb-true, ltb-false, eqb-true, le-leb, lt-ltb, le-ltb, eq-eqb, ne_eqb}
use Rattle.std.proofs.lemmas.Bool.Decides.{leb_tells}
use Rattle.pl_base.specs.declared.errors.ErrKind.{ErrKind}
use Rattle.pl_base.specs.declared.errors.ErrKind.TheVariants.{SizeLimit, GrowAmbiguous}
use Rattle.pl_array.specs.declared.class.Shape.{Shape}
use Rattle.pl_array.specs.Arrays.{most}
use Rattle.pl_array.specs.Joining.{is_nil}
use Rattle.pl_index.specs.Choosing.{row_of, column_of}
use Rattle.pl_index.specs.Writing.{line_grown}

abbrev pub size : Shape → ℕ
size s = s.rows * s.cols

-- one row, or nothing at all
abbrev pub Lies : Shape → Type 0
Lies s = (s.rows ≡ 1) ⊎ ((s.rows ≡ 0) × (s.cols ≡ 0))

-- the shape that reaches a subscript, case by case
pub data Grown (s : Shape) (t : ℕ) (r : Shape) : Type 0 where
  stays : t ≤ size s → r ≡ s → Grown s t r
  row : size s < t → t ≤ most → Lies s → r ≡ row_of t → Grown s t r
  column : size s < t → t ≤ most → s.cols ≡ 1 → 1 < s.rows → r ≡ column_of t → Grown s t r

abbrev pick : Shape → ℕ → Bool → Bool → Bool → Bool → Result Shape ErrKind
pick s t a b c d = if a then Ok s else (if b then Err SizeLimit else (if c then Ok (row_of t) else (if d then Ok (column_of t) else Err GrowAmbiguous)))

same_ok : {A : Type 0} (a b : A) → ◌≡◌ {A = Result A ErrKind} (Ok a) (Ok b) → b ≡ a
same_ok a b e = cc

lies : (s : Shape) → (s.rows == 1 || is_nil s) ≡ true → Lies s
lies s e = by_first (s.rows == 1) refl e
  where
    by_first : (b : Bool) → (s.rows == 1) ≡ b → (b || is_nil s) ≡ true → Lies s
    by_first true e h = inl (eqb-true s.rows 1 e)
    by_first false e h = inr (both (s.rows == 0) refl h)
      where
        both : (b : Bool) → (s.rows == 0) ≡ b → (b && s.cols == 0) ≡ true → (s.rows ≡ 0) × (s.cols ≡ 0)
        both true e h = (eqb-true s.rows 0 e, eqb-true s.cols 0 h)
        both false e h = absurd (cc)

stands_up : (s : Shape) → (s.cols == 1 && nat_lt 1 s.rows) ≡ true → (s.cols ≡ 1) × (1 < s.rows)
stands_up s e = by_first (s.cols == 1) refl e
  where
    by_first : (b : Bool) → (s.cols == 1) ≡ b → (b && nat_lt 1 s.rows) ≡ true → (s.cols ≡ 1) × (1 < s.rows)
    by_first true e h = (eqb-true s.cols 1 e, ltb-true 1 s.rows h)
    by_first false e h = absurd (cc)

picked_grown : (s : Shape) (t : ℕ) (r : Shape) (a b c d : Bool) → nat_le t (size s) ≡ a → nat_lt most t ≡ b → (s.rows == 1 || is_nil s) ≡ c → (s.cols == 1 && nat_lt 1 s.rows) ≡ d → pick s t a b c d ≡ Ok r → Grown s t r
picked_grown s t r true b c d ea eb ec ed h = stays (leb-true t (size s) ea) (same_ok s r h)
picked_grown s t r false true c d ea eb ec ed h = absurd (cc)
picked_grown s t r false false true d ea eb ec ed h = row (leb-false t (size s) ea) (ltb-false most t eb) (lies s ec) (same_ok (row_of t) r h)
picked_grown s t r false false false true ea eb ec ed h = let up = stands_up s ed in column (leb-false t (size s) ea) (ltb-false most t eb) up.0 up.1 (same_ok (column_of t) r h)
picked_grown s t r false false false false ea eb ec ed h = absurd (cc)

pub from_line : (s : Shape) (t : ℕ) (r : Shape) → line_grown s t ≡ Ok r → Grown s t r
from_line s t r h = picked_grown s t r (nat_le t (size s)) (nat_lt most t) (s.rows == 1 || is_nil s) (s.cols == 1 && nat_lt 1 s.rows) refl refl refl refl h

lying_true : (s : Shape) → Lies s → (s.rows == 1 || is_nil s) ≡ true
lying_true s (inl one) = ap (λ b. b || is_nil s) (eq-eqb s.rows 1 one)
lying_true s (inr none) = nothing (s.rows == 1)
  where
    nil : is_nil s ≡ true
    nil = ap (λ b. b && s.cols == 0) (eq-eqb s.rows 0 none.0) ∙ eq-eqb s.cols 0 none.1

    nothing : (b : Bool) → (b || is_nil s) ≡ true
    nothing true = refl
    nothing false = nil

not_le : (a b : ℕ) → b < a → nat_le a b ≡ false
not_le a b l = elim (leb_tells a b) [ inl h ↦ absurd (omega (arith, h.1)) | inr h ↦ h.0 ]

not_lying : (s : Shape) → s.cols ≡ 1 → 1 < s.rows → (s.rows == 1 || is_nil s) ≡ false
not_lying s one up = ap (λ b. b || is_nil s) (ne_eqb s.rows 1 (λ e. omega arith)) ∙ ap (λ b. b && s.cols == 0) (ne_eqb s.rows 0 (λ e. omega arith))

pub to_line : (s : Shape) (t : ℕ) (r : Shape) → Grown s t r → line_grown s t ≡ Ok r
to_line s t r (stays h e) =
    ap (λ b. pick s t b (nat_lt most t) (s.rows == 1 || is_nil s) (s.cols == 1 && nat_lt 1 s.rows)) (le-leb t (size s) h) ∙ ap Ok (sym e)
to_line s t r (row h m lie e) =
    ap (λ b. pick s t b (nat_lt most t) (s.rows == 1 || is_nil s) (s.cols == 1 && nat_lt 1 s.rows)) (not_le t (size s) h)
    ∙ ap (λ b. pick s t false b (s.rows == 1 || is_nil s) (s.cols == 1 && nat_lt 1 s.rows)) (le-ltb most t m)
    ∙ ap (λ b. pick s t false false b (s.cols == 1 && nat_lt 1 s.rows)) (lying_true s lie)
    ∙ ap Ok (sym e)
to_line s t r (column h m one up e) =
    ap (λ b. pick s t b (nat_lt most t) (s.rows == 1 || is_nil s) (s.cols == 1 && nat_lt 1 s.rows)) (not_le t (size s) h)
    ∙ ap (λ b. pick s t false b (s.rows == 1 || is_nil s) (s.cols == 1 && nat_lt 1 s.rows)) (le-ltb most t m)
    ∙ ap (λ b. pick s t false false b (s.cols == 1 && nat_lt 1 s.rows)) (not_lying s one up)
    ∙ ap (λ b. pick s t false false false b) (ap (λ b. b && nat_lt 1 s.rows) (eq-eqb s.cols 1 one) ∙ lt-ltb 1 s.rows up)
    ∙ ap Ok (sym e)

-- what a grown shape is at least
pub reaches : (s : Shape) (t : ℕ) (r : Shape) → Grown s t r → (t ≤ size r) × (size s ≤ size r) × (s.rows ≤ r.rows)
reaches s t r (stays h e) = subst (λ (q : Shape). (t ≤ size q) × (size s ≤ size q) × (s.rows ≤ q.rows)) (sym e) (h, omega arith, omega arith)
reaches s t r (row h m (inl one) e) = subst (λ (q : Shape). (t ≤ size q) × (size s ≤ size q) × (s.rows ≤ q.rows)) (sym e) (omega arith, omega arith, omega arith)
reaches s t r (row h m (inr none) e) = subst (λ (q : Shape). (t ≤ size q) × (size s ≤ size q) × (s.rows ≤ q.rows)) (sym e) (omega arith, omega arith, omega (arith, none.0))
reaches s t r (column h m one up e) =
    let below : s.rows * 1 < t = subst (λ (c : ℕ). s.rows * c < t) one h in
    subst (λ (q : Shape). (t ≤ size q) × (size s ≤ size q) × (s.rows ≤ q.rows)) (sym e) (omega arith, omega arith, omega arith)

-- how the cells of a shape that grows keep their order
pub keeps_order : (s : Shape) (t : ℕ) (r : Shape) → Grown s t r → (s.rows ≡ r.rows) ⊎ ((s.rows ≡ 0) ⊎ (s.cols ≤ 1))
keeps_order s t r (stays h e) = inl (ap (λ (q : Shape). q.rows) (sym e))
keeps_order s t r (row h m (inl one) e) = inl (one ∙ ap (λ (q : Shape). q.rows) (sym e))
keeps_order s t r (row h m (inr none) e) = inr (inl none.0)
keeps_order s t r (column h m one up e) = inr (inr (omega (arith, one)))

pub within_most : (s : Shape) (t : ℕ) (r : Shape) → size s ≤ most → Grown s t r → t ≤ most
within_most s t r limit (stays h e) = omega arith
within_most s t r limit (row h m lie e) = m
within_most s t r limit (column h m one up e) = m

-- the greater of two
greater_of : (t u : ℕ) → ((t ≤ u) × (max t u ≡ u)) ⊎ ((u ≤ t) × (max t u ≡ t))
greater_of t u = grind arith

pub either_grown : (s : Shape) (t u : ℕ) (p q : Shape) → Grown s t p → Grown s u q → (r : Shape) × Grown s (max t u) r
either_grown s t u p q G H = elim (greater_of t u) [
  | inl g ↦ (q, subst (λ (m : ℕ). Grown s m q) (sym g.1) H)
  | inr g ↦ (p, subst (λ (m : ℕ). Grown s m p) (sym g.1) G)
]

-- a further step from a row, and from a column
from_row : (s : Shape) (t u : ℕ) (r : Shape) → size s < t → t ≤ most → Lies s → Grown (row_of t) u r → Grown s (max t u) r
from_row s t u r h m lie (stays k e) = row (omega arith) (omega arith) lie (e ∙ ap row_of (omega arith))
from_row s t u r h m lie (row k n l e) = row (omega arith) (omega arith) lie (e ∙ ap row_of (omega arith))
from_row s t u r h m lie (column k n one up e) = absurd (omega arith)

from_column : (s : Shape) (t u : ℕ) (r : Shape) → size s < t → t ≤ most → s.cols ≡ 1 → 1 < s.rows → Grown (column_of t) u r → Grown s (max t u) r
from_column s t u r h m one up (stays k e) = column (omega arith) (omega arith) one up (e ∙ ap column_of (omega arith))
from_column s t u r h m one up (column k n o l e) = column (omega arith) (omega arith) one up (e ∙ ap column_of (omega arith))
from_column s t u r h m one up (row k n (inl o) e) = let below : s.rows * 1 < t = subst (λ (c : ℕ). s.rows * c < t) one h in absurd (omega (arith, o))
from_column s t u r h m one up (row k n (inr o) e) = absurd (omega (arith, o.0))

from_same : (s : Shape) (t u : ℕ) (r : Shape) → t ≤ size s → Grown s u r → Grown s (max t u) r
from_same s t u r h (stays k e) = stays (omega arith) e
from_same s t u r h (row k n l e) = row (omega arith) (omega arith) l (e ∙ ap row_of (omega arith))
from_same s t u r h (column k n one up e) = column (omega arith) (omega arith) one up (e ∙ ap column_of (omega arith))

pub in_one : (s : Shape) (t u : ℕ) (p r : Shape) → Grown s t p → Grown p u r → Grown s (max t u) r
in_one s t u p r (stays h e) G = from_same s t u r h (subst (λ (q : Shape). Grown q u r) e G)
in_one s t u p r (row h m lie e) G = from_row s t u r h m lie (subst (λ (q : Shape). Grown q u r) e G)
in_one s t u p r (column h m one up e) G = from_column s t u r h m one up (subst (λ (q : Shape). Grown q u r) e G)

-- the second of two steps
then_same : (s : Shape) (t u : ℕ) (r : Shape) → t ≤ size s → Grown s (max t u) r → Grown s u r
then_same s t u r h (stays k e) = stays (omega arith) e
then_same s t u r h (row k n l e) = row (omega arith) (omega arith) l (e ∙ ap row_of (omega arith))
then_same s t u r h (column k n one up e) = column (omega arith) (omega arith) one up (e ∙ ap column_of (omega arith))

then_row : (s : Shape) (t u : ℕ) (r : Shape) → size s < t → t ≤ most → Lies s → Grown s (max t u) r → Grown (row_of t) u r
then_row s t u r h m lie (stays k e) = absurd (omega arith)
then_row s t u r h m lie (row k n l e) = elim (greater_of t u) [
  | inl g ↦ at_most (e ∙ ap row_of g.1) g.0
  | inr g ↦ stays (omega arith) (e ∙ ap row_of g.1)
]
  where
    split : t ≤ u → (t ≡ u) ⊎ (t < u)
    split g = grind arith

    at_most : r ≡ row_of u → t ≤ u → Grown (row_of t) u r
    at_most is g = elim (split g) [
      | inl same ↦ stays (omega arith) (is ∙ ap row_of (sym same))
      | inr more ↦ row (omega arith) (omega arith) (inl refl) is
    ]
then_row s t u r h m (inl one) (column k n o up e) = absurd (omega arith)
then_row s t u r h m (inr none) (column k n o up e) = absurd (omega (arith, none.0))

then_column : (s : Shape) (t u : ℕ) (r : Shape) → size s < t → t ≤ most → s.cols ≡ 1 → 1 < s.rows → Grown s (max t u) r → Grown (column_of t) u r
then_column s t u r h m one up (stays k e) = absurd (omega arith)
then_column s t u r h m one up (row k n (inl o) e) = absurd (omega arith)
then_column s t u r h m one up (row k n (inr o) e) = absurd (omega (arith, o.0))
then_column s t u r h m one up (column k n o l e) = elim (greater_of t u) [
  | inl g ↦ at_most (e ∙ ap column_of g.1) g.0
  | inr g ↦ stays (omega arith) (e ∙ ap column_of g.1)
]
  where
    below : s.rows * 1 < t
    below = subst (λ (c : ℕ). s.rows * c < t) one h

    split : t ≤ u → (t ≡ u) ⊎ (t < u)
    split g = grind arith

    at_most : r ≡ column_of u → t ≤ u → Grown (column_of t) u r
    at_most is g = elim (split g) [
      | inl same ↦ stays (omega arith) (is ∙ ap column_of (sym same))
      | inr more ↦ column (omega arith) (omega arith) refl (omega (arith, below)) is
    ]

pub second_step : (s : Shape) (t u : ℕ) (p r : Shape) → Grown s t p → Grown s (max t u) r → Grown p u r
second_step s t u p r (stays h e) G = subst (λ (q : Shape). Grown q u r) (sym e) (then_same s t u r h G)
second_step s t u p r (row h m lie e) G = subst (λ (q : Shape). Grown q u r) (sym e) (then_row s t u r h m lie G)
second_step s t u p r (column h m one up e) G = subst (λ (q : Shape). Grown q u r) (sym e) (then_column s t u r h m one up G)
