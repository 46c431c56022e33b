-- A number in decimal is digits, and the lexer reads the number from them.
use Rattle.std.proofs.Common.{◌≡◌, ℕ, ◌+◌, ◌*◌, ◌-◌, ◌/◌, ◌%◌, ◌<◌, ◌≤◌, ◌^◌, true, List, [], ◌∷◌, ◌++◌, length, refl, ap, arith}
use Rattle.std.specs.Fmt.{decimal}
use Rattle.std.proofs.lemmas.Bool.{le-leb, lt-leb}
use Rattle.std.proofs.lemmas.Fmt.{decimal_by_steps}
use Rattle.pl_lex.specs.Bytes.{class_of, digit_class, is_digit, Each}
use Rattle.pl_lex.specs.Pieces.{number_from}

-- each is of the class of digits
abbrev pub AreDigits : List ℕ → Type 0
AreDigits [] = Unit {0}
AreDigits (c ∷ cs) = (class_of c ≡ class_of 48) × AreDigits cs

class_digit : (d : ℕ) → d < 10 → class_of (48 + d) ≡ class_of 48
unfolding class_of
class_digit d h =
    let e97 = lt-leb 97 (48 + d) (omega arith) in
    let e65 = lt-leb 65 (48 + d) (omega arith) in
    let e48 = le-leb 48 (48 + d) (omega arith) in
    let e57 = le-leb (48 + d) 57 (omega arith) in
    rw (e97, e65, e48, e57) refl

pub digit : (c : ℕ) → class_of c ≡ class_of 48 → is_digit c ≡ true
unfolding class_of
digit c e = ap digit_class e

pub digits : (cs : List ℕ) → AreDigits cs → Each is_digit cs
digits [] h = tt
digits (c ∷ cs) h = (digit c h.0, digits cs h.1)

digits-append : (xs ys : List ℕ) → AreDigits xs → AreDigits ys → AreDigits (xs ++ ys)
digits-append [] ys h k = k
digits-append (x ∷ xs) ys h k = (h.0, digits-append xs ys h.1 k)

number_from-append : (n : ℕ) (xs : List ℕ) (c : ℕ) → number_from n (xs ++ c ∷ []) ≡ number_from n xs * 10 + (c - 48)
number_from-append n [] c = refl
number_from-append n (x ∷ xs) c = number_from-append (n * 10 + (x - 48)) xs c

-- the digits of a number
abbrev pub Digits : ℕ → List ℕ → Type 0
Digits n ds = AreDigits ds × (number_from 0 ds ≡ n) × (0 < length ds)

one_digit : (n : ℕ) → n < 10 → Digits n ((48 + n) ∷ [])
one_digit n h = ((class_digit n h, tt), omega arith, omega arith)

more_digits : (n : ℕ) (ds : List ℕ) → 10 ≤ n → Digits (n / 10) ds → Digits n (ds ++ ((48 + n % 10) ∷ []))
more_digits n ds h d =
    let e = number_from-append 0 ds (48 + n % 10) in
    let small : n % 10 < 10 = omega arith in
    (digits-append ds ((48 + n % 10) ∷ []) d.0 (class_digit (n % 10) small, tt), omega (arith, e, d.1), long ds (48 + n % 10))
  where
    long : (xs : List ℕ) (c : ℕ) → 0 < length (xs ++ c ∷ [])
    long [] c = omega arith
    long (x ∷ xs) c = omega arith

pub decimals : (n : ℕ) → n < 2 ^ 64 → Digits n (decimal n)
decimals n h = decimal_by_steps Digits one_digit more_digits n h
