-- Cells that are converted, read elsewhere or joined are of the class that they get.
use Rattle.std.proofs.Common.{Ok, ◌≡◌, ℕ, ◌+◌, ◌*◌, ◌/◌, ◌%◌, ◌<◌, ◌≤◌, ℤ, pos, negsuc, int_lt, Bool, true, false, ◌||◌, List, [], ◌∷◌, map, length, get_or, arith, refl, ap, subst, sym}
use Rattle.std.specs.List.{All, list_any}
use Rattle.std.proofs.lemmas.Bool.{ltb-false}
use Rattle.std.proofs.lemmas.Int.{ints}
use Rattle.std.proofs.lemmas.Nat.{mul-add-lt, div_below, mod_below}
use Rattle.std.proofs.lemmas.List.FromFn.{length-map-range_with_len, get_or-map-range_with_len}
use Rattle.std.proofs.lemmas.List.Elements.{All-map, All-nil, All-cons, All-from_get_or}
use Rattle.pl_array.specs.declared.class.Class.{Class}
use Rattle.pl_array.specs.declared.class.Shape.{Shape}
use Rattle.pl_array.specs.declared.class.Class.TheVariants.{Logical, Int, Char}
use Rattle.pl_array.specs.Arrays.{Array, IsCell, IsValid, class_number, cell_at}
use Rattle.pl_array.specs.Cellwise.{shape_of, truth, is_true}
use Rattle.pl_array.specs.Joining.{by_places, is_no_char, converted, convert_of, transposed}
use Rattle.pl_array.proofs.Combined.{none}
use Rattle.pl_array.proofs.Layouts.{some_rows}

pub no_other_class : (class : Class) (xs : List ℤ) → (class ≡ Char → ⊥) → false ≡ list_any (is_no_char class) xs
no_other_class Char xs h = absurd (h refl)
no_other_class class xs h = none xs

same_list : (xs : List ℤ) → xs ≡ map (λ z. z) xs
same_list [] = refl
same_list (x ∷ xs) = ap (λ (ys : List ℤ). x ∷ ys) (same_list xs)

pub kept_numbers : (class : Class) (xs : List ℤ) → (class ≡ Logical → ⊥) → xs ≡ map (converted class) xs
kept_numbers Logical xs h = absurd (h refl)
kept_numbers class xs h = same_list xs

or_parts : (a b : Bool) → (a || b) ≡ false → (a ≡ false) × (b ≡ false)
or_parts true b e = absurd (cc)
or_parts false b e = (refl, e)

pub none_holds : {X : Type 0} (p : X → Bool) (xs : List X) → list_any p xs ≡ false → All (λ x. p x ≡ false) xs
none_holds p [] e = All-nil (λ x. p x ≡ false)
none_holds p (x ∷ xs) e =
    let both = or_parts (p x) (list_any p xs) e in
    All-cons (λ y. p y ≡ false) x xs both.0 (none_holds p xs both.1)

char_cell : (z : ℤ) → is_no_char Char z ≡ false → IsCell Char z
char_cell (pos n) e =
    let small : n ≤ 255 = ltb-false 255 n (or_parts (int_lt (pos n) (pos 0)) (int_lt (pos 255) (pos n)) e).1 in
    (omega (arith, ints), omega (arith, ints))
char_cell (negsuc n) e = absurd (cc)

truth_bit : (b : Bool) → IsCell Logical (truth b)
truth_bit true = (omega (arith, ints), omega (arith, ints))
truth_bit false = (omega (arith, ints), omega (arith, ints))

converted_cell : (class : Class) (z : ℤ) → is_no_char class z ≡ false → IsCell class (converted class z)
converted_cell Logical z e = truth_bit (is_true z)
converted_cell Int z e = tt
converted_cell Char z e = char_cell z e

pub converted_cells : (class : Class) (ys xs : List ℤ) → xs ≡ map (converted class) ys → false ≡ list_any (is_no_char class) ys → All (IsCell class) xs
converted_cells class ys xs e h =
    rw e (All-map (IsCell class) (converted class) ys (λ k d l. converted_cell class (get_or ys k d) (none_holds (is_no_char class) ys (sym h) k d l)))

-- a cell of a lesser class is one of this class, if it is a char where that is asked
pub lifted : (k class : Class) (z : ℤ) → class_number class ≤ class_number k → is_no_char k z ≡ false → IsCell class z → IsCell k z
lifted Logical Logical z le e h = h
lifted Logical Int z le e h = absurd (omega arith)
lifted Logical Char z le e h = absurd (omega arith)
lifted Int class z le e h = tt
lifted Char class z le e h = char_cell z e

pub length-by_places : (n : ℕ) (cell : ℕ → ℤ) → length (by_places n cell) ≡ n
length-by_places n cell = length-map-range_with_len cell 0 n

pub by_places_all : (P : ℤ → Type 0) (n : ℕ) (cell : ℕ → ℤ) → ((k : ℕ) → k < n → P (cell k)) → All P (by_places n cell)
by_places_all P n cell h =
    All-from_get_or P (by_places n cell) (pos 0) (λ k l.
    let within : k < n = omega (arith, length-by_places n cell) in
    subst P (sym (get_or-map-range_with_len cell 0 n k k (pos 0) within (omega arith))) (h k within))

pub cell_within : (a : Array) (r c : ℕ) → IsValid a → r < a.rows → c < a.cols → IsCell a.class (cell_at a r c)
cell_within a r c valid row col =
    valid.of_class (c * a.rows + r) (pos 0) (omega (arith, valid.count, mul-add-lt c a.rows r a.cols col row))

pub turned_cells : (a : Array) (xs : List ℤ) → xs ≡ (transposed a).cells → IsValid a → All (IsCell a.class) xs
turned_cells a xs e valid =
    rw e (by_places_all (IsCell a.class) (a.cols * a.rows) (λ k. cell_at a (k / a.cols) (k % a.cols)) (λ k h.
    let some : 0 < a.cols = some_rows a.cols a.rows k h in
    cell_within a (k / a.cols) (k % a.cols) valid (div_below k a.cols a.rows some (omega arith)) (mod_below k a.cols some)))

-- the array in a class that keeps its numbers
pub kept_array : (a : Array) (class : Class) → (class ≡ Logical → ⊥) → false ≡ list_any (is_no_char class) a.cells → convert_of a class ≡ Ok (record { class = class; rows = a.rows; cols = a.cols; cells = a.cells })
kept_array a class h e = rw (← e, ← kept_numbers class a.cells h) refl

-- the array of truth values
pub truths_array : (a : Array) (s : Shape) (ys xs : List ℤ) → s ≡ shape_of a → ys ≡ a.cells → xs ≡ map (λ z. truth (is_true z)) ys → convert_of a Logical ≡ Ok (record { class = Logical; rows = s.rows; cols = s.cols; cells = xs })
truths_array a s ys xs es ey ex = rw (es, ex, ey, ← none a.cells) refl
