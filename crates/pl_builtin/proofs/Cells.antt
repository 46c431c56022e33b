-- The cells of an answer: their count and their class.
use Rattle.std.proofs.Common.{◌≡◌, ℕ, ◌*◌, ◌<◌, ℤ, pos, Bool, false, ◌&&◌, map, get_or, arith, List, [], ◌∷◌, length, refl, ap, ◌∙◌}
use Rattle.std.specs.List.{All, list_any, list_all, zip}
use Rattle.std.proofs.lemmas.List.FromFn.{length-map-range_with_len}
use Rattle.std.specs.Ordering.{int_eq}
use Rattle.std.specs.Cmp.Lexicographic.{pointwise}
use Rattle.std.proofs.lemmas.Int.{ints}
use Rattle.std.proofs.lemmas.List.{get_or_default}
use Rattle.std.proofs.lemmas.List.Elements.{All-map}
use Rattle.pl_array.specs.declared.class.Class.TheVariants.{Int, Char}
use Rattle.pl_array.specs.declared.class.Shape.{Shape}
use Rattle.pl_array.specs.Arrays.{Array, IsCell}
use Rattle.pl_array.specs.Cellwise.{operand, each_cell}

pub none : {X : Type 0} (xs : List X) → false ≡ list_any (λ x. false) xs
none [] = refl
none (x ∷ xs) = none xs

pub cells_count : (f : ℤ → ℤ → ℤ) (a b : Array) (s : Shape) (xs : List ℤ) → xs ≡ each_cell f a b s → length xs ≡ s.rows * s.cols
cells_count f a b s xs e = ap length e ∙ length-map-range_with_len (λ k. f (operand a s.rows k) (operand b s.rows k)) 0 (s.rows * s.cols)

-- every number is a cell of class int64
pub all_numbers : (xs : List ℤ) → All (IsCell Int) xs
all_numbers xs k d h = tt

byte_is_char : (b : ℕ) → b < 256 → IsCell Char (pos b)
byte_is_char b small = (omega (arith, ints), omega (arith, ints))

-- bytes are cells of class char
pub all_chars : (bs : List ℕ) → ((k : ℕ) → get_or bs k 0 < 256) → All (IsCell Char) (map (λ b. pos b) bs)
all_chars bs bytes = All-map (IsCell Char) (λ b. pos b) bs (λ k d within. byte_is_char (get_or bs k d) (let same : get_or bs k d ≡ get_or bs k 0 = get_or_default bs k d 0 within in omega (arith, bytes k)))

-- two lists of one length agree at each place where they are equal
pub bytes_are : (bs : List ℕ) (xs : List ℤ) → length xs ≡ length bs → list_all (λ p. int_eq (pos p.0) p.1) (zip bs xs) ≡ pointwise int_eq (map (λ b. pos b) bs) xs
bytes_are [] [] e = refl
bytes_are [] (x ∷ xs) e = absurd (omega arith)
bytes_are (b ∷ bs) [] e = absurd (omega arith)
bytes_are (b ∷ bs) (x ∷ xs) e = ap (λ (t : Bool). int_eq (pos b) x && t) (bytes_are bs xs (omega arith))
