-- Cells that are filled up with zeros and written keep their number, and are of the class.
use Rattle.std.proofs.Common.{◌≡◌, ℕ, ◌-◌, ◌*◌, ◌≤◌, ℤ, pos, List, [], ◌∷◌, length, set, replicate, arith, refl, ap, sym, subst, ◌∙◌, length-append}
use Rattle.std.specs.List.{All}
use Rattle.std.proofs.lemmas.List.{length-set, length-replicate}
use Rattle.std.proofs.lemmas.List.Elements.{All-set, All-append, All-replicate, All-head, All-tail}
use Rattle.pl_array.specs.Arrays.{Array, IsCell, IsValid, most, filled, written}
use Rattle.pl_array.specs.declared.class.Class.{Class}
use Rattle.pl_array.specs.declared.class.Class.TheVariants.{Logical, Int, Char}

length-written : (cells : List ℤ) (places : List ℕ) (values : List ℤ) → length (written cells places values) ≡ length cells
length-written cells [] values = refl
length-written cells (place ∷ places) [] = refl
length-written cells (place ∷ places) (v ∷ values) = length-written (set cells place v) places values ∙ length-set cells place v

All-written : (P : ℤ → Type 0) (cells : List ℤ) (places : List ℕ) (values : List ℤ) → All P cells → All P values → All P (written cells places values)
All-written P cells [] values h k = h
All-written P cells (place ∷ places) [] h k = h
All-written P cells (place ∷ places) (v ∷ values) h k =
    All-written P (set cells place v) places values (All-set P cells place v (All-head P v values k) h) (All-tail P v values k)

zero_is_cell : (class : Class) → IsCell class (pos 0)
zero_is_cell Logical = (omega arith, omega arith)
zero_is_cell Int = tt
zero_is_cell Char = (omega arith, omega arith)

length-filled : (cells : List ℤ) (count : ℕ) → length cells ≤ count → length (filled cells count) ≡ count
length-filled cells count h = simp (length-append, length-replicate) (omega arith)

-- `b` is the array that the fields of `a` stand for
pub put_valid : (a b : Array) → a ≡ b → (rows cols : ℕ) (cells : List ℤ) (places : List ℕ) (values : List ℤ) → cells ≡ written (filled a.cells (rows * cols)) places values → IsValid a → length b.cells ≤ rows * cols → rows * cols ≤ most → rows ≤ most → cols ≤ most → All (IsCell b.class) values → IsValid (record { class = a.class; rows = rows; cols = cols; cells = cells })
put_valid a b is_b rows cols cells places values e valid grows_b limit rl cl fits_b =
    let grows = subst (λ (x : Array). length x.cells ≤ rows * cols) (sym is_b) grows_b in
    let fits = subst (λ (x : Array). All (IsCell x.class) values) (sym is_b) fits_b in
    let full = filled a.cells (rows * cols) in
    let zeros = rows * cols - length a.cells in
    record {
      count = ap length e ∙ length-written full places values ∙ length-filled a.cells (rows * cols) grows;
      limit = limit;
      row_limit = rl;
      col_limit = cl;
      of_class = rw e (All-written (IsCell a.class) full places values (All-append (IsCell a.class) a.cells (replicate zeros (pos 0)) valid.of_class (All-replicate (IsCell a.class) zeros (pos 0) (zero_is_cell a.class))) fits);
    }
