-- Cells that are picked are of the array's class, and as many as the places.
use Rattle.std.proofs.Common.{◌≡◌, ℕ, ◌+◌, ◌*◌, ◌/◌, ◌%◌, inl, inr, ℤ, pos, ltb, Bool, true, false, cond, ◌&&◌, List, length, get_or, arith, sym, subst}
use Rattle.std.specs.List.{All}
use Rattle.std.proofs.lemmas.List.FromFn.{length-map-range_with_len}
use Rattle.std.proofs.lemmas.List.Elements.{All-map}
use Rattle.pl_array.specs.declared.class.Class.{Class}
use Rattle.pl_array.specs.declared.class.Class.TheVariants.{Logical, Int, Char}
use Rattle.pl_array.specs.Arrays.{Array, IsCell, IsValid, cell_at}
use Rattle.pl_index.specs.Writing.{old_at, regrown, Grows}
use Rattle.pl_array.specs.declared.class.Shape.{Shape}
use Rattle.pl_index.specs.Places.{crossing, picked}
use Rattle.pl_index.proofs.Crossing.{by_length, past_end_of, from_range_all}

pub zero_is_cell : (class : Class) → IsCell class (pos 0)
zero_is_cell Logical = (omega arith, omega arith)
zero_is_cell Int = tt
zero_is_cell Char = (omega arith, omega arith)

cell_or_zero : (class : Class) (cells : List ℤ) (i : ℕ) → All (IsCell class) cells → IsCell class (get_or cells i (pos 0))
cell_or_zero class cells i all = elim (by_length (length cells) i) [
  | inl h ↦ all i (pos 0) h
  | inr h ↦ subst (IsCell class) (sym (past_end_of cells (pos 0) i h)) (zero_is_cell class)
]

pub picked_class : (class : Class) (cells : List ℤ) (places : List ℕ) → All (IsCell class) cells → All (IsCell class) (picked cells places)
picked_class class cells places all = All-map (IsCell class) (λ k. get_or cells k (pos 0)) places (λ i d h. cell_or_zero class cells (get_or places i d) all)

pub length-crossing : (height : ℕ) (rows cols : List ℕ) → length (crossing height rows cols) ≡ length rows * length cols
length-crossing height rows cols = length-map-range_with_len (λ k. get_or cols (k / length rows) 0 * height + get_or rows (k % length rows) 0) 0 (length rows * length cols)

old_class : (class : Class) (t : Bool) (z : ℤ) → IsCell class z → IsCell class (cond t z (pos 0))
old_class class true z h = h
old_class class false z h = zero_is_cell class

pub regrown_class : (a : Array) (s : Shape) → All (IsCell a.class) a.cells → All (IsCell a.class) (regrown a s).cells
regrown_class a s all =
    from_range_all (IsCell a.class) (s.rows * s.cols) (old_at a s.rows) (pos 0) (λ k h.
    old_class a.class (ltb (k % s.rows) a.rows && ltb (k / s.rows) a.cols) (cell_at a (k % s.rows) (k / s.rows)) (cell_or_zero a.class a.cells (k / s.rows * a.rows + k % s.rows) all))

pub length-regrown : (a : Array) (s : Shape) → length (regrown a s).cells ≡ s.rows * s.cols
length-regrown a s = length-map-range_with_len (old_at a s.rows) 0 (s.rows * s.cols)

pub regrown_valid : (a : Array) (s : Shape) → IsValid a → Grows a s → IsValid (regrown a s)
regrown_valid a s valid g =
    record {
      count = length-regrown a s;
      limit = g.limit;
      row_limit = g.row_limit;
      col_limit = g.col_limit;
      of_class = regrown_class a s valid.of_class;
    }
