-- The answers for single numbers.
use Rattle.std.proofs.Common.{◌≡◌, ℕ, ◌+◌, ◌*◌, ◌==◌, ℤ, pos, Bool, true, false, cond, List, [], ◌∷◌, length, get_or, Some, None, arith, refl, ap, ap₂, ◌∙◌}
use Rattle.std.proofs.Math.Bool.{or-false}
use Rattle.std.proofs.lemmas.Bool.{eqb-true}
use Rattle.pl_base.specs.declared.mode.Mode.{Mode}
use Rattle.pl_array.specs.declared.ops.Op1.{Op1}
use Rattle.pl_array.specs.declared.ops.Op2.{Op2}
use Rattle.pl_array.specs.Arrays.{Array, IsValid, single_of}
use Rattle.pl_array.specs.Cellwise.{single_by, map2_of, number1, class_by1, mapped1}
use Rattle.pl_array.proofs.Layouts.{one_extent}

-- an array is this one number
record IsSingle (a : Array) (x : ℤ) : Type 0 where
  row : a.rows ≡ 1
  col : a.cols ≡ 1
  cell : get_or a.cells 0 (pos 0) ≡ x

chosen : (b : Bool) (v x : ℤ) → cond b (Some v) None ≡ Some x → (b ≡ true) × (v ≡ x)
chosen true v x e = (refl, cc)
chosen false v x e = absurd (cc)

is_single : (a : Array) (x : ℤ) → single_of a ≡ Some x → IsSingle a x
is_single a x e =
    let both = chosen (a.rows * a.cols == 1) (get_or a.cells (0 * a.rows + 0) (pos 0)) x e in
    let one : a.rows * a.cols ≡ 1 = eqb-true (a.rows * a.cols) 1 both.0 in
    let first : 0 ≡ 0 * a.rows + 0 = omega arith in
    record {
      row = one_extent a.rows a.cols one;
      col = one_extent a.cols a.rows (omega arith);
      cell = ap (λ (i : ℕ). get_or a.cells i (pos 0)) first ∙ both.1;
    }

pub single_answer : (mode : Mode) (op : Op2) (a b : Array) (x y : ℤ) → single_of a ≡ Some x → single_of b ≡ Some y → single_by mode op x y ≡ map2_of mode op a b
single_answer mode op a b x y ea eb =
    let sa = is_single a x ea in
    let sb = is_single b y eb in
    let ar : a.rows ≡ 1 = sa.row in
    let ac : a.cols ≡ 1 = sa.col in
    let br : b.rows ≡ 1 = sb.row in
    let bc : b.cols ≡ 1 = sb.col in
    let xa : get_or a.cells 0 (pos 0) ≡ x = sa.cell in
    let yb : get_or b.cells 0 (pos 0) ≡ y = sb.cell in
    rw (ar, ac, br, bc, xa, yb) (simp or-false refl)

first_cell : (xs : List ℤ) (x : ℤ) → length xs ≡ 1 → get_or xs 0 (pos 0) ≡ x → xs ≡ x ∷ []
first_cell [] x one e = absurd (omega arith)
first_cell (y ∷ []) x one e = ap (λ (z : ℤ). z ∷ []) e
first_cell (y ∷ z ∷ zs) x one e = absurd (omega arith)

pub single_mapped : (op : Op1) (a : Array) (x : ℤ) → IsValid a → single_of a ≡ Some x → ◌≡◌ {A = Array} (record { class = class_by1 op; rows = 1; cols = 1; cells = number1 op x ∷ [] }) (mapped1 op a)
single_mapped op a x valid e =
    let s = is_single a x e in
    let row : a.rows ≡ 1 = s.row in
    let col : a.cols ≡ 1 = s.col in
    let one : length a.cells ≡ 1 = valid.count ∙ ap₂ (λ (m n : ℕ). m * n) row col in
    let cells : a.cells ≡ x ∷ [] = first_cell a.cells x one s.cell in
    rw (row, col, cells) refl
