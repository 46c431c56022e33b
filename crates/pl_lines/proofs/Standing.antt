-- The cells of a column, and of the only row, stand one behind another.
use Rattle.std.proofs.Common.{◌≡◌, ℕ, ◌+◌, ◌*◌, ◌<◌, ◌≤◌, ℤ, pos, List, length, get_or, take, drop, arith, ap, ◌∙◌, length-drop}
use Rattle.std.proofs.lemmas.List.{length-take-le, get_or-take, get_or-drop}
use Rattle.std.proofs.lemmas.List.FromFn.{fill_by_all}
use Rattle.std.proofs.lemmas.Nat.{mul-le}
use Rattle.pl_array.specs.Arrays.{Array, IsValid}
use Rattle.pl_lines.specs.Lines.{cell_along, line}
use Rattle.pl_lines.specs.declared.dim.Dim.TheVariants.{Down, Across}

pub column_fits : (a : Array) (i : ℕ) → IsValid a → i < a.cols → i * a.rows + a.rows ≤ length a.cells
column_fits a i valid h = omega (arith, valid.count, mul-le (i + 1) a.rows a.cols a.rows (omega arith) (omega arith))

pub column_is : (a : Array) (i n m : ℕ) (cells : List ℤ) → IsValid a → i < a.cols → cells ≡ a.cells → n ≡ a.rows → m ≡ i * a.rows → take n (drop m cells) ≡ line Down a i
column_is a i n m cells valid h e en em =
    let fits = column_fits a i valid h in
    let from = i * a.rows in
    let len : length (take a.rows (drop from a.cells)) ≡ a.rows = length-take-le a.rows (drop from a.cells) (omega (arith, length-drop from a.cells)) in
    rw (e, en, em) (fill_by_all (cell_along Down a i) (take a.rows (drop from a.cells)) a.rows (pos 0) len (λ k l.
    get_or-take a.rows (drop from a.cells) k (pos 0) l ∙ get_or-drop from a.cells k (pos 0)))

pub row_is : (a : Array) (i : ℕ) → IsValid a → a.rows ≡ 1 → i < 1 → a.cells ≡ line Across a i
row_is a i valid one h =
    let first : i ≡ 0 = omega arith in
    let len : length a.cells ≡ a.cols = valid.count ∙ ap (λ (n : ℕ). n * a.cols) one ∙ omega arith in
    fill_by_all (cell_along Across a i) a.cells a.cols (pos 0) len (λ k l.
    let place : k ≡ k * a.rows + i = rw (one, first) (omega arith) in
    ap (λ (n : ℕ). get_or a.cells n (pos 0)) place)
