-- Functions of the lines along a dimension: whether some or each cell is true, and running sums.
use Rattle.std.specs.Prelude.{ℕ, ◌+◌, ◌*◌, ◌/◌, ◌%◌, ℤ, pos, ◌+ℤ◌, List, map, take, Option, Some, None, Result, Ok, if◌then◌else◌}
use Rattle.std.specs.List.{range_with_len, list_any, list_all}
use Rattle.std.specs.Ordering.{int_eq}
use Rattle.pl_base.specs.Numbers.{clamp}
use Rattle.pl_base.specs.declared.mode.Mode.{Mode}
use Rattle.pl_base.specs.declared.mode.Mode.TheVariants.{Saturate, Strict}
use Rattle.pl_base.specs.declared.errors.ErrKind.{ErrKind}
use Rattle.pl_array.specs.declared.class.Class.TheVariants.{Logical, Int}
use Rattle.pl_array.specs.declared.class.Shape.{Shape}
use Rattle.pl_array.specs.Arrays.{Array}
use Rattle.pl_array.specs.Cellwise.{shape_of, truth, is_true}
use Rattle.pl_lines.specs.declared.dim.Dim.{Dim}
use Rattle.pl_lines.specs.declared.dim.Dim.TheVariants.{Down, Across}
use Rattle.pl_lines.specs.Lines.{default_dim, line, lines, one_a_line}
use Rattle.pl_lines.specs.Folding.{folded, all_of, unless_refused}
use Rattle.pl_setfn.specs.Arguments.{with_one_or_two, dim_asked, unless_err}
use Rattle.pl_setfn.specs.declared.along.LineFn.{LineFn}
use Rattle.pl_setfn.specs.declared.along.LineFn.TheVariants.{Any, All, Sums}

-- a truth value for each line
abbrev pub truths : (List ℤ → ℤ) → Dim → Array → Array
truths test d a = one_a_line Logical d (shape_of a) (map test (lines d a))

-- what `any` answers: whether some cell of the line is true
abbrev pub any_of : Dim → Array → Array
any_of d a = truths (λ cells. truth (list_any is_true cells)) d a

-- what `all` answers: whether each cell of the line is true
abbrev pub all_true_of : Dim → Array → Array
all_true_of d a = truths (λ cells. truth (list_all is_true cells)) d a

-- a sum, refused by the strict mode where the clamp changes it
abbrev pub added : Mode → ℤ → ℤ → Option ℤ
added Saturate x y = Some (clamp (x +ℤ y))
added Strict x y = if int_eq (clamp (x +ℤ y)) (x +ℤ y) then Some (x +ℤ y) else None

-- the line of the cell at a place, and which of its cells that is
abbrev pub line_at : Dim → Shape → ℕ → ℕ
line_at Down s k = k / s.rows
line_at Across s k = k % s.rows

abbrev pub index_at : Dim → Shape → ℕ → ℕ
index_at Down s k = k % s.rows
index_at Across s k = k / s.rows

-- how far behind a cell the next one of its line stands
abbrev pub stride : Dim → Shape → ℕ
stride Down s = 1
stride Across s = s.rows

-- the sum of a line up to the cell at a place
abbrev pub running : Mode → Dim → Array → ℕ → Option ℤ
running mode d a k = folded (added mode) (pos 0) (take (index_at d (shape_of a) k + 1) (line d a (line_at d (shape_of a) k)))

-- what `cumsum` answers: for each cell the sum up to it
abbrev pub cumsum_of : Mode → Dim → Array → Result Array ErrKind
cumsum_of mode d a =
    unless_refused (all_of (map (running mode d a) (range_with_len 0 (a.rows * a.cols))))
    (λ sums. record { class = Int; rows = a.rows; cols = a.cols; cells = sums })

-- what a function of lines answers along a dimension
abbrev pub line_fn_of : LineFn → Dim → Array → Result Array ErrKind
line_fn_of Any d a = Ok (any_of d a)
line_fn_of All d a = Ok (all_true_of d a)
line_fn_of (Sums mode) d a = cumsum_of mode d a

-- along the default dimension, or along the one that is given
abbrev pub along : LineFn → List Array → Result Array ErrKind
along f args = with_one_or_two (λ a. line_fn_of f (default_dim (shape_of a)) a) (λ a d. unless_err (dim_asked d) (λ d. line_fn_of f d a)) args
