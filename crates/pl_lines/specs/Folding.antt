-- Left folds of lines, of which a step may be refused.
use Rattle.std.specs.Prelude.{ℤ, List, [], ◌∷◌, map, Option, Some, None, Result, Ok, Err, option_map}
use Rattle.std.specs.List.{fold}
use Rattle.pl_base.specs.declared.errors.ErrKind.{ErrKind}
use Rattle.pl_base.specs.declared.errors.ErrKind.TheVariants.{Overflow}
use Rattle.pl_array.specs.declared.class.Class.{Class}
use Rattle.pl_array.specs.Arrays.{Array}
use Rattle.pl_array.specs.Cellwise.{shape_of}
use Rattle.pl_lines.specs.declared.dim.Dim.{Dim}
use Rattle.pl_lines.specs.Lines.{lines, one_a_line}

-- one more step, where none before was refused
abbrev pub onward : (ℤ → ℤ → Option ℤ) → Option ℤ → ℤ → Option ℤ
onward step None x = None
onward step (Some z) x = step z x

-- the left fold of a line's cells; where a step is refused, so is the fold
abbrev pub folded : (ℤ → ℤ → Option ℤ) → ℤ → List ℤ → Option ℤ
folded step start cells = fold (onward step) (Some start) cells

-- the values, where each is there
abbrev pub all_of : List (Option ℤ) → Option (List ℤ)
all_of [] = Some []
all_of (None ∷ rest) = None
all_of (Some z ∷ rest) = option_map (λ zs. z ∷ zs) (all_of rest)

-- the array of these values; where one is missing, it is an overflow
abbrev pub unless_refused : Option (List ℤ) → (List ℤ → Array) → Result Array ErrKind
unless_refused None array = Err Overflow
unless_refused (Some cells) array = Ok (array cells)

-- the array of the folds of the lines
abbrev pub fold_lines_of : Class → (ℤ → ℤ → Option ℤ) → ℤ → Dim → Array → Result Array ErrKind
fold_lines_of class step start d a = unless_refused (all_of (map (folded step start) (lines d a))) (one_a_line class d (shape_of a))
