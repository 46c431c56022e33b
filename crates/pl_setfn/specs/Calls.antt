-- What a call of each function answers.
use Rattle.std.specs.Prelude.{ℕ, ◌==◌, List, [], ◌∷◌, Result, Ok, Err, if◌then◌else◌, nat_lt}
use Rattle.pl_base.specs.declared.mode.Mode.{Mode}
use Rattle.pl_base.specs.declared.errors.ErrKind.{ErrKind}
use Rattle.pl_base.specs.declared.errors.ErrKind.TheVariants.{ArgCount}
use Rattle.pl_array.specs.Arrays.{Array}
use Rattle.pl_setfn.specs.declared.set_fn.SetFn.{SetFn}
use Rattle.pl_setfn.specs.declared.set_fn.SetFn.TheVariants.{Find, Reshape, Repmat, Sort, Unique, Any, All, Cumsum, Fliplr, Flipud, Nnz}
use Rattle.pl_setfn.specs.Arguments.{with_one, with_three}
use Rattle.pl_setfn.specs.Finding.{find_of, nnz_of}
use Rattle.pl_setfn.specs.Layout.{reshape_of, repmat_of, fliplr_of, flipud_of}
use Rattle.pl_setfn.specs.Sorting.{in_asked_order, sort_cells, sort_sources, unique_of}
use Rattle.pl_setfn.specs.Along.{along}
use Rattle.pl_setfn.specs.declared.along.LineFn.{LineFn}

-- how many outputs a function has
abbrev pub most_outputs : SetFn → ℕ
most_outputs Sort = 2
most_outputs f = 1

-- the first output
abbrev pub first_output : Mode → SetFn → List Array → Result Array ErrKind
first_output mode Find args = with_one (λ a. Ok (find_of a)) args
first_output mode Reshape args = with_three reshape_of args
first_output mode Repmat args = with_three repmat_of args
first_output mode Sort args = in_asked_order sort_cells args
first_output mode Unique args = with_one (λ a. Ok (unique_of a)) args
first_output mode Any args = along LineFn.Any args
first_output mode All args = along LineFn.All args
first_output mode Cumsum args = along (LineFn.Sums mode) args
first_output mode Fliplr args = with_one (λ a. Ok (fliplr_of a)) args
first_output mode Flipud args = with_one (λ a. Ok (flipud_of a)) args
first_output mode Nnz args = with_one (λ a. Ok (nnz_of a)) args

-- both outputs of `sort`
abbrev pub both_outputs : List Array → Result (List Array) ErrKind
both_outputs args = in_asked_order (λ way a. sort_cells way a ∷ sort_sources way a ∷ []) args

-- one output
abbrev pub alone : Result Array ErrKind → Result (List Array) ErrKind
alone (Ok a) = Ok (a ∷ [])
alone (Err kind) = Err kind

-- what a call answers that asks for so many outputs; no output is asked for like one
abbrev pub call_set_of : Mode → SetFn → List Array → ℕ → Result (List Array) ErrKind
call_set_of mode f args nout =
    if nat_lt (most_outputs f) nout then Err ArgCount else
    (if nout == 2 then both_outputs args else alone (first_output mode f args))
