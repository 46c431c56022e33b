-- Indexing of values: what an index selects, assigns and deletes, what `end` stands for, and what braces read.
use Rattle.std.specs.List.{list_any}
use Rattle.std.specs.Prelude.{is_ok, Bool, true, false, not, ℕ, ◌+◌, ◌-◌, ◌*◌, ◌==◌, ℤ, pos, unsigned_abs, int_lt, List, [], ◌∷◌, ◌++◌, length, slice_index_or, slice_get, slice_set, Option, Some, None, Result, Ok, Err, nat_lt, if◌then◌else◌}
use Rattle.pl_base.specs.declared.errors.ErrKind.{ErrKind}
use Rattle.pl_base.specs.declared.errors.ErrKind.TheVariants.{BadKind, BadIndex, IndexRange, CompositeUnset}
use Rattle.pl_array.specs.Arrays.{Array, single_of}
use Rattle.pl_index.specs.declared.index.Pos.{Pos}
use Rattle.pl_index.specs.declared.index.Pos.TheVariants.{All, At}
use Rattle.pl_index.specs.declared.index.Index.{Index}
use Rattle.pl_index.specs.declared.index.Index.TheVariants as index
use Rattle.pl_index.specs.Choosing.{select_of, delete_of}
use Rattle.pl_index.specs.Writing.{assign_of, assign_new_of}
use Rattle.pl_scheme.specs.declared.size.Size.{Size}
use Rattle.pl_scheme.specs.declared.scheme.Scheme.{Scheme}
use Rattle.pl_scheme.specs.declared.scheme.Scheme.TheVariants as scheme
use Rattle.pl_values.specs.declared.value.CoPart.{CoPart}
use Rattle.pl_values.specs.declared.value.Value.{Value, out-Value}
use Rattle.pl_values.specs.declared.value.Value.TheOpen.{Value-F}
use Rattle.pl_values.specs.declared.value.Value.TheVariants as value
use Rattle.pl_operators.specs.declared.argument.Argument.{Argument}
use Rattle.pl_operators.specs.declared.argument.Argument.TheVariants.{Colon, Given}
use Rattle.pl_operators.specs.Operands.{and_then, valued, array_in}

-- the position of an argument
abbrev pub position_of : Argument → Result Pos ErrKind
position_of Colon = Ok All
position_of (Given v) = and_then (array_in v) (λ a. Ok (At a))

-- an argument that is no position
abbrev pub is_no_position : Argument → Bool
is_no_position argument = not (is_ok (position_of argument))

-- why so many arguments make no index
abbrev pub index_refusal : List Argument → ErrKind
index_refusal arguments = if list_any is_no_position arguments then BadKind else BadIndex

-- the index that arguments make, tested from the left: of any but one or two positions there is none
abbrev pub index_of : List Argument → Result Index ErrKind
index_of [] = Err BadIndex
index_of (p ∷ []) = and_then (position_of p) (λ a. Ok (index.One a))
index_of (p ∷ q ∷ []) = and_then (position_of p) (λ a. and_then (position_of q) (λ b. Ok (index.Two a b)))
index_of (p ∷ q ∷ r ∷ more) = Err (index_refusal (p ∷ q ∷ r ∷ more))

-- a 1x1 subscript, from 1
abbrev pub subscript : Option ℤ → Result ℕ ErrKind
subscript None = Err BadIndex
subscript (Some z) = if int_lt z (pos 1) then Err BadIndex else Ok (unsigned_abs z)

-- the one subscript of a row of futures
abbrev pub single_index : Index → Result ℕ ErrKind
single_index (index.One (At x)) = subscript (single_of x)
single_index (index.One All) = Err BadIndex
single_index (index.Two p q) = Err BadIndex

-- the future at a subscript
abbrev pub pick_call : List ℕ → ℕ → Result Value ErrKind
pick_call calls k = if nat_lt (length calls) k then Err IndexRange else Ok (value.Futures (slice_index_or calls (k - 1) 0 ∷ []))

abbrev pub select_at : Value-F Value → List Argument → Result Value ErrKind
select_at (Value-F.Array a) arguments = valued (and_then (index_of arguments) (select_of a))
select_at (Value-F.Futures calls) arguments = and_then (index_of arguments) (λ at. and_then (single_index at) (pick_call calls))
select_at layer arguments = Err BadKind

-- what an index selects of a value: of an array, or one future of a row
abbrev pub select_value : Value → List Argument → Result Value ErrKind
select_value v arguments = select_at (out-Value v) arguments

-- the calls with another one at a subscript, which is at most one past the end
abbrev pub put_call : List ℕ → ℕ → ℕ → Result Value ErrKind
put_call calls call k =
    if nat_lt (length calls + 1) k then Err IndexRange else
    if nat_lt (length calls) k then Ok (value.Futures (calls ++ call ∷ [])) else
    Ok (value.Futures (slice_set calls (k - 1) call))

-- one future goes to a place of a row of futures
abbrev pub assign_future : List ℕ → List Argument → List ℕ → Result Value ErrKind
assign_future calls arguments [] = Err BadKind
assign_future calls arguments (call ∷ []) = and_then (index_of arguments) (λ at. and_then (single_index at) (put_call calls call))
assign_future calls arguments (call ∷ other ∷ more) = Err BadKind

-- an assignment into an array, or of an array where there is no value
abbrev pub assign_array : Option Array → List Argument → Array → Result Value ErrKind
assign_array (Some a) arguments v = valued (and_then (index_of arguments) (λ at. assign_of a at v))
assign_array None arguments v = valued (and_then (index_of arguments) (λ at. assign_new_of at v))

-- the kinds of both are tested first: the old value
abbrev pub assign_to_array : Option Array → List Argument → Value-F Value → Result Value ErrKind
assign_to_array old arguments (Value-F.Array v) = assign_array old arguments v
assign_to_array old arguments layer = Err BadKind

abbrev pub assign_to_futures : List ℕ → List Argument → Value-F Value → Result Value ErrKind
assign_to_futures calls arguments (Value-F.Futures more) = assign_future calls arguments more
assign_to_futures calls arguments layer = Err BadKind

abbrev pub assign_to_none : List Argument → Value-F Value → Result Value ErrKind
assign_to_none arguments (Value-F.Array v) = assign_array None arguments v
assign_to_none arguments (Value-F.Futures more) = assign_future [] arguments more
assign_to_none arguments layer = Err BadKind

abbrev pub assign_at : Value-F Value → List Argument → Value → Result Value ErrKind
assign_at (Value-F.Array a) arguments v = assign_to_array (Some a) arguments (out-Value v)
assign_at (Value-F.Futures calls) arguments v = assign_to_futures calls arguments (out-Value v)
assign_at layer arguments v = Err BadKind

-- what an indexed assignment makes of a variable: the pair of kinds is tested first, then the index
abbrev pub assign_value : Option Value → List Argument → Value → Result Value ErrKind
assign_value None arguments v = assign_to_none arguments (out-Value v)
assign_value (Some old) arguments v = assign_at (out-Value old) arguments v

abbrev pub delete_at : Value-F Value → List Argument → Result Value ErrKind
delete_at (Value-F.Array a) arguments = valued (and_then (index_of arguments) (delete_of a))
delete_at layer arguments = Err BadKind

-- what a deletion leaves of a value
abbrev pub delete_value : Value → List Argument → Result Value ErrKind
delete_value v arguments = delete_at (out-Value v) arguments

-- the extent of position p of n: all cells for one position, else rows, columns, and 1 behind them
abbrev pub extent_at : Size → ℕ → ℕ → ℕ
extent_at s p n = if n == 1 then s.rows * s.cols else (if p == 0 then s.rows else (if p == 1 then s.cols else 1))

-- a row of so many
abbrev pub row_size : ℕ → Size
row_size count = record { rows = 1; cols = count }

-- the size of the whole codistributed array
abbrev pub scheme_size : Scheme → Size
scheme_size (scheme.One s) = s.size
scheme_size (scheme.Two s) = s.size

abbrev pub whole_size : List CoPart → Size
whole_size [] = record { rows = 0; cols = 0 }
whole_size (part ∷ parts) = scheme_size part.scheme

-- the size of a value that can be indexed
abbrev pub size_at : Value-F Value → Result Size ErrKind
size_at (Value-F.Array a) = Ok (record { rows = a.rows; cols = a.cols })
size_at (Value-F.Futures calls) = Ok (row_size (length calls))
size_at (Value-F.Composite held) = Ok (row_size (length held))
size_at (Value-F.Part part) = Ok (scheme_size part.scheme)
size_at (Value-F.Whole parts) = Ok (whole_size parts)
size_at layer = Err BadKind

-- `end` at position p, which counts from 0, of n positions; 0 where the variable has no value
abbrev pub extent_of : Option Value → ℕ → ℕ → Result ℕ ErrKind
extent_of None p n = Ok 0
extent_of (Some v) p n = and_then (size_at (out-Value v)) (λ s. Ok (extent_at s p n))

-- a worker's value that can be read from outside of the block
abbrev pub readable_at : Value → Value-F Value → Result Value ErrKind
readable_at v (Value-F.Part part) = Err BadKind
readable_at v layer = Ok v

abbrev pub worker_value : Option (Option Value) → Result Value ErrKind
worker_value None = Err BadIndex
worker_value (Some None) = Err CompositeUnset
worker_value (Some (Some v)) = readable_at v (out-Value v)

abbrev pub brace_at : Value-F Value → Value → Result Value ErrKind
brace_at (Value-F.Composite held) k = and_then (array_in k) (λ a. and_then (subscript (single_of a)) (λ worker. worker_value (slice_get held (worker - 1))))
brace_at layer k = Err BadKind

-- the value of worker k in a Composite
abbrev pub brace_value : Value → Value → Result Value ErrKind
brace_value c k = brace_at (out-Value c) k

-- a value that a worker can be given from outside of the block: no Composite and nothing codistributed
abbrev pub is_keepable_at : Value-F Value → Bool
is_keepable_at (Value-F.Part part) = false
is_keepable_at (Value-F.Composite held) = false
is_keepable_at (Value-F.Whole parts) = false
is_keepable_at layer = true

abbrev pub is_keepable : Value → Bool
is_keepable v = is_keepable_at (out-Value v)

-- the values of the workers with another one for this worker, from 1
abbrev pub put_worker : List (Option Value) → Value → ℕ → Result Value ErrKind
put_worker held v worker =
    if nat_lt (length held) worker then Err BadIndex else
    if is_keepable v then Ok (value.Composite (slice_set held (worker - 1) (Some v))) else Err BadKind

abbrev pub assign_brace_at : Value-F Value → Value → Value → Result Value ErrKind
assign_brace_at (Value-F.Composite held) k v = and_then (array_in k) (λ a. and_then (subscript (single_of a)) (put_worker held v))
assign_brace_at layer k v = Err BadKind

-- a Composite with another value for worker k
abbrev pub assign_brace : Value → Value → Value → Result Value ErrKind
assign_brace c k v = assign_brace_at (out-Value c) k v
