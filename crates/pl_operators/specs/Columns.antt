-- The columns of an array, which a `for` loop takes one after another.
use Rattle.std.specs.Prelude.{ℕ, Result, Ok, map}
use Rattle.std.specs.List.{range_with_len}
use Rattle.pl_base.specs.declared.errors.ErrKind.{ErrKind}
use Rattle.pl_array.specs.Arrays.{Array, cell_at}
use Rattle.pl_values.specs.declared.value.Value.{Value}
use Rattle.pl_operators.specs.Operands.{and_then, array_in}

-- how many columns a value has
abbrev pub columns_of : Value → Result ℕ ErrKind
columns_of v = and_then (array_in v) (λ a. Ok a.cols)

-- column j, from 0, as an array of its class
abbrev pub column_of : Array → ℕ → Array
column_of a j = record { class = a.class; rows = a.rows; cols = 1; cells = map (λ r. cell_at a r j) (range_with_len 0 a.rows) }
