-- How the answers of functions become what a run does with them.
use Rattle.std.specs.Prelude.{ℕ, List, [], ◌∷◌, Result, Ok, Err}
use Rattle.pl_base.specs.declared.errors.Place.{Place}
use Rattle.pl_base.specs.declared.mode.Mode.{Mode}
use Rattle.pl_base.specs.declared.errors.ErrKind.{ErrKind}
use Rattle.pl_base.specs.declared.errors.ErrKind.TheVariants.{ArgCount}
use Rattle.pl_array.specs.Arrays.{Array}
use Rattle.pl_builtin.specs.Calling.{call_of}
use Rattle.pl_setfn.specs.Calls.{call_set_of}
use Rattle.pl_text.specs.Displayed.{displayed}
use Rattle.pl_values.specs.declared.value.Value.{Value}
use Rattle.pl_operators.specs.Operands.{and_then}
use Rattle.pl_meaning.specs.Running.{Running, ◌>>=◌}
use Rattle.pl_meaning.specs.Accesses.{settle}
use Rattle.pl_meaning.specs.Library.{one_array, patterned, printed, given_array, error_by}
use Rattle.pl_library.specs.declared.tables.Table.{Table}
use Rattle.pl_library.specs.declared.tables.Table.TheVariants as table

-- the first array is the pattern
abbrev pub by_pattern : List Array → Result (List ℕ) ErrKind
by_pattern [] = Err ArgCount
by_pattern (p ∷ more) = patterned p more

-- the display of the one argument, an array
abbrev pub shown_by : List Value → Result (List ℕ) ErrKind
shown_by vs = and_then (one_array vs) (λ a. Ok (displayed a))

-- a text is printed, or raised, and an array is given; a refusal is an error
abbrev pub printing : Place → Result (List ℕ) ErrKind → Running (List Value)
printing place d = settle place d >>= (λ text. printed text)

abbrev pub raising : Place → Result (List ℕ) ErrKind → Running (List Value)
raising place d = settle place d >>= (λ text. error_by place text)

abbrev pub giving : Place → Result Array ErrKind → Running (List Value)
giving place d = settle place d >>= (λ a. given_array a)

-- what a function of a table answers
abbrev pub answers_of : Mode → Table → ℕ → List Array → Result (List Array) ErrKind
answers_of mode (table.Numbers f) nout arrays = call_of mode f arrays nout
answers_of mode (table.Sets f) nout arrays = call_set_of mode f arrays nout
