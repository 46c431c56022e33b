-- The functions of the library: those that print, make texts or raise errors, and those of the tables. Each tests
-- the counts of its arguments and outputs first, and then that its arguments are arrays, from the left.
use Rattle.std.specs.Prelude.{ℕ, nat_lt, List, [], ◌∷◌, length, map, replicate, Result, Ok, Err, if◌then◌else◌}
use Rattle.pl_base.specs.declared.errors.Place.{Place}
use Rattle.pl_base.specs.declared.mode.Mode.{Mode}
use Rattle.pl_base.specs.declared.errors.ErrKind.{ErrKind}
use Rattle.pl_base.specs.declared.errors.ErrKind.TheVariants.{ArgCount, ArgClass, BadKind, User}
use Rattle.pl_array.specs.Arrays.{Array}
use Rattle.pl_array.specs.declared.class.Class.TheVariants.{Int, Char}
use Rattle.pl_builtin.specs.Calling.{call_of}
use Rattle.pl_setfn.specs.Calls.{call_set_of}
use Rattle.pl_text.specs.Displayed.{is_char, displayed}
use Rattle.pl_text.specs.Formatted.{format_of}
use Rattle.pl_text.specs.Literal.{char_row, mat2str_of}
use Rattle.pl_text.specs.Numerals.{num2str_of}
use Rattle.pl_values.specs.declared.value.Value.{Value}
use Rattle.pl_values.specs.declared.value.Value.TheVariants as value
use Rattle.pl_operators.specs.Operands.{and_then, array_in, arrays_in}
use Rattle.pl_meaning.specs.declared.event.Event.TheVariants.{Print}
use Rattle.pl_meaning.specs.declared.known.Known.{Known}
use Rattle.pl_meaning.specs.declared.known.Known.TheVariants as known
use Rattle.pl_meaning.specs.declared.known.Own.{Own}
use Rattle.pl_meaning.specs.declared.known.Own.TheVariants.{Disp, Fprintf, Sprintf, Error, NumToStr, MatToStr, Feval}
use Rattle.pl_meaning.specs.Running.{Running, pure, raise, ◌>>=◌, tell}
use Rattle.pl_meaning.specs.Accesses.{fail, settle}

-- where no more than so many outputs are asked for
abbrev pub offering : {A : Type 0} → ℕ → ℕ → Place → Running A → Running A
offering most nout place p = if nat_lt most nout then fail ArgCount place else p

-- the one argument, an array
abbrev pub one_array : List Value → Result Array ErrKind
one_array [] = Err ArgCount
one_array (v ∷ []) = array_in v
one_array (v ∷ w ∷ more) = Err ArgCount

-- a text by a pattern, which is a char array
abbrev pub patterned : Array → List Array → Result (List ℕ) ErrKind
patterned p more = if is_char p.class then format_of p more else Err ArgClass

abbrev pub text_by : List Value → Result (List ℕ) ErrKind
text_by [] = Err ArgCount
text_by (p ∷ vs) = and_then (array_in p) (λ a. and_then (arrays_in vs) (λ more. patterned a more))

abbrev pub given_array : Array → Running (List Value)
given_array a = pure (value.Array a ∷ [])

abbrev pub printed : List ℕ → Running (List Value)
printed text = tell (Print text) >>= (λ u. pure [])

abbrev pub error_by : Place → List ℕ → Running (List Value)
error_by place text = raise (record { kind = User; place = place; text = text })

abbrev pub no_text : Array
no_text = record { class = Char; rows = 0; cols = 0; cells = [] }

-- a text as an array: one without bytes is 0x0
abbrev pub text_row : List ℕ → Result Array ErrKind
text_row [] = Ok no_text
text_row (b ∷ more) = char_row (b ∷ more)

-- what a function that a run carries out itself does; `feval` is a call, and stands with the calls
abbrev pub own_of : Place → Own → ℕ → List Value → Running (List Value)
own_of place Disp nout vs = offering 0 nout place (settle place (one_array vs) >>= (λ a. printed (displayed a)))
own_of place Fprintf nout vs = offering 0 nout place (settle place (text_by vs) >>= (λ text. printed text))
own_of place Sprintf nout vs = offering 1 nout place (settle place (and_then (text_by vs) text_row) >>= (λ a. given_array a))
own_of place Error nout vs = offering 0 nout place (settle place (text_by vs) >>= (λ text. error_by place text))
own_of place NumToStr nout vs = offering 1 nout place (settle place (and_then (one_array vs) num2str_of) >>= (λ a. given_array a))
own_of place MatToStr nout vs = offering 1 nout place (settle place (and_then (one_array vs) mat2str_of) >>= (λ a. given_array a))
own_of place Feval nout vs = fail BadKind place

-- a function of a table tests its counts before its arguments' kinds; they are wrong where as many empty arrays are
-- refused for them
abbrev pub empty_array : Array
empty_array = record { class = Int; rows = 0; cols = 0; cells = [] }

abbrev pub unless_counts : ErrKind → Result (List Array) ErrKind → Result (List Array) ErrKind
unless_counts kind (Err ArgCount) = Err ArgCount
unless_counts kind r = Err kind

abbrev pub on_arrays : (List Array → Result (List Array) ErrKind) → ℕ → Result (List Array) ErrKind → Result (List Array) ErrKind
on_arrays call count (Ok arrays) = call arrays
on_arrays call count (Err kind) = unless_counts kind (call (replicate count empty_array))

abbrev pub as_values : Result (List Array) ErrKind → Result (List Value) ErrKind
as_values (Ok arrays) = Ok (map value.Array arrays)
as_values (Err kind) = Err kind

abbrev pub tabled : Place → (List Array → Result (List Array) ErrKind) → List Value → Running (List Value)
tabled place call vs = settle place (as_values (on_arrays call (length vs) (arrays_in vs)))

abbrev pub library_of : Mode → Place → Known → ℕ → List Value → Running (List Value)
library_of mode place (known.Own f) nout vs = own_of place f nout vs
library_of mode place (known.Numbers f) nout vs = tabled place (λ arrays. call_of mode f arrays nout) vs
library_of mode place (known.Sets f) nout vs = tabled place (λ arrays. call_set_of mode f arrays nout) vs

unfoldable pub library : Mode → Place → Known → ℕ → List Value → Running (List Value)
library mode place f nout vs = library_of mode place f nout vs
