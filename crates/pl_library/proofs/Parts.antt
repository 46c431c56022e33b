-- What the functions are that a run carries out itself, where no more outputs are asked for than they have.
use Rattle.std.proofs.Common.{◌≡◌, ℕ, ◌<◌, ◌≤◌, List, Result, Ok, Err, true, false, nat_lt, refl, sym, subst, arith}
use Rattle.std.proofs.lemmas.Bool.Decides.{nat_tests}
use Rattle.pl_base.specs.declared.errors.Place.{Place}
use Rattle.pl_base.specs.declared.errors.ErrKind.{ErrKind}
use Rattle.pl_array.specs.Arrays.{Array}
use Rattle.pl_text.specs.Displayed.{displayed}
use Rattle.pl_text.specs.Literal.{mat2str_of}
use Rattle.pl_text.specs.Numerals.{num2str_of}
use Rattle.pl_values.specs.declared.value.Value.{Value}
use Rattle.pl_operators.specs.Operands.{and_then}
use Rattle.pl_meaning.specs.declared.halt.Halt.{Halt}
use Rattle.pl_meaning.specs.declared.known.Own.TheVariants.{Disp, Fprintf, Sprintf, Error, NumToStr, MatToStr}
use Rattle.pl_meaning.specs.Running.{Running, ◌>>=◌}
use Rattle.pl_meaning.specs.Accesses.{settle}
use Rattle.pl_meaning.specs.Promises.{At, Went, Halts}
use Rattle.pl_meaning.specs.Library.{own_of, one_array, text_by, text_row, printed}
use Rattle.pl_library.specs.Answering.{shown_by, printing, raising, giving}

within : (most nout : ℕ) → nout ≤ most → nat_lt most nout ≡ false
within most nout few = grind (arith, nat_tests)

pub over : (most nout : ℕ) → most < nout → nat_lt most nout ≡ true
over most nout many = grind (arith, nat_tests)

displays : (place : Place) (d : Result Array ErrKind) → (settle place d >>= (λ a. printed (displayed a))) ≡ printing place (and_then d (λ a. Ok (displayed a)))
displays place (Ok a) = refl
displays place (Err kind) = refl

pub disp_is : (place : Place) (nout : ℕ) (vs : List Value) → nout ≤ 0 → own_of place Disp nout vs ≡ printing place (shown_by vs)
disp_is place nout vs few = rw (within 0 nout few) (displays place (one_array vs))

pub fprintf_is : (place : Place) (nout : ℕ) (vs : List Value) → nout ≤ 0 → own_of place Fprintf nout vs ≡ printing place (text_by vs)
fprintf_is place nout vs few = rw (within 0 nout few) refl

pub error_is : (place : Place) (nout : ℕ) (vs : List Value) → nout ≤ 0 → own_of place Error nout vs ≡ raising place (text_by vs)
error_is place nout vs few = rw (within 0 nout few) refl

pub sprintf_is : (place : Place) (nout : ℕ) (vs : List Value) → nout ≤ 1 → own_of place Sprintf nout vs ≡ giving place (and_then (text_by vs) text_row)
sprintf_is place nout vs few = rw (within 1 nout few) refl

pub num2str_is : (place : Place) (nout : ℕ) (vs : List Value) → nout ≤ 1 → own_of place NumToStr nout vs ≡ giving place (and_then (one_array vs) num2str_of)
num2str_is place nout vs few = rw (within 1 nout few) refl

pub mat2str_is : (place : Place) (nout : ℕ) (vs : List Value) → nout ≤ 1 → own_of place MatToStr nout vs ≡ giving place (and_then (one_array vs) mat2str_of)
mat2str_is place nout vs few = rw (within 1 nout few) refl

-- what is promised of a part is promised of one that is the same
pub went_as : {A : Type 0} {p q : Running A} (old : At) (a : A) (new : At) → p ≡ q → Went q old a new → Went p old a new
went_as {A} {p} {q} old a new e w = subst (λ (r : Running A). Went r old a new) (sym e) w

pub halts_as : {A : Type 0} {p q : Running A} (old : At) (x : Halt) (new : At) → p ≡ q → Halts q old x new → Halts p old x new
halts_as {A} {p} {q} old x new e w = subst (λ (r : Running A). Halts r old x new) (sym e) w

-- and of the same end
pub ends_as : {A : Type 0} (p : Running A) (old : At) (y x : Halt) (new : At) → y ≡ x → Halts p old y new → Halts p old x new
ends_as p old y x new e w = subst (λ (z : Halt). Halts p old z new) e w
