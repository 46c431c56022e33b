-- No function has more than two outputs.
use Rattle.std.proofs.Common.{◌≡◌, ℕ, ◌<◌, List, Result, Err, nat_lt, nat_le, ◌==◌, if◌then◌else◌, arith}
use Rattle.std.proofs.lemmas.Bool.Decides.{nat_tests}
use Rattle.pl_base.specs.declared.mode.Mode.{Mode}
use Rattle.pl_base.specs.declared.errors.ErrKind.{ErrKind}
use Rattle.pl_base.specs.declared.errors.ErrKind.TheVariants.{ArgCount}
use Rattle.pl_array.specs.Arrays.{Array}
use Rattle.pl_builtin.specs.Calling.{one_answer, two_answers}
use Rattle.pl_setfn.specs.declared.set_fn.SetFn.{SetFn}
use Rattle.pl_setfn.specs.declared.set_fn.SetFn.TheVariants.{Sort}
use Rattle.pl_setfn.specs.Calls.{most_outputs, alone, first_output, both_outputs}
use Rattle.pl_library.specs.declared.tables.Table.{Table}
use Rattle.pl_library.specs.declared.tables.Table.TheVariants as table
use Rattle.pl_library.specs.Answering.{answers_of}

choice : (nout : ℕ) (one two : Result (List Array) ErrKind) → 2 < nout → (if nat_le nout 1 then one else (if nout == 2 then two else Err ArgCount)) ≡ Err ArgCount
choice nout one two many = grind (arith, nat_tests)

over : (most nout : ℕ) (other : Result (List Array) ErrKind) → most < nout → (if nat_lt most nout then Err ArgCount else other) ≡ Err ArgCount
over most nout other many = grind (arith, nat_tests)

few_outputs : (f : SetFn) (nout : ℕ) → 2 < nout → most_outputs f < nout
few_outputs Sort nout many = many
few_outputs f nout many = omega arith

pub too_many : (mode : Mode) (t : Table) (nout : ℕ) (arrays : List Array) → 2 < nout → answers_of mode t nout arrays ≡ Err ArgCount
too_many mode (table.Numbers f) nout arrays many = choice nout (one_answer mode f arrays) (two_answers f arrays) many
too_many mode (table.Sets f) nout arrays many =
    over (most_outputs f) nout (if nout == 2 then both_outputs arrays else alone (first_output mode f arrays)) (few_outputs f nout many)
