-- The names of the functions of the library: those that a run carries out itself, and those of the tables.
use Rattle.std.specs.Prelude.{ℕ, Bool, true, false, List, [], ◌∷◌, Option, Some, None, option_map, codes, nat_eq}
use Rattle.std.specs.List.{find}
use Rattle.std.specs.Cmp.Lexicographic.{pointwise}
use Rattle.pl_builtin.specs.declared.name.Builtin.{Builtin}
use Rattle.pl_builtin.specs.Names.{named}
use Rattle.pl_setfn.specs.Naming.{fn_named}
use Rattle.pl_meaning.specs.declared.known.Own.{Own}
use Rattle.pl_meaning.specs.declared.known.Own.TheVariants.{Disp, Fprintf, Sprintf, Error, NumToStr, MatToStr, Feval}
use Rattle.pl_meaning.specs.declared.known.Known.{Known}
use Rattle.pl_meaning.specs.declared.known.Known.TheVariants as known

-- the name in a script of a function that a run carries out itself
abbrev pub own_name : Own → List ℕ
own_name Disp = codes "disp"
own_name Fprintf = codes "fprintf"
own_name Sprintf = codes "sprintf"
own_name Error = codes "error"
own_name NumToStr = codes "num2str"
own_name MatToStr = codes "mat2str"
own_name Feval = codes "feval"

-- all of them
abbrev pub own_functions : List Own
own_functions = Disp ∷ Fprintf ∷ Sprintf ∷ Error ∷ NumToStr ∷ MatToStr ∷ Feval ∷ []

-- the two names are one
abbrev pub same : List ℕ → List ℕ → Bool
same a b = pointwise nat_eq a b

unfoldable pub own_named : List ℕ → Option Own
own_named name = find (λ f. same (own_name f) name) own_functions

-- the function of this name: a run's own, or one of the two tables
abbrev pub else_sets : List ℕ → Option Builtin → Option Known
else_sets name (Some f) = Some (known.Numbers f)
else_sets name None = option_map known.Sets (fn_named name)

abbrev pub else_tables : List ℕ → Option Own → Option Known
else_tables name (Some f) = Some (known.Own f)
else_tables name None = else_sets name (named name)

unfoldable pub known_of : List ℕ → Option Known
known_of name = else_tables name (own_named name)

-- the one of them that is a call by a value
abbrev pub is_own_feval : Own → Bool
is_own_feval Feval = true
is_own_feval f = false

abbrev pub is_feval : Known → Bool
is_feval (known.Own f) = is_own_feval f
is_feval f = false
