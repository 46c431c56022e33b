-- The variables of a scope, and the names that stand for nothing.
use Rattle.std.specs.Prelude.{ℕ, Bool, true, false, not, ◌&&◌, ◌||◌, List, [], ◌∷◌, ◌++◌, map, filter, codes, nat_eq, Option, Some, None, is_some, if◌then◌else◌}
use Rattle.std.specs.List.{list_any}
use Rattle.std.specs.Cmp.Lexicographic.{pointwise}
use Rattle.indexmap.specs.IndexSet.{insert_all}
use Rattle.pl_syntax.specs.declared.expr.Name.{Name}
use Rattle.pl_syntax.specs.declared.stmt.Function.{Function}
use Rattle.pl_syntax.specs.declared.stmt.Program.{Program}
use Rattle.pl_resolve.specs.declared.fault.NameFault.{NameFault}
use Rattle.pl_resolve.specs.declared.occurrence.Occurrence.{Occurrence}
use Rattle.pl_resolve.specs.declared.occurrence.Use.{Use}
use Rattle.pl_resolve.specs.declared.occurrence.Use.TheVariants.{Assign, AssignAt, AssignIn, Handle}
use Rattle.pl_resolve.specs.Functions.{Table, extra_names, local_names, number_of}
use Rattle.pl_resolve.specs.Occurrences.{used, of_block}

-- names in order, each where it first stands
abbrev pub distinct : List (List ℕ) → List (List ℕ)
distinct names = insert_all (pointwise nat_eq) [] names

abbrev pub is_among : List (List ℕ) → List ℕ → Bool
is_among names name = list_any (pointwise nat_eq name) names

-- what gives a name a value; a deletion doesn't
abbrev pub assigns : Use → Bool
assigns Assign = true
assigns AssignAt = true
assigns AssignIn = true
assigns how = false

abbrev pub is_handle : Use → Bool
is_handle Handle = true
is_handle how = false

-- the names of a scope: what it has by itself, and what is assigned in it
abbrev pub variables : List (List ℕ) → List Occurrence → List (List ℕ)
variables own names = distinct (own ++ map (λ o. o.name) (filter (λ o. assigns o.how) names))

-- a name that stands for a variable; behind `@` it never does
abbrev pub is_variable : List (List ℕ) → Occurrence → Bool
is_variable vars o = not (is_handle o.how) && is_among vars o.name

-- the variables by first occurrence
abbrev pub scope_of : List (List ℕ) → List Occurrence → List (List ℕ)
scope_of vars names = distinct (map (λ o. o.name) (filter (is_variable vars) names))

-- a name that is a variable or a function
abbrev pub is_known : Table → List (List ℕ) → Occurrence → Bool
is_known t vars o = is_variable vars o || is_some (number_of t o.name)

-- the first name that is neither
abbrev pub first_unknown : Table → List (List ℕ) → List Occurrence → Option NameFault
first_unknown t vars [] = None
first_unknown t vars (o ∷ names) = if is_known t vars o then first_unknown t vars names else Some (record { name = o.name; place = o.place })

-- the names of parameters; one may have no name
abbrev pub of_params : List (Option Name) → List Occurrence
of_params [] = []
of_params (None ∷ params) = of_params params
of_params (Some name ∷ params) = used Assign name ∷ of_params params

-- a scope before it is looked at: the names that it has by itself, and its names in the order of the text
pub record Text : Type 0 where
  pub own : List (List ℕ)
  pub names : List Occurrence

-- the script has no names by itself
abbrev pub script_text : Program → Text
script_text p = record { own = []; names = of_block p.body }

-- a function has its counts; its outputs and parameters are assigned in its head
abbrev pub function_text : Function → Text
function_text f = record { own = codes "nargin" ∷ codes "nargout" ∷ []; names = map (used Assign) f.outs ++ (of_params f.params ++ of_block f.body) }

abbrev pub scope_in : Text → List (List ℕ)
scope_in t = scope_of (variables t.own t.names) t.names

abbrev pub unknown_in : Table → Text → Option NameFault
unknown_in table t = first_unknown table (variables t.own t.names) t.names

abbrev pub or_later : Option NameFault → Option NameFault → Option NameFault
or_later (Some fault) later = Some fault
or_later None later = later

-- the first unknown name of texts
abbrev pub unknown_among : Table → List Text → Option NameFault
unknown_among table [] = None
unknown_among table (t ∷ texts) = or_later (unknown_in table t) (unknown_among table texts)

-- the script, and then the functions in order
abbrev pub texts_of : Program → List Text
texts_of p = script_text p ∷ map function_text p.functions

-- the scopes of a program
abbrev pub scopes_of : Program → List (List (List ℕ))
scopes_of p = map scope_in (texts_of p)

-- the functions that a program can name beside a table of extras
abbrev pub table_of : List (List ℕ) → Program → Table
table_of extras p = record { locals = local_names p.functions; extras = extras }

-- the first name of a program that stands for nothing, beside a table of extras and beside the one that is built
abbrev pub unknown_beside : List (List ℕ) → Program → Option NameFault
unknown_beside extras p = unknown_among (table_of extras p) (texts_of p)

abbrev pub unknown_of : Program → Option NameFault
unknown_of p = unknown_beside extra_names p
