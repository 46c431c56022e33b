-- Where a program first uses what nothing carries out yet.
use Rattle.std.specs.Prelude.{ℕ, suc, Bool, not, ◌&&◌, ◌||◌, nat_lt, if◌then◌else◌, List, [], ◌∷◌, Option, Some, None, is_some}
use Rattle.pl_base.specs.declared.errors.Place.{Place}
use Rattle.pl_syntax.specs.declared.stmt.Function.{Function}
use Rattle.pl_resolve.specs.declared.resolved.Resolved.{Resolved}
use Rattle.pl_resolve.specs.declared.occurrence.Occurrence.{Occurrence}
use Rattle.pl_resolve.specs.Functions.{place_in, local_names, Table}
use Rattle.pl_resolve.specs.Occurrences.{of_block}
use Rattle.pl_resolve.specs.Scopes.{is_handle, is_among}
use Rattle.pl_meaning.specs.Known.{known_of}
use Rattle.pl_meaning.specs.Names.{names_in}
use Rattle.pl_unbuilt.specs.Nodes.{of_program}

-- a name that stands for a variable of its scope, a local function, a function that is carried out, or an extra, for which a run
-- asks its world
abbrev pub is_variable_in : List (List ℕ) → Occurrence → Bool
is_variable_in scope o = not (is_handle o.how) && is_some (place_in scope o.name)

abbrev pub is_function : Table → List ℕ → Bool
is_function t name = is_among t.locals name || (is_some (known_of name) || is_among t.extras name)

abbrev pub is_built : Table → List (List ℕ) → Occurrence → Bool
is_built t scope o = is_variable_in scope o || is_function t o.name

-- the first name that is none of these
abbrev pub first_name : Table → List (List ℕ) → List Occurrence → Option Place
first_name t scope [] = None
first_name t scope (o ∷ names) = if is_built t scope o then first_name t scope names else Some o.place

abbrev pub or_later : Option Place → Option Place → Option Place
or_later (Some p) later = Some p
or_later None later = later

-- the functions that a program can name beside those of the language
abbrev pub table_of : Resolved → Table
table_of r = record { locals = local_names r.program.functions; extras = r.extras }

-- in the functions of a program, the scope of the first of which has this number
abbrev pub name_among : Resolved → ℕ → List Function → Option Place
name_among r i [] = None
name_among r i (f ∷ functions) = or_later (first_name (table_of r) (names_in r i) (of_block f.body)) (name_among r (suc i) functions)

abbrev pub name_of : Resolved → Option Place
name_of r = or_later (first_name (table_of r) (names_in r 0) (of_block r.program.body)) (name_among r 1 r.program.functions)

abbrev pub first_of : List Place → Option Place
first_of [] = None
first_of (p ∷ places) = Some p

-- the one that stands first in the text
abbrev pub earlier : Option Place → Option Place → Option Place
earlier None b = b
earlier (Some p) None = Some p
earlier (Some p) (Some q) = if nat_lt q.at p.at then Some q else Some p

-- the first use of what isn't carried out: a node, or the name of a function
abbrev pub unbuilt_of : Resolved → Option Place
unbuilt_of r = earlier (first_of (of_program r)) (name_of r)
