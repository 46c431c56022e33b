-- The functions' names.
use Rattle.std.specs.Prelude.{ℕ, List, [], ◌∷◌, Option, codes, nat_eq}
use Rattle.std.specs.List.{find}
use Rattle.std.specs.Cmp.Lexicographic.{pointwise}
use Rattle.pl_setfn.specs.declared.set_fn.SetFn.{SetFn}
use Rattle.pl_setfn.specs.declared.set_fn.SetFn.TheVariants.{Find, Reshape, Repmat, Sort, Unique, Any, All, Cumsum, Fliplr, Flipud, Nnz}

-- the name by which a script calls a function
abbrev pub name_of : SetFn → List ℕ
name_of Find = codes "find"
name_of Reshape = codes "reshape"
name_of Repmat = codes "repmat"
name_of Sort = codes "sort"
name_of Unique = codes "unique"
name_of Any = codes "any"
name_of All = codes "all"
name_of Cumsum = codes "cumsum"
name_of Fliplr = codes "fliplr"
name_of Flipud = codes "flipud"
name_of Nnz = codes "nnz"

-- all functions
abbrev pub functions : List SetFn
functions = Find ∷ Reshape ∷ Repmat ∷ Sort ∷ Unique ∷ Any ∷ All ∷ Cumsum ∷ Fliplr ∷ Flipud ∷ Nnz ∷ []

-- the function with this name
unfoldable pub fn_named : List ℕ → Option SetFn
fn_named name = find (λ f. pointwise nat_eq (name_of f) name) functions
