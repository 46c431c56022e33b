-- A value that is taken out of its slot and put back.
use Rattle.std.proofs.Common.{◌≡◌, ℕ, List, [], ◌∷◌, zero, suc, Option, Some, None, Result, Ok, Err, OnOk, OnErr, option_map, slice_set, refl, ap, ◌∙◌}
use Rattle.std.proofs.lemmas.List.{set-set}
use Rattle.pl_base.specs.declared.memory.Or.{Or}
use Rattle.pl_base.specs.declared.errors.ErrKind.{ErrKind}
use Rattle.pl_base.specs.declared.errors.ErrKind.TheVariants.{NoValue}
use Rattle.pl_base.specs.declared.errors.Place.{Place}
use Rattle.pl_base.specs.declared.errors.ScriptError.{ScriptError}
use Rattle.pl_errors.specs.Errors.{error_of}
use Rattle.pl_operators.specs.declared.argument.Argument.{Argument}
use Rattle.pl_values.specs.declared.value.Value.{Value}
use Rattle.pl_values.specs.Workspaces.{value_at}
use Rattle.pl_meaning.specs.Logs.{Workspace}
use Rattle.pl_meaning.specs.Running.{Rest, State}
use Rattle.pl_meaning.specs.Accesses.{erased_of}
use Rattle.pl_access.specs.Storing.{Stores, deleted_of}

-- what a slot holds, written there, changes nothing
pub same_held : (env : Workspace) (slot : ℕ) → slice_set env slot (value_at env slot) ≡ env
same_held [] slot = refl
same_held (None ∷ env) zero = refl
same_held (Some v ∷ env) zero = refl
same_held (held ∷ env) (suc slot) = ap (λ rest. held ∷ rest) (same_held env slot)

-- taken out, changed and put back
pub stores : (old taken new : Workspace) (slot : ℕ) (held : Option Value) (d : Result Value ErrKind) (r : Result (Unit {0}) (Or ErrKind)) →
    new ≡ slice_set taken slot held → taken ≡ slice_set old slot None →
    OnOk r (option_map Ok held ≡ Some d) → ((kind : ErrKind) → r ≡ Err (Or.Is kind) → d ≡ Err kind) → OnErr r (held ≡ value_at old slot) →
    Stores old slot d r new
stores old taken new slot (Some v) d (Ok u) e t ok err kept =
    (v, cc, e ∙ ap (λ (env : Workspace). slice_set env slot (Some v)) t ∙ set-set old slot None (Some v))
stores old taken new slot None d (Ok u) e t ok err kept = absurd cc
stores old taken new slot held d (Err (Or.Is kind)) e t ok err kept =
    (err kind refl, e ∙ ap (λ (env : Workspace). slice_set env slot held) t ∙ set-set old slot None held ∙ ap (λ (h : Option Value). slice_set old slot h) kept ∙ same_held old slot)
stores old taken new slot held d (Err Or.Memory) e t ok err kept = tt

-- a deletion that is refused
pub erased : (slot : ℕ) (place : Place) (list : List Argument) (v : Option Value) (kind : ErrKind) → deleted_of list v ≡ Err kind →
    (k : Unit {0} → Rest) (h : ScriptError → Rest) (s : State) → erased_of slot place list v k h s ≡ h (error_of kind place) s
erased slot place list (Some v) kind e k h s = rw e refl
erased slot place list None kind e k h s = let same : NoValue ≡ kind = cc in ap (λ (z : ErrKind). h (error_of z place) s) same
