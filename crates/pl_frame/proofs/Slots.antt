-- Workspaces: a slot that gets a value, and names and their slots.
use Rattle.std.specs.Prelude.{slice_set, nat_eq}
use Rattle.std.specs.Cmp.Lexicographic.{pointwise, same_text}
use Rattle.std.proofs.Common.{◌≡◌, ◌∙◌, ℕ, zero, suc, ◌<◌, List, [], ◌∷◌, length, get_or, Option, Some, arith, refl, sym, ap}
use Rattle.std.proofs.lemmas.List.Quantifiers.{position-Some}
use Rattle.pl_values.specs.declared.value.Value.{Value}
use Rattle.pl_values.specs.Workspaces.{value_at}
use Rattle.pl_meaning.specs.Logs.{Workspace}
use Rattle.pl_resolve.specs.Functions.{place_in}

pub set_here : (env : Workspace) (s : ℕ) (v : Value) → s < length env → value_at (slice_set env s (Some v)) s ≡ Some v
set_here [] s v h = absurd (omega arith)
set_here (x ∷ env) zero v h = refl
set_here (x ∷ env) (suc s) v h = set_here env s v (omega arith)

pub set_elsewhere : (env : Workspace) (s t : ℕ) (v : Option Value) → (s ≡ t → ⊥) → value_at (slice_set env s v) t ≡ value_at env t
set_elsewhere [] s t v h = refl
set_elsewhere (x ∷ env) zero zero v h = absurd (h refl)
set_elsewhere (x ∷ env) zero (suc t) v h = refl
set_elsewhere (x ∷ env) (suc s) zero v h = refl
set_elsewhere (x ∷ env) (suc s) (suc t) v h = set_elsewhere env s t v (λ e. h (ap suc e))

pub has_slot : (env : Workspace) (s : ℕ) (v : Value) → value_at env s ≡ Some v → s < length env
has_slot [] s v h = absurd (cc)
has_slot (x ∷ env) zero v h = omega arith
has_slot (x ∷ env) (suc s) v h = let r : s < length env = has_slot env s v h in omega arith

pub one_name : (names : List (List ℕ)) (t u : List ℕ) (s : ℕ) → place_in names t ≡ Some s → place_in names u ≡ Some s → t ≡ u
one_name names t u s h k =
    let a = (position-Some (pointwise nat_eq t) names s [] h).1 in
    let b = (position-Some (pointwise nat_eq u) names s [] k).1 in
    same_text t (get_or names s []) (sym a) ∙ sym (same_text u (get_or names s []) (sym b))
