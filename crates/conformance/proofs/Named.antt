-- The file of a name among files in memory.
use Rattle.std.proofs.Common.{◌≡◌, ℕ, List, [], ◌∷◌, map, zero, suc, refl}
use Rattle.std.specs.Prelude.{Option, Some, None, option_map, option_and_then, slice_get, position, nat_eq}
use Rattle.std.specs.Cmp.Lexicographic.{pointwise}
use Rattle.pl_io.specs.Named.{at_name}

get_map : {X Y : Type 0} (f : X → Y) (xs : List X) (k : ℕ) → option_map f (slice_get xs k) ≡ slice_get (map f xs) k
get_map f [] k = refl
get_map f (x ∷ xs) zero = refl
get_map f (x ∷ xs) (suc k) = get_map f xs k

get_at : {X Y : Type 0} (f : X → Y) (xs : List X) (at : Option ℕ) → option_map f (option_and_then (λ k. slice_get xs k) at) ≡ option_and_then (λ k. slice_get (map f xs) k) at
get_at f xs None = refl
get_at f xs (Some k) = get_map f xs k

pub at_name_map : {X Y : Type 0} (f : X → Y) (names : List (List ℕ)) (xs : List X) (name : List ℕ) → option_map f (at_name names xs name) ≡ at_name names (map f xs) name
at_name_map f names xs name = get_at f xs (position (λ n. pointwise nat_eq n name) names)
