-- The slots that a kept workspace stands for.
use Rattle.std.specs.Prelude.{ℕ, suc, Bool, false, not, slice_get, List, [], ◌∷◌, Option, Some, None, nat_eq, map, if◌then◌else◌}
use Rattle.std.specs.Map.{lookup}
use Rattle.pl_values.specs.Workspaces.{value_at}
use Rattle.pl_values.specs.declared.value.Value.{Value}
use Rattle.pl_values.specs.declared.layers.Layer.{Layer}
use Rattle.pl_values.specs.declared.layers.Layers.{Layers}
use Rattle.pl_values.specs.declared.slots.Slots.{Slots}
use Rattle.pl_values.specs.declared.slots.Slots.TheVariants.{Own, Over}

-- as many slots as marks: a marked one is empty, and another has what is found at its place
abbrev pub seen : (ℕ → Option Value) → List Bool → List (Option Value)
seen find [] = []
seen find (cleared ∷ marks) = (if cleared then None else find 0) ∷ seen (λ q. find (suc q)) marks

abbrev pub first_of : Option Value → Option Value → Option Value
first_of (Some v) below = Some v
first_of None below = below

-- a slot that there is and that isn't marked
abbrev pub open_at : Option Bool → Bool
open_at None = false
open_at (Some cleared) = not cleared

abbrev pub shows_at : List Bool → ℕ → Bool
shows_at marks slot = open_at (slice_get marks slot)

-- the value among a layer's own, else the one below
abbrev pub find_in : List (ℕ × Value) → List (Option Value) → ℕ → Option Value
find_in values below q = first_of (lookup (nat_eq q) values) (value_at below q)

-- a layer over slots
abbrev pub laid : Layer → List (Option Value) → List (Option Value)
laid layer below = seen (find_in layer.values.entries below) layer.cleared.items

-- the layers over a base, the highest first
abbrev pub stacked : List Layer → List (Option Value) → List (Option Value)
stacked [] base = base
stacked (layer ∷ layers) base = laid layer (stacked layers base)

-- what lies below a workspace's own layer
abbrev pub below_of : Layers → List (Option Value)
below_of l = stacked (map (λ layer. layer.now) l.below.items) l.base.now

abbrev pub slots_of : Slots → List (Option Value)
slots_of (Own slots) = slots.items
slots_of (Over l) = laid l.own (below_of l)
