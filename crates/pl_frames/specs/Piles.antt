-- A stack as the list of its elements, the one on top first.
use Rattle.std.specs.Prelude.{Bool, true, false, Option, Some, None, List, [], ◌∷◌}

abbrev pub top : {X : Type 0} → List X → Option X
top [] = None
top (x ∷ xs) = Some x

abbrev pub is_empty : {X : Type 0} → List X → Bool
is_empty [] = true
is_empty (x ∷ xs) = false
