-- How the places that go are noted.
use Rattle.std.specs.Prelude.{ℕ, Bool, true, List, [], ◌∷◌, slice_set}

-- the marks after each of these places was marked
abbrev pub marked : List Bool → List ℕ → List Bool
marked marks [] = marks
marked marks (place ∷ places) = marked (slice_set marks place true) places
