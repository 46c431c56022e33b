-- The lines of a text, and the first in which two differ.
use Rattle.std.specs.Prelude.{◌≡◌, ℕ, ◌==◌, if◌then◌else◌, Option, None, Some, MatchOption, List, [], ◌∷◌, slice_get}
use Rattle.std.specs.Borrow.{Bor}
use Rattle.std.specs.List.{common_prefix_len, onto_first}
use Rattle.pl_words.specs.Words.{same}

-- the lines of a text, each with its end, which is a LF; a last one may have none
abbrev pub lines_of : List ℕ → List (List ℕ)
lines_of [] = []
lines_of (c ∷ cs) = if c == 10 then (c ∷ []) ∷ lines_of cs else onto_first c (lines_of cs)

-- so many lines of two texts are alike before the first that differs
abbrev pub alike : List ℕ → List ℕ → ℕ
alike wanted got = common_prefix_len same (lines_of wanted) (lines_of got)

-- the line of a text behind so many, if there is one
abbrev pub IsLineAt : List ℕ → ℕ → Option (Bor (List ℕ)) → Type 0
IsLineAt text n line = MatchOption line (slice_get (lines_of text) n ≡ None) (λ bytes. slice_get (lines_of text) n ≡ Some bytes.now)
