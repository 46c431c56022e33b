-- The lines of the notes that don't depend on the script.
use Rattle.std.specs.Prelude.{ℕ, List, [], ◌∷◌, ◌++◌, codes}

abbrev pub usage_line : List ℕ
usage_line = codes "parlab: usage: run FILE [--workers N] [--turns N] [--trace], check FILE, replay FILE JOURNAL, demo N\n"

abbrev pub cannot_read_line : List ℕ → List ℕ
cannot_read_line name = codes "parlab: cannot read " ++ name ++ 10 ∷ []

abbrev pub too_long_line : List ℕ
too_long_line = codes "parlab: source too long\n"
