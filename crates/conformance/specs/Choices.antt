-- The choices of a run as lines.
use Rattle.std.specs.Prelude.{ℕ, List, [], ◌∷◌, ◌++◌, codes, decimal}
use Rattle.std.specs.Fmt.{signed_decimal}
use Rattle.pl_base.specs.declared.choice.Choice.{Choice}
use Rattle.pl_base.specs.declared.choice.Choice.TheVariants.{Runs, Fail, Merge}

-- the lengths of a run's pieces, with this sign before the first and `+` before each other
abbrev pub pieces_text : ℕ → List ℕ → List ℕ
pieces_text sign [] = []
pieces_text sign (n ∷ ns) = (sign ∷ decimal n) ++ pieces_text 43 ns

-- each run behind a blank
abbrev pub runs_text : List (List ℕ) → List ℕ
runs_text [] = []
runs_text (run ∷ runs) = pieces_text 32 run ++ runs_text runs

abbrev pub choice_text : Choice → List ℕ
choice_text (Runs bracket) = codes "loop" ++ runs_text bracket.runs
choice_text (Fail i) = codes "fail " ++ signed_decimal i
choice_text (Merge name) = codes "merge " ++ name
choice_text _ = codes "another"

-- a line for each choice, in their order
abbrev pub choice_lines : List Choice → List ℕ
choice_lines [] = []
choice_lines (choice ∷ choices) = (choice_text choice ++ 10 ∷ []) ++ choice_lines choices
