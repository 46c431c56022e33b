-- The words of the command line.
use Rattle.std.specs.Prelude.{ℕ, nat_le, Bool, false, not, ◌&&◌, ◌==◌, if◌then◌else◌, Option, Some, None, option_map, option_and_then, unwrap_or, List, [], ◌∷◌, length, codes}
use Rattle.pl_words.specs.Words.{same, number_within}
use Rattle.pl_session.specs.declared.words.Options.{Options}

-- a file's name isn't empty and doesn't begin with `-`
abbrev pub is_name : List ℕ → Bool
is_name [] = false
is_name (c ∷ cs) = not (c == 45)

-- a number in a range, of at most ten digits
abbrev pub number_of : ℕ → ℕ → List ℕ → Option ℕ
number_of least most word = if nat_le (length word) 10 then number_within least most word else None

-- an option stands once at most
abbrev pub with_workers : Options → Option ℕ → List ℕ → Option Options
with_workers o (Some n) word = None
with_workers o None word = option_map (λ n. record o { workers = Some n }) (number_of 1 64 word)

abbrev pub with_turns : Options → Option ℕ → List ℕ → Option Options
with_turns o (Some n) word = None
with_turns o None word = option_map (λ n. record o { turns = Some n }) (number_of 1 1000000000 word)

-- an option's word, and the word behind it
abbrev pub with_option : Options → List ℕ → List ℕ → Option Options
with_option o word value =
    if same (codes "--workers") word then with_workers o o.workers value else
    if same (codes "--turns") word then with_turns o o.turns value else None

abbrev pub options_from : Options → List (List ℕ) → Option Options
options_from o [] = Some o
options_from o (word ∷ []) = None
options_from o (word ∷ value ∷ more) = option_and_then (λ p. options_from p more) (with_option o word value)

abbrev pub no_options : Options
no_options = record { workers = None; turns = None }

-- what is to be run: a file, with so many workers, and so many turns for each activity
pub record Command : Type 0 where
  pub name : List ℕ
  pub workers : ℕ
  pub turns : ℕ

-- what holds where nothing is said
abbrev pub default_workers : ℕ
default_workers = 4

abbrev pub default_turns : ℕ
default_turns = 100000000

abbrev pub command_with : List ℕ → Options → Command
command_with name o = record { name = name; workers = unwrap_or o.workers default_workers; turns = unwrap_or o.turns default_turns }

-- the command that the words are, `run FILE` with its options; none where they are anything else
abbrev pub command_of : List (List ℕ) → Option Command
command_of [] = None
command_of (command ∷ []) = None
command_of (command ∷ name ∷ more) = if same (codes "run") command && is_name name then option_map (command_with name) (options_from no_options more) else None
