-- Which terminals are a program, and what a fault of the grammar is. No parser is spoken of: a fault stands at
-- the first terminal such that no program begins with the terminals up to it.
use Rattle.std.specs.Prelude.{◌≡◌, ℕ, suc, ◌-◌, ◌<◌, ◌≤◌, Bool, true, false, if◌then◌else◌, List, [], ◌∷◌, ◌++◌, length, take, drop}
use Rattle.std.specs.List.{list_any}
use Rattle.pl_syntax.specs.declared.stmt.Program.{Program}
use Rattle.pl_grammar.specs.declared.fault.FaultKind.{FaultKind}
use Rattle.pl_grammar.specs.declared.fault.FaultKind.TheVariants.{Unexpected, MissingEnd, TooDeep, FunctionTwice}
use Rattle.pl_grammar.specs.declared.terminal.Terminal.{Terminal}
use Rattle.pl_grammar.specs.declared.terminal.Word.{Word}
use Rattle.pl_grammar.specs.declared.terminal.Word.TheVariants as w
use Rattle.pl_grammar.specs.declared.terminal.Keyword.TheVariants as k
use Rattle.pl_grammar.specs.Derivations.{Prog}
use Rattle.pl_grammar.specs.Spelling.{prog}
use Rattle.pl_grammar.specs.Trees.{program_of}
use Rattle.pl_grammar.specs.Nesting.{prog_height}
use Rattle.pl_grammar.specs.Sound.{SoundProg}

-- how deep a program may nest, and whether two of its functions may have one name
pub record Rules : Type 0 where
  pub limit : ℕ
  pub twice : Bool

-- those of the language, for this nesting
abbrev pub strict : ℕ → Rules
strict limit = record { limit = limit; twice = false }

-- the terminals are this program
pub record Parses (r : Rules) (terminals : List Terminal) (program : Program) : Type 0 where
  pub rules : Prog
  pub spelled : prog rules ≡ terminals
  pub means : program_of rules ≡ program
  pub sound : SoundProg r.twice rules
  pub nested : prog_height rules ≤ r.limit

-- some program begins with these terminals
pub record Begins (r : Rules) (terminals : List Terminal) : Type 0 where
  pub more : List Terminal
  pub program : Program
  pub parses : Parses r (terminals ++ more) program

abbrev pub is_end_word : Word → Bool
is_end_word (w.Key k.End) = true
is_end_word word = false

-- a word `end` is among them
abbrev pub has_end : List Terminal → Bool
has_end ts = list_any (λ t. is_end_word t.word) ts

-- each program that begins so has a further `end`
abbrev pub WantsEnd : Rules → List Terminal → Type 0
WantsEnd r terminals = (more : List Terminal) (program : Program) → Parses r (terminals ++ more) program → has_end more ≡ true

-- some program begins so, and has no further `end`
pub record EndsSo (r : Rules) (terminals : List Terminal) : Type 0 where
  pub more : List Terminal
  pub program : Program
  pub parses : Parses r (terminals ++ more) program
  pub endless : has_end more ≡ false

-- why no program begins with one terminal more than so many: with more room one would, with a name that stands
-- twice one would, or none would; or the terminals are at their end, and an `end` is wanting or is not
abbrev pub Explains : ℕ → FaultKind → List Terminal → ℕ → Type 0
Explains limit TooDeep terminals at = (at < length terminals) × ((more : ℕ) × Begins (strict more) (take (suc at) terminals))
Explains limit FunctionTwice terminals at = (at < length terminals) × Begins (record { limit = limit; twice = true }) (take (suc at) terminals)
Explains limit MissingEnd terminals at = (at ≡ length terminals) × WantsEnd (strict limit) terminals
Explains limit Unexpected terminals at =
    (at < length terminals → (more : ℕ) → Begins (record { limit = more; twice = true }) (take (suc at) terminals) → ⊥)
    × (at ≡ length terminals → EndsSo (strict limit) terminals)

-- the fault of the terminals: its kind, and how many terminals stand before the first that no program has there
pub record ParseFault (limit : ℕ) (terminals : List Terminal) (at : ℕ) (kind : FaultKind) : Type 0 where
  pub within : at ≤ length terminals
  pub begun : Begins (strict limit) (take at terminals)
  pub stopped : at < length terminals → Begins (strict limit) (take (suc at) terminals) → ⊥
  pub unfinished : (program : Program) → Parses (strict limit) terminals program → ⊥
  pub why : Explains limit kind terminals at

abbrev pub begins_with_name : List Terminal → Bool
begins_with_name [] = false
begins_with_name (t ∷ ts) = is_name_word t.word
  where
    is_name_word : Word → Bool
    is_name_word (w.Name text) = true
    is_name_word word = false

-- how many terminals stand before the one that a fault is shown at: a name that stands twice is known to be the
-- function's where it is read, or one terminal later
abbrev pub shown_at : FaultKind → List Terminal → ℕ → ℕ
shown_at FunctionTwice terminals at = if begins_with_name (drop at terminals) then at else at - 1
shown_at kind terminals at = at
