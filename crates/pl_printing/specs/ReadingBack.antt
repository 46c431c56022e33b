-- The law of printing: what a program is printed as is read back as the same program, but for its places.
use Rattle.std.specs.Prelude.{◌≡◌, ℕ, List, [], ◌∷◌}
use Rattle.pl_syntax.specs.declared.stmt.Program.{Program}
use Rattle.pl_grammar.specs.declared.terminal.Terminal.{Terminal}
use Rattle.pl_grammar.specs.Programs.{strict, Parses}
use Rattle.pl_printing.specs.Places.{but_places}
use Rattle.pl_printing.specs.Canonical.{canonical}

-- the same words with the same white space; their places are free
abbrev pub AreAlike : List Terminal → List Terminal → Type 0
AreAlike [] [] = Unit {0}
AreAlike [] (u ∷ us) = ⊥
AreAlike (t ∷ ts) [] = ⊥
AreAlike (t ∷ ts) (u ∷ us) = (t.word ≡ u.word) × (t.gap ≡ u.gap) × AreAlike ts us

-- the terminals are a program that is this one but for places
pub record ReadsAs (limit : ℕ) (terminals : List Terminal) (program : Program) : Type 0 where
  pub again : Program
  pub parses : Parses (strict limit) terminals again
  pub same : but_places again ≡ but_places program

-- each program that some source has is read back from its canonical spelling, at no deeper nesting than that source has
abbrev pub ReadBack : Type 0
ReadBack = (limit : ℕ) (source : List Terminal) (program : Program) → Parses (strict limit) source program → (terminals : List Terminal) → AreAlike terminals (canonical program) → ReadsAs limit terminals program
