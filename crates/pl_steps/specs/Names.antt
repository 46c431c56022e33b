-- The names with dots.
use Rattle.std.specs.Prelude.{ℕ, List}
use Rattle.pl_grammar.specs.Words as words
use Rattle.pl_steps.specs.declared.names.Dots.{Dots}
use Rattle.pl_steps.specs.declared.names.Dots.TheVariants as v

abbrev pub dots_of : words.Dots → Dots
dots_of words.whole = v.Whole
dots_of words.stem = v.Stem
dots_of words.neither = v.Neither

abbrev pub dots : List ℕ → Dots
dots text = dots_of (words.dots text)
