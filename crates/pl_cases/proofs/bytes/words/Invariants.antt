-- The words to come stand behind those so far.
use Rattle.std.proofs.Common.{◌≡◌, ◌++◌, drop}
use Rattle.std.specs.Prelude.{filter, not}
use Rattle.pl_cases.specs.Words as spec
use Rattle.pl_words.specs.Words.{is_empty}
use Rattle.pl_cases.proofs.bytes.words.Given as goal

abbrev pub invariant-loop-piece : goal.invariant-loop-piece
invariant-loop-piece l = spec.words_of l.line ≡ l.words ++ filter (λ word. not (is_empty word)) (drop l.piece-index l.piece-items)
