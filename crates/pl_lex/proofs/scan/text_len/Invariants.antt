-- what is left has the closing quote that is far enough behind
use Rattle.std.proofs.Common.{◌≡◌, ℕ, ◌+◌, drop, false}
use Rattle.std.specs.Prelude.{option_map}
use Rattle.pl_lex.specs.Scan.{text_len}
use Rattle.pl_lex.proofs.scan.text_len.Given as goal

abbrev pub invariant-loop-at : goal.invariant-loop-at
invariant-loop-at l = option_map (λ (n : ℕ). l.at + n) (text_len l.quote l.twice (drop l.at l.text)) ≡ text_len l.quote false l.text
