-- Each of the command lines so far left what is wanted.
use Rattle.std.proofs.Common.{true, take}
use Rattle.std.specs.Prelude.{All}
use Rattle.conformance.specs.Judged.{IsRunJudged}
use Rattle.conformance.proofs.report.run_case.Given as goal

abbrev pub invariant-loop-words : goal.invariant-loop-words
invariant-loop-words g l = All (λ words. IsRunJudged l.case words.items true) (take l.words-index l.words-items)
