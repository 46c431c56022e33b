use Rattle.std.proofs.Common.{◌≡◌, drop}
use Rattle.pl_states.specs.Titles.{has_function}
use Rattle.pl_states.proofs.titles.has_function.Given as goal

-- none so far has the name
abbrev pub invariant-loop-function : goal.invariant-loop-function
invariant-loop-function l = has_function l.text (drop l.function-index l.function-items) ≡ has_function l.text l.function-items
