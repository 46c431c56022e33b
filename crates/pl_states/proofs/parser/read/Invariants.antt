use Rattle.std.proofs.Common.{◌≡◌, drop}
use Rattle.pl_states.specs.Run.{run, beginning}
use Rattle.pl_states.proofs.parser.read.Given as goal

-- the terminals that are left come to what all come to
abbrev pub invariant-loop-at : goal.invariant-loop-at
invariant-loop-at l = run l.state (drop l.at l.terminals) ≡ run beginning l.terminals
