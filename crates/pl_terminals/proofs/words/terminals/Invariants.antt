use Rattle.std.proofs.Common.{◌≡◌, take, map}
use Rattle.pl_terminals.specs.Terminals.{terminal_of, StandsIn}
use Rattle.pl_terminals.proofs.words.terminals.Given as goal

-- the terminals of the tokens so far, and a place of the source
abbrev pub invariant-loop-token : goal.invariant-loop-token
invariant-loop-token l = record {
  told : l.terminals.items ≡ map (terminal_of l.source) (take l.token-index l.tokens);
  known : StandsIn l.source l.place;
}
