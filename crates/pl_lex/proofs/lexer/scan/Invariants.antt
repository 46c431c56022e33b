-- the run goes on from here as from the start
use Rattle.std.proofs.Common.{◌≡◌, ◌≤◌, ◌-◌, drop, length}
use Rattle.pl_lex.specs.Tokens.{mark_len}
use Rattle.pl_lex.specs.Scan.{run, answer}
use Rattle.pl_lex.proofs.lexer.scan.Given as goal

abbrev pub invariant-loop-at : goal.invariant-loop-at
invariant-loop-at l = record {
  goes_on : answer l.source ≡ run l.tokens.items l.before l.at 0 (drop l.at l.source);
  marked : mark_len l.source ≤ l.at;
  within : l.at ≤ length l.source;
  blocks : l.before.blocks ≤ l.at;
}

abbrev pub decreases-loop-at : goal.decreases-loop-at
decreases-loop-at l = length l.source - l.at
