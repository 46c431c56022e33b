use Rattle.std.proofs.Common.{rules}
use Rattle.pl_io.proofs.Fronts.{front_none}
use Rattle.pl_io.proofs.whole.read_front.Goals as goal

pub loop-piece-init : goal.loop-piece-init
loop-piece-init g c = record {
  room = search rules;
  within = search rules;
  front = front_none _ _ (search rules);
  told = λ name bs e. e;
  kept = search rules;
}
