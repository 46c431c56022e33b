use Rattle.pl_values.specs.Inner.{below_of}
use Rattle.pl_values.proofs.Seen.{length_laid}
use Rattle.pl_values.proofs.layers.Layers.len.Goals as goal

pub returns : goal.returns
returns c = search (c.len.ensures, length_laid c.args.self.now.own (below_of c.args.self.now))
