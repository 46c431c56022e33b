use Rattle.std.proofs.Common.{ap, nat_eq}
use Rattle.std.specs.Map.{lookup}
use Rattle.pl_values.proofs.Seen.{clear_laid}
use Rattle.pl_values.proofs.layers.Layer.hide.Goals as goal

pub returns : goal.returns
returns c = clear_laid c.args.self.now c.mark.new.self c.args.slot (λ q e. ap (λ m. lookup (nat_eq q) m.entries) c.mark.ensures.values) c.mark.ensures.cleared
