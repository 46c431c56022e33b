use Rattle.std.proofs.Common.{ap, ◌∙◌, nat_eq}
use Rattle.std.specs.Map.{lookup}
use Rattle.pl_values.proofs.Seen.{clear_laid}
use Rattle.pl_values.proofs.layers.Layer.empty.Goals as goal

pub returns-clause-rest : goal.returns-clause-rest
returns-clause-rest c = clear_laid c.args.self.now c.mark.new.self c.args.slot (λ q e. ap (λ m. lookup (nat_eq q) m.entries) c.mark.ensures.values ∙ c.swap_remove-old.ensures.updates.2 q e) c.mark.ensures.cleared
