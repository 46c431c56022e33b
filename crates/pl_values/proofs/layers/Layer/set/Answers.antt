use Rattle.std.proofs.Common.{ap, ◌∙◌, nat_eq}
use Rattle.std.specs.Map.{lookup}
use Rattle.pl_values.proofs.Seen.{set_laid}
use Rattle.pl_values.proofs.layers.Layer.set.Goals as goal

pub returns-clause-ok : goal.returns-clause-ok
returns-clause-ok c = set_laid c.args.self.now c.mark.new.self c.args.slot c.args.value (λ q e. ap (λ m. lookup (nat_eq q) m.entries) c.mark.ensures.values ∙ c.in_ok-old.ensures.updates.2 q e) (ap (λ m. lookup (nat_eq c.args.slot) m.entries) c.mark.ensures.values ∙ c.in_ok-old.ensures.updates.1) c.mark.ensures.cleared
