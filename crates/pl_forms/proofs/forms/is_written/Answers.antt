use Rattle.std.proofs.Common.{◌∙◌, ap, List, ℕ}
use Rattle.pl_meaning.specs.Parts.{written_in}
use Rattle.pl_forms.proofs.Distinct.{any, among_distinct}
use Rattle.pl_forms.proofs.forms.is_written.Goals as goal

pub returns : goal.returns
returns c =
    c.contains.ensures
    ∙ ap (λ (ks : List (List ℕ)). any c.args.n.now.text ks) c.args.body.now.names
    ∙ among_distinct c.args.n.now (written_in c.args.body.now.items.now)
