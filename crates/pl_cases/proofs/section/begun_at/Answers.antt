use Rattle.pl_cases.specs.Lines.{begun}
use Rattle.pl_cases.proofs.Placed.{gives_at}
use Rattle.pl_cases.proofs.section.begun_at.Goals as goal

pub returns : goal.returns
returns c = rw c.at.ensures (gives_at c.args.number c.begun.result (begun c.args.in_text c.args.line.now) c.begun.ensures)
