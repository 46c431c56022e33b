use Rattle.pl_cases.specs.Drafts.{said}
use Rattle.pl_cases.proofs.Placed.{leaves_at}
use Rattle.pl_cases.proofs.group.add_at.Goals as goal

pub returns : goal.returns
returns c = rw c.at.ensures (leaves_at c.args.section.now.line c.add.result c.add.new.self (said c.args.draft.now c.args.section.now.text c.args.section.now.head) c.add.ensures)
