-- Lists of one length that agree everywhere are equal.
use Rattle.std.proofs.Common.{◌∙◌}
use Rattle.pl_builtin.proofs.Cells.{bytes_are}
use Rattle.pl_builtin.proofs.arguments.has_bytes.Goals as goal

pub returns-then-cells-text : goal.returns-then-cells-text
returns-then-cells-text c = c.agree.ensures ∙ bytes_are c.args.text.now c.args.cells.now c.if-cells-text.true
