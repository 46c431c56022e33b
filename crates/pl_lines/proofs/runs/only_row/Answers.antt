-- All cells are those of the row.
use Rattle.std.proofs.Common.{◌∙◌}
use Rattle.pl_lines.proofs.Standing.{row_is}
use Rattle.pl_lines.proofs.runs.only_row.Goals as goal

pub returns : goal.returns
returns c = c.cells.ensures.cells ∙ row_is c.args.a.now c.args.i c.cells.ensures.valid c.requires.one c.requires.index
