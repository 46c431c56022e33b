-- The cells at the places of the best ones are the best ones.
use Rattle.std.proofs.Common.{Ok, ap, sym, ◌∙◌}
use Rattle.pl_builtin.proofs.Places.{cells_read}
use Rattle.pl_builtin.proofs.extremes.cells_at.Goals as goal

pub returns : goal.returns
returns c =
    cells_read c.args.which c.args.a.now c.args.places.now c.shape.result c.cells.result.now c.in_ok-cells.cells.items c.requires c.shape.ensures.shape c.cells.ensures.cells c.in_ok-cells.ensures ∙ ap Ok (sym c.new.ensures)
