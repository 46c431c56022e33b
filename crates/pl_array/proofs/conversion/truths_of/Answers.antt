-- The cells are truth values.
use Rattle.std.proofs.Common.{Ok, ap, sym, ◌∙◌}
use Rattle.pl_array.specs.declared.class.Class.TheVariants.{Logical}
use Rattle.pl_array.proofs.Combined.{none}
use Rattle.pl_array.proofs.Kept.{converted_cells, truths_array}
use Rattle.pl_array.proofs.conversion.truths_of.Goals as goal

pub new-requires-clause-of_class : goal.new-requires-clause-of_class
new-requires-clause-of_class c = converted_cells Logical c.cells.result.now c.in_ok-cells.cells.items c.in_ok-cells.ensures (none c.cells.result.now)

pub returns : goal.returns
returns c =
    truths_array c.args.a.now c.shape.result c.cells.result.now c.in_ok-cells.cells.items c.shape.ensures.shape c.cells.ensures.cells c.in_ok-cells.ensures ∙ ap Ok (sym c.new.ensures)
