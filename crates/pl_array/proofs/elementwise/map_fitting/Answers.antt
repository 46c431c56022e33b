-- The cells are as many as the shape wants, and of the operator's class.
use Rattle.std.proofs.Common.{subst, sym}
use Rattle.std.specs.List.{All}
use Rattle.pl_array.specs.Arrays.{IsCell}
use Rattle.pl_array.specs.Cellwise.{number}
use Rattle.pl_array.specs.declared.class.Class.{Class}
use Rattle.pl_array.proofs.Combined.{cells_count, cells_class}
use Rattle.pl_array.proofs.elementwise.map_fitting.Goals as goal

pub new-requires-clause-count : goal.new-requires-clause-count
new-requires-clause-count c = cells_count (number c.args.op) c.args.a.now c.args.b.now c.args.s c.in_ok-cells.cells.items c.in_ok-cells.ensures

pub new-requires-clause-of_class : goal.new-requires-clause-of_class
new-requires-clause-of_class c =
    subst (λ (x : Class). All (IsCell x) c.in_ok-cells.cells.items) (sym c.class_of.ensures) (cells_class c.args.op c.args.a.now c.args.b.now c.args.s c.in_ok-cells.cells.items c.in_ok-cells.ensures)
