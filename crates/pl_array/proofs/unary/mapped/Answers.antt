-- A single number has the answer of any other array, and the cells are of the operator's class.
use Rattle.std.proofs.Common.{ℤ, [], ◌∷◌, FitsSigned, w64, ap, ap₂, sym, ◌∙◌, subst, rules}
use Rattle.std.specs.List.{All}
use Rattle.std.proofs.lemmas.Int.{to_z-of_z}
use Rattle.pl_array.specs.Arrays.{Array, IsCell}
use Rattle.pl_array.specs.Cellwise.{number1}
use Rattle.pl_array.specs.declared.class.Class.{Class}
use Rattle.pl_array.proofs.Combined.{cells_class1}
use Rattle.pl_array.proofs.Singles.{single_mapped}
use Rattle.pl_array.proofs.unary.mapped.Goals as goal

pub returns-in-Some : goal.returns-in-Some
returns-in-Some c =
    let x_fits : FitsSigned w64 c.in-Some.x = search rules in
    let v_fits : FitsSigned w64 c.number_by1.result = search rules in
    let v = to_z-of_z w64 c.number_by1.result v_fits ∙ c.number_by1.ensures ∙ ap (λ (x : ℤ). number1 c.args.op x) (to_z-of_z w64 c.in-Some.x x_fits) in
    c.one.ensures
    ∙ ap₂ (λ (k : Class) (z : ℤ). let a : Array = record { class = k; rows = 1; cols = 1; cells = z ∷ [] } in a) c.class_of1.ensures v
    ∙ single_mapped c.args.op c.args.a.now c.in-Some.x c.shape-shape.ensures.valid (sym c.in-Some.ensures)

pub new-requires-clause-of_class : goal.new-requires-clause-of_class
new-requires-clause-of_class c =
    subst (λ (k : Class). All (IsCell k) c.in_ok-cells.cells.items) (sym c.class_of1-2.ensures) (cells_class1 c.args.op c.cells.result.now c.in_ok-cells.cells.items c.in_ok-cells.ensures)
