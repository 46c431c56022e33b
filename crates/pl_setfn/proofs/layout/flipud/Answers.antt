-- Each cell of the answer is one of the argument's.
use Rattle.std.proofs.Common.{ℕ, ◌-◌, ◌*◌, ap, sym, ◌∙◌, subst}
use Rattle.std.specs.List.{All}
use Rattle.pl_array.specs.Arrays.{IsCell}
use Rattle.pl_array.specs.Cellwise.{shape_of}
use Rattle.pl_array.specs.declared.class.Class.{Class}
use Rattle.pl_array.specs.declared.class.Shape.{Shape}
use Rattle.pl_setfn.proofs.Laid.{laid_fills}
use Rattle.pl_setfn.proofs.layout.flipud.Goals as goal

pub new-requires-clause-count : goal.new-requires-clause-count
new-requires-clause-count c =
    let a = c.args.a.now in
    (laid_fills a (shape_of a) (λ (i j : ℕ). a.rows - 1 - i) (λ (i j : ℕ). j) c.in_ok-cells.cells.items c.shape.ensures.valid c.in_ok-cells.ensures).count
    ∙ ap (λ (s : Shape). s.rows * s.cols) (sym c.shape.ensures.shape)

pub new-requires-clause-of_class : goal.new-requires-clause-of_class
new-requires-clause-of_class c =
    let a = c.args.a.now in
    subst (λ (k : Class). All (IsCell k) c.in_ok-cells.cells.items) (sym c.class.ensures)
    (laid_fills a (shape_of a) (λ (i j : ℕ). a.rows - 1 - i) (λ (i j : ℕ). j) c.in_ok-cells.cells.items c.shape.ensures.valid c.in_ok-cells.ensures).of_class
