-- Each cell of the answer is one of the argument's.
use Rattle.std.proofs.Common.{ℕ, ◌%◌, sym, subst}
use Rattle.std.specs.List.{All}
use Rattle.pl_array.specs.Arrays.{IsCell}
use Rattle.pl_array.specs.declared.class.Class.{Class}
use Rattle.pl_setfn.proofs.Laid.{laid_fills}
use Rattle.pl_setfn.proofs.layout.tile_to.Goals as goal

pub new-requires-clause-count : goal.new-requires-clause-count
new-requires-clause-count c =
    let a = c.args.a.now in
    (laid_fills a c.args.s (λ (i j : ℕ). i % a.rows) (λ (i j : ℕ). j % a.cols) c.in_ok-cells.cells.items c.requires.valid c.in_ok-cells.ensures).count

pub new-requires-clause-of_class : goal.new-requires-clause-of_class
new-requires-clause-of_class c =
    let a = c.args.a.now in
    subst (λ (k : Class). All (IsCell k) c.in_ok-cells.cells.items) (sym c.class.ensures)
    (laid_fills a c.args.s (λ (i j : ℕ). i % a.rows) (λ (i j : ℕ). j % a.cols) c.in_ok-cells.cells.items c.requires.valid c.in_ok-cells.ensures).of_class
