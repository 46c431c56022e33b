-- One more cell for each line.
use Rattle.std.proofs.Common.{ℕ, ℤ, pos, List, FitsSigned, w64, rules, get_or, ap, ap₂, ◌∙◌}
use Rattle.std.proofs.lemmas.Int.{to_z-of_z}
use Rattle.pl_array.specs.Cellwise.{shape_of}
use Rattle.pl_array.specs.declared.class.Shape.{Shape}
use Rattle.pl_lines.specs.Lines.{default_dim, line_count, line}
use Rattle.pl_lines.specs.declared.dim.Dim.{Dim}
use Rattle.pl_builtin.specs.Along.{cell_of}
use Rattle.pl_builtin.proofs.Places.{one_more, all_done}
use Rattle.pl_builtin.proofs.extremes.read_each.Goals as goal

pub loop-i-preserved : goal.loop-i-preserved
loop-i-preserved c =
    let a = c.args.a.now in
    let f = λ (i : ℕ). cell_of (line (default_dim (shape_of a)) a i) (get_or c.args.places.now i (pos 0)) in
    let fits : FitsSigned w64 c.read_at.result = search rules in
    let value = to_z-of_z w64 c.read_at.result fits ∙ c.read_at.ensures ∙ ap (λ (cells : List ℤ). cell_of cells (get_or c.args.places.now c.loop-i.i (pos 0))) c.line_cells.ensures in
    c.in_ok-push.ensures.items ∙ one_more f c.loop-i.i c.loop-i.cells.items _ c.loop-i.invariant value

pub returns : goal.returns
returns c =
    let a = c.args.a.now in
    let f = λ (i : ℕ). cell_of (line (default_dim (shape_of a)) a i) (get_or c.args.places.now i (pos 0)) in
    let shape = c.shape-s.ensures.shape in
    let dim = c.default_dim.ensures ∙ ap (λ (s : Shape). default_dim s) shape in
    let count = c.line_count-count.ensures ∙ ap₂ (λ (d : Dim) (s : Shape). line_count d s) dim shape in
    all_done f c.loop-i.i c.line_count-count.result _ c.loop-i.cells.items c.loop-i.invariant c.loop-i-test.false c.loop-i.auto.i-end count
