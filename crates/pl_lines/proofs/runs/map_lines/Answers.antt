-- One more value for each line.
use Rattle.std.proofs.Common.{ℕ, FitsSigned, w64, rules, ap, ap₂, ◌∙◌}
use Rattle.std.proofs.lemmas.Int.{to_z-of_z}
use Rattle.pl_array.specs.Cellwise.{shape_of}
use Rattle.pl_array.specs.declared.class.Shape.{Shape}
use Rattle.pl_lines.specs.Lines.{default_dim, line_count, line}
use Rattle.pl_lines.specs.declared.dim.Dim.{Dim}
use Rattle.pl_lines.proofs.Mapped.{value_more, each_line}
use Rattle.pl_lines.proofs.runs.map_lines.Goals as goal

pub loop-i-preserved : goal.loop-i-preserved
loop-i-preserved g c =
    let a = c.args.a.now in
    let f = λ (i : ℕ). g.R.LineRule.value c.args.rule.now (line (default_dim (shape_of a)) a i) in
    let fits : FitsSigned w64 c.value.result = search rules in
    let value = to_z-of_z w64 c.value.result fits ∙ c.value.ensures ∙ ap (g.R.LineRule.value c.args.rule.now) c.line_cells.ensures in
    c.in_ok-push.ensures.items ∙ value_more f c.loop-i.i c.loop-i.values.items _ c.loop-i.invariant value

pub returns : goal.returns
returns g c =
    let a = c.args.a.now in
    let shape = c.shape-s.ensures.shape in
    let dim = c.default_dim.ensures ∙ ap (λ (s : Shape). default_dim s) shape in
    let count = c.line_count-count.ensures ∙ ap₂ (λ (d : Dim) (s : Shape). line_count d s) dim shape in
    c.loop-i.invariant ∙ each_line (g.R.LineRule.value c.args.rule.now) (default_dim (shape_of a)) a c.loop-i.i c.line_count-count.result c.loop-i-test.false c.loop-i.auto.i-end count
