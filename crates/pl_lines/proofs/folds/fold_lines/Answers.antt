-- One more fold for each line.
use Rattle.std.proofs.Common.{◌≡◌, ◌<◌, ℤ, List, ◌∷◌, [], ◌++◌, Some, Ok, Err, FitsSigned, w64, to_z, of_z, rules, arith, ap, sym, ◌∙◌, subst}
use Rattle.std.specs.List.{All}
use Rattle.std.proofs.lemmas.Int.{to_z-of_z}
use Rattle.std.proofs.lemmas.List.Elements.{All-push}
use Rattle.pl_base.specs.declared.errors.ErrKind.{ErrKind}
use Rattle.pl_base.specs.declared.errors.ErrKind.TheVariants.{Overflow}
use Rattle.pl_array.specs.Arrays.{IsCell}
use Rattle.pl_array.specs.Cellwise.{shape_of}
use Rattle.pl_array.specs.declared.class.Shape.{Shape}
use Rattle.pl_lines.specs.Lines.{line_count, line}
use Rattle.pl_lines.specs.Folding.{folded}
use Rattle.pl_lines.proofs.Onward.{one_more, all_counted, refused_line, all_folded, one_each, one_a_line_is}
use Rattle.pl_lines.proofs.folds.fold_lines.Goals as goal

pub returns-in-None-clause-err : goal.returns-in-None-clause-err
returns-in-None-clause-err g c = λ kind p.
    let a = c.args.a.now in
    let f = c.args.fold.now in
    let is : Overflow ≡ kind = cc in
    let count : c.line_count-count.result ≡ line_count c.args.d (shape_of a) = c.line_count-count.ensures ∙ ap (λ (s : Shape). line_count c.args.d s) c.shape-s.ensures.shape in
    let within : c.loop-i.i < line_count c.args.d (shape_of a) = omega (arith, c.loop-i-test.true) in
    refused_line (g.F.Fold.class f) (g.F.Fold.step f) (g.F.Fold.start f) c.args.d a c.loop-i.i within (sym c.fold_line.ensures.value ∙ c.in-None.is) ∙ ap (λ (k : ErrKind). Err k) is

pub loop-i-preserved : goal.loop-i-preserved
loop-i-preserved g c =
    let a = c.args.a.now in
    let f = c.args.fold.now in
    let y = c.in-Some.value in
    let fits : FitsSigned w64 y = search rules in
    let kept : y ≡ to_z w64 (of_z w64 y) = sym (to_z-of_z w64 y fits) in
    let is : folded (g.F.Fold.step f) (g.F.Fold.start f) (line c.args.d a c.loop-i.i) ≡ Some y = sym c.fold_line.ensures.value ∙ c.in-Some.is in
    let more : c.loop-i.values.items ++ y ∷ [] ≡ c.push.new.self.items = ap (λ (z : ℤ). c.loop-i.values.items ++ z ∷ []) kept ∙ sym c.in_ok-push-in-Some.ensures.items in (
      one_more (λ k. folded (g.F.Fold.step f) (g.F.Fold.start f) (line c.args.d a k)) c.loop-i.i c.loop-i.values.items y c.loop-i.invariant.0 is ∙ ap Some more,
      subst (λ (zs : List ℤ). All (IsCell (g.F.Fold.class f)) zs) more (All-push (IsCell (g.F.Fold.class f)) c.loop-i.values.items y c.loop-i.invariant.1 c.in-Some.ensures.cell),
    )

pub new-requires-clause-count : goal.new-requires-clause-count
new-requires-clause-count g c =
    let a = c.args.a.now in
    let f = c.args.fold.now in
    let count : c.line_count-count.result ≡ line_count c.args.d (shape_of a) = c.line_count-count.ensures ∙ ap (λ (s : Shape). line_count c.args.d s) c.shape-s.ensures.shape in
    let all = all_counted (λ k. folded (g.F.Fold.step f) (g.F.Fold.start f) (line c.args.d a k)) c.loop-i.i c.loop-i.values.items c.loop-i.invariant.0 in
    let same : c.loop-i.i ≡ line_count c.args.d (shape_of a) = omega (arith, c.loop-i-test.false, c.loop-i.auto.i-end) in
    all ∙ same ∙ one_each c.args.d (shape_of a) c.shape-s.result c.with_extent.result c.shape-s.ensures.shape c.with_extent.ensures

pub returns-clause-ok : goal.returns-clause-ok
returns-clause-ok g c =
    let a = c.args.a.now in
    let f = c.args.fold.now in
    let count : c.line_count-count.result ≡ line_count c.args.d (shape_of a) = c.line_count-count.ensures ∙ ap (λ (s : Shape). line_count c.args.d s) c.shape-s.ensures.shape in
    all_folded (g.F.Fold.class f) (g.F.Fold.step f) (g.F.Fold.start f) c.args.d a c.loop-i.i c.line_count-count.result c.loop-i.values.items c.loop-i-test.false c.loop-i.auto.i-end count c.loop-i.invariant.0
    ∙ ap Ok (sym (c.new.ensures ∙ one_a_line_is (g.F.Fold.class f) c.class.result c.args.d (shape_of a) c.shape-s.result c.with_extent.result c.loop-i.values.items c.class.ensures c.shape-s.ensures.shape c.with_extent.ensures))
