-- One more sum.
use Rattle.std.proofs.Common.{◌≡◌, ◌<◌, ◌*◌, ℤ, List, ◌∷◌, [], ◌++◌, pos, get_or, length, Option, Some, Err, subst, FitsSigned, w64, rules, arith, ap, sym, ◌∙◌}
use Rattle.std.proofs.lemmas.Int.{to_z-of_z}
use Rattle.pl_base.specs.declared.errors.ErrKind.{ErrKind}
use Rattle.pl_base.specs.declared.errors.ErrKind.TheVariants.{Overflow}
use Rattle.pl_array.specs.declared.class.Shape.{Shape}
use Rattle.pl_lines.proofs.Onward.{one_more, one_none, all_counted}
use Rattle.pl_array.specs.declared.class.Class.TheVariants.{Int}
use Rattle.pl_array.specs.Cellwise.{shape_of}
use Rattle.pl_lines.specs.Folding.{unless_refused}
use Rattle.pl_setfn.specs.Along.{running}
use Rattle.pl_setfn.proofs.Running.{next_sum}
use Rattle.pl_setfn.proofs.sums.cumsum.Goals as goal

pub sum_before-before-requires-clause-known : goal.sum_before-before-requires-clause-known
sum_before-before-requires-clause-known c =
    ap length c.as_slice.ensures.value ∙ all_counted (running c.args.mode c.args.d c.args.a.now) c.loop-k.k c.loop-k.sums.items c.loop-k.invariant

pub returns-in-None-clause-err : goal.returns-in-None-clause-err
returns-in-None-clause-err c = λ kind p.
    let a = c.args.a.now in
    let x = get_or c.cells-in-loop-k.result.now c.loop-k.k (pos 0) in
    let y = c.sum_before-before.result in
    let fits_x : FitsSigned w64 x = search rules in
    let fits_y : FitsSigned w64 y = search rules in
    let next = next_sum c.args.mode c.args.d a c.loop-k.k c.shape-s.result c.loop-k.sums.items c.as_slice.result.now c.cells-in-loop-k.result.now y _ _ c.add.result c.shape-s.ensures.shape c.loop-k-test.true c.loop-k.invariant c.as_slice.ensures.value c.cells-in-loop-k.ensures.cells c.sum_before-before.ensures (to_z-of_z w64 y fits_y) (to_z-of_z w64 x fits_x) c.add.ensures in
    let is : Overflow ≡ kind = cc in
    let shape : c.shape-s.result ≡ shape_of a = c.shape-s.ensures.shape in
    let within : c.loop-k.k < a.rows * a.cols = subst (λ (s : Shape). c.loop-k.k < s.rows * s.cols) shape c.loop-k-test.true in
    ap (λ (r : Option (List ℤ)). unless_refused r (λ sums. record { class = Int; rows = a.rows; cols = a.cols; cells = sums }))
    (one_none (running c.args.mode c.args.d a) c.loop-k.k (a.rows * a.cols) within (next ∙ c.in-None.is))
    ∙ ap (λ (k : ErrKind). Err k) is

pub loop-k-preserved : goal.loop-k-preserved
loop-k-preserved c =
    let a = c.args.a.now in
    let x = get_or c.cells-in-loop-k.result.now c.loop-k.k (pos 0) in
    let y = c.sum_before-before.result in
    let fits_x : FitsSigned w64 x = search rules in
    let fits_y : FitsSigned w64 y = search rules in
    let next = next_sum c.args.mode c.args.d a c.loop-k.k c.shape-s.result c.loop-k.sums.items c.as_slice.result.now c.cells-in-loop-k.result.now y _ _ c.add.result c.shape-s.ensures.shape c.loop-k-test.true c.loop-k.invariant c.as_slice.ensures.value c.cells-in-loop-k.ensures.cells c.sum_before-before.ensures (to_z-of_z w64 y fits_y) (to_z-of_z w64 x fits_x) c.add.ensures in
    let z = c.in-Some.sum in
    let fits : FitsSigned w64 z = search rules in
    let more : c.loop-k.sums.items ++ z ∷ [] ≡ c.push.new.self.items = ap (λ (y : ℤ). c.loop-k.sums.items ++ y ∷ []) (sym (to_z-of_z w64 z fits)) ∙ sym c.in_ok-push-in-Some.ensures.items in
    one_more (running c.args.mode c.args.d a) c.loop-k.k c.loop-k.sums.items z c.loop-k.invariant (next ∙ c.in-Some.is) ∙ ap Some more

pub new-requires-clause-count : goal.new-requires-clause-count
new-requires-clause-count c =
    let all = all_counted (running c.args.mode c.args.d c.args.a.now) c.loop-k.k c.loop-k.sums.items c.loop-k.invariant in
    omega (arith, all, c.loop-k-test.false, c.loop-k.auto.k-end)
