-- Two single numbers have the answer of any other two arrays.
use Rattle.std.proofs.Common.{◌≡◌, ℤ, Result, Ok, IfOk, FitsSigned, w64, to_z, of_z, ap₂, sym, ◌∙◌, subst, rules}
use Rattle.std.proofs.lemmas.Int.{to_z-of_z}
use Rattle.pl_base.specs.declared.errors.ErrKind.{ErrKind}
use Rattle.pl_array.specs.Arrays.{Array}
use Rattle.pl_array.specs.Cellwise.{single_by, map2_of}
use Rattle.pl_array.proofs.Singles.{single_answer}
use Rattle.pl_array.proofs.elementwise.map2_in.Goals as goal

same : (c : goal.After-map_single) → single_by c.args.mode c.args.op (to_z w64 (of_z w64 c.in-Some.x)) (to_z w64 (of_z w64 c.in-Some-single.y)) ≡ map2_of c.args.mode c.args.op c.args.a.now c.args.b.now
same c =
    let x = c.in-Some.x in
    let y = c.in-Some-single.y in
    let x_fits : FitsSigned w64 c.in-Some.x = search rules in
    let y_fits : FitsSigned w64 c.in-Some-single.y = search rules in
    ap₂ (λ (v w : ℤ). single_by c.args.mode c.args.op v w) (to_z-of_z w64 x x_fits) (to_z-of_z w64 y y_fits)
    ∙ single_answer c.args.mode c.args.op c.args.a.now c.args.b.now x y (sym c.in-Some.ensures) (sym c.in-Some-single.ensures)

pub returns-clause-ok : goal.returns-clause-ok
returns-clause-ok c = subst (λ (r : Result Array ErrKind). IfOk c.map_single.result (λ o. r ≡ Ok o)) (same c) c.map_single.ensures.ok

pub returns-clause-err : goal.returns-clause-err
returns-clause-err c = λ kind p. sym (same c) ∙ c.map_single.ensures.err kind p
