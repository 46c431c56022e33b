-- 0, 1 and -1 have their own powers, and those of any other number are too large.
use Rattle.std.proofs.Common.{◌≡◌, ℕ, ℤ, pos, negsuc, FitsSigned, w64, of_z, ap, sym, arith, subst, ◌∙◌}
use Rattle.std.specs.Int.{int_pow}
use Rattle.std.proofs.lemmas.Int.{ints}
use Rattle.pl_base.proofs.Powers.{power_too_large, power_of_zero, power_of_one, even_power, odd_power}
use Rattle.pl_base.proofs.numbers.large_power.Goals as goal

answer : (a b z : ℤ) (e : ℕ) → FitsSigned w64 z → a ≡ b → int_pow b e ≡ z → FitsSigned w64 (int_pow a e) × (z ≡ int_pow a e)
answer a b z e fits is same =
    let all : int_pow a e ≡ z = ap (λ (x : ℤ). int_pow x e) is ∙ same in
    (subst (λ (x : ℤ). FitsSigned w64 x) (sym all) fits, sym all)

pub returns-then-a-eq0 : goal.returns-then-a-eq0
returns-then-a-eq0 c =
    answer c.args.a (pos 0) (pos 0) c.args.e (record { sfits = omega arith }) (omega (arith, ints)) (power_of_zero c.args.e c.requires)

pub returns-then-a-eq1 : goal.returns-then-a-eq1
returns-then-a-eq1 c =
    answer c.args.a (pos 1) (pos 1) c.args.e (record { sfits = omega arith }) (omega (arith, ints)) (power_of_one c.args.e)

pub returns-then-e-eq0 : goal.returns-then-e-eq0
returns-then-e-eq0 c =
    answer c.args.a (negsuc 0) (pos 1) c.args.e (record { sfits = omega arith }) (omega (arith, ints)) (even_power c.args.e c.if-e-eq0.true)

pub returns-else-e-eq0 : goal.returns-else-e-eq0
returns-else-e-eq0 c =
    answer c.args.a (negsuc 0) (negsuc 0) c.args.e (record { sfits = omega arith }) (omega (arith, ints)) (odd_power c.args.e c.if-e-eq0.false)

pub returns : goal.returns
returns c =
    power_too_large c.args.a c.args.e c.requires (λ p. c.if-a-eq0.false (ap (of_z w64) p)) (λ p. c.if-a-eq1.false (ap (of_z w64) p)) (λ p. c.if-a-eqminus1.false (ap (of_z w64) p))
