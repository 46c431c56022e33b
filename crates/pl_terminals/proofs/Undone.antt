-- Literals in range and texts in quotes.
use Rattle.std.proofs.Common.{◌≡◌, ℕ, ◌+◌, ◌-◌, ◌*◌, ◌≤◌, min, pos, true, false, List, [], ◌∷◌, refl, ap, ◌∙◌, arith, eq-eqb, leb-true}
use Rattle.pl_lex.specs.Pieces.{in_range, number_from, Inner, plain, doubled, Inside, spelled}
use Rattle.pl_terminals.specs.Terminals.{number_onto, number, unquoted, text, inner_bytes}

-- digits that follow a number that stops at the greatest
onto : (m : ℕ) (cs : List ℕ) → number_onto (min m 9223372036854775807) cs ≡ min (number_from m cs) 9223372036854775807
onto m [] = refl
onto m (c ∷ cs) =
    let e : min (min m 9223372036854775807 * 10 + (c - 48)) 9223372036854775807 ≡ min (m * 10 + (c - 48)) 9223372036854775807 = omega arith in
    ap (λ n. number_onto n cs) e ∙ onto (m * 10 + (c - 48)) cs

pub numbers : (digits : List ℕ) → in_range digits ≡ true → number digits ≡ pos (number_from 0 digits)
numbers digits h =
    let e : number_onto 0 digits ≡ min (number_from 0 digits) 9223372036854775807 = onto 0 digits in
    let k : number_from 0 digits ≤ 9223372036854775807 = leb-true (number_from 0 digits) 9223372036854775807 h in
    let f : min (number_from 0 digits) 9223372036854775807 ≡ number_from 0 digits = omega (arith, k) in
    ap pos (e ∙ f)

unquoted_inner : (q : ℕ) (inner : List Inner) → Inside q inner → unquoted q false (spelled q inner (q ∷ [])) ≡ inner_bytes q inner
unquoted_inner q [] h = rw (eq-eqb q q refl) refl
unquoted_inner q (plain c ∷ more) (a, b, h) = rw a (ap (λ cs. c ∷ cs) (unquoted_inner q more h))
unquoted_inner q (doubled ∷ more) h = rw (eq-eqb q q refl) (ap (λ cs. q ∷ cs) (unquoted_inner q more h))

pub texts : (quote : ℕ) (inner : List Inner) → Inside quote inner → text (quote ∷ spelled quote inner (quote ∷ [])) ≡ inner_bytes quote inner
texts q inner h = unquoted_inner q inner h
