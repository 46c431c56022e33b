-- What was read of a file's bytes so far, and what one more read does to it.
use Rattle.std.proofs.Common.{◌≡◌, ℕ, ◌+◌, ◌≤◌, List, [], ◌++◌, length, take, drop, Some, None, IfSome, Result, Ok, Err, refl, ap, sym, ◌∙◌, subst, length-append}
use Rattle.std.specs.declared.option.Option.{Option}
use Rattle.std.proofs.lemmas.List.{length-take-le}
use Rattle.std.proofs.Math.Seq.{take-add}
use Rattle.std.specs.Io.{ReadsAtMost}
use Rattle.pl_io.specs.Told.{IsFront, IsPart, Reads}

front_more : (bs got into : List ℕ) (at n : ℕ) → at ≡ length got → n ≤ length into → take n into ≡ take n (drop at bs) → IsFront bs got → IsFront bs (got ++ take n into)
front_more bs got into at n e le same front =
    let len : length (got ++ take n into) ≡ length got + n = length-append got (take n into) ∙ ap (λ k. length got + k) (length-take-le n into le) in
    let here : take n into ≡ take n (drop (length got) bs) = same ∙ ap (λ k. take n (drop k bs)) e in
    let both : take (length got) bs ++ take n (drop (length got) bs) ≡ got ++ take n into = cc in
    ap (λ k. take k bs) len ∙ (take-add (length got) n bs ∙ both)

-- nothing is a front of anything
pub front_none : (told : Option (List ℕ)) (got : List ℕ) → got ≡ [] → IfSome told (λ bs. IsFront bs got)
front_none None got e = tt
front_none (Some bs) got e = subst (λ v. IsFront bs v) (sym e) refl

-- one read behind what was read leaves a front
fronts_more : (told : Option (List ℕ)) (got new into : List ℕ) (at n : ℕ) → at ≡ length got → n ≤ length into → new ≡ got ++ take n into → IfSome told (λ bs. IsPart bs at n into) → IfSome told (λ bs. IsFront bs got → IsFront bs new)
fronts_more None got new into at n e le is part = tt
fronts_more (Some bs) got new into at n e le is part = λ front. subst (λ v. IsFront bs v) (sym is) (front_more bs got into at n e le part.same front)

-- the same, of the answer that the read gave
pub read_more : {E : Type 0} (told : Option (List ℕ)) (got new into : List ℕ) (at n : ℕ) (result : Result ℕ E) → result ≡ Ok n → at ≡ length got → ReadsAtMost result into → new ≡ got ++ take n into → Reads told at result into → IfSome told (λ bs. IsFront bs got → IsFront bs new)
read_more told got new into at n (Ok m) e here bound is part =
    let same : m ≡ n = cc in
    fronts_more told got new into at n here (subst (λ k. k ≤ length into) same bound.0) is (subst (λ k. IfSome told (λ bs. IsPart bs at k into)) same part)
read_more told got new into at n (Err x) e here bound is part = cc
