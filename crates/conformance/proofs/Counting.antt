-- Laws of judgements and their counts.
use Rattle.std.proofs.Common.{◌≡◌, ◌<◌, Bool, true, false, List, [], ◌∷◌, ◌++◌, length, refl, ap, sym, ◌∙◌, append-nil, append_assoc, arith}
use Rattle.std.specs.Prelude.{All}
use Rattle.std.specs.List.{AllZip}
use Rattle.std.proofs.lemmas.List.Elements.{All-nil, All-cons, All-head, All-tail}
use Rattle.conformance.specs.declared.report.Tally.{Tally}
use Rattle.pl_io.specs.Counted.{counted}
use Rattle.conformance.specs.Judged.{joined, tallied, IsSuccess}

pub zip_push : {X Y : Type 0} (R : X → Y → Type 0) (xs : List X) (ys : List Y) (x : X) (y : Y) → AllZip R xs ys → R x y → AllZip R (xs ++ x ∷ []) (ys ++ y ∷ [])
zip_push R [] [] x y zip r = (r, tt)
zip_push R [] (b ∷ ys) x y zip r = absurd zip
zip_push R (a ∷ xs) [] x y zip r = absurd zip
zip_push R (a ∷ xs) (b ∷ ys) x y zip r = (zip.0, zip_push R xs ys x y zip.1 r)

pub tallied_append : (t : Tally) (xs ys : List Bool) → tallied t (xs ++ ys) ≡ tallied (tallied t xs) ys
tallied_append t [] ys = refl
tallied_append t (true ∷ xs) ys = tallied_append (record t { passed = counted t.passed }) xs ys
tallied_append t (false ∷ xs) ys = tallied_append (record t { failed = counted t.failed }) xs ys

pub joined_push : (xs : List (List Bool)) (y : List Bool) → joined (xs ++ y ∷ []) ≡ joined xs ++ y
joined_push [] y = append-nil y
joined_push (x ∷ xs) y = ap (λ rest. x ++ rest) (joined_push xs y) ∙ sym (append_assoc x (joined xs) y)

passes_on : (t : Tally) (js : List Bool) → 0 < t.passed → 0 < (tallied t js).passed
passes_on t [] some = some
passes_on t (true ∷ js) some = passes_on (record t { passed = counted t.passed }) js (omega arith)
passes_on t (false ∷ js) some = passes_on (record t { failed = counted t.failed }) js some

fails_on : (t : Tally) (js : List Bool) → 0 < t.failed → 0 < (tallied t js).failed
fails_on t [] some = some
fails_on t (true ∷ js) some = fails_on (record t { passed = counted t.passed }) js some
fails_on t (false ∷ js) some = fails_on (record t { failed = counted t.failed }) js (omega arith)

none_failed : (t : Tally) (js : List Bool) → (tallied t js).failed ≡ 0 → All (λ p. p ≡ true) js
none_failed t [] none = All-nil (λ p. p ≡ true)
none_failed t (true ∷ js) none = All-cons (λ p. p ≡ true) true js refl (none_failed (record t { passed = counted t.passed }) js none)
none_failed t (false ∷ js) none =
    let more : 0 < (tallied (record t { failed = counted t.failed }) js).failed = fails_on (record t { failed = counted t.failed }) js (omega arith) in
    absurd (omega arith)

no_failure : (t : Tally) (js : List Bool) → t.failed ≡ 0 → All (λ p. p ≡ true) js → (tallied t js).failed ≡ 0
no_failure t [] none all = none
no_failure t (true ∷ js) none all = no_failure (record t { passed = counted t.passed }) js none (All-tail (λ p. p ≡ true) true js all)
no_failure t (false ∷ js) none all = let wrong : false ≡ true = All-head (λ p. p ≡ true) false js all in grind arith

abbrev pub none : Tally
none = record { passed = 0; failed = 0 }

some_passed : (js : List Bool) → IsSuccess js → 0 < (tallied none js).passed
some_passed [] all = all.some
some_passed (true ∷ js) all = passes_on (record none { passed = counted 0 }) js (omega arith)
some_passed (false ∷ js) all = let wrong : false ≡ true = All-head (λ p. p ≡ true) false js all.none_failed in grind arith

some_judged : (js : List Bool) → 0 < (tallied none js).passed → 0 < length js
some_judged [] some = some
some_judged (j ∷ js) some = omega arith

-- the counts of judgements are those of a success exactly where the judgements are
pub is_success : (js : List Bool) → (0 < (tallied none js).passed) × ((tallied none js).failed ≡ 0) → IsSuccess js
is_success js counts = record { some = some_judged js counts.0; none_failed = none_failed none js counts.1 }

pub has_success : (js : List Bool) → IsSuccess js → (0 < (tallied none js).passed) × ((tallied none js).failed ≡ 0)
has_success js all = (some_passed js all, no_failure none js refl all.none_failed)
