-- A use of the pattern, and the uses behind it.
use Rattle.std.proofs.Common.{◌≡◌, ℕ, zero, suc, ◌<◌, ◌≤◌, List, [], ◌∷◌, ◌++◌, length, drop, refl, sym, ◌∙◌, ap, arith}
use Rattle.std.proofs.lemmas.List.{append-nil, drop_all}
use Rattle.pl_text.specs.declared.pattern.Part.{Part}
use Rattle.pl_text.specs.declared.items.Item.{Item}
use Rattle.pl_text.specs.Formatted.{walk, uses, goes_on}

goes_on_some : (f : List Item → List ℕ) (xs : List Item) → 0 < length xs → goes_on f xs ≡ f xs
goes_on_some f [] some = absurd (omega (arith, some))
goes_on_some f (x ∷ xs) some = refl

one_use : (n m : ℕ) (parts : List Part) (items : List Item) → n ≡ suc m → uses n parts items ≡ walk parts items (goes_on (uses m parts))
one_use n m parts items is = ap (λ k. uses k parts items) is

-- it stopped before a conversion without an item
pub stopped : (text new whole : List ℕ) (n m : ℕ) (parts : List Part) (items : List Item) → n ≡ suc m → text ++ uses n parts items ≡ whole → ((next : List Item → List ℕ) → new ≡ text ++ walk parts items next) → new ≡ whole
stopped text new whole n m parts items is all walked =
    walked (goes_on (uses m parts)) ∙ ap (λ (v : List ℕ). text ++ v) (sym (one_use n m parts items is)) ∙ all

-- it used the last item
pub ended : (text new whole : List ℕ) (n m used : ℕ) (parts : List Part) (items every : List Item) → n ≡ suc m → length every ≤ used → text ++ uses n parts items ≡ whole → ((next : List Item → List ℕ) → new ++ next (drop used every) ≡ text ++ walk parts items next) → new ≡ whole
ended text new whole n m used parts items every is none all walked =
    sym (append-nil new)
    ∙ ap (λ (v : List Item). new ++ goes_on (uses m parts) v) (sym (drop_all used every none))
    ∙ walked (goes_on (uses m parts)) ∙ ap (λ (v : List ℕ). text ++ v) (sym (one_use n m parts items is)) ∙ all

-- items are left for further uses
pub used_again : (text new whole : List ℕ) (n m used : ℕ) (parts : List Part) (items every : List Item) → n ≡ suc m → 0 < length (drop used every) → text ++ uses n parts items ≡ whole → ((next : List Item → List ℕ) → new ++ next (drop used every) ≡ text ++ walk parts items next) → new ++ uses m parts (drop used every) ≡ whole
used_again text new whole n m used parts items every is some all walked =
    ap (λ (v : List ℕ). new ++ v) (sym (goes_on_some (uses m parts) (drop used every) some))
    ∙ walked (goes_on (uses m parts)) ∙ ap (λ (v : List ℕ). text ++ v) (sym (one_use n m parts items is)) ∙ all
