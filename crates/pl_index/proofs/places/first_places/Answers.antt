-- The range gives the places one after another.
use Rattle.std.proofs.Common.{◌≡◌, ℕ, ◌≤◌, List, [], ◌∷◌, map, arith, refl, ap, sym, subst, ◌∙◌}
use Rattle.std.specs.List.{range_with_len}
use Rattle.std.proofs.lemmas.Iterator.{YieldsList-from_range, items_from_drains}
use Rattle.pl_index.specs.Places.{reach}
use Rattle.pl_index.proofs.Crossing.{range_below, reach_within}
use Rattle.pl_index.proofs.places.first_places.Goals as goal

same_list : (xs : List ℕ) → xs ≡ map (λ z. z) xs
same_list [] = refl
same_list (x ∷ xs) = ap (λ (ys : List ℕ). x ∷ ys) (same_list xs)

listed : (c : goal.In_ok-places) → c.in_ok-places.places.items ≡ range_with_len 0 c.args.count
listed c =
    let h = c.in_ok-places.ensures.ran in
    h.2.0 ∙ same_list h.0 ∙ items_from_drains h.0 h.1 (YieldsList-from_range 0 c.args.count c.args.count refl (omega arith))

pub returns-clause-places : goal.returns-clause-places
returns-clause-places c = listed c

pub returns-clause-reach : goal.returns-clause-reach
returns-clause-reach c =
    let n = c.args.count in
    subst (λ (ks : List ℕ). reach ks ≤ c.args.count) (sym (listed c)) (reach_within (range_with_len 0 n) n (range_below n))
