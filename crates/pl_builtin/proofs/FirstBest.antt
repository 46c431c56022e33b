-- A place before which all cells are worse, and after which none is better, is that of the first best cell.
use Rattle.std.proofs.Common.{◌≡◌, ℕ, ◌<◌, ℤ, pos, max, true, false, not, List, length, get_or, arith, ap, sym, ◌∙◌}
use Rattle.std.specs.List.{list_any}
use Rattle.std.proofs.lemmas.List.{get_or_default}
use Rattle.std.proofs.lemmas.List.Folds.{list_any_at, list_any_none}
use Rattle.std.proofs.lemmas.List.Sums.{position_or_len_is}
use Rattle.pl_builtin.specs.declared.extremes.Extreme.{Extreme}
use Rattle.pl_builtin.specs.Along.{is_better, first_best}

pub place_is : (which : Extreme) (xs : List ℤ) (at k : ℕ) → k ≡ length xs → at < max k 1 → ((j : ℕ) → j < at → is_better which (get_or xs at (pos 0)) (get_or xs j (pos 0)) ≡ true) → ((j : ℕ) → j < k → is_better which (get_or xs j (pos 0)) (get_or xs at (pos 0)) ≡ false) → at ≡ first_best which xs
place_is which xs at k all within before none =
    sym (position_or_len_is (λ x. not (list_any (λ y. is_better which y x) xs)) xs at (pos 0) (omega arith)
    (λ j h. ap not (list_any_at (λ y. is_better which y (get_or xs j (pos 0))) xs at (pos 0) (omega arith) (before j h)))
    (λ h. ap not (list_any_none (λ y. is_better which y (get_or xs at (pos 0))) xs
    (λ j d l. ap (λ (y : ℤ). is_better which y (get_or xs at (pos 0))) (get_or_default xs j d (pos 0) l) ∙ none j (omega arith)))))
