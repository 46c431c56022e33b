-- The folds of truth values are the words for them.
use Rattle.std.proofs.Common.{◌≡◌, ℤ, pos, Bool, true, false, ◌&&◌, ◌||◌, List, [], ◌∷◌, map, Option, Some, Ok, refl, ap, ◌∙◌}
use Rattle.std.specs.Prelude.{option_map}
use Rattle.std.specs.List.{fold, list_any, list_all}
use Rattle.pl_array.specs.declared.class.Class.TheVariants.{Logical}
use Rattle.pl_array.specs.Arrays.{Array}
use Rattle.pl_array.specs.Cellwise.{shape_of, truth, is_true}
use Rattle.pl_lines.specs.declared.dim.Dim.{Dim}
use Rattle.pl_lines.specs.Lines.{lines, one_a_line}
use Rattle.pl_lines.specs.Folding.{onward, folded, all_of, unless_refused, fold_lines_of}
use Rattle.pl_setfn.specs.Along.{any_of, all_true_of}

abbrev any_step : ℤ → ℤ → Option ℤ
any_step x y = Some (truth (is_true x || is_true y))

abbrev all_step : ℤ → ℤ → Option ℤ
all_step x y = Some (truth (is_true x && is_true y))

some_from : (b : Bool) (xs : List ℤ) → fold (onward any_step) (Some (truth b)) xs ≡ Some (truth (b || list_any is_true xs))
some_from true [] = refl
some_from false [] = refl
some_from true (x ∷ xs) = some_from true xs
some_from false (x ∷ xs) = some_from (is_true x) xs

each_from : (b : Bool) (xs : List ℤ) → fold (onward all_step) (Some (truth b)) xs ≡ Some (truth (b && list_all is_true xs))
each_from true [] = refl
each_from false [] = refl
each_from true (x ∷ xs) = each_from (is_true x) xs
each_from false (x ∷ xs) = each_from false xs

never_refused : (step : ℤ → ℤ → Option ℤ) (start : ℤ) (value : List ℤ → ℤ) → ((xs : List ℤ) → folded step start xs ≡ Some (value xs)) → (xss : List (List ℤ)) → all_of (map (folded step start) xss) ≡ Some (map value xss)
never_refused step start value h [] = refl
never_refused step start value h (xs ∷ xss) =
    ap (λ (r : Option ℤ). all_of (r ∷ map (folded step start) xss)) (h xs) ∙ ap (option_map (λ zs. value xs ∷ zs)) (never_refused step start value h xss)

pub any_is : (d : Dim) (a : Array) → fold_lines_of Logical any_step (pos 0) d a ≡ Ok (any_of d a)
any_is d a = ap (λ (r : Option (List ℤ)). unless_refused r (one_a_line Logical d (shape_of a))) (never_refused any_step (pos 0) (λ cells. truth (list_any is_true cells)) (some_from false) (lines d a))

pub all_is : (d : Dim) (a : Array) → fold_lines_of Logical all_step (pos 1) d a ≡ Ok (all_true_of d a)
all_is d a = ap (λ (r : Option (List ℤ)). unless_refused r (one_a_line Logical d (shape_of a))) (never_refused all_step (pos 1) (λ cells. truth (list_all is_true cells)) (each_from true) (lines d a))
