-- The numbers of an array as int64 are its numbers; a 1x1 array turned is itself.
use Rattle.std.proofs.Common.{◌≡◌, ℤ, List, [], ◌∷◌, map, Ok, false, refl, ap}
use Rattle.std.specs.List.{list_any}
use Rattle.pl_array.specs.declared.class.Class.TheVariants.{Int}
use Rattle.pl_array.specs.Arrays.{Array}
use Rattle.pl_array.specs.Joining.{is_no_char, converted, convert_of}
use Rattle.pl_operators.specs.Operating.{as_int}

no_char : (zs : List ℤ) → list_any (is_no_char Int) zs ≡ false
no_char [] = refl
no_char (z ∷ zs) = no_char zs

same_numbers : (zs : List ℤ) → map (converted Int) zs ≡ zs
same_numbers [] = refl
same_numbers (z ∷ zs) = ap (λ (ys : List ℤ). z ∷ ys) (same_numbers zs)

pub to_int : (a : Array) → convert_of a Int ≡ Ok (as_int a)
to_int a = rw (no_char a.cells, same_numbers a.cells) refl
