-- Bytes that are appended in pieces.
use Rattle.std.proofs.Common.{◌≡◌, ℕ, ◌+◌, ◌-◌, List, ◌++◌, length, take, drop, Some, None, ap, sym, ◌∙◌, append_assoc}
use Rattle.std.specs.declared.option.Option.{Option}
use Rattle.std.specs.Io.KnownBytes.{Appends}
use Rattle.std.proofs.lemmas.List.{take_rest}
use Rattle.std.proofs.Math.Seq.{take-add}

-- one piece behind another is both in a row
pub appends_more : (old now new : Option (List ℕ)) (xs ys zs : List ℕ) → Appends old now xs → Appends now new ys → xs ++ ys ≡ zs → Appends old new zs
appends_more None now new xs ys zs a b e = tt
appends_more (Some o) None new xs ys zs a b e = absurd a
appends_more (Some o) (Some m) None xs ys zs a b e = absurd b
appends_more (Some o) (Some m) (Some n) xs ys zs a b e = b ∙ (ap (λ v. v ++ ys) a ∙ (append_assoc o xs ys ∙ ap (λ v. o ++ v) e))

-- the next piece of the bytes behind the first ones
pub piece_more : (bs : List ℕ) (at n : ℕ) → take at bs ++ take n (take (length bs - at) (drop at bs)) ≡ take (at + n) bs
piece_more bs at n = ap (λ v. take at bs ++ take n v) (take_rest bs at) ∙ sym (take-add at n bs)
