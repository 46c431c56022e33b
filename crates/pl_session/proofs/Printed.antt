-- What a run prints is what a sink is told.
use Rattle.std.proofs.Common.{◌≡◌, ◌∙◌, ℕ, zero, suc, ◌≤◌, Option, Some, None, List, [], ◌∷◌, ◌++◌, length, take, map, refl, sym, ap, subst, arith}
use Rattle.std.specs.Io.KnownBytes.{Appends}
use Rattle.pl_io.specs.Told.{AppendsPrefix}
use Rattle.pl_meaning.specs.Logs.{Trace, Byte, grown}
use Rattle.pl_meaning.specs.Loops.{text_of}
use Rattle.pl_session.specs.Told.{told}

pub text_of-bytes : (bs : List ℕ) → text_of (map Byte bs) ≡ bs
text_of-bytes [] = refl
text_of-bytes (b ∷ bs) = ap (λ v. b ∷ v) (text_of-bytes bs)

pub text_of-append : (bs : List ℕ) (ts : List Trace) → text_of (map Byte bs ++ ts) ≡ bs ++ text_of ts
text_of-append [] ts = refl
text_of-append (b ∷ bs) ts = ap (λ v. b ∷ v) (text_of-append bs ts)

-- where the sink tells what it was told
some_told : {A : Type 0} {a b : A} → Some a ≡ Some b → a ≡ b
some_told h = cc

pub all_told : (old new : Option (List ℕ)) (ts : List Trace) → told new ≡ grown (told old) ts → Appends old new (text_of ts)
all_told None new ts e = tt
all_told (Some xs) None ts e = cc
all_told (Some xs) (Some ys) ts e =
    let f : map Byte ys ≡ map Byte xs ++ ts = some_told e in
    sym (text_of-bytes ys) ∙ ap text_of f ∙ text_of-append xs ts

-- the first things that are shown print the first bytes
pub first_bytes : (n : ℕ) (ts : List Trace) → (k : ℕ) × (k ≤ length (text_of ts)) × (text_of (take n ts) ≡ take k (text_of ts))
first_bytes zero ts = (0, omega arith, refl)
first_bytes (suc n) [] = (0, omega arith, refl)
first_bytes (suc n) (Byte b ∷ ts) = let ih = first_bytes n ts in (suc ih.0, omega (arith, ih.1), ap (λ v. b ∷ v) ih.2)

pub part_told : (old new : Option (List ℕ)) (ts : List Trace) (n : ℕ) → told new ≡ grown (told old) (take n ts) → AppendsPrefix old new (text_of ts)
part_told old new ts n e =
    let f = first_bytes n ts in
    (f.0, f.1, subst (Appends old new) f.2 (all_told old new (take n ts) e))
