-- How far a text goes, one byte after another.
use Rattle.std.proofs.Common.{◌≡◌, ◌≢◌, ℕ, ◌+◌, ◌-◌, ◌<◌, suc, zero, Bool, true, false, Option, Some, None, List, [], ◌∷◌, length, drop, take, get_or, refl, ap, arith, add-one, eq-eqb}
use Rattle.std.specs.Prelude.{◌==◌, option_map}
use Rattle.std.proofs.lemmas.List.{take_rest}
use Rattle.std.proofs.lemmas.Bool.{ne_eqb}
use Rattle.pl_lex.specs.Bytes.{begins}
use Rattle.pl_lex.specs.Scan.{text_len, more}

text_len-twice : (q : ℕ) (t : List ℕ) (i : ℕ) → i < length t → text_len q true (drop i t) ≡ more (text_len q false (drop (suc i) t))
text_len-twice q [] i h = absurd (omega arith)
text_len-twice q (c ∷ cs) zero h = refl
text_len-twice q (c ∷ cs) (suc i) h = text_len-twice q cs i (omega arith)

text_len-quote : (q : ℕ) (t : List ℕ) (i : ℕ) → i < length t → (get_or t i 0 == q) ≡ true → begins q (drop (suc i) t) ≡ true → text_len q false (drop i t) ≡ more (text_len q true (drop (suc i) t))
text_len-quote q [] i h e k = absurd (omega arith)
text_len-quote q (c ∷ cs) zero h e k = rw (e, k) refl
text_len-quote q (c ∷ cs) (suc i) h e k = text_len-quote q cs i (omega arith) e k

text_len-plain : (q : ℕ) (t : List ℕ) (i : ℕ) → i < length t → (get_or t i 0 == q) ≡ false → (get_or t i 0 == 10) ≡ false → text_len q false (drop i t) ≡ more (text_len q false (drop (suc i) t))
text_len-plain q [] i h e k = absurd (omega arith)
text_len-plain q (c ∷ cs) zero h e k = rw (e, k) refl
text_len-plain q (c ∷ cs) (suc i) h e k = text_len-plain q cs i (omega arith) e k

-- one more byte passed
passed : (i : ℕ) (r : Option ℕ) → option_map (λ (n : ℕ). i + n) (more r) ≡ option_map (λ (n : ℕ). suc i + n) r
passed i None = refl
passed i (Some n) = let e : i + (1 + n) ≡ suc i + n = omega arith in ap Some e

pub goes_twice : (q : ℕ) (t : List ℕ) (i : ℕ) (b : Bool) → b ≡ true → i < length t
    → option_map (λ (n : ℕ). i + n) (text_len q b (drop i t)) ≡ option_map (λ (n : ℕ). i + 1 + n) (text_len q false (drop (i + 1) t))
goes_twice q t i b e h = rw (e, add-one, text_len-twice q t i h) (passed i (text_len q false (drop (suc i) t)))

pub goes_quote : (q : ℕ) (t : List ℕ) (i : ℕ) (b : Bool) → b ≡ false → i < length t → get_or t i 0 ≡ q → begins q (take (length t - (i + 1)) (drop (i + 1) t)) ≡ true
    → option_map (λ (n : ℕ). i + n) (text_len q b (drop i t)) ≡ option_map (λ (n : ℕ). i + 1 + n) (text_len q true (drop (i + 1) t))
goes_quote q t i b e h f k =
    let g : (get_or t i 0 == q) ≡ true = eq-eqb (get_or t i 0) q f in
    let k' : begins q (drop (i + 1) t) ≡ true = rw take_rest at k in
    let k'' : begins q (drop (suc i) t) ≡ true = rw add-one at k' in
    rw (e, add-one, text_len-quote q t i h g k'') (passed i (text_len q true (drop (suc i) t)))

pub goes_plain : (q : ℕ) (t : List ℕ) (i : ℕ) (b : Bool) → b ≡ false → i < length t → get_or t i 0 ≢ q → get_or t i 0 ≢ 10
    → option_map (λ (n : ℕ). i + n) (text_len q b (drop i t)) ≡ option_map (λ (n : ℕ). i + 1 + n) (text_len q false (drop (i + 1) t))
goes_plain q t i b e h f g =
    rw (e, add-one, text_len-plain q t i h (ne_eqb (get_or t i 0) q f) (ne_eqb (get_or t i 0) 10 g)) (passed i (text_len q false (drop (suc i) t)))
