-- Why a source is refused.
use Rattle.std.proofs.Common.{◌≡◌, ℕ, ◌≤◌, ◌⊎◌, inl, inr, List, [], length, take, Option, Some, None, IfSome, sym, ◌∙◌, ap, arith}
use Rattle.std.proofs.lemmas.List.{take_all}
use Rattle.pl_io.specs.Whole.{IsWhole}
use Rattle.pl_resolve.specs.declared.resolved.Resolved.{Resolved}
use Rattle.pl_source.specs.Sources.{Ready, Refuses}
use Rattle.pl_session.specs.Ends.{IsRefused, IsUnrun}

-- of two statuses neither is a third
pub neither : (s a b x : ℕ) → (s ≡ a) ⊎ (s ≡ b) → s ≡ x → (a ≡ x → ⊥) → (b ≡ x → ⊥) → ⊥
neither s a b x (inl p) q no_a no_b = no_a (cc)
neither s a b x (inr p) q no_a no_b = no_b (cc)

-- a file that was read whole is as much of it as a script keeps
pub whole_taken : (told : Option (List ℕ)) (got script : List ℕ) → IsWhole told 1000000 got → script ≡ got → IfSome told (λ bytes. script ≡ take 1000001 bytes)
whole_taken None got script whole is = tt
whole_taken (Some bytes) got script whole is =
    let short : length bytes ≤ 1000001 = omega (arith, whole.within, ap length whole.all) in
    is ∙ whole.all ∙ sym (take_all 1000001 bytes short)

pub part_taken : (told : Option (List ℕ)) (script : List ℕ) → IfSome told (λ bytes. script ≡ take 1000001 bytes) → IfSome told (λ bytes. (script ≡ []) ⊎ (script ≡ take 1000001 bytes))
part_taken None script taken = tt
part_taken (Some bytes) script taken = inr taken

pub some_is : {A : Type 0} {a b : A} → Some a ≡ Some b → a ≡ b
some_is h = cc

-- the statuses of a refusal
pub status_is : (source line : List ℕ) (status : ℕ) → Refuses source status line → (status ≡ 5) ⊎ (status ≡ 7)
status_is source line status (inl p) = inl p.0
status_is source line status (inr p) = inr p.0

pub not_four : (status : ℕ) → (status ≡ 5) ⊎ (status ≡ 7) → status ≡ 4 → ⊥
not_four status (inl a) b = omega (arith, a, b)
not_four status (inr a) b = omega (arith, a, b)

-- a status of a refusal isn't want of memory
pub no_nine : (status : ℕ) → (status ≡ 4) ⊎ (status ≡ 5) ⊎ (status ≡ 7) → status ≡ 9 → ⊥
no_nine status (inl a) b = omega (arith, a, b)
no_nine status (inr (inl a)) b = omega (arith, a, b)
no_nine status (inr (inr a)) b = omega (arith, a, b)

pub not_nine : (status : ℕ) → (status ≡ 5) ⊎ (status ≡ 4) → status ≡ 9 → ⊥
not_nine status (inl a) b = omega (arith, a, b)
not_nine status (inr a) b = omega (arith, a, b)

pub not_three_nine : (status : ℕ) → (status ≡ 3) ⊎ (status ≡ 4) → status ≡ 9 → ⊥
not_three_nine status (inl a) b = omega (arith, a, b)
not_three_nine status (inr a) b = omega (arith, a, b)

-- a script that can be run isn't refused
module _ (never_both : (source : List ℕ) (r : Resolved) (status : ℕ) (line : List ℕ) → Ready source r → Refuses source status line → ⊥) (script : List ℕ) (r : Resolved) (short : length script ≤ 1000000) (ready : Ready script r) where
  not_refused : (status : ℕ) (line : List ℕ) → IsRefused script status line → ⊥
  not_refused status line (inl long) = omega (arith, short, long.0)
  not_refused status line (inr refuses) = never_both script r status line ready refuses.1

  pub not_unrun : IsUnrun script → ⊥
  not_unrun unrun = not_refused unrun.0 unrun.1.0 unrun.1.1
