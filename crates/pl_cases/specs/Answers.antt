-- Rules that may find a fault, and what a function of the code gives of them.
use Rattle.std.specs.Prelude.{◌≡◌, ℕ, Result, Ok, Err, List, [], ◌∷◌, ◌++◌}
use Rattle.pl_base.specs.declared.memory.Or.{Or}
use Rattle.pl_base.specs.declared.memory.Or.TheVariants as or
use Rattle.pl_cases.specs.declared.malformed.Malformed.{Malformed}
use Rattle.pl_cases.specs.declared.malformed.Reason.{Reason}

-- the next rule, of what the one before found, unless that was a fault
infixl 10 ◌>>=◌
abbrev pub ◌>>=◌ : {A B E : Type 0} → Result A E → (A → Result B E) → Result B E
(Ok x) >>= f = f x
(Err e) >>= f = Err e

-- a fault stands on this line
abbrev pub at : {A : Type 0} → ℕ → Result A Reason → Result A Malformed
at line (Ok x) = Ok x
at line (Err reason) = Err (record { line = line; reason = reason })

-- what the rule finds of each, or the first fault
abbrev pub each : {A B E : Type 0} → (A → Result B E) → List A → Result (List B) E
each rule [] = Ok []
each rule (x ∷ xs) = rule x >>= λ y. each rule xs >>= λ ys. Ok (y ∷ ys)

-- these before what the rule finds
abbrev pub with_front : {A E : Type 0} → List A → Result (List A) E → Result (List A) E
with_front xs found = found >>= λ ys. Ok (xs ++ ys)

-- what a function returned is what the rule finds, unless memory was wanting
abbrev pub Fails : {A E : Type 0} → Or E → Result A E → Type 0
Fails or.Memory rule = Unit {0}
Fails (or.Is fault) rule = rule ≡ Err fault

abbrev pub Gives : {A E : Type 0} → Result A (Or E) → Result A E → Type 0
Gives (Ok x) rule = rule ≡ Ok x
Gives (Err e) rule = Fails e rule

-- what a function left where it was given something to change, likewise
abbrev pub Leaves : {A B E : Type 0} → Result B (Or E) → A → Result A E → Type 0
Leaves (Ok _) new rule = rule ≡ Ok new
Leaves (Err e) new rule = Fails e rule

-- the same answer of a function, with the line of a fault
abbrev pub placed_fault : ℕ → Or Reason → Or Malformed
placed_fault line or.Memory = or.Memory
placed_fault line (or.Is reason) = or.Is (record { line = line; reason = reason })

abbrev pub placed : {A : Type 0} → ℕ → Result A (Or Reason) → Result A (Or Malformed)
placed line (Ok x) = Ok x
placed line (Err e) = Err (placed_fault line e)

-- what is so of the fault that a function returned
abbrev pub IfFault : {A E : Type 0} → Result A (Or E) → (E → Type 0) → Type 0
IfFault (Ok x) P = Unit {0}
IfFault (Err or.Memory) P = Unit {0}
IfFault (Err (or.Is fault)) P = P fault
