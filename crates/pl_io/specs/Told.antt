-- What an object of the outside tells of bytes: those of a file by its name, and those that a sink holds. None tells nothing.
use Rattle.std.specs.Prelude.{◌≡◌, ℕ, ◌<◌, ◌≤◌, List, length, take, drop, Some, Result, IfOk, IfSome}
use Rattle.std.specs.declared.option.Option.{Option}
use Rattle.std.specs.Io.KnownBytes.{Appends}

-- bytes that were told are told still
abbrev pub Stays : (List ℕ → Option (List ℕ)) → (List ℕ → Option (List ℕ)) → Type 0
Stays old new = (name bs : List ℕ) → old name ≡ Some bs → new name ≡ Some bs

-- the first n bytes of `into` are those of bs from `at` on, and there are none only at the end or for an empty `into`
pub record IsPart (bs : List ℕ) (at n : ℕ) (into : List ℕ) : Type 0 where
  pub same : take n into ≡ take n (drop at bs)
  pub ends : n ≡ 0 → 0 < length into → length bs ≤ at

-- bs begins with these bytes
abbrev pub IsFront : List ℕ → List ℕ → Type 0
IsFront bs front = take (length front) bs ≡ front

-- a read that gave n bytes gave them from the told bytes
abbrev pub Reads : {E : Type 0} → Option (List ℕ) → ℕ → Result ℕ E → List ℕ → Type 0
Reads told at result into = IfOk result (λ n. IfSome told (λ bs. IsPart bs at n into))

-- what a sink holds has grown by the first k bytes of bs, for some k
abbrev pub AppendsPrefix : Option (List ℕ) → Option (List ℕ) → List ℕ → Type 0
AppendsPrefix old new bs = (k : ℕ) × (k ≤ length bs) × Appends old new (take k bs)
