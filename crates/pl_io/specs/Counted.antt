-- Calls that are counted from 1, some of which are to fail, by objects in memory.
use Rattle.std.specs.Prelude.{ℕ, ◌+◌, ◌-◌, ◌^◌, min, Bool, List, length, cond, not, nat_eq, nat_le, ◌&&◌, Result, is_ok, None, option_map}
use Rattle.std.specs.declared.option.Option.{Option}
use Rattle.std.specs.List.{list_any}

-- one more, up to 2^64 - 1
abbrev pub counted : ℕ → ℕ
counted n = min (n + 1) (2 ^ 64 - 1)

-- the call of this number is one of those that are to fail
abbrev pub is_due : List ℕ → ℕ → Bool
is_due fails call = list_any (λ n. nat_eq n call) fails

-- the count of faults after a call: one more where it failed
abbrev pub faults_after : {T E : Type 0} → ℕ → Result T E → ℕ
faults_after faults result = cond (is_ok result) faults (counted faults)

-- a sink of this room that holds these bytes takes the piece: its call isn't to fail, and there is room
abbrev pub takes : List ℕ → ℕ → ℕ → List ℕ → List ℕ → Bool
takes fails call room held piece = not (is_due fails call) && nat_le (length piece) (room - length held)

-- how many bytes the call of this number gives: all that are left from `at` on and fit the room; None where it is to fail or there is no file
abbrev pub gives : List ℕ → ℕ → Option (List ℕ) → ℕ → ℕ → Option ℕ
gives fails call told at room = cond (is_due fails call) None (option_map (λ bs. min room (length bs - at)) told)
