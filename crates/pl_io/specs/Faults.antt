-- Counts of faults. An object that reads or writes counts its faults, and an answer that it failed has its cause there.
use Rattle.std.specs.Prelude.{◌≡◌, ℕ, ◌+◌, ◌-◌, ◌^◌, ◌≤◌, min, Result, OnOk, OnErr}
use Rattle.pl_io.specs.Counted.{counted}

-- the count is greater than before, or stands at 2^64 - 1, past which it can't be shown to rise
abbrev pub Rose : ℕ → ℕ → Type 0
Rose before now = min (before + 1) (2 ^ 64 - 1) ≤ now

-- the count never falls; a call that failed is one in which it rose by one, up to 2^64 - 1, and any other leaves it
pub record HasCause {T E : Type 0} (before now : ℕ) (result : Result T E) : Type 0 where
  pub later : before ≤ now
  pub failed : OnErr result (now ≡ counted before)
  pub kept : OnOk result (now ≡ before)
