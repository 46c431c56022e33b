-- A whole file, read under a limit.
use Rattle.std.specs.Prelude.{◌≡◌, ℕ, ◌+◌, ◌<◌, ◌≤◌, List, length, take, IfSome}
use Rattle.std.specs.declared.option.Option.{Option}

-- a whole file under the limit: where the bytes are told, all of them
pub record IsWhole (told : Option (List ℕ)) (limit : ℕ) (got : List ℕ) : Type 0 where
  pub within : length got ≤ limit
  pub all : IfSome told (λ bs. got ≡ bs)

-- the first bytes of a file over the limit, one more than it: where the bytes are told, there are more than the limit and these stand first
pub record IsTooLong (told : Option (List ℕ)) (limit : ℕ) (got : List ℕ) : Type 0 where
  pub count : length got ≡ limit + 1
  pub over : IfSome told (λ bs. limit < length bs)
  pub front : IfSome told (λ bs. got ≡ take (limit + 1) bs)
