-- How deep a run may go.
use Rattle.std.specs.Prelude.{ℕ}

-- how many levels a run may have: of calls, operators, brackets, ranges and statements
abbrev pub levels : ℕ
levels = 1000
