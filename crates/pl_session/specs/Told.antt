-- What a sink tells of the bytes that a run prints.
use Rattle.std.specs.Prelude.{ℕ, List, map, Option, option_map}
use Rattle.pl_meaning.specs.Logs.{Trace, Byte}

-- what a sink tells, as what was shown
abbrev pub told : Option (List ℕ) → Option (List Trace)
told written = option_map (map Byte) written
