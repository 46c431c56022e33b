-- Files in memory: a list of names beside a list of contents.
use Rattle.std.specs.Prelude.{ℕ, List, nat_eq, slice_get, position, option_map, option_and_then}
use Rattle.std.specs.Cmp.Lexicographic.{pointwise}
use Rattle.std.specs.declared.option.Option.{Option}
use Rattle.pl_io.specs.declared.mem_files.MemFiles.{MemFiles}

-- the element that stands where the name first stands among the names
abbrev pub at_name : {V : Type 0} → List (List ℕ) → List V → List ℕ → Option V
at_name names values name = option_and_then (λ i. slice_get values i) (position (λ n. pointwise nat_eq n name) names)

-- the bytes of the file of a name; None where there is no such file
abbrev pub content : MemFiles → List ℕ → Option (List ℕ)
content files name = option_map (λ v. v.items) (at_name files.names.items files.bytes.items name)
