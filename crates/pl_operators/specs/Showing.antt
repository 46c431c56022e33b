-- What a shown statement prints of any value.
use Rattle.std.specs.Prelude.{ℕ, List, ◌++◌, codes}
use Rattle.pl_text.specs.Displayed.{named}
use Rattle.pl_values.specs.declared.value.Value.{Value, out-Value}
use Rattle.pl_values.specs.declared.value.Value.TheOpen.{Value-F}

-- a name, and what stands for its value
abbrev pub named_as : List ℕ → List ℕ → List ℕ
named_as name text = name ++ codes " = " ++ text ++ codes "\n"

abbrev pub shown_at : List ℕ → Value-F Value → List ℕ
shown_at name (Value-F.Array a) = named name a
shown_at name (Value-F.Func f) = named_as name (codes "<function>")
shown_at name (Value-F.Futures calls) = named_as name (codes "<future>")
shown_at name (Value-F.Queue q) = named_as name (codes "<queue>")
shown_at name Value-F.Pool = named_as name (codes "<pool>")
shown_at name (Value-F.Codistributor s) = named_as name (codes "<codistributor>")
shown_at name (Value-F.Part part) = named_as name (codes "<codistributed>")
shown_at name (Value-F.Composite held) = named_as name (codes "<composite>")
shown_at name (Value-F.Whole parts) = named_as name (codes "<codistributed>")
shown_at name (Value-F.Opaque kind number) = named_as name (codes "<job>")

-- a value under a name
abbrev pub shown_value : List ℕ → Value → List ℕ
shown_value name v = shown_at name (out-Value v)
