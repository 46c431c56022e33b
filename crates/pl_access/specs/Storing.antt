-- What an operation on the value of a slot does to its workspace.
use Rattle.std.specs.Prelude.{◌≡◌, ℕ, slice_set, Option, Some, None, Result, Ok, Err, List}
use Rattle.pl_base.specs.declared.memory.Or.{Or}
use Rattle.pl_base.specs.declared.errors.ErrKind.{ErrKind}
use Rattle.pl_base.specs.declared.errors.ErrKind.TheVariants.{NoValue}
use Rattle.pl_values.specs.declared.value.Value.{Value}
use Rattle.pl_operators.specs.declared.argument.Argument.{Argument}
use Rattle.pl_operators.specs.Picking.{delete_value}
use Rattle.pl_meaning.specs.Logs.{Workspace}

-- the slot has the value that the operation gives; where it refuses, the workspace is as it was; of want of memory
-- nothing is said
abbrev pub Stores : Workspace → ℕ → Result Value ErrKind → Result (Unit {0}) (Or ErrKind) → Workspace → Type 0
Stores old slot d (Ok u) new = (v : Value) × (d ≡ Ok v) × (new ≡ slice_set old slot (Some v))
Stores old slot d (Err (Or.Is kind)) new = (d ≡ Err kind) × (new ≡ old)
Stores old slot d (Err Or.Memory) new = Unit {0}

-- what a deletion leaves of a slot's value; without a value it is refused
abbrev pub deleted_of : List Argument → Option Value → Result Value ErrKind
deleted_of list (Some v) = delete_value v list
deleted_of list None = Err NoValue
