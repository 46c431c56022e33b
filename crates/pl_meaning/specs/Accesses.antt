-- The accesses of a run to its workspace and its turns. Most parts of a program reach them through these alone; what
-- looks at the state itself is the workspace of a called function and its outputs, the check of a loop's variables and its
-- answer, a `while`, an indexed read that may be an extra, and a question.
use Rattle.std.specs.Prelude.{ℕ, zero, suc, List, Option, Some, None, slice_set, Result, Ok, Err}
use Rattle.pl_base.specs.declared.errors.Place.{Place}
use Rattle.pl_base.specs.declared.errors.ErrKind.{ErrKind}
use Rattle.pl_base.specs.declared.errors.ErrKind.TheVariants.{NoValue, Spent}
use Rattle.pl_errors.specs.Errors.{error_of}
use Rattle.pl_values.specs.declared.value.Value.{Value}
use Rattle.pl_values.specs.Workspaces.{value_at}
use Rattle.pl_operators.specs.declared.argument.Argument.{Argument}
use Rattle.pl_operators.specs.Picking.{select_value, assign_value, delete_value, extent_of}
use Rattle.pl_meaning.specs.declared.frame.Ends.{Ends}
use Rattle.pl_meaning.specs.Running.{Running, pure, raise}

-- an error of this kind at this place
abbrev pub fail : {A : Type 0} → ErrKind → Place → Running A
fail kind place = raise (error_of kind place)

-- the value that an operation gives, or its refusal as an error at this place
abbrev pub settle : {A : Type 0} → Place → Result A ErrKind → Running A
settle place (Ok a) = pure a
settle place (Err kind) = fail kind place

-- the value of a variable
abbrev pub read_of : Place → Option Value → Running Value
read_of place (Some v) = pure v
read_of place None = fail NoValue place

unfoldable pub read : ℕ → Place → Running Value
read slot place = λ k h s. read_of place (value_at s.env slot) k h s

-- that a variable has a value
abbrev pub check_of : Place → Option Value → Running (Unit {0})
check_of place (Some v) = pure tt
check_of place None = fail NoValue place

unfoldable pub check : ℕ → Place → Running (Unit {0})
check slot place = λ k h s. check_of place (value_at s.env slot) k h s

-- what an index selects of a variable
abbrev pub selected_of : Place → List Argument → Option Value → Running Value
selected_of place list (Some v) = settle place (select_value v list)
selected_of place list None = fail NoValue place

unfoldable pub read_part : ℕ → Place → List Argument → Running Value
read_part slot place list = λ k h s. selected_of place list (value_at s.env slot) k h s

-- the number that `end` stands for
abbrev pub end_of : Place → Ends → Option Value → Running ℕ
end_of place ends v = settle place (extent_of v ends.position ends.count)

unfoldable pub read_end : Ends → Place → Running ℕ
read_end ends place = λ k h s. end_of place ends (value_at s.env ends.slot) k h s

-- a variable gets a value
unfoldable pub write : ℕ → Value → Running (Unit {0})
write slot v = λ k h s. k tt (record s { env = slice_set s.env slot (Some v) })

-- a variable gets the value that an operation gives; where it refuses, the variable stays as it was
abbrev pub put : ℕ → Place → Result Value ErrKind → Running (Unit {0})
put slot place (Ok v) = λ k h s. k tt (record s { env = slice_set s.env slot (Some v) })
put slot place (Err kind) = fail kind place

-- a part of a variable gets a value
unfoldable pub write_part : ℕ → Place → List Argument → Value → Running (Unit {0})
write_part slot place list v = λ k h s. put slot place (assign_value (value_at s.env slot) list v) k h s

-- a part of a variable is deleted
abbrev pub erased_of : ℕ → Place → List Argument → Option Value → Running (Unit {0})
erased_of slot place list (Some v) = put slot place (delete_value v list)
erased_of slot place list None = fail NoValue place

unfoldable pub erase_part : ℕ → Place → List Argument → Running (Unit {0})
erase_part slot place list = λ k h s. erased_of slot place list (value_at s.env slot) k h s

-- a turn is taken
abbrev pub turn_of : Place → ℕ → Running (Unit {0})
turn_of place zero = fail Spent place
turn_of place (suc left) = λ k h s. k tt (record s { turns = left })

unfoldable pub take_turn : Place → Running (Unit {0})
take_turn place = λ k h s. turn_of place s.turns k h s
