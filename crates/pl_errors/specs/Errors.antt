-- The kinds of script errors: their numbers, names and texts, and the line that tells one.
use Rattle.std.specs.Prelude.{ℕ, List, [], ◌++◌, codes}
use Rattle.std.specs.Fmt.{decimal}
use Rattle.pl_base.specs.declared.errors.ErrKind.{ErrKind}
use Rattle.pl_base.specs.declared.errors.ErrKind.TheVariants.{SizeMismatch, ConcatMismatch, CharRange, SizeLimit, NegativePower, MatrixOp, RangeArg, BadIndex, IndexRange, GrowAmbiguous, AssignSize, DeleteShape, NoValue, TempUnset, ArgCount, ArgClass, ArgRange, BadKind, NotScalar, OutputUnset, FormatBad, User, Spent, TooDeep, WrongPlace, SliceScalar, SliceUnset, MixedClass, MergeSize, NoUnread, Cancelled, CompositeUnset, Deadlock, CollectiveMismatch, PartSum, GridSize, BlockZero, LocalSize, SchemeMismatch, NotInReduction, Overflow}
use Rattle.pl_base.specs.declared.errors.Place.{Place}
use Rattle.pl_base.specs.declared.errors.ScriptError.{ScriptError}

-- the number of a kind, from 1
abbrev pub number_of_kind : ErrKind → ℕ
number_of_kind SizeMismatch = 1
number_of_kind ConcatMismatch = 2
number_of_kind CharRange = 3
number_of_kind SizeLimit = 4
number_of_kind NegativePower = 5
number_of_kind MatrixOp = 6
number_of_kind RangeArg = 7
number_of_kind BadIndex = 8
number_of_kind IndexRange = 9
number_of_kind GrowAmbiguous = 10
number_of_kind AssignSize = 11
number_of_kind DeleteShape = 12
number_of_kind NoValue = 13
number_of_kind TempUnset = 14
number_of_kind ArgCount = 15
number_of_kind ArgClass = 16
number_of_kind ArgRange = 17
number_of_kind BadKind = 18
number_of_kind NotScalar = 19
number_of_kind OutputUnset = 20
number_of_kind FormatBad = 21
number_of_kind User = 22
number_of_kind Spent = 23
number_of_kind TooDeep = 24
number_of_kind WrongPlace = 25
number_of_kind SliceScalar = 26
number_of_kind SliceUnset = 27
number_of_kind MixedClass = 28
number_of_kind MergeSize = 29
number_of_kind NoUnread = 30
number_of_kind Cancelled = 31
number_of_kind CompositeUnset = 32
number_of_kind Deadlock = 33
number_of_kind CollectiveMismatch = 34
number_of_kind PartSum = 35
number_of_kind GridSize = 36
number_of_kind BlockZero = 37
number_of_kind LocalSize = 38
number_of_kind SchemeMismatch = 39
number_of_kind NotInReduction = 40
number_of_kind Overflow = 41

-- the name of a kind, as a line tells it
abbrev pub name_of : ErrKind → List ℕ
name_of SizeMismatch = codes "SizeMismatch"
name_of ConcatMismatch = codes "ConcatMismatch"
name_of CharRange = codes "CharRange"
name_of SizeLimit = codes "SizeLimit"
name_of NegativePower = codes "NegativePower"
name_of MatrixOp = codes "MatrixOp"
name_of RangeArg = codes "RangeArg"
name_of BadIndex = codes "BadIndex"
name_of IndexRange = codes "IndexRange"
name_of GrowAmbiguous = codes "GrowAmbiguous"
name_of AssignSize = codes "AssignSize"
name_of DeleteShape = codes "DeleteShape"
name_of NoValue = codes "NoValue"
name_of TempUnset = codes "TempUnset"
name_of ArgCount = codes "ArgCount"
name_of ArgClass = codes "ArgClass"
name_of ArgRange = codes "ArgRange"
name_of BadKind = codes "BadKind"
name_of NotScalar = codes "NotScalar"
name_of OutputUnset = codes "OutputUnset"
name_of FormatBad = codes "FormatBad"
name_of User = codes "User"
name_of Spent = codes "Spent"
name_of TooDeep = codes "TooDeep"
name_of WrongPlace = codes "WrongPlace"
name_of SliceScalar = codes "SliceScalar"
name_of SliceUnset = codes "SliceUnset"
name_of MixedClass = codes "MixedClass"
name_of MergeSize = codes "MergeSize"
name_of NoUnread = codes "NoUnread"
name_of Cancelled = codes "Cancelled"
name_of CompositeUnset = codes "CompositeUnset"
name_of Deadlock = codes "Deadlock"
name_of CollectiveMismatch = codes "CollectiveMismatch"
name_of PartSum = codes "PartSum"
name_of GridSize = codes "GridSize"
name_of BlockZero = codes "BlockZero"
name_of LocalSize = codes "LocalSize"
name_of SchemeMismatch = codes "SchemeMismatch"
name_of NotInReduction = codes "NotInReduction"
name_of Overflow = codes "Overflow"

-- the text of a kind; those whose text is made where they rise have none of their own
abbrev pub message_of : ErrKind → List ℕ
message_of SizeMismatch = codes "sizes do not fit"
message_of ConcatMismatch = codes "sizes cannot be joined"
message_of CharRange = codes "no such character"
message_of SizeLimit = codes "too large"
message_of NegativePower = codes "negative power"
message_of MatrixOp = codes "no matrix operation"
message_of RangeArg = codes "range needs scalars"
message_of BadIndex = codes "bad index"
message_of IndexRange = codes "index past the end"
message_of GrowAmbiguous = codes "cannot grow"
message_of AssignSize = codes "wrong number of values"
message_of DeleteShape = codes "cannot delete"
message_of NoValue = codes "no value"
message_of TempUnset = codes "temporary without value"
message_of ArgCount = codes "wrong number of arguments"
message_of ArgClass = codes "wrong class"
message_of ArgRange = codes "argument out of range"
message_of BadKind = codes "wrong kind of value"
message_of NotScalar = codes "scalar needed"
message_of OutputUnset = codes "output without value"
message_of FormatBad = codes "bad format"
message_of User = []
message_of Spent = codes "out of turns"
message_of TooDeep = codes "too deep"
message_of WrongPlace = codes "not allowed here"
message_of SliceScalar = codes "sliced index needs a scalar"
message_of SliceUnset = codes "sliced variable has no extent"
message_of MixedClass = codes "written with two classes"
message_of MergeSize = codes "merged array too large"
message_of NoUnread = codes "no unread future"
message_of Cancelled = codes "call was cancelled"
message_of CompositeUnset = codes "no value on this worker"
message_of Deadlock = []
message_of CollectiveMismatch = []
message_of PartSum = codes "partition does not fit"
message_of GridSize = codes "grid does not fit"
message_of BlockZero = codes "block size is zero"
message_of LocalSize = codes "local part has the wrong size"
message_of SchemeMismatch = codes "other number of workers"
message_of NotInReduction = codes "not allowed in a reduction"
message_of Overflow = codes "overflow"

-- an error of this kind at this place, with the kind's own text
abbrev pub error_of : ErrKind → Place → ScriptError
error_of kind place = record { kind = kind; place = place; text = message_of kind }

-- the kind by its number and name
abbrev pub kind_part : ErrKind → List ℕ
kind_part kind = codes "parlab: error E" ++ decimal (number_of_kind kind) ++ codes " " ++ name_of kind

-- the place by line and column
abbrev pub place_part : Place → List ℕ
place_part place = codes " at " ++ decimal place.line ++ codes ":" ++ decimal place.col ++ codes ": "

-- the line that tells an error
abbrev pub error_line : ScriptError → List ℕ
error_line e = kind_part e.kind ++ place_part e.place ++ e.text ++ codes "\n"
