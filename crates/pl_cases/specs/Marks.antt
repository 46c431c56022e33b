-- What the words of a mark say.
use Rattle.std.specs.Prelude.{ℕ, ◌-◌, ◌^◌, Bool, true, false, if◌then◌else◌, Result, Ok, Err, List, [], ◌∷◌, codes}
use Rattle.pl_cases.specs.declared.malformed.Reason.{Reason}
use Rattle.pl_cases.specs.declared.malformed.Reason.TheVariants as reason
use Rattle.pl_cases.specs.declared.mark.Object.{Object}
use Rattle.pl_cases.specs.declared.mark.Object.TheVariants as object
use Rattle.pl_cases.specs.declared.mark.Mark.{Mark}
use Rattle.pl_cases.specs.declared.mark.Mark.TheVariants as mark
use Rattle.pl_cases.specs.Answers.{◌>>=◌}
use Rattle.pl_words.specs.Words.{same}
use Rattle.pl_cases.specs.Words.{number_of}

abbrev pub of_one : List ℕ → Result Mark Reason
of_one word =
    if same (codes "out") word then Ok mark.Out else
    if same (codes "or") word then Ok mark.Or else
    if same (codes "notes") word then Ok mark.Notes else
    if same (codes "choices") word then Ok mark.Choices else
    if same (codes "all") word then Ok mark.AllWorkers else Err reason.UnknownMark

-- journals are refused until they are built
abbrev pub of_two : List ℕ → List ℕ → Result Mark Reason
of_two word value =
    if same (codes "status") word then number_of 0 255 value >>= (λ n. Ok (mark.Status n)) else
    if same (codes "journal") word then Err reason.NotBuilt else Err reason.UnknownMark

abbrev pub object_of : List ℕ → Result Object Reason
object_of word =
    if same (codes "read") word then Ok object.Files else
    if same (codes "out") word then Ok object.Out else
    if same (codes "notes") word then Ok object.Notes else Err reason.UnknownMark

-- the call of a number, from 1, fails
abbrev pub fail : List ℕ → List ℕ → Result Mark Reason
fail word value = object_of word >>= λ o. number_of 1 (2 ^ 64 - 1) value >>= λ n. Ok (mark.Fail o n)

-- a sink has room for so many bytes
abbrev pub room : List ℕ → List ℕ → Result Mark Reason
room word value =
    if same (codes "out") word then number_of 0 (2 ^ 32 - 1) value >>= (λ n. Ok (mark.OutRoom n)) else
    if same (codes "notes") word then number_of 0 (2 ^ 32 - 1) value >>= (λ n. Ok (mark.NotesRoom n)) else Err reason.UnknownMark

abbrev pub of_three : List ℕ → List ℕ → List ℕ → Result Mark Reason
of_three word object value =
    if same (codes "fail") word then fail object value else
    if same (codes "room") word then room object value else Err reason.UnknownMark

-- a mark has one to three words
abbrev pub mark_of : List (List ℕ) → Result Mark Reason
mark_of [] = Err reason.UnknownMark
mark_of (word ∷ []) = of_one word
mark_of (word ∷ value ∷ []) = if same (codes "file") word then Ok (mark.File value) else of_two word value
mark_of (word ∷ object ∷ value ∷ []) = of_three word object value
mark_of (word ∷ object ∷ value ∷ _ ∷ _) = Err reason.UnknownMark

-- text may follow that belongs to the mark
abbrev pub mark_takes_text : Mark → Bool
mark_takes_text (mark.File name) = true
mark_takes_text mark.Out = true
mark_takes_text mark.Or = true
mark_takes_text mark.Notes = true
mark_takes_text mark.Choices = true
mark_takes_text _ = false
