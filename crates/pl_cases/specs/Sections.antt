-- The sections of a text: a line that begins something, with the text that belongs to it.
use Rattle.std.specs.Prelude.{ℕ, ◌+◌, ◌-◌, Bool, true, false, ◌||◌, if◌then◌else◌, Option, Some, None, Result, Ok, List, [], ◌∷◌, ◌++◌, length, take, codes, slice_get}
use Rattle.pl_cases.specs.declared.malformed.Malformed.{Malformed}
use Rattle.pl_cases.specs.declared.line.Head.{Head}
use Rattle.pl_cases.specs.declared.section.Section.{Section}
use Rattle.pl_cases.specs.Answers.{◌>>=◌, at}
use Rattle.pl_words.specs.Words.{same}
use Rattle.pl_cases.specs.Words.{begins}
use Rattle.pl_cases.specs.Lines.{begun, takes_text}

-- the lines, each with its end, a LF
abbrev pub with_ends : List (List ℕ) → List ℕ
with_ends [] = []
with_ends (line ∷ lines) = (line ++ 10 ∷ []) ++ with_ends lines

-- the last line, where there is one, is `\` alone
abbrev pub is_backslash : Option (List ℕ) → Bool
is_backslash None = false
is_backslash (Some line) = same line (92 ∷ [])

abbrev pub without_last : List ℕ → List ℕ
without_last bytes = take (length bytes - 1) bytes

-- the bytes that the lines of a text stand for: a last line `\` takes the end away from the line before it
abbrev pub bytes_of : List (List ℕ) → List ℕ
bytes_of lines =
    if is_backslash (slice_get lines (length lines - 1))
    then without_last (with_ends (take (length lines - 1) lines))
    else with_ends lines

-- a text goes on up to the next mark or case
abbrev pub ends_text : List ℕ → Bool
ends_text line = begins (codes "===") line || begins (codes "---") line

abbrev pub count_in_text : List (List ℕ) → ℕ
count_in_text [] = 0
count_in_text (line ∷ lines) = if ends_text line then 0 else 1 + count_in_text lines

-- the text of a section that takes one, or takes none, of which these are all lines behind its first
abbrev pub text_of : Bool → List (List ℕ) → List ℕ
text_of true lines = bytes_of (take (count_in_text lines) lines)
text_of false lines = []

abbrev pub section : ℕ → Head → List (List ℕ) → Section
section number head lines = record { line = number; head = head; text = text_of (takes_text head) lines }

-- whether lines stand in a text: outside at first
abbrev pub outside : Bool
outside = false

-- what a line begins; a fault is told of the line
abbrev pub begun_at : ℕ → Bool → List ℕ → Result (Option Head) Malformed
begun_at number in_text line = at number (begun in_text line)

-- a line begins a section, or nothing; the lines behind it stand in its text, where it takes one
abbrev pub go_on : ℕ → List (List ℕ) → (Bool → Result (List Section) Malformed) → Bool → Option Head → Result (List Section) Malformed
go_on number lines more in_text None = more in_text
go_on number lines more in_text (Some head) = more (takes_text head) >>= λ sections. Ok (section number head lines ∷ sections)

-- the sections of lines of which the first has this number, and stands in a text or not
abbrev pub sections_from : Bool → ℕ → List (List ℕ) → Result (List Section) Malformed
sections_from in_text number [] = Ok []
sections_from in_text number (line ∷ lines) = begun_at number in_text line >>= go_on number lines (λ inside. sections_from inside (number + 1) lines) in_text
