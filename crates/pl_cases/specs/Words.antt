-- Words and numbers in a line.
use Rattle.std.specs.Prelude.{ℕ, ◌-◌, Bool, not, ◌==◌, if◌then◌else◌, Result, ok_or, List, [], length, take, drop, map, filter, codes}
use Rattle.std.specs.List.{prefix_len, suffix_len, slice_split}
use Rattle.std.specs.Char.{is_ascii_whitespace}
use Rattle.pl_words.specs.Words.{same, is_empty, number_within}
use Rattle.pl_cases.specs.declared.malformed.Reason.{Reason}
use Rattle.pl_cases.specs.declared.malformed.Reason.TheVariants as reason

-- the line begins so
abbrev pub begins : List ℕ → List ℕ → Bool
begins front line = same (take (length front) line) front

-- the line without the white space at its ends
abbrev pub trimmed : List ℕ → List ℕ
trimmed line =
    let behind = drop (prefix_len is_ascii_whitespace line) line in
    take (length behind - suffix_len is_ascii_whitespace behind) behind

-- words stand between blanks
abbrev pub words_of : List ℕ → List (List ℕ)
words_of line = filter (λ word. not (is_empty word)) (slice_split (λ b. b == 32) line)

-- on a command line `''` is the word without bytes
abbrev pub word_of : List ℕ → List ℕ
word_of written = if same (codes "''") written then [] else written

abbrev pub command_of : List ℕ → List (List ℕ)
command_of line = map word_of (words_of line)

-- a number of this range, and nothing else
abbrev pub number_of : ℕ → ℕ → List ℕ → Result ℕ Reason
number_of least most word = ok_or (number_within least most word) reason.BadNumber
