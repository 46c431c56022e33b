-- The lines of a text, and what each of them begins.
use Rattle.std.specs.Prelude.{ℕ, ◌+◌, ◌-◌, Bool, true, false, ◌==◌, if◌then◌else◌, Option, Some, None, Result, Ok, Err, List, [], ◌∷◌, length, take, drop, codes, slice_get}
use Rattle.std.specs.List.{slice_split}
use Rattle.pl_cases.specs.declared.malformed.Malformed.{Malformed}
use Rattle.pl_cases.specs.declared.malformed.Reason.{Reason}
use Rattle.pl_cases.specs.declared.malformed.Reason.TheVariants as reason
use Rattle.pl_cases.specs.declared.line.Head.{Head}
use Rattle.pl_cases.specs.declared.line.Head.TheVariants as head
use Rattle.pl_cases.specs.Answers.{◌>>=◌}
use Rattle.pl_cases.specs.Words.{begins, trimmed, words_of, command_of}
use Rattle.pl_cases.specs.Marks.{mark_of, mark_takes_text}

-- what stands behind the last line's end: nothing
abbrev pub is_nothing : Option (List ℕ) → Bool
is_nothing None = true
is_nothing (Some rest) = length rest == 0

-- the first n parts are lines, and behind them stands nothing
abbrev pub ended : ℕ → List (List ℕ) → Result (List (List ℕ)) Malformed
ended n parts = if is_nothing (slice_get parts n) then Ok (take n parts) else Err (record { line = n + 1; reason = reason.NoLineEnd })

-- the lines of a text without their ends, each of which is a LF
abbrev pub lines_of : List ℕ → Result (List (List ℕ)) Malformed
lines_of source = let parts = slice_split (λ b. b == 10) source in ended (length parts - 1) parts

-- outside a text a line is a command line, empty or a remark
abbrev pub begun_outside : List ℕ → Result (Option Head) Reason
begun_outside [] = Ok None
begun_outside (c ∷ cs) =
    if c == 36 then Ok (Some (head.Command (command_of cs))) else
    if c == 35 then Ok None else Err reason.NoBlock

-- what a line begins, if anything: a case or a mark, also in a text; else the line belongs to the text that it stands in
abbrev pub begun : Bool → List ℕ → Result (Option Head) Reason
begun in_text line =
    if begins (codes "===") line then Ok (Some (head.Case (trimmed (drop 3 line)))) else
    if begins (codes "---") line then mark_of (words_of (drop 3 line)) >>= (λ m. Ok (Some (head.Mark m))) else
    if in_text then Ok None else begun_outside line

-- text may follow that belongs to what is begun
abbrev pub takes_text : Head → Bool
takes_text (head.Case name) = false
takes_text (head.Command words) = false
takes_text (head.Mark m) = mark_takes_text m

abbrev pub is_case : Head → Bool
is_case (head.Case name) = true
is_case _ = false
