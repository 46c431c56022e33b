-- How a call of `top` ends.
use Rattle.std.specs.Prelude.{◌≡◌, ℕ, ◌<◌, ◌≤◌, ◌⊎◌, Option, Some, None, List, [], length}
use Rattle.std.specs.Io.KnownBytes.{Appends}
use Rattle.pl_base.specs.declared.choice.Choice.{Choice}
use Rattle.pl_base.specs.declared.errors.ScriptError.{ScriptError}
use Rattle.pl_errors.specs.Errors.{error_line}
use Rattle.pl_io.specs.Faults.{Rose}
use Rattle.pl_io.specs.Told.{AppendsPrefix}
use Rattle.pl_resolve.specs.declared.resolved.Resolved.{Resolved}
use Rattle.pl_meaning.specs.Logs.{Workspace}
use Rattle.pl_meaning.specs.Loops.{text_of}
use Rattle.pl_meaning.specs.Running.{Outcome, Done, Raised}
use Rattle.pl_source.specs.Sources.{Ready, Refuses}
use Rattle.pl_session.specs.declared.ended.Journal.{Journal}
use Rattle.pl_session.specs.Lines.{too_long_line, cannot_read_line}
use Rattle.pl_session.specs.Printing.{run_of}
use Rattle.pl_session.specs.Words.{Command, default_workers, default_turns}

-- the script can be run, and this is its run under these choices
abbrev pub Runs : List ℕ → ℕ → List Choice → Outcome → Type 0
Runs script turns choices o = (length script ≤ 1000000) × ((r : Resolved) × Ready script r × (o ≡ run_of r turns choices))

-- its run ends behind its last statement, and no choice is left over
abbrev pub IsDone : Outcome → Type 0
IsDone o = (env : Workspace) × (o.ending ≡ Done env [])

-- the script isn't run: it is too long, or is refused
abbrev pub IsRefused : List ℕ → ℕ → List ℕ → Type 0
IsRefused script status line =
    ((1000000 < length script) × (status ≡ 5) × (line ≡ too_long_line)) ⊎
    ((length script ≤ 1000000) × Refuses script status line)

-- the script ended, and the sink grew by all that it prints
abbrev pub Ends : List ℕ → ℕ → List Choice → Option (List ℕ) → Option (List ℕ) → Type 0
Ends script turns choices old new = (o : Outcome) × Runs script turns choices o × IsDone o × Appends old new (text_of o.shown)

-- the script raised an error: the sink grew by all that it prints, and the notes by the error's line
abbrev pub Raises : List ℕ → ℕ → List Choice → Option (List ℕ) → Option (List ℕ) → Option (List ℕ) → Option (List ℕ) → Type 0
Raises script turns choices old new notes_old notes_new =
    (o : Outcome) × Runs script turns choices o × ((e : ScriptError) × (o.ending ≡ Raised e []) × Appends notes_old notes_new (error_line e)) × Appends old new (text_of o.shown)

-- the sink grew by the first bytes of what the script prints, or not at all
abbrev pub PrintsPart : List ℕ → ℕ → List Choice → Option (List ℕ) → Option (List ℕ) → Type 0
PrintsPart script turns choices old new = (old ≡ new) ⊎ ((o : Outcome) × Runs script turns choices o × AppendsPrefix old new (text_of o.shown))

-- the script raised an error, and the sink grew by all that it prints before
abbrev pub SaysAll : List ℕ → ℕ → List Choice → Option (List ℕ) → Option (List ℕ) → Type 0
SaysAll script turns choices old new =
    (o : Outcome) × Runs script turns choices o × ((e : ScriptError) × (o.ending ≡ Raised e [])) × Appends old new (text_of o.shown)

-- the script isn't run, for some reason
abbrev pub IsUnrun : List ℕ → Type 0
IsUnrun script = (status : ℕ) × ((line : List ℕ) × IsRefused script status line)

-- the sink grew by the line that refuses the script
abbrev pub WritesRefusal : List ℕ → ℕ → Option (List ℕ) → Option (List ℕ) → Type 0
WritesRefusal script status old new = (line : List ℕ) × IsRefused script status line × Appends old new line

-- a line of the notes of a script: why it isn't run, or the error that it raised
abbrev pub IsLine : List ℕ → ℕ → List Choice → List ℕ → Type 0
IsLine script turns choices line =
    ((status : ℕ) × IsRefused script status line) ⊎
    ((o : Outcome) × Runs script turns choices o × ((e : ScriptError) × (o.ending ≡ Raised e []) × (line ≡ error_line e)))

-- the notes grew by the first bytes of such a line, or not at all
abbrev pub NotesPart : List ℕ → ℕ → List Choice → Option (List ℕ) → Option (List ℕ) → Type 0
NotesPart script turns choices old new = (old ≡ new) ⊎ ((line : List ℕ) × IsLine script turns choices line × AppendsPrefix old new line)

-- the notes grew so, or by the first bytes of the line of a file of this name that can't be read, and then the count of faults of
-- the files, before and now, rose
abbrev pub LinePart : List ℕ → List ℕ → ℕ → List Choice → Option (List ℕ) → Option (List ℕ) → ℕ → ℕ → Type 0
LinePart name script turns choices old new before now = NotesPart script turns choices old new ⊎ (AppendsPrefix old new (cannot_read_line name) × Rose before now)

-- choices under the limits of the command, or those that hold where the words are none
abbrev pub journal_of : Option Command → List Choice → Journal
journal_of None choices = record { version = 1; workers = default_workers; turns = default_turns; entries = choices }
journal_of (Some c) choices = record { version = 1; workers = c.workers; turns = c.turns; entries = choices }
