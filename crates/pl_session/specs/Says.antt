-- What an exit status says of the script, the files, the output and the notes: all that `top` promises.
use Rattle.std.specs.Prelude.{◌≡◌, ℕ, ◌<◌, ◌⊎◌, Option, Some, None, List, [], take}
use Rattle.std.specs.Io.KnownBytes.{Appends}
use Rattle.pl_io.specs.Faults.{Rose}
use Rattle.pl_io.specs.Told.{Stays, AppendsPrefix}
use Rattle.pl_session.specs.declared.ended.Ended.{Ended}
use Rattle.pl_session.specs.Ends.{Ends, Raises, PrintsPart, SaysAll, IsUnrun, WritesRefusal, LinePart, journal_of}
use Rattle.pl_session.specs.Lines as lines
use Rattle.pl_session.specs.Words.{Command, command_of}

-- an object of the outside before a call and after it: what it is, what it tells of bytes, and its count of faults
pub record Side (Object Told : Type 0) : Type 0 where
  pub old : Object
  pub new : Object
  pub told_old : Told
  pub told_new : Told
  pub faults_old : ℕ
  pub faults_new : ℕ

abbrev pub side : {Object Told : Type 0} → (Object → Told) → (Object → ℕ) → Object → Object → Side Object Told
side told faults old new = record { old = old; new = new; told_old = told old; told_new = told new; faults_old = faults old; faults_new = faults new }

-- a call of `top` ended with this status, over these words, files, output and notes; each clause has its name there
pub record Says {F K N : Type 0} (words : List (List ℕ)) (files : Side F (List ℕ → Option (List ℕ))) (out : Side K (Option (List ℕ))) (notes : Side N (Option (List ℕ))) (status : ℕ) : Type 0 where
  pub ended : Ended
  pub same : status ≡ ended.status.0
  pub statuses : (ended.status.0 ≡ 0) ⊎ (ended.status.0 ≡ 1) ⊎ (ended.status.0 ≡ 2) ⊎ (ended.status.0 ≡ 3) ⊎ (ended.status.0 ≡ 4) ⊎ (ended.status.0 ≡ 5) ⊎ (ended.status.0 ≡ 7) ⊎ (ended.status.0 ≡ 9)
  -- the script's run ended
  pub done : ended.status.0 ≡ 0 → Ends ended.script ended.journal.turns ended.journal.entries out.told_old out.told_new
  pub quiet : ended.status.0 ≡ 0 → notes.new ≡ notes.old
  -- it raised an error
  pub raised : ended.status.0 ≡ 1 → Raises ended.script ended.journal.turns ended.journal.entries out.told_old out.told_new notes.told_old notes.told_new
  -- the words are no command
  pub usage : command_of words ≡ None → (ended.status.0 ≡ 2) ⊎ (ended.status.0 ≡ 4)
  pub only_usage : ended.status.0 ≡ 2 → command_of words ≡ None
  pub usage_line : ended.status.0 ≡ 2 → Appends notes.told_old notes.told_new lines.usage_line
  pub untouched : command_of words ≡ None → (files.new ≡ files.old) × (out.new ≡ out.old)
  -- a read failed
  pub read : ended.status.0 ≡ 3 → Rose files.faults_old files.faults_new
  pub read_grew : files.faults_old < files.faults_new → (ended.status.0 ≡ 3) ⊎ (ended.status.0 ≡ 4)
  pub read_line : (command : Command) → command_of words ≡ Some command → ended.status.0 ≡ 3 → Appends notes.told_old notes.told_new (lines.cannot_read_line command.name)
  -- a write failed
  pub write : ended.status.0 ≡ 4 → Rose out.faults_old out.faults_new ⊎ Rose notes.faults_old notes.faults_new
  pub out_grew : out.faults_old < out.faults_new → ended.status.0 ≡ 4
  pub notes_grew : notes.faults_old < notes.faults_new → ended.status.0 ≡ 4
  -- the source is refused
  pub refused : (ended.status.0 ≡ 5) ⊎ (ended.status.0 ≡ 7) → WritesRefusal ended.script ended.status.0 notes.told_old notes.told_new
  pub silent : (ended.status.0 ≡ 2) ⊎ (ended.status.0 ≡ 3) ⊎ (ended.status.0 ≡ 5) ⊎ (ended.status.0 ≡ 7) → out.new ≡ out.old
  -- what was written is the beginning of what would have been
  pub part : (ended.status.0 ≡ 4) ⊎ (ended.status.0 ≡ 9) → PrintsPart ended.script ended.journal.turns ended.journal.entries out.told_old out.told_new
  pub usage_part : command_of words ≡ None → ended.status.0 ≡ 4 → AppendsPrefix notes.told_old notes.told_new lines.usage_line
  pub notes_part : (command : Command) → command_of words ≡ Some command → (ended.status.0 ≡ 4) ⊎ (ended.status.0 ≡ 9) → LinePart command.name ended.script ended.journal.turns ended.journal.entries notes.told_old notes.told_new files.faults_old files.faults_new
  pub stopped : out.faults_old < out.faults_new → notes.new ≡ notes.old
  pub memory : ended.status.0 ≡ 9 → notes.new ≡ notes.old
  pub said : (command : Command) → command_of words ≡ Some command → ended.status.0 ≡ 4 → Rose out.faults_old out.faults_new ⊎ SaysAll ended.script ended.journal.turns ended.journal.entries out.told_old out.told_new ⊎ ((out.new ≡ out.old) × (IsUnrun ended.script ⊎ Rose files.faults_old files.faults_new))
  -- the script is what the file that the words name tells
  pub script : (command : Command) (bytes : List ℕ) → command_of words ≡ Some command → files.told_old command.name ≡ Some bytes → (ended.status.0 ≡ 0) ⊎ (ended.status.0 ≡ 1) ⊎ (ended.status.0 ≡ 5) ⊎ (ended.status.0 ≡ 7) → ended.script ≡ take 1000001 bytes
  pub script_part : (command : Command) (bytes : List ℕ) → command_of words ≡ Some command → files.told_old command.name ≡ Some bytes → (ended.script ≡ []) ⊎ (ended.script ≡ take 1000001 bytes)
  pub no_script : (ended.status.0 ≡ 2) ⊎ (ended.status.0 ≡ 3) → ended.script ≡ []
  pub no_script_of_usage : command_of words ≡ None → ended.script ≡ []
  pub told : Stays files.told_old files.told_new
  -- the choices are those of the run
  pub journal : ended.journal ≡ journal_of (command_of words) ended.journal.entries
  pub no_choice : (ended.status.0 ≡ 2) ⊎ (ended.status.0 ≡ 3) ⊎ (ended.status.0 ≡ 5) ⊎ (ended.status.0 ≡ 7) → ended.journal.entries ≡ []
  pub no_choice_of_usage : command_of words ≡ None → ended.journal.entries ≡ []
  pub no_choice_unread : files.faults_old < files.faults_new → ended.journal.entries ≡ []
  pub no_choice_unrun : IsUnrun ended.script → ended.journal.entries ≡ []
