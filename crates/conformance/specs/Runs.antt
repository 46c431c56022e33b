-- The runs that a case asks for, and what one of them leaves.
use Rattle.std.specs.Prelude.{◌≡◌, ℕ, List, [], ◌∷◌, ◌++◌, map, codes, Option, Some, if◌then◌else◌}
use Rattle.pl_io.specs.declared.mem_files.MemFiles.{MemFiles}
use Rattle.pl_io.specs.declared.mem_sink.MemSink.{MemSink}
use Rattle.pl_io.specs.Named.{at_name, content}
use Rattle.pl_session.specs.Says.{Side, side, Says}
use Rattle.pl_cases.specs.declared.cases.Case.{Case}
use Rattle.pl_cases.specs.declared.cases.Given.{Given}
use Rattle.pl_cases.specs.declared.cases.Limits.{Limits}
use Rattle.conformance.specs.declared.compare.Seen.{Seen}
use Rattle.conformance.specs.Choices.{choice_lines}

-- the counts of workers with which a case for all of them is run
abbrev pub workers : List (List ℕ)
workers = codes "1" ∷ codes "2" ∷ codes "3" ∷ codes "4" ∷ codes "16" ∷ []

abbrev pub with_workers : List (List ℕ) → List ℕ → List (List ℕ)
with_workers words count = words ++ codes "--workers" ∷ count ∷ []

-- the command lines of a case: its own, or one for each count of workers
abbrev pub command_lines_of : Case → List (List (List ℕ))
command_lines_of case = if case.with_all_workers then map (with_workers case.words) workers else case.words ∷ []

-- the bytes of the case's file of a name
abbrev pub file_of : Given → List ℕ → Option (List ℕ)
file_of given name = at_name given.names given.bytes name

-- files that have the bytes of the case's, of which the same calls are to fail, and none was made
abbrev pub IsGiven : Given → MemFiles → Type 0
IsGiven given files = ((name : List ℕ) → content files name ≡ file_of given name) × (files.fails.items ≡ given.fails) × (files.calls ≡ 0) × (files.faults ≡ 0)

-- a sink of this room without bytes, of which the same calls are to fail, and none was made
abbrev pub IsEmpty : Limits → MemSink → Type 0
IsEmpty limits sink = (sink.bytes.items ≡ []) × (sink.room ≡ limits.room) × (sink.fails.items ≡ limits.fails) × (sink.calls ≡ 0) × (sink.faults ≡ 0)

-- a call of `top` with these words, over the case's files, output and notes, ended and left this: each of its clauses holds
pub record Leaves (case : Case) (words : List (List ℕ)) (seen : Seen) : Type 0 where
  pub files : Side MemFiles (List ℕ → Option (List ℕ))
  pub out : Side MemSink (Option (List ℕ))
  pub notes : Side MemSink (Option (List ℕ))
  pub files_are : files ≡ side content (λ f. f.faults) files.old files.new
  pub out_is : out ≡ side (λ s. Some s.bytes.items) (λ s. s.faults) out.old out.new
  pub notes_are : notes ≡ side (λ s. Some s.bytes.items) (λ s. s.faults) notes.old notes.new
  pub given : IsGiven case.given files.old
  pub empty_out : IsEmpty case.out out.old
  pub empty_notes : IsEmpty case.notes notes.old
  pub says : Says words files out notes seen.status
  pub out_left : seen.out ≡ out.new.bytes.items
  pub notes_left : seen.notes ≡ notes.new.bytes.items
  pub choices : seen.choices ≡ choice_lines says.ended.journal.entries
