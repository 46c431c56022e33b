-- What a script's run prints, and what its world tells of it.
use Rattle.std.specs.Prelude.{◌≡◌, ℕ, List, [], length, replicate, Option, None, Result, Ok, Err}
use Rattle.std.specs.Io.KnownBytes.{Appends}
use Rattle.pl_base.specs.declared.choice.Choice.{Choice}
use Rattle.pl_base.specs.declared.memory.NoMemory.{NoMemory}
use Rattle.pl_io.specs.Faults.{Rose}
use Rattle.pl_io.specs.Told.{AppendsPrefix}
use Rattle.pl_resolve.specs.declared.resolved.Resolved.{Resolved}
use Rattle.pl_meaning.specs.declared.ended.Ended.{Ended}
use Rattle.pl_meaning.specs.declared.ended.Ended.TheVariants as ended
use Rattle.pl_meaning.specs.Logs.{Workspace}
use Rattle.pl_meaning.specs.Names.{names_in}
use Rattle.pl_meaning.specs.Running.{Outcome, Done, Raised}
use Rattle.pl_meaning.specs.Runs.{Run}
use Rattle.pl_meaning.specs.Loops.{loop_rules, text_of}
use Rattle.pl_session.specs.Levels.{levels}
use Rattle.pl_session.specs.declared.carrying.Fate.{Fate}
use Rattle.pl_session.specs.declared.carrying.Fate.TheVariants as fate

-- the workspace in which a script begins: none of its variables has a value
abbrev pub start_of : Resolved → Workspace
start_of r = replicate (length (names_in r 0)) None

-- the run of a script with so many turns, under these choices of its loops
abbrev pub run_of : Resolved → ℕ → List Choice → Outcome
run_of r turns choices = Run r (start_of r) turns levels (loop_rules r turns levels) choices

-- what an end of a run is for a session
abbrev pub Fated : Result Ended NoMemory → Result Fate NoMemory → Type 0
Fated (Ok (ended.Done env)) f = f ≡ Ok fate.Done
Fated (Ok (ended.Raised e)) f = f ≡ Ok (fate.Raised e)
Fated (Ok ended.Stopped) f = f ≡ Ok fate.Stopped
Fated (Err e) f = f ≡ Err e

-- how a script was carried out, whose sink held and told this before and after: all was printed, no choice is left over, and no fault rose; or the
-- beginning, and a fault rose, or there was no memory
abbrev pub CarriedOut : Outcome → Result Fate NoMemory → Option (List ℕ) → Option (List ℕ) → ℕ → ℕ → Type 0
CarriedOut o (Ok fate.Done) old new before now = ((env : Workspace) × (o.ending ≡ Done env [])) × Appends old new (text_of o.shown) × (now ≡ before)
CarriedOut o (Ok (fate.Raised e)) old new before now = (o.ending ≡ Raised e []) × Appends old new (text_of o.shown) × (now ≡ before)
CarriedOut o (Ok fate.Stopped) old new before now = AppendsPrefix old new (text_of o.shown) × Rose before now
CarriedOut o (Err e) old new before now = AppendsPrefix old new (text_of o.shown) × (now ≡ before)
