-- The run of a whole script, and what a function promises that carries one out.
use Rattle.std.specs.Prelude.{◌≡◌, ℕ, Bool, true, false, List, [], take, Option, None, Result, Ok, Err}
use Rattle.pl_base.specs.declared.errors.ScriptError.{ScriptError}
use Rattle.pl_base.specs.declared.memory.NoMemory.{NoMemory}
use Rattle.pl_resolve.specs.declared.resolved.Resolved.{Resolved}
use Rattle.pl_base.specs.declared.choice.Choice.{Choice}
use Rattle.pl_syntax.specs.declared.stmt.Stmt.{Stmt}
use Rattle.pl_meaning.specs.declared.frame.Frame.{Frame}
use Rattle.pl_meaning.specs.declared.frame.Exit.{Exit}
use Rattle.pl_meaning.specs.declared.ended.Ended.{Ended}
use Rattle.pl_meaning.specs.declared.ended.Ended.TheVariants as ended
use Rattle.pl_meaning.specs.Logs.{Workspace, Trace, Log, Rules, grown, rose}
use Rattle.pl_meaning.specs.Running.{Outcome, Done, Raised, Rest}
use Rattle.pl_meaning.specs.Parts.{below, block_in}

-- where the statements of a script stand: on the client
abbrev pub outermost : Frame
outermost = record { client = true; scope = 0; given = 0; wanted = 0; ends = None }

-- behind the last statement, and behind an error that nothing caught
abbrev pub finished : Exit → Rest
finished x = λ s. record { shown = []; ending = Done s.env s.choices }

abbrev pub failed : ScriptError → Rest
failed e = λ s. record { shown = []; ending = Raised e s.choices }

-- the run of statements of a scope from this workspace, with so many turns and levels, by these rules under these choices
abbrev pub run_of : Resolved → Frame → List Stmt → Workspace → ℕ → ℕ → Rules → List Choice → Outcome
run_of program f body start turns depth rules choices = block_in program (below program depth) f body finished failed (record { env = start; turns = turns; calls = 0; choices = choices; rules = rules })

-- the run of a script
unfoldable pub Run : Resolved → Workspace → ℕ → ℕ → Rules → List Choice → Outcome
Run program start turns depth rules choices = run_of program outermost program.program.body start turns depth rules choices

-- a world was shown a first part of what a run shows
abbrev pub ShowsPart : Outcome → Log → Log → Type 0
ShowsPart o old new = (n : ℕ) × (new.shown ≡ grown old.shown (take n o.shown))

-- a world was shown all of it, and didn't stop
abbrev pub ShowsAll : Outcome → Log → Log → Type 0
ShowsAll o old new = (new.shown ≡ grown old.shown o.shown) × (new.stops ≡ old.stops) × (new.sink ≡ old.sink)

-- how a function ended that carried out a run: at the run's end, having shown all and used all choices; or where the world stopped it or
-- memory was wanting, having shown the beginning
abbrev pub Carries : Outcome → Result Ended NoMemory → Log → Log → Type 0
Carries o (Ok (ended.Done env)) old new = (o.ending ≡ Done env []) × ShowsAll o old new
Carries o (Ok (ended.Raised e)) old new = (o.ending ≡ Raised e []) × ShowsAll o old new
Carries o (Ok ended.Stopped) old new = ShowsPart o old new × (rose old.stops new.stops ≡ true) × (new.sink ≡ old.sink)
Carries o (Err e) old new = ShowsPart o old new × (new.stops ≡ old.stops) × (new.sink ≡ old.sink)
