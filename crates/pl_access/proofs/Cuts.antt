-- What a run has shown is the beginning of what the whole run shows.
use Rattle.std.proofs.Common.{◌≡◌, List, [], Option, Some, None, false, refl, ap}
use Rattle.std.proofs.Math.Seq.{take-append_seam}
use Rattle.pl_base.specs.declared.errors.ScriptError.{ScriptError}
use Rattle.pl_meaning.specs.declared.halt.Halt.{Halt}
use Rattle.pl_meaning.specs.Logs.{Trace, Log, grown}
use Rattle.pl_meaning.specs.Running.{Outcome, Done}
use Rattle.pl_meaning.specs.Promises.{Seen, seen, front, view, viewed}

pub front_grown : (told : Option (List Trace)) (more : List Trace) → front told (grown told more) ≡ told
front_grown None more = refl
front_grown (Some ts) more = ap Some (take-append_seam ts more)

-- a run that went no further for want of memory
pub cut : (l : Log) (o : Outcome) (behind : ScriptError → Seen) → view Halt.Memory l (seen l o) ≡ viewed Halt.Memory l behind
cut l o behind =
    ap (λ (shown : Option (List Trace)). record { shown = shown; ending = Done [] []; stops = l.stops; rose = false; sink = l.sink }) (front_grown l.shown o.shown)
