-- From the promise of a script's statements to that of its whole run.
use Rattle.std.proofs.Common.{◌≡◌, ℕ, ◌+◌, ◌-◌, ◌≤◌, List, [], ◌++◌, length, take, drop, Option, Some, None, true, refl, ap, ◌∙◌, sym, arith}
use Rattle.std.proofs.Math.Seq.{take-length, drop-length, take-append-add}
use Rattle.std.proofs.lemmas.List.{length-take, append-nil}
use Rattle.pl_base.specs.declared.errors.ScriptError.{ScriptError}
use Rattle.pl_base.specs.declared.choice.Choice.{Choice}
use Rattle.pl_meaning.specs.declared.halt.Halt.{Halt}
use Rattle.pl_meaning.specs.Logs.{Trace, Log, grown, rose}
use Rattle.pl_meaning.specs.Running.{Outcome, Ending}
use Rattle.pl_meaning.specs.Promises.{Begins, Seen, seen, front, view, viewed}
use Rattle.pl_meaning.specs.Runs.{ShowsPart, ShowsAll}

-- what was shown begins with itself
pub begins_self : (told : Option (List Trace)) → Begins told told
begins_self None = tt
begins_self (Some ts) = take-length ts

grown_nothing : (told : Option (List Trace)) → grown told [] ≡ told
grown_nothing None = refl
grown_nothing (Some ts) = ap Some (append-nil ts)

-- a run that came to its end, with no choice left over
pub carried : (o : Outcome) (old new : Log) (e : List Choice → Ending) → seen old o ≡ seen new (record { shown = []; ending = e (drop (length new.given) new.given) }) → (o.ending ≡ e []) × ShowsAll o old new
carried o old new e is =
    (ap (λ (s : Seen). s.ending) is ∙ ap e (drop-length new.given), (sym (ap (λ (s : Seen). s.shown) is ∙ grown_nothing new.shown), sym (ap (λ (s : Seen). s.stops) is), sym (ap (λ (s : Seen). s.sink) is)))

some_is : {A : Type 0} {x y : A} → Some x ≡ Some y → x ≡ y
some_is e = cc

-- what was shown, of a run that was cut off
in_front : (o : List Trace) (old new : Option (List Trace)) → Begins new old → front new (grown old o) ≡ new → (n : ℕ) × (new ≡ grown old (take n o))
in_front o None None begin is = (0, refl)
in_front o None (Some ts) begin is = absurd begin
in_front o (Some a) None begin is = absurd begin
in_front o (Some a) (Some ts) begin is =
    let least : length a ≤ length ts = omega (arith, length-take (length a) ts, ap length begin) in
    let whole : length a + (length ts - length a) ≡ length ts = omega arith in
    (length ts - length a, ap Some (sym (some_is is) ∙ ap (λ (n : ℕ). take n (a ++ o)) (sym whole) ∙ take-append-add a o (length ts - length a)))

-- a run that its world stopped
pub stopped : (o : Outcome) (old new : Log) (behind : ScriptError → Seen) → Begins new.shown old.shown → view Halt.Stopped new (seen old o) ≡ viewed Halt.Stopped new behind → ShowsPart o old new × (rose old.stops new.stops ≡ true) × (new.sink ≡ old.sink)
stopped o old new behind begin is =
    (in_front o.shown old.shown new.shown begin (ap (λ (s : Seen). s.shown) is), ap (λ (s : Seen). s.rose) is, sym (ap (λ (s : Seen). s.sink) is))

-- a run that found no memory
pub wanting : (o : Outcome) (old new : Log) (behind : ScriptError → Seen) → Begins new.shown old.shown → view Halt.Memory new (seen old o) ≡ viewed Halt.Memory new behind → ShowsPart o old new × (new.stops ≡ old.stops) × (new.sink ≡ old.sink)
wanting o old new behind begin is =
    (in_front o.shown old.shown new.shown begin (ap (λ (s : Seen). s.shown) is), sym (ap (λ (s : Seen). s.stops) is), sym (ap (λ (s : Seen). s.sink) is))
