-- Events that are told.
use Rattle.std.proofs.Common.{◌≡◌, ℕ, List, [], ◌∷◌, ◌++◌, length, take, drop, Bool, true, false, Option, Some, None, refl, ap, sym, ◌∙◌, append_assoc}
use Rattle.std.proofs.Math.Seq.{take-append_seam}
use Rattle.std.proofs.lemmas.List.{take-append-drop}
use Rattle.pl_meaning.specs.declared.event.Event.{Event}
use Rattle.pl_meaning.specs.declared.halt.Halt.{Halt}
use Rattle.pl_meaning.specs.Logs.{Workspace, Trace, Log, shows, grown, rose}
use Rattle.pl_meaning.specs.Running.{Done, tell}
use Rattle.pl_meaning.specs.Promises.{Begins, Went, Halts, Keeps, front}

-- shown at once, or one after the other
grown_twice : (told : Option (List Trace)) (a b : List Trace) → grown told (a ++ b) ≡ grown (grown told a) b
grown_twice None a b = refl
grown_twice (Some ts) a b = ap Some (sym (append_assoc ts a b))

-- a first part of an event
in_two : (n : ℕ) (ts es more : List Trace) → (ts ++ take n es) ++ (drop n es ++ more) ≡ ts ++ (es ++ more)
in_two n ts es more =
    append_assoc ts (take n es) (drop n es ++ more) ∙ ap (λ (xs : List Trace). ts ++ xs) (sym (append_assoc (take n es) (drop n es) more) ∙ ap (λ (xs : List Trace). xs ++ more) (take-append-drop n es))

first_part : (told : Option (List Trace)) (n : ℕ) (es more : List Trace) → front (grown told (take n es)) (grown told (es ++ more)) ≡ grown told (take n es)
first_part None n es more = refl
first_part (Some ts) n es more = ap Some (ap (take (length (ts ++ take n es))) (sym (in_two n ts es more)) ∙ take-append_seam (ts ++ take n es) (drop n es ++ more))

-- what begins with more begins with less
less : (a b ts : List Trace) → take (length (a ++ b)) ts ≡ a ++ b → take (length a) ts ≡ a
less [] b ts e = refl
less (x ∷ a) b [] e = absurd cc
less (x ∷ a) b (y ∷ ts) e =
    let h : take (length (a ++ b)) ts ≡ a ++ b = cc in
    let g : y ≡ x = cc in
    let rest : take (length a) ts ≡ a = less a b ts h in
    cc

begins_less : (ts told : Option (List Trace)) (more : List Trace) → Begins ts (grown told more) → Begins ts told
begins_less None None more b = tt
begins_less None (Some told) more b = b
begins_less (Some ts) None more b = b
begins_less (Some ts) (Some told) more b = less told more ts b

-- an event was told
pub told : (e : Event) (env : Workspace) (turns calls : ℕ) (old new : Log) → new ≡ record old { shown = grown old.shown (shows e) } →
    Went (tell e) (record { env = env; turns = turns; calls = calls; log = old }) tt (record { env = env; turns = turns; calls = calls; log = new })
unfolding tell
told e env turns calls old new is =
    rw is (λ k h all b. ap (λ (shown : Option (List Trace)). record { shown = shown; ending = (k tt (record { env = env; turns = turns; calls = calls; choices = drop (length old.given) all; rules = old.rules })).ending; stops = old.stops; rose = false; sink = old.sink }) (grown_twice old.shown (shows e) (k tt (record { env = env; turns = turns; calls = calls; choices = drop (length old.given) all; rules = old.rules })).shown))

-- the world stopped, and was told a first part
pub told_part : (e : Event) (env : Workspace) (turns calls : ℕ) (old new : Log) (n m : ℕ) → rose old.stops m ≡ true → new ≡ record old { shown = grown old.shown (take n (shows e)); stops = m } →
    Halts (tell e) (record { env = env; turns = turns; calls = calls; log = old }) Halt.Stopped (record { env = env; turns = turns; calls = calls; log = new })
unfolding tell
told_part e env turns calls old new n m up is =
    rw is (λ k h all b.
    ap (λ (shown : Option (List Trace)). record { shown = shown; ending = Done [] []; stops = m; rose = rose old.stops m; sink = old.sink }) (first_part old.shown n (shows e) (k tt (record { env = env; turns = turns; calls = calls; choices = drop (length old.given) all; rules = old.rules })).shown)
    ∙ ap (λ (up : Bool). record { shown = grown old.shown (take n (shows e)); ending = Done [] []; stops = m; rose = up; sink = old.sink }) up)

-- what was given and shown stays given and shown
pub keeps : (env : Workspace) (turns calls : ℕ) (old new : Log) (more : List Trace) (m : ℕ) → new ≡ record old { shown = grown old.shown more; stops = m } →
    Keeps (record { env = env; turns = turns; calls = calls; log = old }) (record { env = env; turns = turns; calls = calls; log = new })
keeps env turns calls old new more m is =
    rw is ((λ all b. b), (λ ts b. begins_less ts old.shown more b))
