-- How parts end that don't go on.
use Rattle.std.proofs.Common.{◌≡◌, ℕ, ap, subst, ◌∙◌, sym, length, drop, List}
use Rattle.pl_base.specs.declared.errors.ScriptError.{ScriptError}
use Rattle.pl_base.specs.declared.choice.Choice.{Choice}
use Rattle.pl_meaning.specs.declared.halt.Halt.{Halt}
use Rattle.pl_meaning.specs.Logs.{Workspace, Log}
use Rattle.pl_meaning.specs.Running.{Outcome, Rest, Running}
use Rattle.pl_meaning.specs.Promises.{At, Fails, Halts, seen, view}

-- a part that only fails, where it stands
pub halts : {A : Type 0} (p : Running A) (m : At) (e : ScriptError) (y x : Halt) →
    ((k : A → Rest) (h : ScriptError → Rest) (choices : List Choice) → p k h (record { env = m.env; turns = m.turns; calls = m.calls; choices = choices; rules = m.log.rules }) ≡ h e (record { env = m.env; turns = m.turns; calls = m.calls; choices = choices; rules = m.log.rules })) →
    Fails e y → y ≡ x → Halts p m x m
halts p m e y x only f same =
    subst (λ (z : Halt). Halts p m z m) same
    (λ k h all b. ap (λ (o : Outcome). view y m.log (seen m.log o)) (only k h (drop (length m.log.given) all)) ∙ f m.env m.turns m.calls m.log h all)

-- a part that only fails, behind a change that was taken back
pub halts_back : {A : Type 0} (p : Running A) (env new : Workspace) (turns calls : ℕ) (log : Log) (e : ScriptError) (y x : Halt) →
    ((k : A → Rest) (h : ScriptError → Rest) (choices : List Choice) → p k h (record { env = env; turns = turns; calls = calls; choices = choices; rules = log.rules }) ≡ h e (record { env = env; turns = turns; calls = calls; choices = choices; rules = log.rules })) →
    Fails e y → y ≡ x → new ≡ env → Halts p (record { env = env; turns = turns; calls = calls; log = log }) x (record { env = new; turns = turns; calls = calls; log = log })
halts_back p env new turns calls log e y x only f same back =
    subst (λ (w : Workspace). Halts p (record { env = env; turns = turns; calls = calls; log = log }) x (record { env = w; turns = turns; calls = calls; log = log })) (sym back)
    (halts p (record { env = env; turns = turns; calls = calls; log = log }) e y x only f same)
