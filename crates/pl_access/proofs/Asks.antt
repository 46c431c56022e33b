-- Questions that are asked.
use Rattle.std.proofs.Common.{◌≡◌, ℕ, List, ◌++◌, length, take, drop, Option, ap, sym, ◌∙◌, append_assoc}
use Rattle.std.proofs.Math.Seq.{take-append_seam, drop-append_seam}
use Rattle.std.proofs.lemmas.List.{take-append-drop}
use Rattle.pl_base.specs.declared.choice.Choice.{Choice}
use Rattle.pl_values.specs.declared.value.Value.{Value}
use Rattle.pl_meaning.specs.declared.event.Answer.{Answer}
use Rattle.pl_meaning.specs.Logs.{Workspace, Log, Asked, Reply, Replies, keeping}
use Rattle.pl_meaning.specs.Running.{ask, answered_by}
use Rattle.pl_meaning.specs.Promises.{Fits, Went, Keeps, seen}

-- all choices, of which some more were taken
parted : (given all taken : List Choice) → Fits all (given ++ taken) → all ≡ given ++ (taken ++ drop (length (given ++ taken)) all)
parted given all taken fit =
    let n : ℕ = length (given ++ taken) in
    sym (take-append-drop n all) ∙ ap (λ (cs : List Choice). cs ++ drop n all) fit ∙ append_assoc given taken (drop n all)

-- those that are left begin with them
next_choices : (given all taken : List Choice) → Fits all (given ++ taken) → drop (length given) all ≡ taken ++ drop (length (given ++ taken)) all
next_choices given all taken fit =
    ap (λ (cs : List Choice). drop (length given) cs) (parted given all taken fit) ∙ drop-append_seam given (taken ++ drop (length (given ++ taken)) all)

-- where more were taken, those before them were
fits_less : (given all taken : List Choice) → Fits all (given ++ taken) → Fits all given
fits_less given all taken fit =
    ap (λ (cs : List Choice). take (length given) cs) (parted given all taken fit) ∙ take-append_seam given (taken ++ drop (length (given ++ taken)) all)

-- a question was answered
pub asked : (q : Asked) (env : Workspace) (turns calls : ℕ) (old new : Log) (taken : List Choice) (a : Answer) (kept : List Value) → Replies old.rules q env taken a kept → new ≡ record old { given = old.given ++ taken; rules = keeping old.rules kept } →
    Went (ask q) (record { env = env; turns = turns; calls = calls; log = old }) a (record { env = env; turns = turns; calls = calls; log = new })
unfolding ask
asked q env turns calls old new taken a kept legal is =
    rw is (λ k h all fit.
    ap (λ (cs : List Choice). seen old (answered_by q (old.rules.reply old.rules.kept q env cs) k h (record { env = env; turns = turns; calls = calls; choices = cs; rules = old.rules }))) (next_choices old.given all taken fit)
    ∙ ap (λ (r : Option Reply). seen old (answered_by q r k h (record { env = env; turns = turns; calls = calls; choices = taken ++ drop (length (old.given ++ taken)) all; rules = old.rules }))) (legal (drop (length (old.given ++ taken)) all)))

-- what was given and shown stays given and shown
pub keeps : (env : Workspace) (turns calls : ℕ) (old new : Log) (taken : List Choice) (kept : List Value) → new ≡ record old { given = old.given ++ taken; rules = keeping old.rules kept } →
    Keeps (record { env = env; turns = turns; calls = calls; log = old }) (record { env = env; turns = turns; calls = calls; log = new })
keeps env turns calls old new taken kept is =
    rw is ((λ all fit. fits_less old.given all taken fit), (λ ts b. b))
