-- What a run has shown, and what it shows then.
use Rattle.std.proofs.Common.{◌≡◌, ◌∙◌, ℕ, Option, Some, None, List, [], ◌∷◌, ◌++◌, length, take, drop, refl, sym, ap, append_assoc, false}
use Rattle.std.proofs.Math.Seq.{take-append_seam}
use Rattle.std.proofs.lemmas.List.{take-append-drop}
use Rattle.pl_base.specs.declared.errors.ScriptError.{ScriptError}
use Rattle.pl_base.specs.declared.choice.Choice.{Choice}
use Rattle.pl_meaning.specs.declared.halt.Halt.{Halt}
use Rattle.pl_meaning.specs.Logs.{Trace, grown}
use Rattle.pl_meaning.specs.Running.{Rest, Done}
use Rattle.pl_meaning.specs.Promises.{At, Seen, Begins, from, front, view, viewed}

pub front_grown : (told : Option (List Trace)) (more : List Trace) → front told (grown told more) ≡ told
front_grown None more = refl
front_grown (Some ts) more = ap Some (take-append_seam ts more)

-- a run that went no further from here, for want of memory
pub cut : (all : List Choice) (m : At) (r : Rest) (f : ScriptError → Seen) → view Halt.Memory m.log (from all m r) ≡ viewed Halt.Memory m.log f
cut all m r f = ap (λ (shown : Option (List Trace)). record { shown = shown; ending = Done [] []; stops = m.log.stops; rose = false; sink = m.log.sink }) (front_grown m.log.shown _)

pub grown_twice : (told : Option (List Trace)) (a b : List Trace) → grown (grown told a) b ≡ grown told (a ++ b)
grown_twice None a b = refl
grown_twice (Some ts) a b = ap Some (append_assoc ts a b)

split_first : (n : ℕ) (a b : List Trace) → take n a ++ (drop n a ++ b) ≡ a ++ b
split_first n a b = sym (append_assoc (take n a) (drop n a) b) ∙ ap (λ v. v ++ b) (take-append-drop n a)

-- a first part of it was told
pub front_first : (n : ℕ) (told : Option (List Trace)) (a b : List Trace) → front (grown told (take n a)) (grown told (a ++ b)) ≡ grown told (take n a)
front_first n None a b = refl
front_first n (Some ts) a b =
    let whole : ts ++ (a ++ b) ≡ (ts ++ take n a) ++ (drop n a ++ b) = ap (λ v. ts ++ v) (sym (split_first n a b)) ∙ sym (append_assoc ts (take n a) (drop n a ++ b)) in
    ap Some (ap (λ v. take (length (ts ++ take n a)) v) whole ∙ take-append_seam (ts ++ take n a) (drop n a ++ b))

-- what begins with more begins with less
pub begins_less : (ts told : Option (List Trace)) (more : List Trace) → Begins ts (grown told more) → Begins ts told
begins_less None None more b = b
begins_less None (Some xs) more b = absurd b
begins_less (Some ts) None more b = b
begins_less (Some ts) (Some xs) more b =
    let n : ℕ = length (xs ++ more) in
    let whole : ts ≡ xs ++ (more ++ drop n ts) = sym (take-append-drop n ts) ∙ ap (λ v. v ++ drop n ts) b ∙ append_assoc xs more (drop n ts) in
    ap (λ v. take (length xs) v) whole ∙ take-append_seam xs (more ++ drop n ts)
