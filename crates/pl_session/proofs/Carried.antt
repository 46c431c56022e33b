-- How a script was carried out, by what its world was shown.
use Rattle.std.proofs.Common.{◌≡◌, ◌∙◌, ℕ, ◌+◌, true, Option, Some, None, List, [], ◌++◌, map, take, Result, Ok, Err, refl, sym, ap, subst}
use Rattle.std.specs.Prelude.{min}
use Rattle.std.specs.Borrow.{GName}
use Rattle.std.specs.Io.KnownBytes.{Appends}
use Rattle.std.proofs.lemmas.Bool.{leb-true, le-leb}
use Rattle.std.proofs.lemmas.List.{map-append, take-map}
use Rattle.pl_base.specs.declared.errors.ScriptError.{ScriptError}
use Rattle.pl_base.specs.declared.memory.NoMemory.{NoMemory}
use Rattle.pl_io.specs.Faults.{Rose}
use Rattle.pl_io.specs.Told.{AppendsPrefix}
use Rattle.pl_base.specs.declared.choice.Choice.{Choice}
use Rattle.pl_meaning.specs.Logs.{Workspace, Trace, Byte, Log, Rules, grown, rose}
use Rattle.pl_meaning.specs.Running.{Outcome, Done, Raised}
use Rattle.pl_resolve.specs.declared.resolved.Resolved.{Resolved}
use Rattle.pl_meaning.specs.declared.ended.Ended.{Ended}
use Rattle.pl_meaning.specs.declared.ended.Ended.TheVariants as ended
use Rattle.pl_meaning.specs.Runs.{Run, Carries}
use Rattle.pl_meaning.specs.Loops.{loop_rules}
use Rattle.pl_session.specs.declared.carrying.Fate.{Fate}
use Rattle.pl_session.specs.declared.carrying.Fate.TheVariants as fate
use Rattle.pl_session.specs.Levels.{levels}
use Rattle.pl_session.specs.Told.{told}
use Rattle.pl_session.specs.Printing.{start_of, run_of, CarriedOut, Fated}
use Rattle.pl_session.proofs.Printed.{all_told, part_told}

pub has_risen : (before now : ℕ) → rose before now ≡ true → Rose before now
has_risen before now r = leb-true (min (before + 1) 18446744073709551615) now r

-- a write that failed had taken a first part of the text
part_shown : (old new : Option (List ℕ)) (text : List ℕ) (k : ℕ) → Appends old new (take k text) → (old ≡ None → new ≡ None) → told new ≡ grown (told old) (take k (map Byte text))
part_shown None new text k a silent = ap told (silent refl)
part_shown (Some xs) None text k a silent = absurd a
part_shown (Some xs) (Some ys) text k a silent = ap Some (ap (map Byte) a ∙ map-append Byte xs (take k text) ∙ ap (λ v. map Byte xs ++ v) (sym (take-map Byte k text)))

pub stopped_so : (old new : Option (List ℕ)) (text : List ℕ) (ts : List Trace) (before now : ℕ) (given : List Choice) (sink : Option GName) (rules : Rules) → ts ≡ map Byte text → AppendsPrefix old new text → (old ≡ None → new ≡ None) → Rose before now
    → (n : ℕ) × ((m : ℕ) × (rose before m ≡ true) × (◌≡◌ {A = Log} (record { given = given; shown = told new; stops = now; sink = sink; rules = rules }) (record { given = given; shown = grown (told old) (take n ts); stops = m; sink = sink; rules = rules })))
stopped_so old new text ts before now given sink rules same part silent risen =
    (part.0, (now, le-leb (min (before + 1) 18446744073709551615) now risen, ap (λ (v : Option (List Trace)). record { given = given; shown = v; stops = now; sink = sink; rules = rules }) (part_shown old new text part.0 part.2 silent ∙ ap (λ v. grown (told old) (take part.0 v)) (sym same))))

pub carried_done : (o : Outcome) (env : Workspace) (old new : Option (List ℕ)) (before now : ℕ) → o.ending ≡ Done env [] → told new ≡ grown (told old) o.shown → now ≡ before → CarriedOut o (Ok fate.Done) old new before now
carried_done o env old new before now e s n = ((env, e), all_told old new o.shown s, n)

pub carried_raised : (o : Outcome) (x : ScriptError) (old new : Option (List ℕ)) (before now : ℕ) → o.ending ≡ Raised x [] → told new ≡ grown (told old) o.shown → now ≡ before → CarriedOut o (Ok (fate.Raised x)) old new before now
carried_raised o x old new before now e s n = (e, all_told old new o.shown s, n)

pub carried_stopped : (o : Outcome) (old new : Option (List ℕ)) (before now n : ℕ) → told new ≡ grown (told old) (take n o.shown) → rose before now ≡ true → CarriedOut o (Ok fate.Stopped) old new before now
carried_stopped o old new before now n s r = (part_told old new o.shown n s, has_risen before now r)

pub carried_memory : (o : Outcome) (x : NoMemory) (old new : Option (List ℕ)) (before now n : ℕ) → told new ≡ grown (told old) (take n o.shown) → now ≡ before → CarriedOut o (Err x) old new before now
carried_memory o x old new before now n s r = (part_told old new o.shown n s, r)

-- an end of the run is the session's
pub carried_so : (r : Resolved) (turns : ℕ) (choices old_choices : List Choice) (start : Workspace) (x : Result Ended NoMemory) (f : Result Fate NoMemory) (old new : Option (List ℕ)) (before now : ℕ) (s t : Option GName) (u : Rules)
    → start ≡ start_of r → Fated x f
    → Carries (Run r start turns levels (loop_rules r turns levels) choices) x (record { given = old_choices; shown = told old; stops = before; sink = s; rules = loop_rules r turns levels }) (record { given = choices; shown = told new; stops = now; sink = t; rules = u })
    → CarriedOut (run_of r turns choices) f old new before now
carried_so r turns choices old_choices start (Ok (ended.Done env)) f old new before now s t u same is c =
    let o : Outcome = run_of r turns choices in
    let e : Run r start turns levels (loop_rules r turns levels) choices ≡ o = ap (λ w. Run r w turns levels (loop_rules r turns levels) choices) same in
    subst (λ (y : Result Fate NoMemory). CarriedOut o y old new before now) (sym is)
    (carried_done o env old new before now (ap (λ (v : Outcome). v.ending) (sym e) ∙ c.0) (c.1.0 ∙ ap (λ (v : Outcome). grown (told old) v.shown) e) c.1.1)
carried_so r turns choices old_choices start (Ok (ended.Raised x)) f old new before now s t u same is c =
    let o : Outcome = run_of r turns choices in
    let e : Run r start turns levels (loop_rules r turns levels) choices ≡ o = ap (λ w. Run r w turns levels (loop_rules r turns levels) choices) same in
    subst (λ (y : Result Fate NoMemory). CarriedOut o y old new before now) (sym is)
    (carried_raised o x old new before now (ap (λ (v : Outcome). v.ending) (sym e) ∙ c.0) (c.1.0 ∙ ap (λ (v : Outcome). grown (told old) v.shown) e) c.1.1)
carried_so r turns choices old_choices start (Ok ended.Stopped) f old new before now s t u same is c =
    let o : Outcome = run_of r turns choices in
    let e : Run r start turns levels (loop_rules r turns levels) choices ≡ o = ap (λ w. Run r w turns levels (loop_rules r turns levels) choices) same in
    subst (λ (y : Result Fate NoMemory). CarriedOut o y old new before now) (sym is)
    (carried_stopped o old new before now c.0.0 (c.0.1 ∙ ap (λ (v : Outcome). grown (told old) (take c.0.0 v.shown)) e) c.1)
carried_so r turns choices old_choices start (Err x) f old new before now s t u same is c =
    let o : Outcome = run_of r turns choices in
    let e : Run r start turns levels (loop_rules r turns levels) choices ≡ o = ap (λ w. Run r w turns levels (loop_rules r turns levels) choices) same in
    subst (λ (y : Result Fate NoMemory). CarriedOut o y old new before now) (sym is)
    (carried_memory o x old new before now c.0.0 (c.0.1 ∙ ap (λ (v : Outcome). grown (told old) (take c.0.0 v.shown)) e) c.1)

some_is : {A : Type 0} {a b : A} → Some a ≡ Some b → a ≡ b
some_is e = cc

-- the world writes where it wrote
pub same_sink : (o : Outcome) (x : Result Ended NoMemory) (l m : Log) → Carries o x l m → m.sink ≡ l.sink
same_sink o (Ok (ended.Done env)) l m c = c.1.2
same_sink o (Ok (ended.Raised e)) l m c = c.1.2
same_sink o (Ok ended.Stopped) l m c = c.2
same_sink o (Err e) l m c = c.2

pub same_name : (o : Outcome) (x : Result Ended NoMemory) (g h : List Choice) (a b : Option (List Trace)) (n k : ℕ) (s t : GName) (u v : Rules) → Carries o x (record { given = g; shown = a; stops = n; sink = Some s; rules = u }) (record { given = h; shown = b; stops = k; sink = Some t; rules = v }) → t ≡ s
same_name o x g h a b n k s t u v c = some_is (same_sink o x _ _ c)
